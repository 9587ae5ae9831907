-- The laws of telling.
pub mod TextLaws
