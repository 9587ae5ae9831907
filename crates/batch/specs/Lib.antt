-- The sizes that batch's own contracts name.
pub mod Sizes
