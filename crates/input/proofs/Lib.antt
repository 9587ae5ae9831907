-- The laws of input, for whoever takes what was read.
pub mod FilledLaws
