-- What the contracts of input name.
pub mod Filled
