-- The words that the demands add to those of the layers.
pub mod Order
pub mod Writes
pub mod Entered
pub mod Sources
pub mod Twins
pub mod Carried
pub mod Example
