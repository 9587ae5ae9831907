-- The laws of the C face. Other crates can name Promises alone.
pub mod Promises
mod PackLaws
