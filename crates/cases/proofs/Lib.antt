-- The laws of cases, in rooms: one for each module of src/ that they are about, and `parts`; a room's own file
-- says what it holds. Other crates can name Promises, the laws that every layer needs, of how definitions choose
-- and of lists, and what to unfold so that a definition computes. No other.
pub mod Promises
pub mod ChoiceLaws
pub mod ArrayLaws
pub mod Computing
-- a room beside those of src/: bytes, checks, draft, lines, reader, record, seats and writer
mod parts
