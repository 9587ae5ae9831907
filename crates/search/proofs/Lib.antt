-- The laws of the search, in rooms: one for each module of src/ that they are about, and two more; a room's own
-- file says what it holds. Other crates can name Promises, Recalled (what is promised of the walk that remembers), and
-- what to unfold so that a definition computes, alone.
pub mod Promises
pub mod Recalled
pub mod Computing
-- rooms beside those of src/: ask, listing, next, rows, shown, start, taken, walk and wants
mod seek
mod lanes
