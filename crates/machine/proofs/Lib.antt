-- The laws of the machine, in rooms: one for each page of specs/ or module of src/ that they are about; a
-- room's own file says what it holds. Other crates can name Promises, Effects (what each step does to each part
-- of the state), Blockers (the first entry in the way), laws of general use (lists; OperationLaws), and what to
-- unfold so that a definition computes. No other.
pub mod Promises
pub mod Effects
pub mod Blockers
pub mod OperationLaws
pub mod Computing
pub mod lists
-- rooms beside those of src/: blocker, change, fit, fitted, look, moves, runs, steps and work
mod next
mod view
mod rules
mod behind
mod model
mod eager
