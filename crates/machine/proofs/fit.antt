-- The fit (specs/Fit).
-- fits: what a fit tells of each part, and what a change of a part leaves of it; due
pub mod FitLaws
-- start: it fits; full: the full length
pub mod StartLaws
-- Spare: room for one more; taken, counted, register, await, enqueue; unissued, marks
pub mod SpareLaws
-- thread_misfits: the chain of tests
pub mod MisfitLaws
-- fits_is, is_fits: the test and the facts; readable
pub mod FitTestLaws
