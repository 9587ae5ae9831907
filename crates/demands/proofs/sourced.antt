-- Where the words of a run come from (specs/Sources).
-- step_keeps, step_takes, set_last, needed: what the registers hold
pub mod TookLaws
-- stored: what a store of a register fixes
pub mod StoredLaws
-- brought: the words that an instruction brings to a location; Brings
pub mod BroughtLaws
-- run_sourced, Sourced: every word that stands somewhere
pub mod SourcedLaws
