-- How runs end.
-- run, stuck, finished, done, none, spent, work, working: while there is something to do
pub mod EndLaws
-- memory: what stands there at the end; in, written, unissued, plain
pub mod MemoryLaws
