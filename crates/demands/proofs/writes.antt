-- A location's writes, from thread to queue to memory (specs/Writes).
-- last: the last of some words; append, cons; settles, Settles
pub mod LastLaws
-- stores, stores_of, fixes, fixes_from: those that wait and those that are still to fix; gathered: of each entry
pub mod StoresLaws
-- coming: what is still to come; move_passing, persist_passing, Passing
pub mod ComingLaws
-- issue_passing, step_passing
pub mod PassingLaws
-- run_settles, run_keeps: along a run to its end; Done, newest
pub mod SettleLaws
-- last, some: the last instruction that writes, LastWriteFrom, NoWriteFrom; fixes, none
pub mod LastWriteLaws
