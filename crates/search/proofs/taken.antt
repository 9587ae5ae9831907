-- A step taken over lanes (specs/Taken): the code.
-- moved, inserted, carried, set: lanes changed in place; get_or before them
pub mod InPlaceLaws
-- joined, carried, EntryWithin, entry, fetched, code: a change stays within the lanes, and a row's length has room
pub mod RowLenLaws
-- takes: what a step's code tells of it; a ruleset
pub mod TakenLaws
