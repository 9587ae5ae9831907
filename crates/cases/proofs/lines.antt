-- On which line each location lies (specs/Lines).
-- table: a number for each location; own: a line each
pub mod LineTableLaws
-- unordered, lines, new: the order of line numbers; lines_own: a line each is in order
pub mod NumberingLaws
