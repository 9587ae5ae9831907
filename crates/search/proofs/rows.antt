-- Where things stand among lanes, and looks (specs/Rows): the code.
-- row: where rows stand; RowsSoFar, NewestSoFar, rows, newest, queued, loaded: the loops; a ruleset
pub mod RowLoopLaws
-- MarkedRowsSoFar, MarkedEntriesSoFar, marked: the two loops of the look for a marker; a ruleset
pub mod MarkedLoopLaws
