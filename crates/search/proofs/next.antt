-- The legal next steps over lanes (specs/Barred): the code.
-- TurnsSoFar, OfferedSoFar, MovesSoFar, offered, move, moves, persists, next: the loops that offer steps; a ruleset
pub mod RanksLoopLaws
-- push_all, blank, next, ranks: what the array of ranks stands for
pub mod RanksLaws
