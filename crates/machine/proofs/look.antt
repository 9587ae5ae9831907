-- The looks (specs/Look).
-- the loops of newest and store, with silent for the end of both; SilentFrom, NewestSoFar, StoreSoFar
pub mod LookLoopLaws
-- the two loops of marker; MarkerQueuesSoFar, MarkerMarksSoFar
pub mod MarkerLoopLaws
-- marker: what the look for a thread's marker answers
pub mod MarkerLaws
-- bar: what the look for a bar answers
pub mod BarLaws
