-- `start_lanes` meets its contract. Assumes nothing.
use Rattle.search.proofs.start.StartLanesLaws.{StartSoFar}
use Rattle.search.proofs.start.start_lanes.Given as goal

-- the words of the first l locations are put
abbrev pub invariant-loop-l : goal.invariant-loop-l
invariant-loop-l l = StartSoFar l.p l.c.numbers l.x l.l
