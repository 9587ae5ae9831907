-- `bucket` meets its contract. Assumes nothing.
use Rattle.search.proofs.table.MixLaws.{MixedSoFar}
use Rattle.search.proofs.table.bucket.Given as goal

-- the four numbers are what the lanes so far mix to
abbrev pub invariant-loop-lane : goal.invariant-loop-lane
invariant-loop-lane l = MixedSoFar l.key l.a l.b l.c l.d l.lane-index
