-- `newest` meets its contract. Assumes nothing.
use Rattle.search.proofs.rows.RowLoopLaws.{NewestSoFar}
use Rattle.search.proofs.rows.newest.Given as goal

-- the first i entries say what all n say
abbrev pub invariant-loop-i : goal.invariant-loop-i
invariant-loop-i l = NewestSoFar l.x l.base l.tag l.other l.n l.i
