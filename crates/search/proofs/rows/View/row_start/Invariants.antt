-- `row_start` meets its contract. Assumes nothing.
use Rattle.search.proofs.rows.RowLoopLaws.{RowsSoFar}
use Rattle.search.proofs.rows.View.row_start.Given as goal

-- n is where row i starts
abbrev pub invariant-loop-i : goal.invariant-loop-i
invariant-loop-i l = RowsSoFar l.self.c.now.numbers l.self.x.now l.i-end l.n l.i
