-- `is_barred` meets its contract. Assumes nothing.
use Rattle.machine.proofs.lists.AnyLaws.{AskedSoFar}
use Rattle.search.specs.Barred.{bars_at}
use Rattle.search.proofs.next.is_barred.Given as goal

-- the entries still to look at say what all n say
abbrev pub invariant-loop-i : goal.invariant-loop-i
invariant-loop-i l = AskedSoFar (bars_at l.v.c.now.numbers l.q.0 l.v.x.now l.base) l.n l.i
