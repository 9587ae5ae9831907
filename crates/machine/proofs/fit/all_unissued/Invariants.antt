-- `all_unissued` meets its contract. Assumes nothing.
use Rattle.cases.specs.Sizes.{most_threads}
use Rattle.machine.specs.Fit.{unissued}
use Rattle.machine.proofs.lists.SumLaws.{SummedSoFar}
use Rattle.machine.proofs.fit.all_unissued.Given as goal

-- n is what the first t threads have not issued, each at most a byte's
abbrev pub invariant-loop-t : goal.invariant-loop-t
invariant-loop-t l = SummedSoFar (unissued l.p l.s) most_threads 255 l.n l.t
