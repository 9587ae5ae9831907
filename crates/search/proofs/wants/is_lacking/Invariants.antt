-- `is_lacking` meets its contract. Assumes nothing.
use Rattle.machine.proofs.lists.AnyLaws.{AskedSoFar}
use Rattle.search.specs.Question.{lacks_at}
use Rattle.search.specs.Listing.{threads_in}
use Rattle.search.proofs.wants.is_lacking.Given as goal

-- the threads from t on say what all say
abbrev pub invariant-loop-t : goal.invariant-loop-t
invariant-loop-t l = AskedSoFar (lacks_at l.a.passed l.v.x.now) (threads_in l.v.c.now.numbers) l.t
