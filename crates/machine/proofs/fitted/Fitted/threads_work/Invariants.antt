-- `threads_work` meets its contract. Assumes nothing.
use Rattle.std.proofs.Common.{◌*◌}
use Rattle.cases.specs.Sizes.{most_threads, most_instructions}
use Rattle.machine.specs.Work.{thread_work}
use Rattle.machine.proofs.lists.SumLaws.{SummedSoFar}
use Rattle.machine.proofs.fitted.Fitted.threads_work.Given as goal

-- the total is the work of the first t threads, each at most 3 an instruction and 2 an entry
abbrev pub invariant-loop-t : goal.invariant-loop-t
invariant-loop-t l = SummedSoFar (thread_work l.self.p.now l.self.s.now) most_threads (5 * most_instructions) l.total l.t
