-- `marker` meets its contract. Assumes nothing.
use Rattle.machine.proofs.look.MarkerLoopLaws.{MarkerMarksSoFar}
use Rattle.machine.proofs.look.MarkerLoopLaws.{MarkerQueuesSoFar}
use Rattle.machine.proofs.fitted.Fitted.marker.Given as goal

-- the marks of queue q from i on, and the queues behind it, say what all queues say
abbrev pub invariant-entries : goal.invariant-entries
invariant-entries l = MarkerMarksSoFar l.self.s.now.marks l.self.s.now.lengths l.mark l.q l.n l.i

-- the queues from q on say what all queues say
abbrev pub invariant-queues : goal.invariant-queues
invariant-queues l = MarkerQueuesSoFar l.self.s.now.marks l.self.s.now.lengths l.mark l.q
