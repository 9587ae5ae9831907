-- `is_marked` meets its contract. Assumes nothing.
use Rattle.search.proofs.rows.MarkedLoopLaws.{MarkedRowsSoFar, MarkedEntriesSoFar}
use Rattle.search.proofs.rows.View.is_marked.Given as goal

-- the entries of queue q from number i on, and the queues behind it, say what all queues say
abbrev pub invariant-entries : goal.invariant-entries
invariant-entries l = MarkedEntriesSoFar l.self.c.now.numbers l.self.x.now l.mark l.base l.q l.n l.i

-- the queues from number q on say what all queues say
abbrev pub invariant-queues : goal.invariant-queues
invariant-queues l = MarkedRowsSoFar l.self.c.now.numbers l.self.x.now l.mark l.base l.q
