-- `newest_write` meets its contract. Assumes nothing.
use Rattle.std.proofs.Common.{arith}
use Rattle.machine.specs.View.{marks_in, queue_in}
use Rattle.machine.proofs.look.LookLoopLaws.{newest_last, newest_none}
use Rattle.machine.proofs.look.newest_write.Goals as goal

pub returns-in-Some : goal.returns-in-Some
unfolding queue_in marks_in
returns-in-Some c = newest_last _ _ _ _ _ (omega arith) (omega arith) c.queued.ensures.is c.in-Some.ensures _

pub returns-in-None : goal.returns-in-None
unfolding queue_in marks_in
returns-in-None c = newest_none _ _ _ _ _ (omega arith) (omega arith) c.queued.ensures.is c.in-None.ensures _
