-- `thread_work` meets its contract. Assumes nothing.
use Rattle.std.proofs.Common.{arith}
use Rattle.machine.proofs.work.WeighLaws.{thread_weighed}
use Rattle.machine.proofs.fitted.Fitted.thread_work.Goals as goal

pub returns : goal.returns
returns c = (thread_weighed _ _ _ _ _ c.weigh_code.ensures.is c.weigh_buffer.ensures.is, omega arith)
