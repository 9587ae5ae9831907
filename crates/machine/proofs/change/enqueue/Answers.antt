-- `enqueue` meets its contract. Assumes nothing.
use Rattle.std.proofs.Common.{arith, rules}
use Rattle.machine.proofs.change.ChangeLaws.{enqueue_is}
use Rattle.machine.proofs.change.enqueue.Goals as goal

pub returns : goal.returns
returns c =
    let a = c.args in
    enqueue_is a.s a.q.0 (search rules) (search rules) (omega arith) _ (omega arith)
