use Rattle.std.proofs.Common.{arith}
use Rattle.machine.proofs.lists.SumLaws.{sum_start, sum_next, sum_end}
use Rattle.machine.proofs.fitted.Fitted.threads_work.Goals as goal

pub loop-t-init : goal.loop-t-init
loop-t-init c = sum_start _ _ _

pub overflow_add-total : goal.overflow_add-total
overflow_add-total c =
    let w = c.thread_work-total.ensures.1 in
    let l = c.loop-t.invariant.few in
    omega arith

pub loop-t-preserved : goal.loop-t-preserved
loop-t-preserved c =
    let w = c.thread_work-total.ensures in
    sum_next c.loop-t.invariant _ (omega arith) w.0 (omega arith)

pub returns : goal.returns
returns c =
    let l = c.loop-t.invariant in
    let w = l.few in
    let h = l.far in
    (sum_end l (omega arith), omega arith)
