use Rattle.std.proofs.Common.{arith}
use Rattle.machine.proofs.lists.SumLaws.{sum_start, sum_next, sum_end}
use Rattle.machine.proofs.fit.all_unissued.Goals as goal

pub loop-t-init : goal.loop-t-init
loop-t-init c = sum_start _ _ _

pub overflow_add-n : goal.overflow_add-n
overflow_add-n c = let w = c.loop-t.invariant.few in omega arith

pub loop-t-preserved : goal.loop-t-preserved
loop-t-preserved c =
    let e = c.unissued_of-n.ensures in
    sum_next c.loop-t.invariant _ (omega arith) e.0 e.1

pub returns : goal.returns
returns c =
    let l = c.loop-t.invariant in
    let w = l.few in
    let h = l.far in
    (sum_end l (omega arith), omega arith)
