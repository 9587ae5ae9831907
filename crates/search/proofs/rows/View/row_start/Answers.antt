use Rattle.std.proofs.Common.{arith}
use Rattle.search.proofs.rows.RowLoopLaws.{rows_start, rows_next, row_room}
use Rattle.search.proofs.rows.View.row_start.Goals as goal

pub loop-i-init : goal.loop-i-init
loop-i-init c = rows_start _ _ _ _ c.pool_at-n.ensures

pub overflow_mul-n : goal.overflow_mul-n
overflow_mul-n c =
    let g = c.requires in
    let l = c.loop-i in
    let w = row_room _ _ c.args.self.now.c.now.fits c.args.self.now.few l.i (omega arith) _ _ l.invariant.start c.row_len.ensures in
    omega arith

pub overflow_add-n : goal.overflow_add-n
overflow_add-n c =
    let g = c.requires in
    let l = c.loop-i in
    let w = row_room _ _ c.args.self.now.c.now.fits c.args.self.now.few l.i (omega arith) _ _ l.invariant.start c.row_len.ensures in
    omega arith

pub loop-i-preserved : goal.loop-i-preserved
loop-i-preserved c = rows_next c.loop-i.invariant (omega arith) _ c.row_len.ensures
