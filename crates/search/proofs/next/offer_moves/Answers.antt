use Rattle.std.proofs.Common.{arith}
use Rattle.search.proofs.rows.RowLoopLaws.{rows_start, row_next}
use Rattle.search.proofs.next.RanksLoopLaws.{moves_start, moves_next}
use Rattle.search.proofs.next.offer_moves.Goals as goal

pub loop-t-init : goal.loop-t-init
loop-t-init c =
    let a = c.args in
    ((rows_start a.v.now.c.now.numbers a.v.now.x.now 0 _ c.pool_at-base.ensures).start, moves_start _ _ _ _)

pub loop-t-preserved : goal.loop-t-preserved
loop-t-preserved c =
    let i = c.loop-t.invariant in
    let e = row_next c.args.v.now.c.now.numbers c.args.v.now.x.now c.loop-t.t in
    let r = rw c.buffer_row.ensures at c.row_len.ensures in
    (omega arith, moves_next i.1 (omega arith) _ c.offer_moves_of.ensures)
