use Rattle.std.proofs.Common.{arith}
use Rattle.search.specs.Barred.{persist_barred}
use Rattle.search.proofs.next.RanksLoopLaws.{offered_next}
use Rattle.search.proofs.next.offer_persists.Goals as goal

pub loop-q-preserved : goal.loop-q-preserved
unfolding persist_barred
loop-q-preserved c =
    offered_next c.loop-q.invariant (omega arith) _ _ _ c.offer.ensures c.persist_step.ensures
    (rw (c.row_len-barred.ensures, c.queue_row.ensures))
