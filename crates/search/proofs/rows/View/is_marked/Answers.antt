use Rattle.std.proofs.Common.{arith}
use Rattle.search.proofs.rows.MarkedLoopLaws.{marked_entries_start, marked_entries_next, marked_rows_next}
use Rattle.search.proofs.rows.View.is_marked.Goals as goal

pub entries-init : goal.entries-init
entries-init c =
    marked_entries_start c.queues.invariant (omega arith) _ _ c.queue_row-in-queues.ensures c.row_len-n.ensures

pub entries-preserved : goal.entries-preserved
entries-preserved c = marked_entries_next c.entries.invariant (omega arith) c.if-self-base.false

pub queues-preserved : goal.queues-preserved
queues-preserved c = marked_rows_next c.entries.invariant (omega arith)
