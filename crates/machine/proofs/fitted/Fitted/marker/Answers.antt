use Rattle.std.proofs.Common.{refl, arith}
use Rattle.machine.proofs.look.MarkerLoopLaws.{marker_marks_start, marker_marks_next}
use Rattle.machine.proofs.look.MarkerLoopLaws.{marker_here, marker_queues_start}
use Rattle.machine.proofs.look.MarkerLoopLaws.{marker_queues_next, marker_end}
use Rattle.machine.proofs.fitted.FittedLaws.{lent_marks, lent_shallow}
use Rattle.machine.proofs.fitted.Fitted.marker.Goals as goal

pub queues-init : goal.queues-init
queues-init c =
    let f = c.args.self.now.fits in
    marker_queues_start _ _ _ (lent_marks f) (lent_shallow f)

pub entries-init : goal.entries-init
entries-init c = marker_marks_start c.queues.invariant (omega arith)

pub entries-preserved : goal.entries-preserved
entries-preserved c =
    let e = c.entries in
    marker_marks_next e.invariant (omega arith) c.if-self-q.false

pub queues-preserved : goal.queues-preserved
queues-preserved c = marker_queues_next c.entries.invariant (omega arith)

pub returns : goal.returns
returns c = marker_end c.queues.invariant _ refl (omega arith)

pub returns-then-self-q : goal.returns-then-self-q
returns-then-self-q c =
    let e = c.entries in
    marker_here e.invariant (omega arith) _ refl c.if-self-q.true
