use Rattle.std.proofs.Common.{arith}
use Rattle.search.proofs.next.RanksLoopLaws.{offered_next}
use Rattle.search.proofs.next.offer_issues.Goals as goal

pub loop-t-preserved : goal.loop-t-preserved
loop-t-preserved c =
    offered_next c.loop-t.invariant (omega arith) _ _ _ c.offer.ensures c.issue_step.ensures
    c.is_issue_barred-barred.ensures
