-- A step is written as `step_text` says, by its code. Assumes nothing.
use Rattle.std.proofs.Common.{rules}
use Rattle.telling.proofs.TextLaws.{issue_text, move_text, persist_text, other_text}
use Rattle.telling.proofs.TakenDisplay.fmt.Goals as goal

pub returns-then-k-eq-ISSUE-clause-writes : goal.returns-then-k-eq-ISSUE-clause-writes
returns-then-k-eq-ISSUE-clause-writes g c =
    rw (← issue_text c.args.self.now.0 c.if-k-eq-ISSUE.true) c.write.ensures.writes

pub returns-then-k-eq-MOVE-clause-writes : goal.returns-then-k-eq-MOVE-clause-writes
returns-then-k-eq-MOVE-clause-writes g c =
    rw (← move_text c.args.self.now.0 c.if-k-eq-ISSUE.false c.if-k-eq-MOVE.true) c.write-then-k-eq-MOVE.ensures.writes

pub returns-then-k-eq-PERSIST-clause-writes : goal.returns-then-k-eq-PERSIST-clause-writes
returns-then-k-eq-PERSIST-clause-writes g c =
    rw (← persist_text c.args.self.now.0 c.if-k-eq-ISSUE.false c.if-k-eq-MOVE.false c.if-k-eq-PERSIST.true)
    c.write-then-k-eq-PERSIST.ensures.writes

pub returns-clause-writes : goal.returns-clause-writes
returns-clause-writes g c =
    rw (← other_text c.args.self.now.0 c.if-k-eq-ISSUE.false c.if-k-eq-MOVE.false c.if-k-eq-PERSIST.false)
    (search rules)
