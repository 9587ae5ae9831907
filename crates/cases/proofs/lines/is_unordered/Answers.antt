use Rattle.std.proofs.Common.{◌∙◌, arith}
use Rattle.cases.proofs.lines.NumberingLaws.{new_within, unordered_here, unordered_next, unordered_end}
use Rattle.cases.proofs.lines.is_unordered.Goals as goal

pub returns-then-next-x : goal.returns-then-next-x
returns-then-next-x c =
    let l = c.loop-x in
    unordered_here _ l.x-index l.next (omega arith) (omega (arith, c.if-next-x.true)) ∙ l.invariant.same

pub loop-x-preserved : goal.loop-x-preserved
loop-x-preserved c =
    let l = c.loop-x in
    let new = c.new_after-next.ensures in
    record {
      few = new_within _ _ _ _ new l.invariant.few;
      same = unordered_next _ l.x-index l.next _ new (omega arith) (omega (arith, c.if-next-x.false)) ∙ l.invariant.same;
    }

pub returns : goal.returns
returns c =
    let l = c.loop-x in
    unordered_end _ l.x-index l.next (omega arith) ∙ l.invariant.same
