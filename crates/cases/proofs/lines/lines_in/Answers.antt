use Rattle.std.proofs.Common.{◌∙◌, arith}
use Rattle.cases.proofs.lines.NumberingLaws.{new_within, lines_next, lines_end}
use Rattle.cases.proofs.lines.lines_in.Goals as goal

pub loop-x-preserved : goal.loop-x-preserved
loop-x-preserved c =
    let l = c.loop-x in
    let new = c.new_after-next.ensures in
    record {
      few = new_within _ _ _ _ new l.invariant.few;
      same = lines_next _ l.x-index l.next _ new (omega arith) ∙ l.invariant.same;
    }

pub returns : goal.returns
returns c =
    let l = c.loop-x in
    lines_end _ l.x-index l.next (omega arith) ∙ l.invariant.same
