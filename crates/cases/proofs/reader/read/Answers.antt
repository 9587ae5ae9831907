use Rattle.std.proofs.Common.{refl, sym, ◌∙◌, arith}
use Rattle.cases.proofs.checks.FaultLaws.{fault_some}
use Rattle.cases.proofs.reader.ReadLoopLaws.{read_loop_start, read_loop_none, read_loop_whole}
use Rattle.cases.proofs.reader.ReadLoopLaws.{read_loop_faulty, read_loop_fault, read_loop_within}
use Rattle.cases.proofs.reader.ReadLoopLaws.{read_loop_next, refused_same}
use Rattle.cases.proofs.reader.read.Goals as goal

pub loop-at-init : goal.loop-at-init
loop-at-init c = read_loop_start _ _ c.blank_draft-draft.ensures

pub returns-in_default : goal.returns-in_default
returns-in_default c =
    c.unopened.ensures
    ∙ refused_same (c.open_record-opened.ensures.number ∙ sym c.in_default.ensures.number) (omega arith)
    ∙ read_loop_faulty c.loop-at.invariant c.loop-at-test.true _ c.in_default.ensures.number (fault_some _)

pub returns-in-Err : goal.returns-in-Err
returns-in-Err c =
    let o = c.in-Ok.ensures in
    c.refused.ensures
    ∙ refused_same refl (omega arith)
    ∙ read_loop_fault c.loop-at.invariant c.loop-at-test.true _ (sym o.number) o.opened _
    c.in-Err.ensures.number (fault_some _)

pub overflow_add-at : goal.overflow_add-at
overflow_add-at c =
    let o = c.in-Ok.ensures in
    let w = read_loop_within c.loop-at.invariant c.loop-at-test.true _ (sym o.number) o.opened _ c.size-at.ensures in
    omega (arith, w.1)

pub loop-at-smaller : goal.loop-at-smaller
loop-at-smaller c =
    let o = c.in-Ok.ensures in
    let w = read_loop_within c.loop-at.invariant c.loop-at-test.true _ (sym o.number) o.opened _ c.size-at.ensures in
    omega (arith, w.0, w.1)

pub loop-at-preserved : goal.loop-at-preserved
loop-at-preserved c =
    let o = c.in-Ok.ensures in
    let clean = sym c.in_default-take_record.ensures.number in
    read_loop_next c.loop-at.invariant c.loop-at-test.true _ (sym o.number) o.opened clean
    _ c.size-at.ensures _ c.in_default-take_record.ensures.taken

pub returns-then-draft-eq-NO_KIND : goal.returns-then-draft-eq-NO_KIND
returns-then-draft-eq-NO_KIND c =
    c.refused-then-draft-eq-NO_KIND.ensures
    ∙ read_loop_none c.loop-at.invariant c.loop-at-test.false c.if-draft-eq-NO_KIND.true

pub returns : goal.returns
returns c = read_loop_whole c.loop-at.invariant c.loop-at-test.false c.if-draft-eq-NO_KIND.false
