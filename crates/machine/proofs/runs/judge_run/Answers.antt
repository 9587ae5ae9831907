use Rattle.std.proofs.Common.{sym, ◌∙◌, arith}
use Rattle.machine.specs.Judge.{judge_run, judged}
use Rattle.machine.proofs.rules.RuleLaws.{rule_some}
use Rattle.machine.proofs.blocker.BlockerLaws.{blocker_ready, blocker_is}
use Rattle.machine.proofs.runs.JudgeLoopLaws.{judging_start, judging_next, judging_here}
use Rattle.machine.proofs.runs.JudgeLoopLaws.{judging_end, run_long}
use Rattle.machine.proofs.runs.judge_run.Goals as goal

pub loop-i-init : goal.loop-i-init
loop-i-init c =
    judging_start c.args.c.now _ c.requires c.start_of-s.ensures

pub rule-requires : goal.rule-requires
rule-requires c =
    let o = c.loop-i.invariant in
    o.faultless _ (omega arith)

pub blocker_by-requires : goal.blocker_by-requires
blocker_by-requires c =
    let o = c.loop-i.invariant in
    blocker_ready _ _ o.fit _ (o.faultless _ (omega arith)) _ c.in-Err.ensures

pub returns-in-Err : goal.returns-in-Err
unfolding judge_run judged
returns-in-Err c =
    let o = c.loop-i.invariant in
    let b = blocker_is _ _ _ _ c.in-Err.ensures _ c.blocker_by.ensures in
    let n = c.number.ensures in
    judging_here o (omega arith) _ (n ∙ c.in-Err.ensures) (λ z. rule_some _ (sym n ∙ z)) _ b

pub take_step-s-requires : goal.take_step-s-requires
take_step-s-requires c =
    let o = c.loop-i.invariant in
    (o.fit, o.faultless _ (omega arith), sym c.in_default.ensures)

pub loop-i-preserved : goal.loop-i-preserved
loop-i-preserved c =
    let o = c.loop-i.invariant in
    judging_next o (omega arith) _ (sym c.in_default.ensures) c.take_step-s.ensures

pub returns : goal.returns
unfolding judge_run judged
returns c = judging_end c.loop-i.invariant (omega arith) _ (run_long _ c.requires)
