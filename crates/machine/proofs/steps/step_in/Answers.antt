-- `step_in` meets its contract: 5 and 8, then the rules. Assumes nothing.
use Rattle.std.proofs.Common.{sym, ◌∙◌}
use Rattle.machine.specs.Judge.{told}
use Rattle.machine.proofs.rules.RuleLaws.{rule_some, fault_some}
use Rattle.machine.proofs.blocker.BlockerLaws.{blocker_ready, blocker_is}
use Rattle.machine.proofs.runs.JudgeLaws.{stepped_declined, stepped_broken, stepped_legal}
use Rattle.machine.proofs.steps.step_in.Goals as goal

pub returns-in-Err : goal.returns-in-Err
unfolding told
returns-in-Err c =
    let n = c.number.ensures in
    stepped_declined _ _ _ _ (n ∙ c.in-Err.ensures) (λ z. fault_some _ (sym n ∙ z))

pub blocker_by-requires : goal.blocker_by-requires
blocker_by-requires c = blocker_ready _ _ c.requires _ (sym c.in_default.ensures) _ c.in-Err-rule.ensures

pub returns-in-Err-rule : goal.returns-in-Err-rule
unfolding told
returns-in-Err-rule c =
    let b = blocker_is _ _ _ _ c.in-Err-rule.ensures _ c.blocker_by.ensures in
    let n = c.number-in-Err-rule.ensures in
    stepped_broken _ _ _ (sym c.in_default.ensures) _ (n ∙ c.in-Err-rule.ensures) (λ z. rule_some _ (sym n ∙ z)) _ b

pub returns : goal.returns
unfolding told
returns c = stepped_legal _ _ _ (sym c.in_default.ensures) _ (sym c.in_default-rule.ensures) c.take_step.ensures
