-- `step` meets its contract: 32, then 33, each with the state as it was. Assumes nothing.
use Rattle.std.proofs.Common.{rules}
use Rattle.cases.proofs.ChoiceLaws.{told, told_true}
use Rattle.machine.specs.Fit.{Sized}
use Rattle.cases.proofs.ArrayLaws.{unmapped}
use Rattle.machine.proofs.fit.FitTestLaws.{readable_fits}
use Rattle.machine.proofs.steps.step.Goals as goal

pub step_in-requires : goal.step_in-requires
step_in-requires c =
    let sized : Sized c.args.s = search (rules, unmapped) in
    readable_fits _ (told_true _ _ c.reads_back.ensures c.if-not-reads_back.false) _
    sized
    (told _ _ _ c.is_misfit.ensures c.if-is_misfit.false)
