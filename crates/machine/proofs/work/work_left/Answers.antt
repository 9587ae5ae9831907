-- `work_left` meets its contract. Assumes nothing.
use Rattle.std.proofs.Common.{rules}
use Rattle.machine.specs.Fit.{Sized}
use Rattle.cases.proofs.ChoiceLaws.{told, told_true}
use Rattle.cases.proofs.ArrayLaws.{unmapped}
use Rattle.machine.proofs.fit.FitTestLaws.{readable_fits}
use Rattle.machine.proofs.work.work_left.Goals as goal

pub work_in-requires : goal.work_in-requires
work_in-requires c =
    let sized : Sized c.args.s = search (rules, unmapped) in
    readable_fits _ (told_true _ _ c.reads_back.ensures c.if-not-reads_back.false) _
    sized (told _ _ _ c.is_misfit.ensures c.if-is_misfit.false)
