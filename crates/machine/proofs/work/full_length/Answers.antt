-- `full_length` meets its contract. Assumes nothing.
use Rattle.cases.proofs.ChoiceLaws.{told_true}
use Rattle.machine.proofs.fit.FitTestLaws.{readable_start}
use Rattle.machine.proofs.work.full_length.Goals as goal

pub work_in-requires : goal.work_in-requires
work_in-requires c =
    readable_start _ (told_true _ _ c.reads_back.ensures c.if-not-reads_back.false) _ c.start_of.ensures
