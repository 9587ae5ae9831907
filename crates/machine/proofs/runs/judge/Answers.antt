-- `judge` meets its contract. Assumes nothing.
use Rattle.cases.proofs.ChoiceLaws.{told_true}
use Rattle.cases.proofs.Promises.{readable_ranged}
use Rattle.machine.proofs.runs.judge.Goals as goal

pub judge_run-requires : goal.judge_run-requires
judge_run-requires c = readable_ranged _ (told_true _ _ c.reads_back.ensures c.if-not-reads_back.false)
