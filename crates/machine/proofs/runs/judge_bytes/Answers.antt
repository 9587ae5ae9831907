-- `judge_bytes` meets its contract: what reads is judged, what doesn't stops it. Assumes nothing.
use Rattle.std.proofs.Common.{◌∙◌, refl, ap}
use Rattle.cases.specs.Reading.{number_of}
use Rattle.machine.proofs.runs.JudgeLoopLaws.{read_case, read_stopped}
use Rattle.machine.proofs.runs.judge_bytes.Goals as goal

pub judge_run-requires : goal.judge_run-requires
judge_run-requires c = read_case _ _ c.read-reading.ensures _ refl (ap number_of c.in-Whole.is)

pub returns-in-Refused : goal.returns-in-Refused
returns-in-Refused c = c.stop.ensures ∙ read_stopped _ _ c.read-reading.ensures _ _ c.in-Refused.is
