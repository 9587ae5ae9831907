-- `reads_as` meets its contract. Assumes nothing.
use Rattle.std.proofs.Common.{◌∙◌}
use Rattle.cases.proofs.writer.EqualLaws.{case_equal}
use Rattle.cases.proofs.writer.WriteLaws.{reads_as_refused, reads_as_whole}
use Rattle.cases.proofs.writer.reads_as.Goals as goal

pub returns-in-Whole : goal.returns-in-Whole
returns-in-Whole c = reads_as_whole _ _ _ c.read-r.ensures _ c.in-Whole.is _ (c.eq.ensures ∙ case_equal _ _)

pub returns-in-Refused : goal.returns-in-Refused
returns-in-Refused c = reads_as_refused _ _ _ c.read-r.ensures _ _ c.in-Refused.is
