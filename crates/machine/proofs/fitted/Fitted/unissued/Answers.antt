-- `unissued` meets its contract. Assumes nothing.
use Rattle.std.proofs.Common.{arith}
use Rattle.machine.specs.Fit.{unissued}
use Rattle.machine.specs.Work.{unissued_code}
use Rattle.machine.proofs.lists.PartLaws.{part_is}
use Rattle.machine.proofs.fitted.Fitted.unissued.Goals as goal

pub returns-clause-is : goal.returns-clause-is
unfolding unissued_code unissued
returns-clause-is c = part_is _ _ _ _ (omega arith)
