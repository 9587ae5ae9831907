-- `queued` meets its contract. Assumes nothing.
use Rattle.std.proofs.Common.{arith}
use Rattle.machine.specs.View.{marks_in}
use Rattle.machine.proofs.lists.PartLaws.{part_is}
use Rattle.machine.proofs.cells.State.queued.Goals as goal

pub returns-clause-is : goal.returns-clause-is
unfolding marks_in
returns-clause-is c = part_is _ _ _ _ (omega arith)
