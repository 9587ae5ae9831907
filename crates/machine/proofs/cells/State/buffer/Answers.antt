-- `buffer` meets its contract. Assumes nothing.
use Rattle.std.proofs.Common.{arith}
use Rattle.machine.specs.View.{buffer_in}
use Rattle.machine.proofs.lists.PartLaws.{part_is}
use Rattle.machine.proofs.cells.State.buffer.Goals as goal

pub returns-clause-is : goal.returns-clause-is
unfolding buffer_in
returns-clause-is c = part_is _ _ _ _ (omega arith)
