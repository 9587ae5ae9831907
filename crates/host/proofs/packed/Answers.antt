-- `packed` meets its contract. Assumes nothing.
use Rattle.std.proofs.Common.{rules}
use Rattle.host.specs.Host.{packed_of}
use Rattle.host.proofs.packed.Goals as goal

pub returns : goal.returns
unfolding packed_of
returns c = search rules
