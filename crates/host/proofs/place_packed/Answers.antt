-- `place_packed` meets its contract. Assumes nothing.
use Rattle.std.proofs.Common.{rules}
use Rattle.host.specs.Host.{place_packed}
use Rattle.host.proofs.place_packed.Goals as goal

pub returns : goal.returns
unfolding place_packed
returns c =
    rw (
      ← c.blocker_position.ensures,
      ← c.blocker_number.ensures,
      ← c.blocker_which-which.ensures,
    ) (search rules)
