-- `walk` meets its contract. Assumes nothing.
use Rattle.std.proofs.Common.{◌-◌, length}
use Rattle.machine.specs.Sizes.{most_work}
use Rattle.search.specs.Held.{Held}
use Rattle.search.proofs.walk.WalkHeldLaws.{Walks}
use Rattle.search.proofs.walk.+walk.Given as goal

-- the deeper, the less is left
abbrev pub decreases-walk : goal.decreases-walk
decreases-walk l = most_work - l.depth

-- the lanes are held; the next steps from position i on are still to be walked
abbrev pub invariant-loop-i : goal.invariant-loop-i
invariant-loop-i l =
    Held l.c.numbers l.x l.depth (length l.run)
    × Walks l.c.numbers l.a.wanted l.a.want l.a.passed l.x l.depth l.budget l.next l.initial.run l.run l.left l.i
