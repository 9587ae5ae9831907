-- `recall` meets its contract. Assumes nothing.
use Rattle.std.proofs.Common.{◌-◌, ◌≤◌, ◌≡◌, length}
use Rattle.machine.specs.Sizes.{most_work}
use Rattle.search.specs.Held.{Held}
use Rattle.search.specs.Table.{keys_in, Chained}
use Rattle.search.proofs.recall.RecallHeldLaws.{Recalls}
use Rattle.search.proofs.recall.+recall.Given as goal

-- the deeper, the less is left
abbrev pub decreases-recall : goal.decreases-recall
decreases-recall l = most_work - l.depth

-- the lanes are held; the chains keep what is met; the next steps from position i on are still to be gone through
abbrev pub invariant-loop-i : goal.invariant-loop-i
invariant-loop-i l =
    Held l.c.numbers l.x l.depth (length l.run) × (l.rest ≤ l.limit) × Chained l.memory l.limit (l.limit - l.rest)
    × Recalls l.c.numbers l.a.wanted l.a.want l.a.passed l.x l.depth l.initial.rest
    (keys_in l.initial.memory l.limit (l.limit - l.initial.rest)) l.next l.initial.run l.run l.rest l.i
    (keys_in l.memory l.limit (l.limit - l.rest))
    × (length l.memory ≡ length l.initial.memory)
