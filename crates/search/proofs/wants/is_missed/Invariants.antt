-- `is_missed` meets its contract. Assumes nothing.
use Rattle.machine.proofs.lists.AnyLaws.{AskedSoFar}
use Rattle.search.specs.Taken.{misses_lane}
use Rattle.search.specs.Listing.{locations_in}
use Rattle.search.proofs.wants.is_missed.Given as goal

-- the locations from l on say what all say
abbrev pub invariant-loop-l : goal.invariant-loop-l
invariant-loop-l l = AskedSoFar (misses_lane l.v.c.now.numbers l.a.wanted l.a.want l.v.x.now) (locations_in l.v.c.now.numbers) l.l
