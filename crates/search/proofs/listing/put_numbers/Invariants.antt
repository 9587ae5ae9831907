-- `put_numbers` meets its contract. Assumes nothing.
use Rattle.search.proofs.listing.ListingLoopLaws.{NumbersSoFar}
use Rattle.search.proofs.listing.put_numbers.Given as goal

-- the first i numbers are put
abbrev pub invariant-loop-i : goal.invariant-loop-i
invariant-loop-i l = NumbersSoFar l.initial.c l.at l.numbers l.c l.i
