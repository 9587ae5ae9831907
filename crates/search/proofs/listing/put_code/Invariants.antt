-- `put_code` meets its contract. Assumes nothing.
use Rattle.search.proofs.listing.ListingLoopLaws.{CodeSoFar}
use Rattle.search.proofs.listing.put_code.Given as goal

-- the first i instructions are put
abbrev pub invariant-loop-i : goal.invariant-loop-i
invariant-loop-i l = CodeSoFar l.initial.c l.code l.c l.i
