-- `offer_moves` meets its contract. Assumes nothing.
use Rattle.std.proofs.Common.{◌≡◌}
use Rattle.search.specs.Rows.{row_start}
use Rattle.search.proofs.next.RanksLoopLaws.{MovesSoFar}
use Rattle.search.proofs.next.offer_moves.Given as goal

-- thread t's row starts at base; the moves from thread t on, offered to the list so far, give what all of them give to
-- the list at the start
abbrev pub invariant-loop-t : goal.invariant-loop-t
invariant-loop-t l =
    (l.base ≡ row_start l.v.c.now.numbers l.v.x.now l.t)
    × MovesSoFar l.v.c.now.numbers l.v.x.now l.t-end l.t l.to l.initial.to
