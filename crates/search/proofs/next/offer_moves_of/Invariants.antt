-- `offer_moves_of` meets its contract. Assumes nothing.
use Rattle.std.proofs.Common.{◌≡◌}
use Rattle.machine.specs.Next.{move_step}
use Rattle.search.specs.Rows.{row_len}
use Rattle.search.specs.Barred.{move_barred}
use Rattle.search.proofs.next.RanksLoopLaws.{OfferedSoFar}
use Rattle.search.proofs.next.offer_moves_of.Given as goal

-- many is how many the thread's buffer holds; its moves from position i on, offered to the list so far, give
-- what all of them give to the list at the start
abbrev pub invariant-loop-i : goal.invariant-loop-i
invariant-loop-i l =
    (l.many ≡ row_len l.v.c.now.numbers l.v.x.now l.t.0)
    × OfferedSoFar (move_barred l.v.c.now.numbers l.v.x.now l.t.0) (move_step l.t.0) l.many l.i
    l.to l.initial.to
