-- `offer_persists` meets its contract. Assumes nothing.
use Rattle.machine.specs.Next.{persist_step}
use Rattle.search.specs.Barred.{persist_barred}
use Rattle.search.proofs.next.RanksLoopLaws.{OfferedSoFar}
use Rattle.search.proofs.next.offer_persists.Given as goal

-- the persists from queue q on, offered to the list so far, give what all of them give to the list at the start
abbrev pub invariant-loop-q : goal.invariant-loop-q
invariant-loop-q l =
    OfferedSoFar (persist_barred l.v.c.now.numbers l.v.x.now) persist_step l.q-end l.q
    l.to l.initial.to
