-- `offer_issues` meets its contract. Assumes nothing.
use Rattle.machine.specs.Next.{issue_step}
use Rattle.search.specs.Barred.{issue_barred}
use Rattle.search.proofs.next.RanksLoopLaws.{OfferedSoFar}
use Rattle.search.proofs.next.offer_issues.Given as goal

-- the issues from thread t on, offered to the list so far, give what all of them give to the list at the start
abbrev pub invariant-loop-t : goal.invariant-loop-t
invariant-loop-t l =
    OfferedSoFar (issue_barred l.v.c.now.numbers l.v.x.now) issue_step l.t-end l.t
    l.to l.initial.to
