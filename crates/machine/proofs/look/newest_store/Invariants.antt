-- `newest_store` meets its contract. Assumes nothing.
use Rattle.machine.proofs.look.LookLoopLaws.{StoreSoFar}
use Rattle.machine.proofs.look.newest_store.Given as goal

-- the entries from position j on hold no store to the location
abbrev pub invariant-loop-j : goal.invariant-loop-j
invariant-loop-j l = StoreSoFar l.l.0 l.b l.j
