-- `queues_misfit` meets its contract. Assumes nothing.
use Rattle.std.proofs.Common.{◌≡◌}
use Rattle.cases.specs.Sizes.{most_locations}
use Rattle.machine.specs.Fit.{due, queue_misfits}
use Rattle.machine.proofs.lists.AnyLaws.{AskedSoFar}
use Rattle.machine.proofs.fit.queues_misfit.Given as goal

-- what may still come is known, and the queues still to ask say what all say
abbrev pub invariant-loop-q : goal.invariant-loop-q
invariant-loop-q l = (l.coming ≡ due l.p l.s) × AskedSoFar (queue_misfits l.p l.s) most_locations l.q
