-- `own_lines` meets its contract. The loop's invariant: each location below `l` has a line of its own, and the
-- rest is 0. Assumes nothing.
use Rattle.std.proofs.Common.{◌≡◌, ◌++◌, drop, replicate}
use Rattle.cases.specs.Sizes.{most_locations}
use Rattle.cases.specs.Lines.{table}
use Rattle.cases.proofs.lines.own_lines.Given as goal

abbrev pub invariant-loop-l : goal.invariant-loop-l
invariant-loop-l l = l.own-items ++ drop l.n (replicate most_locations 0) ≡ table (λ i. i) l.l
