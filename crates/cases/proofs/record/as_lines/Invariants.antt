-- `as_lines` meets its contract. The loop's invariant: the line bytes below `l` are taken, and the rest is 0. Assumes
-- nothing.
use Rattle.std.proofs.Common.{◌≡◌, ◌++◌, drop, replicate}
use Rattle.cases.specs.Sizes.{most_locations}
use Rattle.cases.specs.Lines.{table}
use Rattle.cases.specs.Record.{line_byte}
use Rattle.cases.proofs.record.as_lines.Given as goal

abbrev pub invariant-loop-l : goal.invariant-loop-l
invariant-loop-l l = l.byte-items ++ drop l.n (replicate most_locations 0) ≡ table (line_byte l.s) l.l
