-- `is_unordered` meets its contract. The loop's invariant: what is still to see says what all of it says. Assumes
-- nothing.
use Rattle.std.proofs.Common.{◌≤◌, ◌≡◌, drop}
use Rattle.cases.specs.Lines.{unordered}
use Rattle.cases.proofs.lines.is_unordered.Given as goal

abbrev pub invariant-loop-x : goal.invariant-loop-x
invariant-loop-x l =
    record {
      few : l.next ≤ l.x-index;
      same : unordered l.next (drop l.x-index l.line) ≡ unordered 0 l.line;
    }
