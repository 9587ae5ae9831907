-- `lines_in` meets its contract. The loop's invariant: what is still to see says what all of it says. Assumes nothing.
use Rattle.std.proofs.Common.{◌≤◌, ◌≡◌, drop}
use Rattle.cases.specs.Lines.{lines_in}
use Rattle.cases.proofs.lines.lines_in.Given as goal

abbrev pub invariant-loop-x : goal.invariant-loop-x
invariant-loop-x l =
    record {
      few : l.next ≤ l.x-index;
      same : lines_in l.next (drop l.x-index l.line) ≡ lines_in 0 l.line;
    }
