-- `read` meets its contract. The loop's invariant: what is read from `at` on, behind the draft, is what is read
-- of the whole input. The measure is what is left of the input. Assumes nothing.
use Rattle.std.proofs.Common.{◌-◌, length}
use Rattle.cases.proofs.reader.ReadLoopLaws.{ReadSoFar}
use Rattle.cases.proofs.reader.read.Given as goal

abbrev pub invariant-loop-at : goal.invariant-loop-at
invariant-loop-at l = ReadSoFar l.bytes l.draft l.at

abbrev pub decreases-loop-at : goal.decreases-loop-at
decreases-loop-at l = length l.bytes - l.at
