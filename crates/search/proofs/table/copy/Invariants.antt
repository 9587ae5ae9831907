-- `copy` meets its contract. Assumes nothing.
use Rattle.search.proofs.table.CopyLaws.{CopiedSoFar}
use Rattle.search.proofs.table.copy.Given as goal

-- the first i lanes are copied
abbrev pub invariant-loop-i : goal.invariant-loop-i
invariant-loop-i l = CopiedSoFar l.initial.memory l.key l.at l.memory l.i
