-- `is_kept` meets its contract. Assumes nothing.
use Rattle.search.proofs.table.ChainLaws.{Seeking}
use Rattle.search.proofs.table.is_kept.Given as goal

-- every record that holds the key is met from x on
abbrev pub invariant-loop-x : goal.invariant-loop-x
invariant-loop-x l = Seeking l.memory l.limit l.count l.key l.x

-- a link is lower than the one that leads to it
abbrev pub decreases-loop-x : goal.decreases-loop-x
decreases-loop-x l = l.x
