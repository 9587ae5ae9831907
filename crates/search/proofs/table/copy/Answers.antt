use Rattle.std.proofs.Common.{arith}
use Rattle.search.proofs.table.CopyLaws.{copied_next}
use Rattle.search.proofs.table.copy.Goals as goal

pub loop-i-preserved : goal.loop-i-preserved
loop-i-preserved c = copied_next c.loop-i.invariant (omega arith)
