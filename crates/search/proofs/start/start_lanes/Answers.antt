use Rattle.std.proofs.Common.{arith}
use Rattle.search.proofs.start.StartLanesLaws.{start_end}
use Rattle.search.proofs.start.start_lanes.Goals as goal

pub returns : goal.returns
returns c = start_end c.loop-l.invariant (omega arith)
