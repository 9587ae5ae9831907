-- `leave` meets its contract. Assumes nothing.
use Rattle.std.proofs.Common.{arith}
use Rattle.search.proofs.taken.RowLenLaws.{carried_within}
use Rattle.search.proofs.taken.leave.Goals as goal

pub carry-requires : goal.carry-requires
carry-requires c =
    let w = carried_within _ _ c.args.c.now.fits c.requires.0 _ _ c.requires.1 c.requires.4 _ _ c.requires.1 (omega arith)
    c.pool_end-end.ensures in
    w
