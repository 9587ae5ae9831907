-- `take_effect` meets its contract. Assumes nothing.
use Rattle.machine.proofs.moves.MoveLaws.{move_store_named, move_flush_opt_named, roomy_is}
use Rattle.machine.proofs.moves.take_effect.Goals as goal

pub enqueue-requires : goal.enqueue-requires
enqueue-requires c =
    let named = move_store_named c.requires.2 _ c.in-Store.is in
    roomy_is _ c.requires.0 _ c.requires.3 _ named _ c.line_of.ensures

pub enqueue-requires-in-FlushOpt : goal.enqueue-requires-in-FlushOpt
enqueue-requires-in-FlushOpt c =
    let named = move_flush_opt_named c.requires.2 _ c.in-FlushOpt.is in
    roomy_is _ c.requires.0 _ c.requires.3 _ named _ c.line_of-in-FlushOpt.ensures
