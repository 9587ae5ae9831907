-- `move_entry` meets its contract. Assumes nothing.
use Rattle.std.proofs.Common.{◌≡◌, length}
use Rattle.cases.specs.Sizes.{all_code}
use Rattle.cases.proofs.ArrayLaws.{unmapped}
use Rattle.machine.proofs.change.ChangeLaws.{take_out_is}
use Rattle.machine.proofs.moves.MoveLaws.{move_entry_named, roomy_buffer, move_taken}
use Rattle.machine.proofs.moves.move_entry.Goals as goal
use Rattle.machine.proofs.moves.move_entry.Goals.{Start}

-- as many entries as their array is long
sized : (c : Start) → length c.args.s.buffers ≡ all_code
sized c = search unmapped

pub take_effect-requires : goal.take_effect-requires
take_effect-requires c =
    let named = move_entry_named _ _ _ _ c.requires.2 _ c.requires.4 in
    let long = sized (goal.at.take_effect-requires c).Start in
    let left = take_out_is _ _ long c.requires.1 _ _ c.requires.2 c.requires.3 c.close.ensures in
    (c.requires.0, c.requires.1, named, roomy_buffer _ _ _ _ left c.requires.5)

pub returns : goal.returns
returns c =
    let long = sized (goal.at.returns c).Start in
    let left = take_out_is _ _ long c.requires.1 _ _ c.requires.2 c.requires.3 c.close.ensures in
    move_taken _ _ _ _ _ _ c.requires.2 left c.take_effect.ensures
