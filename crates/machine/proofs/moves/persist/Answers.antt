-- `persist` meets its contract. Assumes nothing.
use Rattle.std.proofs.Common.{◌≡◌, length, rules}
use Rattle.cases.specs.Sizes.{most_locations}
use Rattle.machine.specs.Sizes.{all_slots}
use Rattle.machine.specs.View.{with_word}
use Rattle.machine.proofs.change.ChangeLaws.{dequeue_is}
use Rattle.machine.proofs.moves.MoveLaws.{persist_write, persist_marker}
use Rattle.machine.proofs.moves.persist.Goals as goal
use Rattle.machine.proofs.moves.persist.Goals.{Start}

-- as many words and marks as their arrays are long
sized : (c : Start) → (length c.args.s.held ≡ all_slots) × (length c.args.s.marks ≡ all_slots)
    × (length c.args.s.words ≡ most_locations)
sized c = (search rules, search rules, search rules)

pub returns-then-to-ge-LOCATIONS : goal.returns-then-to-ge-LOCATIONS
returns-then-to-ge-LOCATIONS c =
    let a = c.args in
    let p = c.requires in
    let z = sized (goal.at.returns-then-to-ge-LOCATIONS c).Start in
    persist_marker a.s a.q.0 p.0 p.1 p.2 z.0 z.1 z.2 _
    (dequeue_is a.s a.q.0 z.0 z.1 p.0 _ _ p.1 p.2 c.close.ensures
    c.close-2.ensures) c.if-to-ge-LOCATIONS.true

pub returns : goal.returns
unfolding with_word
returns c =
    let a = c.args in
    let p = c.requires in
    let z = sized (goal.at.returns c).Start in
    persist_write a.s a.q.0 p.0 p.1 p.2 z.0 z.1 z.2 _
    (dequeue_is a.s a.q.0 z.0 z.1 p.0 _ _ p.1 p.2 c.close.ensures
    c.close-2.ensures) c.if-to-ge-LOCATIONS.false
