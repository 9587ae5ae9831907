-- `garluveni_remember_counting` meets its contract. Assumes nothing.
use Rattle.host.proofs.PackLaws.{remember_fits, counted_packs}
use Rattle.host.proofs.garluveni_remember_counting.Goals as goal

pub packed-number-requires : goal.packed-number-requires
packed-number-requires c =
    remember_fits _ _ _ _ _ c.remember-remembered.ensures.0 _ c.outcome_place.ensures

pub returns : goal.returns
returns c =
    let m = c.remember-remembered.ensures in
    let packs = counted_packs _ _ _ _ _ m.0 _ c.outcome_place.ensures in
    (packs _ c.outcome_number.ensures _ c.packed-number.ensures, m.1, m.2)
