-- `garluveni_remember` meets its contract. Assumes nothing.
use Rattle.host.proofs.PackLaws.{remember_fits, remember_packs}
use Rattle.host.proofs.garluveni_remember.Goals as goal

pub packed-requires : goal.packed-requires
packed-requires c =
    remember_fits _ _ _ _ _ c.remember-remembered.ensures.0 _ c.outcome_place.ensures

pub returns : goal.returns
returns c =
    let m = c.remember-remembered.ensures in
    let packs = remember_packs _ _ _ _ _ m.0 _ c.outcome_place.ensures in
    (packs _ c.outcome_number.ensures _ c.packed.ensures, m.1, m.2)
