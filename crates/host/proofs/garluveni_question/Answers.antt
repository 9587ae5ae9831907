-- `garluveni_question` meets its contract. Assumes nothing.
use Rattle.host.proofs.PackLaws.{outcome_fits, outcome_packs}
use Rattle.host.proofs.garluveni_question.Goals as goal

pub packed-requires : goal.packed-requires
packed-requires c =
    outcome_fits _ _ _ _ c.question-outcome.ensures.0 _ c.outcome_place.ensures

pub returns : goal.returns
returns c =
    let q = c.question-outcome.ensures in
    let packs = outcome_packs _ _ _ _ q.0 _ c.outcome_place.ensures in
    (packs _ c.outcome_number.ensures _ c.packed.ensures, q.1)
