-- `garluveni_judge` meets its contract. Assumes nothing.
use Rattle.host.proofs.PackLaws.{verdict_fits, verdict_packs}
use Rattle.host.proofs.garluveni_judge.Goals as goal

pub packed-requires : goal.packed-requires
packed-requires c = verdict_fits _ _ c.judge_bytes-judged.ensures _ c.verdict_place.ensures

pub returns : goal.returns
returns c =
    verdict_packs _ _ c.judge_bytes-judged.ensures _ c.verdict_place.ensures
    _ c.verdict_number.ensures _ c.packed.ensures
