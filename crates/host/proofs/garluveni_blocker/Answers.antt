-- `garluveni_blocker` meets its contract. Assumes nothing.
use Rattle.host.proofs.PackLaws.{blocker_packs}
use Rattle.host.proofs.garluveni_blocker.Goals as goal

pub returns : goal.returns
returns c =
    blocker_packs _ _ c.judge_bytes-judged.ensures _ c.verdict_blocker.ensures _ c.place_packed.ensures
