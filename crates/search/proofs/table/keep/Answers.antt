-- `keep` meets its contract. Assumes nothing.
use Rattle.search.proofs.table.KeepLaws.{kept}
use Rattle.search.proofs.table.keep.Goals as goal

pub returns : goal.returns
returns c =
    let g = c.requires in
    kept _ _ _ _ _ g.0 g.1 g.2 g.3 g.4 _
    c.copy.ensures
