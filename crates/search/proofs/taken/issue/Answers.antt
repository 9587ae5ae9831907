-- `issue` meets its contract. Assumes nothing.
use Rattle.search.proofs.taken.RowLenLaws.{code_here}
use Rattle.search.proofs.taken.issue.Goals as goal

pub perform-requires : goal.perform-requires
perform-requires c =
    let p = c.requires in
    code_here _ _ _ _ _ c.args.c.now.fits p.0 p.1 p.2 c.code_at-at.ensures
    c.count.ensures
