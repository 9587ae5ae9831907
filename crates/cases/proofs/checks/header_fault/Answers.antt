-- `header_fault` meets its contract. Assumes nothing.
use Rattle.cases.proofs.ChoiceLaws.{told}
use Rattle.cases.proofs.draft.HeaderLaws.{header_listed_few}
use Rattle.cases.proofs.checks.header_fault.Goals as goal

pub is_misnumbered-requires : goal.is_misnumbered-requires
is_misnumbered-requires c =
    let out = told _ _ _ c.is_header_out.ensures c.if-is_header_out.false in
    header_listed_few _ out (told _ _ _ c.is_mislisted.ensures c.if-is_mislisted.false)
