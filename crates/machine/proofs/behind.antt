-- What stands behind the entries (specs/Behind).
-- blank: it stays so where a part is put
pub mod BlankLaws
-- start, step, leads and run leave it blank
pub mod BlankStepLaws
-- blank_same: so two states with the same entries are one
pub mod BlankSameLaws
