-- The writer (specs/Writing).
-- write: a file in lent bytes, and what is answered; reads
pub mod WriteLaws
-- case_is, case_self
pub mod SameLaws
-- case_equal: the derived `==` of two cases is same_case of them
pub mod EqualLaws
