-- The words that a run fixes, and the writes that it really makes.
-- issues: which step issues an instruction; at, fixed, made: what it tells; move, persist
pub mod IssuesLaws
-- fixed: what it fixes; made: what it makes; at, makes, really; issues, issued; Issues, Passes
pub mod FixedLaws
