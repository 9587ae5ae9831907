-- The budget (specs/Seek).
-- seek: how it is counted down; walked; onward, behind_step, comes_to
pub mod SeekLaws
-- budget: what that comes to
pub mod BudgetLaws
-- walked: what the walk's answer tells
pub mod WalkedLaws
