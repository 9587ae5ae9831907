-- Where a walk starts: the code.
-- begun_word, begun, StartSoFar, start: the view that the loop makes, and that it comes to the start's
pub mod StartLanesLaws
