-- The walk that remembers (specs/Remember, specs/Recall).
-- lanes, equal, differ, either, among: a key is one of those met
pub mod AmongLaws
-- cases, firsts, met: the first meetings one behind the other, and the keys that are met by them
pub mod FirstsLaws
-- Apart, firsts, first: which of the runs they are, and which passes a test first
pub mod FirstsOnceLaws
-- remembering: from a state that was met, from a new one; where its runs end
pub mod RecallLaws
-- Keyed, Closed, closed, remembering: it lists the first meetings; below a state that was met nothing is new
pub mod ClosedLaws
-- remembering, seek: of a machine that goes along with another
pub mod RecallAlongLaws
-- lanes, seek: over lanes
pub mod RecallLanesLaws
-- meets: a state is looked up, and kept where it is new; a ruleset
pub mod MeetLaws
-- new, met, recalling, Recalling, rest_new: the code's loop
pub mod RecallLoopLaws
-- recalls: a turn of the loop
pub mod RecallTurnLaws
-- recall, recalls, Recalls, Leaves, met, meets: over lanes
pub mod RecallHeldLaws
