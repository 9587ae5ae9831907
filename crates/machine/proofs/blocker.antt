-- The first entry in the way (specs/Blocker, InTheWay).
-- marked, has, stands_mark: the look for a marker, over queues as lists; HasMarker
pub mod MarkedLaws
-- broken, issue, move, persist: what a rule tells, and back; entry, queue: of an entry that stands there; Barrier
pub mod BrokenLaws
-- blocker, own_thread: what its function asks for and answers
pub mod BlockerLaws
-- first, found, is_found: of each rule, the entry that is named is the first in the way; IsFirst
pub mod FirstLaws
-- first_or_none, blocker_low, queued: of any step
pub mod NamedLaws
-- left, taken, moved, persisted: where a step leaves an entry; LeftIn, Moved, Persisted
pub mod LeftLaws
-- left: what stands where a step or a run leaves an entry is that entry
pub mod LeftStepLaws
-- line, fits, waiting, queued, not_taken, first, issued, barrier, empty: what a legal step leaves as it is
pub mod KeptLaws
-- held: as long as an entry in the way is not taken, it is in the way, and the same rule is broken
pub mod HeldLaws
-- away: persists of its line take an entry of a queue away; persists_of
pub mod AwayLaws
