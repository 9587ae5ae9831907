-- The lanes (specs/Lanes), seen apart from any state, and of a state.
-- any, sum, listed: over any test, sum or list
pub mod GeneralLaws
-- Seen, changed, lay, Even, with_issued, with_long, with_word, with_register, with_registers, with_row, with_joined, with_left
pub mod SeenLaws
-- changed, shifted, join, each; length, get, set: what stands one behind the other
pub mod JoinLaws
-- padded, inserted, carried, entry; get, set: over any list
pub mod ShiftLaws
-- entry, waiting, slot, spread; length, get: entries, two lanes each
pub mod SpreadLaws
-- by_tag, tag: a choice by an entry's tag
pub mod TagLaws
-- Agree, front, behind, lay, see, set, count, discount: what stands where, and what a change does
pub mod LayLaws
-- even, length: rows of two lanes an entry, where one joins or leaves
pub mod EvenLaws
-- padded: how many lanes there are; row: what an entry that joins a row, leaves one or goes to another makes of a view
pub mod LayRowLaws
-- split, seen_of, row, long, even, entries, few, lay: of a state
pub mod StateLaws
-- blank_slot, laid_of, row, queue, see, named, queued, loaded: the code's looks find what the machine's find
pub mod LookLanesLaws
-- marked: a thread's marker
pub mod MarkLanesLaws
-- broken, issue, move, persist: a step is barred where it breaks a rule
pub mod RuleLanesLaws
-- legal: the legal next steps
pub mod NextLanesLaws
-- reaches: what is asked
pub mod ReachLanesLaws
-- joined, same, queued, loaded: when a view's lanes are a state's; what a count leaves to the looks
pub mod SameLanesLaws
-- SeenWith, seen: a view of a state with changes
pub mod SeenWithLaws
-- Issues, issued_seen, even, issues: what an instruction that is issued makes of a view
pub mod IssueViewLaws
-- issue: an issue over the lanes of a state
pub mod IssueLanesLaws
-- move: a move over the lanes of a state
pub mod MoveLanesLaws
-- persist: a persist over the lanes of a state
pub mod PersistLanesLaws
-- Kinds, few, lanes, step: a step over the lanes of a state, and what the code asks of it
pub mod StepLanesLaws
-- alike: equal lanes
pub mod AlikeLaws
-- same, key, laid, lanes: equal lanes tell the work left; the lanes as the code holds them
pub mod WorkLanesLaws
