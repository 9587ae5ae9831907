-- The rules (specs/Rules).
-- rule, effect, issue, move, blocker: which parts a rule looks at, and which it doesn't
pub mod LentLaws
-- issue_ready, move_ready, persist_ready: what a legal step's function asks for; taken_low, persist_low; head_named
pub mod ReadyLaws
-- rule, fault (of a record), issue_between, move_between, persist_between: its number is in the table; Between, InTable
pub mod RuleLaws
-- barrier, entry, first, behind, effect, sfence, pass: what a rule's number tells of the parts it looks at
pub mod ToldLaws
