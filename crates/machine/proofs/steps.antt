-- A step (specs/Rules, Model): what it names, what a legal one keeps, lowers and changes, and that there is one.
-- fault, issue_fault, move_fault, persist_fault, step_kinds: the checks 5 and 8; InRange, StepKinds
pub mod StepFaultLaws
-- issue_fits, issue_work and issue_left; compare
pub mod IssueLaws
-- move_fits, persist_work, step_fits and their like
pub mod StepLaws
-- fails_none, cost_one, failures_none: of a program without a compare
pub mod FailureLaws
-- performed, effect: what is added; Adds
pub mod AddsLaws
-- issue: what it does to each part of the state; barrier_alone
pub mod IssueEffectLaws
-- move: what it does to each part
pub mod MoveEffectLaws
-- persist: what it does to each part
pub mod PersistEffectLaws
-- start_words, issue_words, move_words, persist_words: words on their way
pub mod WordEffectLaws
-- issue_register, move_registers, persist_registers and their like; taken: the word that a register takes
pub mod RegisterEffectLaws
-- issue_together, move, persist, step, leads, start; instructions: all entries and all unissued instructions
pub mod TogetherLaws
-- progress: issue_legal, move_legal, persist_legal, work_some
pub mod ProgressLaws
