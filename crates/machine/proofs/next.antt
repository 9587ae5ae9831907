-- The next steps (specs/Next).
-- candidate, candidates, fault_candidate: which steps can be next; few, length, legal
pub mod CandidateLaws
-- candidates rise
pub mod CandidateOrderLaws
