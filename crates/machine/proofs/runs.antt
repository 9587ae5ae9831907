-- Runs (specs/Judge).
-- judge, leads, stops, stepped: what the judge says of a run
pub mod JudgeLaws
-- judging, run, JudgedSoFar: its loop; read_case
pub mod JudgeLoopLaws
-- rerun, run, faultless: a run put into a case again
pub mod RerunLaws
-- verdict: its number and place
pub mod VerdictLaws
