-- Reading in parts, and a case with other steps.
-- goes, Goes: bytes are read behind a draft; opens, front, step, Begins
pub mod GoesLaws
-- steps: a run at the end of a file
pub mod StepsLaws
-- cut, Cut, split, Split: where the steps begin; Stepless
pub mod CutLaws
-- other, run: a case with other steps
pub mod OtherRunLaws
-- twin: a case of version 2 with a line each; versioned, reads_on, ReadsOn
pub mod TwinLaws
