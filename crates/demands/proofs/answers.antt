-- What is answered.
-- judge, question, remember, asking: the numbers
pub mod TableLaws
-- reached, unreachable, undecided: what the question says of bytes
pub mod AskedLaws
-- legal: a run that the judge passes
pub mod JudgedLaws
-- twin: a case of two versions
pub mod TwinAnswerLaws
-- met: the distinct states, and what is answered over them
pub mod MetAskedLaws
