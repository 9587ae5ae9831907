-- The question (specs/Question).
-- reaches, is_reaches: what it is to reach it
pub mod ReachLaws
-- answer, roomy, Answers, Stores, Low: what is told and stored of what is decided
pub mod AnswerLaws
-- ask, reached, short: the code
pub mod AskLaws
-- question: what is answered; walk, shown, only, steps
pub mod QuestionLaws
