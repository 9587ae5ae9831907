-- The distinct states (specs/Remember).
-- distinct: which they are
pub mod DistinctLaws
-- decided, distinct, reaches, recall: what they answer is what the whole walk answers
pub mod AgreeLaws
-- covers, within, walked: the limit, and what a walk leaves of it
pub mod LimitLaws
-- distinct_start, recalled, meet, remember: the code
pub mod RememberLaws
-- remember, recalled, cleared, only: what is answered, stored and cleared
pub mod RecalledLaws
-- less, whole, answer, agrees, recalled, engines: the two engines
pub mod EngineLaws
