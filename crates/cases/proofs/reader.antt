-- Reading (specs/Reading).
-- read_cases; which record decides: unopened, faulty, sound; nothing, end, record; as_record, behind
pub mod ReadLaws
-- read_loop: the loop; ReadSoFar; refused: the same refusal
pub mod ReadLoopLaws
-- round_trip: from the first record to the last; RoundTripTold
pub mod RoundTripLaws
-- unread: the unread part
pub mod UnreadLaws
-- read_prefix, read_fuel_same: what is not looked at
pub mod PrefixLaws
