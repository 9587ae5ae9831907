-- A case's file (specs/Seats).
-- each, total: what is said of each number, joined
pub mod EachLaws
-- seat: what stands there
pub mod SeatLaws
-- encoded, Encoded: the file put seat by seat
pub mod EncodeLaws
-- encode_length: how long it is
pub mod EncodeLengthLaws
