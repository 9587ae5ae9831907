-- What may be wrong with a record (specs/Checks).
-- set: the registers that a thread's instructions set
pub mod SetLaws
-- fault: a fault has a number; a record's place is looked at first
pub mod FaultLaws
