-- What a reader must believe of cases, in the order of document 01.
pub mod Sizes
pub mod Operations
pub mod Choice
pub mod Fault
pub mod Bytes
pub mod Lines
pub mod Record
pub mod Checks
pub mod Draft
pub mod Reading
pub mod Seats
pub mod Writing
pub mod Ranges
