-- The user's demands, one page each, sentence by sentence
pub mod DemandOne
pub mod DemandTwo
pub mod DemandThree
-- What the requests add that a person may quote
pub mod Lines
pub mod Blocker
pub mod Rivals
pub mod Sources
pub mod Copies
pub mod Remembering
-- That what they ask for can be met, and that no wrong implementation which document 01 names meets them
pub mod Witness
pub mod ShutOut
-- For these pages alone, the laws that no layer has, in rooms: a room's own file says what it holds
mod answers
mod writes
mod entered
mod fixed
mod ends
mod turns
mod sourced
