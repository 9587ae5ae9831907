-- What a reader must believe of the search, and how its code goes about it.
pub mod Sizes
pub mod Walk
pub mod Question
pub mod Lanes
pub mod Remember
-- how the code does it: no contract of a public function needs these
pub mod Seek
pub mod Listing
pub mod Kinds
pub mod Rows
pub mod Barred
pub mod Taken
pub mod Held
pub mod Table
pub mod Recall
