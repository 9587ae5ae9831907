-- The listing of a program (specs/Listing), and its code.
-- line, queue, code, length, listing: what stands where in it; it fits
pub mod ListingLaws
-- NumbersSoFar, CodeSoFar, numbers, codes: the loops that make it; listing
pub mod ListingLoopLaws
