-- Over lists and numbers of any kind; other crates can name these too.
-- part: a part of a list; its drop, take, get_or and length; lt_or_ge
pub mod PartLaws
-- put, part_put, shift, length_without: a list put into another, one left out; get_or behind it
pub mod PutLaws
-- any, none_any: a test is true of one number, or of one on a list; AskedSoFar, AnySoFar
pub mod AnyLaws
-- all, none_all: what holds of each on a list
pub mod AllLaws
-- listed, any: being on a list
pub mod ListedLaws
-- stands, within_stands, some_stands: what stands at a position of a list
pub mod StandsLaws
-- sum, some_or_none: sums, the loops that sum, and the library's sum; SummedSoFar
pub mod SumLaws
