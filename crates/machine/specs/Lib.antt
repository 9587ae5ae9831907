-- What a reader must believe of the machine, a page of document 01 each.
pub mod Sizes
pub mod Model
pub mod View
pub mod Parts
pub mod Behind
pub mod Look
pub mod Rules
pub mod Blocker
pub mod Joins
pub mod Fit
pub mod Work
pub mod Next
pub mod Ptso
pub mod Eager
pub mod Judge
pub mod InTheWay
