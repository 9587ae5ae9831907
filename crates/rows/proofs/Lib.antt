-- What is proved of document 01's rows
pub mod Claim
-- For that page alone
mod FactLaws
