-- What the contracts of telling name.
pub mod Text
