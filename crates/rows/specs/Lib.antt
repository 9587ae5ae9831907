-- The rows of document 01: the words that they are written in, what a row says, and the table.
pub mod Words
pub mod Row
pub mod Table
