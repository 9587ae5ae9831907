-- The run that is shown.
-- record, put, step, length: its records in the lent bytes
pub mod StoreLaws
-- shown, reached, stored: it passes the judge
pub mod ShownLaws
