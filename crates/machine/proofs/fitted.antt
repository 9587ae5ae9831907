-- What the functions of src/fitted.rt, and the other methods of `Fitted`, meet.
-- lent: what is known of a state of which it is only said that it fits
pub mod FittedLaws
