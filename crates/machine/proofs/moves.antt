-- What the functions of src/moves.rt meet.
-- move, flush, persist, settled, roomy: what an entry names, a move's rule, each effect
pub mod MoveLaws
