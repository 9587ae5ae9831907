-- What a reader must believe of the C face.
pub mod Host
