-- Bytes (specs/Bytes).
-- bytes, half, word: numbers in bytes; take, elems
pub mod BytesLaws
