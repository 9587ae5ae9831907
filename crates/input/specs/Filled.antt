-- What reading answers.
--   IsFront n xs  so many stand at the front of xs; that the front is so long follows, and spares whoever takes it a proof
-- Assumes nothing.
use Rattle.std.specs.Prelude.{◌≡◌, ℕ, ◌≤◌, List, length, take}

abbrev pub IsFront : ℕ → List ℕ → Type 0
IsFront n xs = (n ≤ length xs) × (n ≡ length (take n xs))
