-- Laws of what `fill` answers, for whoever reads piece by piece, and for whoever takes what was read. Assumes nothing.
use Prim.Native.Nat.{ℕ, ◌≤◌}
use mathlib.Core.Path.{◌≡◌, sym}
use mathlib.Core.List.{List}
use lib.ListN.{length}
use lib.Seq.{length-take-le}
use Rattle.std.specs.Prelude.{Result, Ok, IfOk}
use Rattle.input.specs.Filled.{IsFront}

-- a bound makes a count; a count that was told has it
pub bytes_within : {E : Type 0} (f : Result ℕ E) (n : ℕ) (xs : List ℕ) → f ≡ Ok n → n ≤ length xs
    → IfOk f (λ m. IsFront m xs)
bytes_within f n xs e h = rw e (h, sym (length-take-le n xs h))

pub within_bytes : {E : Type 0} (f : Result ℕ E) (n : ℕ) (xs : List ℕ) → f ≡ Ok n → IfOk f (λ m. IsFront m xs)
    → IsFront n xs
within_bytes f n xs e h = rw e at h
