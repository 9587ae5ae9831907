-- Laws of lent words with zeros in front: that no record stands in them, and all of them cleared. Assumes nothing.
use Prim.Native.Nat.{ℕ, ◌*◌, ◌≤◌, ◌<◌}
use mathlib.Core.Path.{◌≡◌}
use mathlib.Core.List.{List, ◌++◌, append-nil}
use native.Mathlib.Omega.{arith}
use lib.ListN.{length, get_or, drop, replicate, length-append, length-drop, length-replicate}
use lib.ListN.{get_or-replicate, get_or-append}
use lib.Seq.{drop-length}
use Rattle.search.specs.Sizes.{state_words}
use Rattle.search.specs.Table.{Chained}

-- heads that are all zero: no record stands there
zero_heads : (memory : List ℕ) (limit b : ℕ) → b < limit → get_or (replicate limit 0 ++ drop limit memory) b 0 ≤ 0
zero_heads memory limit b h =
    let k : b < length {A = ℕ} (replicate limit 0) = rw (length-replicate {A = ℕ} limit 0) h in
    rw (
      get_or-append {A = ℕ} (replicate limit 0) (drop limit memory) 0 b k,
      get_or-replicate {A = ℕ} limit b 0 0 h,
    )
    (omega arith)

pub cleared_chained : (memory : List ℕ) (limit : ℕ) → limit * state_words ≤ length memory
    → Chained (replicate limit 0 ++ drop limit memory) limit 0
cleared_chained memory limit h =
    record {
      few = omega arith;
      long = simp (length-append, length-replicate, length-drop) (omega arith);
      links = λ j l. absurd (omega arith);
      sizes = λ j l. absurd (omega arith);
      heads = λ b l. zero_heads memory limit b l;
      low = λ j l. absurd (omega arith);
      on = λ j l. absurd (omega arith);
    }

-- all of them
pub cleared_all : (memory : List ℕ) (n : ℕ) → n ≡ length memory
    → replicate n 0 ++ drop n memory ≡ replicate (length memory) 0
cleared_all memory n e = rw (e, drop-length memory) (append-nil (replicate (length memory) 0))
