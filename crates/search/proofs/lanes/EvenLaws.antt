-- Laws of `Even`, where an entry joins a row or leaves one. Assumes nothing.
use Prim.Native.Nat.{ℕ, ◌+◌, ◌*◌, ◌-◌, ◌<◌}
use mathlib.Core.Path.{◌≡◌, refl}
use mathlib.Core.Bool.{Bool, true, false}
use mathlib.Core.List.{List, [], ◌∷◌, ◌++◌}
use native.Mathlib.Omega.{arith}
use borrow.Author.Tests.{eqb-true}
use lib.Dec.{eqb}
use lib.ListN.{length, take, drop, length-append, length-take, length-drop}
use Rattle.cases.specs.Choice.{pick}
use Rattle.search.specs.Rows.{rows_in}
use Rattle.search.proofs.lanes.SeenLaws.{Seen, Even, changed, with_row, with_joined, with_left}

module _ (c : List ℕ) (v : Seen) (even : Even c v) where
  -- another row of two lanes an entry keeps Even
  even_row : (r n : ℕ) (l : List ℕ) → (r < rows_in c → length l ≡ 2 * n) → Even c (with_row v r n l)
  unfolding changed pick
  even_row r n l h = record { twice = λ k b. go k b (eqb k r) refl }
    where
      go : (k : ℕ) → k < rows_in c → (b : Bool) → eqb k r ≡ b
          → length (pick b l (v.row k)) ≡ 2 * pick b n (v.long k)
      go k m true e = h (rw (eqb-true k r e) at m)
      go k m false e = even.twice k m

  -- a row without one of its entries is two lanes shorter
  pub length_left : (r i : ℕ) → r < rows_in c → i < v.long r
      → length (take (2 * i) (v.row r) ++ drop (2 * i + 2) (v.row r)) + 2 ≡ length (v.row r)
  length_left r i h k =
      let e = even.twice r h in
      simp (length-append, length-take, length-drop) (omega arith)

  -- an entry that joins keeps Even; one that leaves
  pub even_joined : (r tag word : ℕ) → Even c (with_joined v r tag word)
  even_joined r tag word =
      even_row r (v.long r + 1) (v.row r ++ (tag ∷ word ∷ []))
      (λ h. let e = even.twice r h in simp length-append (omega arith))

  pub even_left : (r i : ℕ) → i < v.long r → Even c (with_left v r i)
  even_left r i k =
      even_row r (v.long r - 1) (take (2 * i) (v.row r) ++ drop (2 * i + 2) (v.row r))
      (λ h. let e = even.twice r h in let d = length_left r i h k in omega arith)
