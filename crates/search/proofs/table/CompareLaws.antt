-- Laws of lanes that are compared: a key with as many of the lent words, and with a record as a whole. Assumes nothing.
use Prim.Native.Nat.{ℕ, ◌+◌, ◌-◌, ◌≤◌}
use mathlib.Core.Path.{◌≡◌, refl, sym, ap, ◌∙◌}
use mathlib.Core.Logic.{◌≢◌}
use mathlib.Core.Bool.{Bool, false}
use mathlib.Core.List.{List, [], ◌∷◌}
use native.Mathlib.Omega.{arith}
use lib.Dec.{eqb}
use lib.Pointwise.{pointwise}
use lib.ListN.{length, get_or, take, drop}
use Rattle.cases.specs.Choice.{both}
use Rattle.machine.specs.View.{part}
use Rattle.machine.proofs.lists.PartLaws.{length_part}
use Rattle.search.specs.Sizes.{most_lanes, record_words}
use Rattle.search.specs.Remember.{eq_lanes}
use Rattle.search.specs.Table.{key_at}
use Rattle.search.proofs.recall.AmongLaws.{differ_lanes}

-- lists of numbers are compared one pair after the other
pairs_lanes : (xs ys : List ℕ) → pointwise eqb xs ys ≡ eq_lanes xs ys
unfolding eq_lanes both
pairs_lanes [] [] = refl
pairs_lanes [] (y ∷ ys) = refl
pairs_lanes (x ∷ xs) [] = refl
pairs_lanes (x ∷ xs) (y ∷ ys) = ap (λ r. both (eqb x y) r) (pairs_lanes xs ys)

-- so are the lanes of a key, and as many words
pub same_lanes : (m key : List ℕ) (at n : ℕ) (same : Bool)
    → same ≡ pointwise eqb key (take (at + n - at) (drop at m))
    → same ≡ eq_lanes key (part at n m)
unfolding part
same_lanes m key at n same e =
    let w : at + n - at ≡ n = omega arith in
    e ∙ rw w (pairs_lanes key (take n (drop at m)))

-- key_at: a record of another size; of this size
module _ (m key : List ℕ) (at : ℕ) where
  pub record_other : at + record_words ≤ length m → get_or m (at + 1) 0 ≤ most_lanes
      → get_or m (at + 1) 0 ≢ length key
      → false ≡ eq_lanes key (key_at m at)
  unfolding key_at
  record_other h k e =
      let size : ℕ = get_or m (at + 1) 0 in
      sym (differ_lanes key (part (at + 2) size m)
      (λ q. e (sym (length_part (at + 2) size m (omega arith)) ∙ sym (ap length q))))

  pub record_same : get_or m (at + 1) 0 ≡ length key
      → eq_lanes key (part (at + 2) (length key) m) ≡ eq_lanes key (key_at m at)
  unfolding key_at
  record_same e = rw e refl
