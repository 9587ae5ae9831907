-- Laws of `StandsAt`: what stands at a position of a list, and where it stands once the list has grown or lost one.
-- Assumes nothing.
use Prim.Native.Nat.{ℕ, zero, suc, ◌≤◌, ◌<◌}
use mathlib.Core.Path.{◌≡◌, refl, sym, ◌∙◌}
use mathlib.Core.Logic.{◌≢◌}
use mathlib.Core.List.{List, [], ◌∷◌, ◌++◌}
use native.Mathlib.Omega.{arith}
use native.Mathlib.Numerals.{add-one}
use lib.ListN.{length, get_or}
use Rattle.machine.specs.View.{without}
use Rattle.machine.specs.InTheWay.{StandsAt}

module _ {A : Type 0} where
  -- with more behind it
  pub stands_append : (xs ys : List A) (i : ℕ) (x : A) → StandsAt xs i x → StandsAt (xs ++ ys) i x
  unfolding StandsAt
  stands_append [] ys i x h = absurd h
  stands_append (y ∷ xs) ys zero x h = h
  stands_append (y ∷ xs) ys (suc i) x h = stands_append xs ys i x h

  -- without one that stands behind it; without one before it, and so one forward; without the first
  pub stands_behind : (xs : List A) (i j : ℕ) (x : A) → i < j → StandsAt xs i x → StandsAt (without j xs) i x
  unfolding StandsAt without
  stands_behind [] i j x l h = absurd h
  stands_behind (y ∷ xs) i zero x l h = absurd (omega arith)
  stands_behind (y ∷ xs) zero (suc j) x l h = h
  stands_behind (y ∷ xs) (suc i) (suc j) x l h =
      rw add-one (rw add-one at (stands_behind xs i j x (omega arith) h))

  pub stands_before : (xs : List A) (i j : ℕ) (x : A) → j ≤ i → StandsAt xs (suc i) x → StandsAt (without j xs) i x
  unfolding StandsAt without
  stands_before [] i j x l h = absurd h
  stands_before (y ∷ xs) i zero x l h = h
  stands_before (y ∷ xs) zero (suc j) x l h = absurd (omega arith)
  stands_before (y ∷ xs) (suc i) (suc j) x l h =
      rw add-one (rw add-one at (stands_before xs i j x (omega arith) h))

  pub stands_tail : (xs : List A) (y : A) (ys : List A) (i : ℕ) (x : A) → xs ≡ y ∷ ys → StandsAt xs (suc i) x
      → StandsAt ys i x
  unfolding StandsAt
  stands_tail xs y ys i x e h = rw e at h

  -- one thing stands at a position, which is within the list; and at each position within it something does
  stands_same : (xs : List A) (i : ℕ) (x y : A) → StandsAt xs i x → StandsAt xs i y → x ≡ y
  unfolding StandsAt
  stands_same [] i x y a b = absurd a
  stands_same (z ∷ xs) zero x y a b = sym a ∙ b
  stands_same (z ∷ xs) (suc i) x y a b = stands_same xs i x y a b

  pub stands_within : (xs : List A) (i : ℕ) (x : A) → StandsAt xs i x → i < length xs
  unfolding StandsAt
  stands_within [] i x h = absurd h
  stands_within (y ∷ xs) zero x h = omega arith
  stands_within (y ∷ xs) (suc i) x h = let k = stands_within xs i x h in omega arith

  pub within_stands : (xs : List A) (i : ℕ) (d : A) → i < length xs → StandsAt xs i (get_or xs i d)
  unfolding StandsAt
  within_stands [] i d h = absurd (omega arith)
  within_stands (y ∷ xs) zero d h = refl
  within_stands (y ∷ xs) (suc i) d h = within_stands xs i d (omega arith)

  pub stands_get : (xs : List A) (i : ℕ) (d x : A) → StandsAt xs i x → get_or xs i d ≡ x
  stands_get xs i d x h = stands_same xs i _ x (within_stands xs i d (stands_within xs i x h)) h

  -- where something stands the list is not empty, and something stands first in one that is not
  pub stands_some : (xs : List A) (i : ℕ) (x : A) → StandsAt xs i x → xs ≢ []
  unfolding StandsAt
  stands_some xs i x h e = rw e at h

  pub some_stands : (xs : List A) → xs ≢ [] → (x : A) × StandsAt xs 0 x
  unfolding StandsAt
  some_stands [] n = absurd (n refl)
  some_stands (x ∷ xs) n = (x, refl)
