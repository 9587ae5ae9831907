-- Laws of `AllOf`: what holds of each on a list, and a test that is true of none. Assumes nothing.
use Prim.Native.Nat.{ℕ, zero, suc, ◌<◌}
use mathlib.Core.Path.{◌≡◌, refl}
use mathlib.Core.Bool.{Bool, false}
use mathlib.Core.List.{List, [], ◌∷◌, ◌++◌}
use native.Mathlib.Omega.{arith}
use native.Mathlib.Numerals.{add-one}
use lib.ListN.{length, get_or}
use Rattle.cases.proofs.ChoiceLaws.{either_false, either_none}
use Rattle.machine.specs.View.{without}
use Rattle.machine.specs.Fit.{AllOf, any_of}

module _ {A : Type 0} (P : A → Type 0) where
  -- of the one at a position; of two lists joined, and of each of them; of what is left without one
  pub all_get : (xs : List A) (i : ℕ) (d : A) → AllOf P xs → i < length xs → P (get_or xs i d)
  unfolding AllOf
  all_get [] i d a h = absurd (omega arith)
  all_get (x ∷ xs) zero d a h = a.0
  all_get (x ∷ xs) (suc i) d a h = all_get xs i d a.1 (omega arith)

  pub all_append : (xs ys : List A) → AllOf P xs → AllOf P ys → AllOf P (xs ++ ys)
  unfolding AllOf
  all_append [] ys a b = b
  all_append (x ∷ xs) ys a b = (a.0, all_append xs ys a.1 b)

  pub all_apart : (xs ys : List A) → AllOf P (xs ++ ys) → AllOf P xs × AllOf P ys
  unfolding AllOf
  all_apart [] ys a = (tt, a)
  all_apart (x ∷ xs) ys a = let r = all_apart xs ys a.1 in ((a.0, r.0), r.1)

  pub all_without : (xs : List A) (i : ℕ) → AllOf P xs → AllOf P (without i xs)
  unfolding AllOf without
  all_without [] zero a = tt
  all_without [] (suc i) a = rw add-one tt
  all_without (x ∷ xs) zero a = a.1
  all_without (x ∷ xs) (suc i) a = rw add-one (a.0, rw add-one at (all_without xs i a.1))

  -- a test that says of each whether it does not hold: it is true of none, so it holds of all, and back
  module _ (f : A → Bool) where
    pub none_all : ((x : A) → f x ≡ false → P x) → (xs : List A) → any_of f xs ≡ false → AllOf P xs
    unfolding any_of AllOf
    none_all is [] h = tt
    none_all is (x ∷ xs) h = let d = either_false _ _ h in (is x d.0, none_all is xs d.1)

    pub all_none : ((x : A) → P x → f x ≡ false) → (xs : List A) → AllOf P xs → any_of f xs ≡ false
    unfolding any_of AllOf
    all_none is [] h = refl
    all_none is (x ∷ xs) h = either_none _ _ (is x h.0) (all_none is xs h.1)
