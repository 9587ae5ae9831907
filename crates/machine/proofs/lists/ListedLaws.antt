-- Laws of being on a list. Assumes nothing.
use Prim.Native.Nat.{ℕ, zero, suc}
use mathlib.Core.Path.{◌≡◌, refl}
use mathlib.Core.Logic.{◌⊎◌, inl, inr}
use mathlib.Core.Bool.{Bool, true, false}
use mathlib.Core.List.{List, [], ◌∷◌, ◌++◌}
use lib.ListN.{drop}
use Rattle.cases.specs.Choice.{either}
use Rattle.cases.proofs.ChoiceLaws.{either_false, never_both}
use Rattle.machine.specs.Fit.{any_of}
use Rattle.machine.specs.Model.{Listed}

-- on the first of two lists; on the second; on one of them
pub listed_left : {A : Type 0} (x : A) (xs ys : List A) → Listed x xs → Listed x (xs ++ ys)
unfolding Listed
listed_left x [] ys h = absurd h
listed_left x (y ∷ xs) ys (inl e) = inl e
listed_left x (y ∷ xs) ys (inr h) = inr (listed_left x xs ys h)

pub listed_right : {A : Type 0} (x : A) (xs ys : List A) → Listed x ys → Listed x (xs ++ ys)
unfolding Listed
listed_right x [] ys h = h
listed_right x (y ∷ xs) ys h = inr (listed_right x xs ys h)

pub listed_either : {A : Type 0} (x : A) (xs ys : List A) → Listed x (xs ++ ys) → Listed x xs ⊎ Listed x ys
unfolding Listed
listed_either x [] ys h = inr h
listed_either x (y ∷ xs) ys (inl e) = inl (inl e)
listed_either x (y ∷ xs) ys (inr h) = go (listed_either x xs ys h)
  where
    go : Listed x xs ⊎ Listed x ys → ((x ≡ y) ⊎ Listed x xs) ⊎ Listed x ys
    go (inl a) = inl (inr a)
    go (inr a) = inr a

-- on what is left of a list behind some of its front
pub listed_drop : {A : Type 0} (x : A) (i : ℕ) (xs : List A) → Listed x (drop i xs) → Listed x xs
unfolding Listed
listed_drop x zero xs h = h
listed_drop x (suc i) [] h = h
listed_drop x (suc i) (y ∷ xs) h = inr (listed_drop x i xs h)

-- a test that is true of none on a list is false of each that is on it
pub listed_none : {A : Type 0} (f : A → Bool) (x : A) (xs : List A) → any_of f xs ≡ false → Listed x xs → f x ≡ false
unfolding any_of Listed
listed_none f x [] e h = absurd h
listed_none f x (y ∷ ys) e (inl same) = rw same (either_false (f y) (any_of f ys) e).0
listed_none f x (y ∷ ys) e (inr h) = listed_none f x ys (either_false (f y) (any_of f ys) e).1 h

-- one that is true of some on it is true of one that is on it
pub any_listed : {A : Type 0} (f : A → Bool) (xs : List A) → any_of f xs ≡ true
    → (x : A) × Listed x xs × (f x ≡ true)
unfolding any_of Listed either
any_listed f [] e = absurd (never_both e refl)
any_listed {A} f (y ∷ ys) e = go (f y) refl e (any_listed f ys)
  where
    go : (b : Bool) → f y ≡ b → either b (any_of f ys) ≡ true
        → (any_of f ys ≡ true → (x : A) × Listed x ys × (f x ≡ true))
        → (x : A) × ((x ≡ y) ⊎ Listed x ys) × (f x ≡ true)
    go true d h rest = (y, inl refl, d)
    go false d h rest = let n = rest h in (n.0, inr n.1, n.2)
