-- The last of some words, and what a location holds when words are put there one after the other. Assumes
-- nothing.
use Prim.Native.Nat.{ℕ, suc, ◌<◌}
use mathlib.Core.Path.{◌≡◌, refl, sym, ap, ◌∙◌}
use mathlib.Core.Logic.{◌⊎◌, inl, inr, ◌≢◌}
use mathlib.Core.List.{List, [], ◌∷◌, ◌++◌, append-nil}
use native.Mathlib.Omega.{arith}
use native.Mathlib.Decide.{ℕ_discrete}
use lib.ListN.{length}
use Rattle.machine.specs.Joins.{last_or}
use Rattle.machine.specs.Fit.{AllOf}

pub last_append : (xs ys : List ℕ) (w : ℕ) → last_or (xs ++ ys) w ≡ last_or ys (last_or xs w)
unfolding last_or
last_append [] ys w = refl
last_append (x ∷ xs) ys w = last_append xs ys x

pub last_some : (xs : List ℕ) (v w : ℕ) → xs ≢ [] → last_or xs v ≡ last_or xs w
unfolding last_or
last_some [] v w h = absurd (h refl)
last_some (x ∷ xs) v w h = refl

-- what holds of each, and of the word where there is none, holds of the last
pub last_holds : (P : ℕ → Type 0) (xs : List ℕ) (w : ℕ) → P w → AllOf P xs → P (last_or xs w)
unfolding last_or AllOf
last_holds P [] w h a = h
last_holds P (x ∷ xs) w h a = last_holds P xs x a.0 a.1

pub cons_some : {A : Type 0} (x : A) (xs : List A) → (x ∷ xs) ≢ []
cons_some x xs e = let k : ◌≡◌ {A = ℕ} (suc (length xs)) 0 = ap length e in absurd (omega arith)

pub append_some : (xs ys : List ℕ) → ys ≢ [] → (xs ++ ys) ≢ []
append_some [] ys h = h
append_some (x ∷ xs) ys h = cons_some x (xs ++ ys)

pub append_empty : (xs ys : List ℕ) → xs ++ ys ≡ [] → (xs ≡ []) × (ys ≡ [])
append_empty [] ys e = (refl, e)
append_empty (x ∷ xs) ys e = absurd (cons_some x (xs ++ ys) e)

-- Of n threads each has some words to come to a location that holds q: at the end it holds v, which is q where
-- nothing came, or else the last of what some thread had to come.
unfoldable pub Settles : ℕ → (ℕ → List ℕ) → ℕ → ℕ → Type 0
Settles n coming q v =
    (((t : ℕ) → t < n → coming t ≡ []) × (v ≡ q))
    ⊎ ((t : ℕ) × (t < n) × (coming t ≢ []) × (v ≡ last_or (coming t) 0))

-- the words `new` of thread k come first
module _ (n : ℕ) (before after : ℕ → List ℕ) (k : ℕ) (new : List ℕ) (low : new ≢ [] → k < n)
    (here : before k ≡ new ++ after k) (other : (t : ℕ) → t < n → t ≢ k → before t ≡ after t) (q v : ℕ) where
  none_left : (xs : List ℕ) → new ≡ xs → ((t : ℕ) → t < n → after t ≡ []) → v ≡ last_or xs q
      → Settles n before q v
  unfolding Settles last_or
  none_left [] e none is = inl ((λ t h. at t h (ℕ_discrete t k)), is)
    where
      at : (t : ℕ) → t < n → Dec (t ≡ k) → before t ≡ []
      at t h (yes a) = rw (a, here, e) (rw a at (none t h))
      at t h (no a) = other t h a ∙ none t h
  none_left (x ∷ xs) e none is =
      let some : new ≢ [] = rw e (cons_some x xs) in
      let all : before k ≡ x ∷ xs = here ∙ rw (e, none k (low some)) (append-nil (x ∷ xs)) in
      inr (k, low some, rw all (cons_some x xs), rw all is)

  some_left : (t : ℕ) → t < n → after t ≢ [] → v ≡ last_or (after t) 0 → Dec (t ≡ k) → Settles n before q v
  unfolding Settles
  some_left t h some is (yes a) =
      let b : before t ≡ new ++ after t = rw a here in
      inr (
        t,
        h,
        rw b (append_some new (after t) some),
        rw b (is ∙ last_some (after t) 0 (last_or new 0) some ∙ sym (last_append new (after t) 0)),
      )
  some_left t h some is (no a) =
      inr (t, h, rw (other t h a) some, rw (other t h a) is)

  pub settles_before : Settles n after (last_or new q) v → Settles n before q v
  unfolding Settles
  settles_before (inl x) = none_left new refl x.0 x.1
  settles_before (inr x) = some_left x.0 x.1 x.2 x.3 (ℕ_discrete x.0 k)
