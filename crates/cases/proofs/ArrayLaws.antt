-- Laws of lists, for every layer: what owning an array tells of its list; an empty list and a blank one; where
-- something stands; what is left of a front; values put into a list. Assumes nothing.
use Prim.Native.Nat.{ℕ, zero, suc, ◌+◌, ◌-◌, ◌<◌, ◌≤◌}
use mathlib.Core.Path.{◌≡◌, refl, sym, ◌∙◌}
use mathlib.Core.Logic.{◌≢◌}
use mathlib.Core.Bool.{Bool, true, false}
use mathlib.Core.List.{List, [], ◌∷◌, ◌++◌, map}
use lib.ListN.{length, get_or, set, take, drop, replicate, length-map, get_or-eq_default}
use lib.Seq.{take-nil, sets, sets-eq}
use lib.Dec.{ltb}
use borrow.Author.Tests.{ltb-true, ltb-false}
use native.Mathlib.Nat.{add-zero, add-suc, suc-add, zero-add, sub-zero, zero-sub, suc-sub-suc}
use native.Mathlib.Omega.{arith}

-- of an array of structs a proof is handed the length of what `map` makes of it
pub unmapped : (X Y : Type 0) (f : X → Y) (l : List X) (n : ℕ) → length (map f l) ≡ n → length l ≡ n
unmapped X Y f l n p = sym (length-map l f) ∙ p

-- a list is empty where its length is 0; a blank list holds the blank everywhere, and so does what is behind it
pub length_none {ℓ} : {A : Type ℓ} (xs : List A) → length xs ≡ 0 → xs ≡ []
length_none [] h = refl
length_none (x ∷ xs) h = absurd (omega arith)

pub get_or_blank {ℓ} : {A : Type ℓ} (n i : ℕ) (d : A) → get_or (replicate n d) i d ≡ d
get_or_blank zero zero d = refl
get_or_blank zero (suc i) d = refl
get_or_blank (suc n) zero d = refl
get_or_blank (suc n) (suc i) d = get_or_blank n i d

-- an index where something stands is within its list
pub within : {A : Type 0} (l : List A) (i : ℕ) (blank : A) → get_or l i blank ≢ blank → i < length l
within l i blank h = go (ltb i (length l)) refl
  where
    go : (b : Bool) → ltb i (length l) ≡ b → i < length l
    go true e = ltb-true i (length l) e
    go false e = absurd (h (get_or-eq_default l blank (ltb-false i (length l) e)))

-- what is left of a front
pub drop_take {ℓ} : {A : Type ℓ} (k n : ℕ) (xs : List A) → drop k (take n xs) ≡ take (n - k) (drop k xs)
drop_take zero n xs = rw sub-zero
drop_take (suc k) zero xs = rw zero-sub
drop_take (suc k) (suc n) [] = sym (take-nil (suc n - suc k))
drop_take (suc k) (suc n) (x ∷ xs) = rw suc-sub-suc (drop_take k n xs)

-- sets: one run behind the other; a run at the front
pub sets_append {ℓ} : {A : Type ℓ} (xs : List A) (i : ℕ) (vs ws : List A)
    → sets xs i (vs ++ ws) ≡ sets (sets xs i vs) (i + length vs) ws
sets_append xs i [] ws = rw add-zero
sets_append xs i (v ∷ vs) ws = rw add-suc (sets_append (set xs i v) (suc i) vs ws ∙ rw suc-add refl)

pub sets_front : (d bs : List ℕ) → length bs ≤ length d → sets d 0 bs ≡ bs ++ drop (length bs) d
sets_front d bs h = simp zero-add at (sets-eq bs d 0 (omega arith))
