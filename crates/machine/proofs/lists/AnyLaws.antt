-- Laws of `any_from` and `any_of`: what is said of each number, the loops that ask one after the other, of numbers and
-- of a part of an array, and the library's test. Assumes nothing.
use Prim.Native.Nat.{ℕ, zero, suc, ◌+◌, ◌-◌, ◌≤◌, ◌<◌}
use mathlib.Core.Path.{◌≡◌, refl}
use mathlib.Core.Logic.{◌⊎◌, inl, inr}
use mathlib.Core.Bool.{Bool, true, false, ◌||◌}
use mathlib.Core.List.{List, [], ◌∷◌}
use native.Mathlib.Omega.{arith}
use native.Mathlib.Nat.{eq-or-lt_of_le}
use native.Mathlib.Numerals.{add-one}
use lib.ListN.{length, drop, get_or}
use Rattle.cases.specs.Choice.{either}
use Rattle.cases.proofs.ChoiceLaws.{either_false}
use Rattle.machine.specs.View.{part}
use Rattle.machine.specs.Fit.{any_from, any_of}
use Rattle.machine.proofs.lists.PartLaws.{part_next, part_end}
use Rattle.std.specs.List.{list_any, range_with_len}

-- a test that is true of none of the n numbers from i on is false of each, and back
pub any_none : (f : ℕ → Bool) (i n k : ℕ) → any_from i n f ≡ false → i ≤ k → k < i + n → f k ≡ false
unfolding any_from
any_none f i zero k h a b = absurd (omega arith)
any_none f i (suc n) k h a b = go (eq-or-lt_of_le a) (either_false _ _ h) (any_none f (suc i) n k)
  where
    go : (i ≡ k) ⊎ (i < k) → (f i ≡ false) × (any_from (suc i) n f ≡ false)
        → (any_from (suc i) n f ≡ false → suc i ≤ k → k < suc i + n → f k ≡ false)
        → f k ≡ false
    go (inl e) d next = rw e at d.0
    go (inr l) d next = next d.1 l (omega arith)

pub none_any : (f : ℕ → Bool) (i n : ℕ) → ((k : ℕ) → i ≤ k → k < i + n → f k ≡ false) → any_from i n f ≡ false
unfolding any_from either
none_any f i zero h = refl
none_any f i (suc n) h =
    rw (h i (omega arith) (omega arith)) (none_any f (suc i) n (λ k a b. h k (omega arith) (omega arith)))

-- a loop has asked the first i of n: those still to ask say what all say
pub record AskedSoFar (f : ℕ → Bool) (n i : ℕ) : Type 0 where
  pub far : i ≤ n
  pub rest : any_from i (n - i) f ≡ any_from 0 n f

pub any_start : (f : ℕ → Bool) (n : ℕ) → AskedSoFar f n 0
any_start f n = record { far = omega arith; rest = let e : n - 0 ≡ n = omega arith in rw e }

-- one of which it is false; one of which it is true; all are asked
module _ {f : ℕ → Bool} {n i : ℕ} (o : AskedSoFar f n i) where
  module _ (h : i < n) where
    any_at : either (f i) (any_from (i + 1) (n - (i + 1)) f) ≡ any_from 0 n f
    unfolding any_from
    any_at = let e : n - i ≡ suc (n - suc i) = omega arith in rw add-one (rw e at o.rest)

    pub any_next : f i ≡ false → AskedSoFar f n (i + 1)
    unfolding either
    any_next e = record { far = omega arith; rest = rw e at any_at }

    pub any_here : f i ≡ true → true ≡ any_from 0 n f
    unfolding either
    any_here e = rw e at any_at

  pub any_end : n ≤ i → false ≡ any_from 0 n f
  unfolding any_from
  any_end h = let e : n - i ≡ 0 = omega arith in rw e at o.rest

-- a loop has asked the first i of the n from base on: those still to ask say what all say
pub record AnySoFar {A : Type 0} (f : A → Bool) (xs : List A) (base n i : ℕ) : Type 0 where
  pub within : base + n ≤ length xs
  pub left : any_of f (drop i (part base n xs)) ≡ any_of f (part base n xs)

pub any_of_start : {A : Type 0} (f : A → Bool) (xs : List A) (base n : ℕ) → base + n ≤ length xs
    → AnySoFar f xs base n 0
any_of_start f xs base n h = record { within = h; left = refl }

-- one of which it is false; one of which it is true; all are asked
module _ {A : Type 0} {f : A → Bool} {xs : List A} {base n i : ℕ} (o : AnySoFar f xs base n i) where
  module _ (blank : A) (h : i < n) where
    any_of_at : either (f (get_or xs (base + i) blank)) (any_of f (drop (i + 1) (part base n xs)))
        ≡ any_of f (part base n xs)
    unfolding any_of
    any_of_at = rw (part_next base n i xs blank h o.within) at o.left

    pub any_of_next : f (get_or xs (base + i) blank) ≡ false → AnySoFar f xs base n (i + 1)
    unfolding either
    any_of_next e = record { within = o.within; left = rw e at any_of_at }

    pub any_of_here : f (get_or xs (base + i) blank) ≡ true → true ≡ any_of f (part base n xs)
    unfolding either
    any_of_here e = rw e at any_of_at

  pub any_of_end : n ≤ i → false ≡ any_of f (part base n xs)
  unfolding any_of
  any_of_end h = rw (part_end base n i xs h) at o.left

-- the library's test of the n numbers from i on is `any_from`, that of a list `any_of`
pub any_from_is : (f : ℕ → Bool) (i n : ℕ) → list_any f (range_with_len i n) ≡ any_from i n f
unfolding any_from either
any_from_is f i zero = refl
any_from_is f i (suc n) = rw add-one (go (f i) (any_from_is f (suc i) n))
  where
    go : (b : Bool) → list_any f (range_with_len (suc i) n) ≡ any_from (suc i) n f
        → (b || list_any f (range_with_len (suc i) n)) ≡ either b (any_from (suc i) n f)
    go true e = refl
    go false e = e

pub any_of_is : {A : Type 0} (f : A → Bool) (xs : List A) → list_any f xs ≡ any_of f xs
unfolding any_of either
any_of_is f [] = refl
any_of_is f (x ∷ xs) = go (f x) (any_of_is f xs)
  where
    go : (b : Bool) → list_any f xs ≡ any_of f xs → (b || list_any f xs) ≡ either b (any_of f xs)
    go true e = refl
    go false e = e
