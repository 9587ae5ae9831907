-- Laws over any test, sum or list, that machine's room lists has none of. Assumes nothing.
use Prim.Native.Nat.{ℕ, zero, suc, ◌+◌, ◌-◌, ◌≤◌, ◌<◌}
use mathlib.Core.Path.{◌≡◌, refl, sym, ap, ◌∙◌}
use mathlib.Core.Logic.{◌⊎◌, inl, inr}
use mathlib.Core.Bool.{Bool, false}
use mathlib.Core.List.{List, [], ◌∷◌}
use native.Mathlib.Omega.{arith}
use native.Mathlib.Nat.{eq-or-lt_of_le, le_of_suc-le-suc}
use lib.ListN.{length, get_or}
use Rattle.cases.specs.Choice.{either}
use Rattle.machine.specs.Fit.{sum_to, any_from, any_of}
use Rattle.machine.specs.Model.{Listed}
use Rattle.machine.proofs.lists.AnyLaws.{none_any}

-- any_from: tests that agree on each of n numbers; a test that is false of all behind the first n; both
any_agree : (f g : ℕ → Bool) (i n : ℕ) → ((k : ℕ) → i ≤ k → k < i + n → f k ≡ g k)
    → any_from i n f ≡ any_from i n g
unfolding any_from
any_agree f g i zero h = refl
any_agree f g i (suc n) h =
    rw (h i (omega arith) (omega arith), any_agree f g (suc i) n (λ k a b. h k (omega arith) (omega arith)))

any_front : (f : ℕ → Bool) (i n d : ℕ) → ((k : ℕ) → i + n ≤ k → k < i + n + d → f k ≡ false)
    → any_from i (n + d) f ≡ any_from i n f
unfolding any_from
any_front f i zero d h = none_any f i (zero + d) (λ k a b. h k (omega arith) (omega arith))
any_front f i (suc n) d h =
    let e : suc n + d ≡ suc (n + d) = omega arith in
    ap (λ m. any_from i m f) e
    ∙ ap (either (f i)) (any_front f (suc i) n d (λ k a b. h k (omega arith) (omega arith)))

pub any_below : (f g : ℕ → Bool) (n m : ℕ) → n ≤ m → ((k : ℕ) → k < n → f k ≡ g k)
    → ((k : ℕ) → n ≤ k → k < m → g k ≡ false)
    → any_from 0 n f ≡ any_from 0 m g
any_below f g n m h same none =
    any_agree f g 0 n (λ k a b. same k (omega arith))
    ∙ sym (any_front g 0 n (m - n) (λ k a b. none k (omega arith) (omega arith)))
    ∙ ap (λ j. any_from 0 j g) (omega arith)

-- those on a list asked by their number, from k on
pub any_numbered : {A : Type 0} (f : ℕ → Bool) (g : A → Bool) (xs : List A) (d : A) (k : ℕ)
    → ((j : ℕ) → j < length xs → f (k + j) ≡ g (get_or xs j d))
    → any_from k (length xs) f ≡ any_of g xs
unfolding any_from any_of
any_numbered f g [] d k h = refl
any_numbered f g (x ∷ xs) d k h =
    let first : f k ≡ g x = ap f (omega arith) ∙ h 0 (omega arith) in
    rw (first, any_numbered f g xs d (suc k) (λ j l. ap f (omega arith) ∙ h (suc j) (omega arith)))

-- a sum of fewer terms is no greater
pub sum_front : (f : ℕ → ℕ) (i n : ℕ) → i ≤ n → sum_to i f ≤ sum_to n f
unfolding sum_to
sum_front f i zero h = let e : i ≡ 0 = omega arith in rw e (omega arith)
sum_front f i (suc n) h = go (eq-or-lt_of_le h) (sum_front f i n)
  where
    go : (i ≡ suc n) ⊎ (i < suc n) → (i ≤ n → sum_to i f ≤ sum_to n f) → sum_to i f ≤ sum_to (suc n) f
    go (inl e) ih = rw e (omega arith)
    go (inr l) ih = let w = ih (le_of_suc-le-suc l) in omega arith

-- what stands at a position of a list is on it
pub listed_get : {A : Type 0} (xs : List A) (i : ℕ) (d : A) → i < length xs → Listed (get_or xs i d) xs
unfolding Listed
listed_get [] i d h = absurd (omega arith)
listed_get (x ∷ xs) zero d h = inl refl
listed_get (x ∷ xs) (suc i) d h = inr (listed_get xs i d (omega arith))
