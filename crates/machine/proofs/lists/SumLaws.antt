-- Laws of `sum_to`, the loops that sum, and the library's sum of a list. Assumes nothing.
use Prim.Native.Nat.{ℕ, zero, suc, ◌+◌, ◌*◌, ◌≤◌, ◌<◌}
use mathlib.Core.Path.{◌≡◌, refl, sym, ◌∙◌}
use mathlib.Core.List.{List, [], ◌∷◌}
use lib.ListN.{length, get_or}
use Rattle.std.specs.List.{sum}
use Rattle.std.proofs.lemmas.List.Sums.{sum_by-cons}
use mathlib.Core.Logic.{◌⊎◌, inl, inr, ◌≢◌, ⊎_elim}
use native.Mathlib.Omega.{arith}
use native.Mathlib.Nat.{eq-or-lt_of_le, le_of_suc-le-suc, eq-zero-or-pos}
use native.Mathlib.Numerals.{add-one}
use Rattle.machine.specs.Fit.{sum_to}

pub sum_same : (n : ℕ) (f g : ℕ → ℕ) → ((k : ℕ) → k < n → f k ≡ g k) → sum_to n f ≡ sum_to n g
unfolding sum_to
sum_same zero f g h = refl
sum_same (suc n) f g h = rw (h n (omega arith), sum_same n f g (λ k l. h k (omega arith)))

-- a sum changes by what one of its terms changes
pub sum_change : (n i : ℕ) (f g : ℕ → ℕ) → i < n → ((k : ℕ) → k < n → k ≢ i → f k ≡ g k)
    → sum_to n f + g i ≡ sum_to n g + f i
unfolding sum_to
sum_change zero i f g l h = omega arith
sum_change (suc n) i f g l h = go (eq-or-lt_of_le (le_of_suc-le-suc l)) (sum_change n i f g)
  where
    go : (i ≡ n) ⊎ (i < n)
        → (i < n → ((k : ℕ) → k < n → k ≢ i → f k ≡ g k) → sum_to n f + g i ≡ sum_to n g + f i)
        → sum_to (suc n) f + g i ≡ sum_to (suc n) g + f i
    go (inl e) ih =
        let r : sum_to n f ≡ sum_to n g = sum_same n f g (λ k w. h k (omega arith) (λ z. omega arith)) in
        rw (e, r) (omega arith)
    go (inr w) ih =
        let r : sum_to n f + g i ≡ sum_to n g + f i = ih w (λ k x y. h k (omega arith) y) in
        let t : f n ≡ g n = h n (omega arith) (λ z. omega arith) in
        omega arith

-- no term is above the sum
pub sum_part : (n k : ℕ) (f : ℕ → ℕ) → k < n → f k ≤ sum_to n f
unfolding sum_to
sum_part zero k f h = omega arith
sum_part (suc n) k f h =
    ⊎_elim (λ e. rw e (omega arith)) (λ l. let i = sum_part n k f l in omega arith)
    (eq-or-lt_of_le (le_of_suc-le-suc h))

-- nothing summed is nothing
pub sum_none : (n : ℕ) (f : ℕ → ℕ) → ((k : ℕ) → k < n → f k ≡ 0) → sum_to n f ≡ 0
unfolding sum_to
sum_none zero f h = refl
sum_none (suc n) f h = rw (h n (omega arith), sum_none n f (λ k l. h k (omega arith)))

-- terms that are each at most m
pub sum_most : (n m : ℕ) (f : ℕ → ℕ) → ((k : ℕ) → k < n → f k ≤ m) → sum_to n f ≤ n * m
unfolding sum_to
sum_most zero m f h = omega arith
sum_most (suc n) m f h =
    let a = h n (omega arith) in
    let b = sum_most n m f (λ k l. h k (omega arith)) in
    omega arith

-- some term is above 0, or each is 0
pub some_or_none : (n : ℕ) (f : ℕ → ℕ)
    → ((i : ℕ) × (i < n) × (0 < f i)) ⊎ ((i : ℕ) → i < n → f i ≡ 0)
some_or_none zero f = inr (λ i h. absurd (omega arith))
some_or_none (suc n) f = go (some_or_none n f) (eq-zero-or-pos (f n))
  where
    go : ((i : ℕ) × (i < n) × (0 < f i)) ⊎ ((i : ℕ) → i < n → f i ≡ 0) → (f n ≡ 0) ⊎ (0 < f n)
        → ((i : ℕ) × (i < suc n) × (0 < f i)) ⊎ ((i : ℕ) → i < suc n → f i ≡ 0)
    go (inl x) z = inl (x.0, (let h = x.1 in omega arith), x.2)
    go (inr r) (inr h) = inl (n, omega arith, h)
    go (inr r) (inl z) = inr (λ i h. ⊎_elim (λ e. rw e z) (r i) (eq-or-lt_of_le (le_of_suc-le-suc h)))

-- the library's sum of a list
sum_front : (n : ℕ) (f : ℕ → ℕ) → sum_to (suc n) f ≡ f 0 + sum_to n (λ i. f (suc i))
unfolding sum_to
sum_front zero f = refl
sum_front (suc n) f = rw (sum_front n f) (omega arith)

sum_list : (xs : List ℕ) → sum xs ≡ sum_to (length xs) (λ i. get_or xs i 0)
unfolding sum_to
sum_list [] = refl
sum_list (x ∷ xs) = sum_by-cons (λ y. y) x xs ∙ rw (sum_list xs) (sym (sum_front (length xs) (λ i. get_or (x ∷ xs) i 0)))

pub sum_counted : (xs : List ℕ) (n : ℕ) → length xs ≡ n → sum xs ≡ sum_to n (λ i. get_or xs i 0)
sum_counted xs n e = rw (← e) (sum_list xs)

-- of bytes
pub sum_bytes : (xs : List ℕ) → ((k : ℕ) → get_or xs k 0 < 256) → sum xs ≤ length xs * 255
sum_bytes xs h =
    rw (sum_list xs) (sum_most (length xs) 255 (λ i. get_or xs i 0) (λ k l. let b = h k in omega arith))

-- a loop has summed the first i of n, each at most m
pub record SummedSoFar (f : ℕ → ℕ) (n m total i : ℕ) : Type 0 where
  pub far : i ≤ n
  pub few : total ≤ i * m
  pub sum : total ≡ sum_to i f

pub sum_start : (f : ℕ → ℕ) (n m : ℕ) → SummedSoFar f n m 0 0
unfolding sum_to
sum_start f n m = record { far = omega arith; few = omega arith; sum = refl }

-- one more; all are summed
module _ {f : ℕ → ℕ} {n m total i : ℕ} (o : SummedSoFar f n m total i) where
  pub sum_next : (x : ℕ) → i < n → x ≡ f i → x ≤ m → SummedSoFar f n m (total + x) (i + 1)
  unfolding sum_to
  sum_next x h e k =
      record {
        far = omega arith;
        few = let w = o.few in omega arith;
        sum = rw add-one (let s = o.sum in omega arith);
      }

  pub sum_end : n ≤ i → total ≡ sum_to n f
  sum_end h = let e : i ≡ n = let w = o.far in omega arith in rw e at o.sum
