-- Laws of `each`. Assumes nothing.
use Prim.Native.Nat.{ℕ, zero, suc, ◌+◌, ◌<◌, ◌≤◌}
use mathlib.Core.Path.{◌≡◌, refl}
use mathlib.Core.Logic.{◌≢◌}
use mathlib.Core.List.{List, [], ◌++◌, append-nil}
use mathlib.Core.Bool.{Bool, true, false}
use lib.ListN.{length, length-append}
use lib.Dec.{eqb}
use borrow.Author.Tests.{eqb-true, eqb-false}
use native.Mathlib.Numerals.{add-one}
use native.Mathlib.Omega.{arith}
use Rattle.cases.specs.Seats.{each}

-- the same is said of each number below n
pub each_same : {A : Type 0} (n : ℕ) (f g : ℕ → List A) → ((k : ℕ) → k < n → f k ≡ g k) → each n f ≡ each n g
unfolding each
each_same zero f g h = refl
each_same (suc n) f g h = rw (each_same n f g (λ k m. h k (omega arith)), h n (omega arith))

-- nothing is said of any
pub each_none : {A : Type 0} (n : ℕ) (f : ℕ → List A) → ((k : ℕ) → f k ≡ []) → each n f ≡ []
unfolding each
each_none zero f h = refl
each_none (suc n) f h = rw (each_none n f h, h n)

-- f says what g says and, of the number l, something more, behind all that g says
pub each_more : {A : Type 0} (n l : ℕ) (f g : ℕ → List A) → l < n
    → ((k : ℕ) → k ≢ l → f k ≡ g k)
    → ((k : ℕ) → l ≤ k → g k ≡ [])
    → each n f ≡ each n g ++ f l
unfolding each
each_more zero l f g b e d = absurd (omega arith)
each_more (suc n) l f g b e d = go (eqb n l) refl (λ m. each_more n l f g m e d)
  where
    go : (t : Bool) → eqb n l ≡ t
        → (l < n → each n f ≡ each n g ++ f l)
        → each n f ++ f n ≡ (each n g ++ g n) ++ f l
    go true q r =
        let k : n ≡ l = eqb-true n l q in
        rw (d n (omega arith), append-nil, each_same n f g (λ j m. e j (λ z. omega arith)), k)
    go false q r =
        let k : n ≢ l = eqb-false n l q in
        rw (e n k, d n (omega arith), append-nil, append-nil) (r (omega arith))

-- one number more
pub each_next : {A : Type 0} (f : ℕ → List A) (k : ℕ) → each (k + 1) f ≡ each k f ++ f k
unfolding each
each_next f k = rw (add-one k, each)

-- what is said of k and of the numbers below it is no longer than what is said of all below n
pub each_below : {A : Type 0} (f : ℕ → List A) (k n : ℕ) → k < n
    → length (each k f) + length (f k) ≤ length (each n f)
unfolding each
each_below f k zero h = absurd (omega arith)
each_below f k (suc n) h = go (eqb k n) refl (λ m. each_below f k n m)
  where
    go : (t : Bool) → eqb k n ≡ t → (k < n → length (each k f) + length (f k) ≤ length (each n f))
        → length (each k f) + length (f k) ≤ length (each n f ++ f n)
    go true e below = rw (eqb-true k n e) (simp length-append (omega arith))
    go false e below =
        let other = eqb-false k n e in
        simp length-append (omega (arith, below (omega arith)))

-- how long at most, where each part has a most
unfoldable pub total : ℕ → (ℕ → ℕ) → ℕ
total zero w = 0
total (suc n) w = total n w + w n

pub each_length : {A : Type 0} (n : ℕ) (f : ℕ → List A) (w : ℕ → ℕ)
    → ((k : ℕ) → length (f k) ≤ w k)
    → length (each n f) ≤ total n w
unfolding each total
each_length zero f w h = omega arith
each_length (suc n) f w h = omega (arith, length-append (each n f) (f n), each_length n f w h, h n)
