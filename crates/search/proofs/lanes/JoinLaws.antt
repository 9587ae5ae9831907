-- Laws of `changed`, and of `join_to` and `each`: what stands one behind the other, taken apart, read and
-- changed.
--   shifted m f   what f says from m on
-- Assumes nothing.
use Prim.Native.Nat.{ℕ, zero, suc, ◌+◌, ◌-◌, ◌*◌, ◌<◌}
use mathlib.Core.Path.{◌≡◌, refl, ◌∙◌, sym}
use mathlib.Core.Logic.{◌≢◌}
use mathlib.Core.List.{List, ◌∷◌, ◌++◌, append-nil, append_assoc}
use native.Mathlib.Nat.{add-zero, add-suc, zero-mul, suc-mul}
use native.Mathlib.Omega.{arith}
use native.Mathlib.Decide.{ℕ_discrete}
use borrow.Author.Tests.{eq-eqb, ne_eqb}
use lib.ListN.{length, get_or, set, length-append}
use lib.Seq.{append_snoc, get_or_at, set_at, get_or-set_same, get_or-set_other}
use Rattle.cases.proofs.ChoiceLaws.{pick_true, pick_false}
use Rattle.machine.specs.Fit.{sum_to}
use Rattle.search.specs.Lanes.{join_to, each, single}
use Rattle.search.proofs.lanes.SeenLaws.{changed}

-- changed: there; elsewhere
pub changed_same : {A : Type 0} (f : ℕ → A) (i : ℕ) (a : A) → changed f i a i ≡ a
unfolding changed
changed_same f i a = pick_true _ _ _ (eq-eqb i i refl)

pub changed_other : {A : Type 0} (f : ℕ → A) (i : ℕ) (a : A) (j : ℕ) → j ≢ i → changed f i a j ≡ f j
unfolding changed
changed_other f i a j h = pick_false _ _ _ (ne_eqb j i h)

-- as `set` has it
pub changed_set : (xs : List ℕ) (j a i : ℕ) → j < length xs
    → changed (λ k. get_or xs k 0) j a i ≡ get_or (set xs j a) i 0
changed_set xs j a i h = go (ℕ_discrete i j)
  where
    go : Dec (i ≡ j) → changed (λ k. get_or xs k 0) j a i ≡ get_or (set xs j a) i 0
    go (yes e) = rw e (changed_same (λ k. get_or xs k 0) j a ∙ sym (get_or-set_same xs j a 0 h))
    go (no e) =
        changed_other (λ k. get_or xs k 0) j a i e ∙ sym (get_or-set_other xs j i a 0 e)

unfoldable pub shifted : {A : Type 0} → ℕ → (ℕ → A) → ℕ → A
shifted m f i = f (m + i)

-- where f and g agree below n, so do what they join to; and the same of numbers
pub join_same : (n : ℕ) (f g : ℕ → List ℕ) → ((i : ℕ) → i < n → f i ≡ g i) → join_to n f ≡ join_to n g
unfolding join_to
join_same zero f g h = refl
join_same (suc n) f g h = rw (h n (omega arith), join_same n f g (λ i l. h i (omega arith)))

pub each_same : (n : ℕ) (f g : ℕ → ℕ) → ((i : ℕ) → i < n → f i ≡ g i) → each n f ≡ each n g
unfolding each single
each_same n f g h = join_same n (single f) (single g) (λ i l. rw (h i l))

-- the first m, and the n behind them; and the same of numbers
pub join_add : (m n : ℕ) (f : ℕ → List ℕ) → join_to (m + n) f ≡ join_to m f ++ join_to n (shifted m f)
unfolding join_to shifted
join_add m zero f = rw (add-zero, append-nil)
join_add m (suc n) f = rw (add-suc, join_add m n f, append_assoc)

pub each_add : (m n : ℕ) (f : ℕ → ℕ) → each (m + n) f ≡ each m f ++ each n (shifted m f)
unfolding each single shifted
each_add m n f = join_add m n (single f)

-- those before number r, that of r, those behind
pub join_split : (n r : ℕ) (f : ℕ → List ℕ) → r < n
    → join_to n f ≡ join_to r f ++ f r ++ join_to (n - suc r) (shifted (suc r) f)
unfolding join_to
join_split n r f h =
    let e : suc r + (n - suc r) ≡ n = omega arith in
    rw e at (join_add (suc r) (n - suc r) f)

-- the same where only that of r is another
pub join_other : (n r : ℕ) (f g : ℕ → List ℕ) → r < n → ((i : ℕ) → i ≢ r → g i ≡ f i)
    → join_to n g ≡ join_to r f ++ g r ++ join_to (n - suc r) (shifted (suc r) f)
unfolding shifted
join_other n r f g h o =
    let before = join_same r g f (λ i l. o i (λ e. omega arith)) in
    let behind =
    join_same (n - suc r) (shifted (suc r) g) (shifted (suc r) f) (λ i l. o (suc r + i) (λ e. omega arith)) in
    join_split n r g h ∙ rw (before, behind)

-- join_to: how many, where each has w
pub length_wide : (w n : ℕ) (f : ℕ → List ℕ) → ((i : ℕ) → length (f i) ≡ w) → length (join_to n f) ≡ n * w
unfolding join_to
length_wide w zero f h = sym (zero-mul w)
length_wide w (suc n) f h =
    let e = length_wide w n f h in
    let d = h n in
    simp length-append (omega (arith, suc-mul n w))

-- each: how many; taken apart where only that of i is another; that of i read; that of i changed
pub length_each : (n : ℕ) (f : ℕ → ℕ) → length (each n f) ≡ n
unfolding each single
length_each n f = let e = length_wide 1 n (single f) (λ i. refl) in omega arith

each_other : (n i : ℕ) (f g : ℕ → ℕ) → i < n → ((j : ℕ) → j ≢ i → g j ≡ f j)
    → each n g ≡ each i f ++ g i ∷ each (n - suc i) (shifted (suc i) f)
unfolding each single shifted
each_other n i f g h o =
    join_other n i (single f) (single g) h (λ j e. rw (o j e))
    ∙ append_snoc (each i f) (g i) (each (n - suc i) (shifted (suc i) f))

pub get_each : (n i : ℕ) (f : ℕ → ℕ) → i < n → get_or (each n f) i 0 ≡ f i
get_each n i f h =
    rw (each_other n i f f h (λ j e. refl))
    (get_or_at (each i f) (f i) (each (n - suc i) (shifted (suc i) f)) 0 i (length_each i f))

pub set_each : (n i : ℕ) (f : ℕ → ℕ) (a : ℕ) → i < n → set (each n f) i a ≡ each n (changed f i a)
set_each n i f a h =
    rw (
      each_other n i f f h (λ j e. refl),
      each_other n i f (changed f i a) h (changed_other f i a),
      changed_same f i a,
    )
    (set_at (each i f) (f i) (each (n - suc i) (shifted (suc i) f)) a i (length_each i f))

-- join_to: how many, where each has two for each of `long`
pub length_join : (n : ℕ) (f : ℕ → List ℕ) (long : ℕ → ℕ)
    → ((i : ℕ) → i < n → length (f i) ≡ 2 * long i)
    → length (join_to n f) ≡ 2 * sum_to n long
unfolding join_to sum_to
length_join zero f long h = refl
length_join (suc n) f long h =
    let e = length_join n f long (λ i l. h i (omega arith)) in
    let d = h n (omega arith) in
    simp length-append (omega arith)
