-- The last of some instructions that makes a write, and what it fixes. Assumes nothing.
use Prim.Native.Nat.{ℕ, zero, suc, ◌+◌, ◌-◌, ◌≤◌, ◌<◌}
use mathlib.Core.Path.{◌≡◌, refl, sym, ◌∙◌}
use mathlib.Core.Logic.{◌⊎◌, inl, inr, ◌≢◌}
use mathlib.Core.Bool.{Bool, true, false}
use mathlib.Core.List.{[], ◌∷◌}
use native.Mathlib.Omega.{arith}
use native.Mathlib.Nat.{eq-or-lt_of_le, eq-zero-or-pos}
use Rattle.cases.specs.Choice.{pick}
use Rattle.cases.proofs.ChoiceLaws.{never_both}
use Rattle.demands.specs.Writes.{LastOf}
use Rattle.demands.proofs.writes.LastLaws.{last_append, cons_some, append_some}
use Rattle.machine.specs.Joins.{last_or, only_if}
use Rattle.demands.proofs.writes.StoresLaws.{fixes_from}

-- Of the n instructions from the i-th on: none makes a write, by m, or j is the last that does
module _ (m : ℕ → Bool) (f : ℕ → ℕ) where
  pub record NoWriteFrom (i n : ℕ) : Type 0 where
    pub none : (j : ℕ) → i ≤ j → j < i + n → m j ≡ false
    pub nothing : fixes_from m f i n ≡ []

  pub record LastWriteFrom (i n j : ℕ) : Type 0 where
    pub from : i ≤ j
    pub below : j < i + n
    pub writing : m j ≡ true
    pub last : (k : ℕ) → j < k → k < i + n → m k ≡ false
    pub something : fixes_from m f i n ≢ []
    pub word : (w : ℕ) → last_or (fixes_from m f i n) w ≡ f j

  module _ (i n : ℕ) where
    more_none : m i ≡ false → NoWriteFrom (suc i) n → NoWriteFrom i (suc n)
    more_none e o =
        record {
          none = λ j a b. at j b (eq-or-lt_of_le a);
          nothing = unfold fixes_from only_if pick in rw (e, o.nothing) refl;
        }
      where
        at : (j : ℕ) → j < i + suc n → (i ≡ j) ⊎ (i < j) → m j ≡ false
        at j b (inl d) = rw (← d) e
        at j b (inr d) = o.none j d (omega arith)

    more_here : m i ≡ true → NoWriteFrom (suc i) n → LastWriteFrom i (suc n) i
    more_here e o =
        record {
          from = omega arith;
          below = omega arith;
          writing = e;
          last = λ k a b. o.none k a (omega arith);
          something = rw all (cons_some (f i) []);
          word = λ w. unfold last_or in rw all refl;
        }
      where
        all : fixes_from m f i (suc n) ≡ f i ∷ []
        all = unfold fixes_from only_if pick in rw (e, o.nothing) refl

    more_last : (j : ℕ) → LastWriteFrom (suc i) n j → LastWriteFrom i (suc n) j
    unfolding fixes_from
    more_last j o =
        let from = o.from in
        let below = o.below in
        record {
          from = omega arith;
          below = omega arith;
          writing = o.writing;
          last = λ k a b. o.last k a (omega arith);
          something = append_some (only_if (m i) (f i)) _ o.something;
          word = λ w. last_append (only_if (m i) (f i)) _ w ∙ o.word _;
        }

  pub last_or_none : (i n : ℕ) → NoWriteFrom i n ⊎ ((j : ℕ) × LastWriteFrom i n j)
  last_or_none i zero =
      inl (record {
        none = λ j a b. absurd (omega arith);
        nothing = unfold fixes_from in refl;
      })
  last_or_none i (suc n) = go (m i) refl (last_or_none (suc i) n)
    where
      go : (w : Bool) → m i ≡ w
          → NoWriteFrom (suc i) n ⊎ ((j : ℕ) × LastWriteFrom (suc i) n j)
          → NoWriteFrom i (suc n) ⊎ ((j : ℕ) × LastWriteFrom i (suc n) j)
      go w e (inr o) = inr (o.0, more_last i n o.0 o.1)
      go true e (inl o) = inr (i, more_here i n e o)
      go false e (inl o) = inl (more_none i n e o)

  -- of the first n: the last of what comes is what the last write fixes
  module _ (n : ℕ) where
    last_is : (j : ℕ) → LastWriteFrom 0 n j → LastOf m n j
    last_is j o =
        let below = o.below in
        record {
          there = omega arith;
          writing = o.writing;
          last = λ k a b. o.last k (omega arith) (omega arith);
        }

    pub fixes_last : fixes_from m f 0 n ≢ [] → (i : ℕ) × LastOf m n i × (last_or (fixes_from m f 0 n) 0 ≡ f i)
    fixes_last some = go (last_or_none 0 n)
      where
        go : NoWriteFrom 0 n ⊎ ((j : ℕ) × LastWriteFrom 0 n j)
            → (i : ℕ) × LastOf m n i × (last_or (fixes_from m f 0 n) 0 ≡ f i)
        go (inl o) = absurd (some o.nothing)
        go (inr o) = (o.0, last_is o.0 o.1, o.1.word 0)

    pub fixes_none : fixes_from m f 0 n ≡ [] → (i : ℕ) → i < n → m i ≡ false
    fixes_none none = go (last_or_none 0 n)
      where
        go : NoWriteFrom 0 n ⊎ ((j : ℕ) × LastWriteFrom 0 n j) → (i : ℕ) → i < n → m i ≡ false
        go (inl o) i h = o.none i (omega arith) (omega arith)
        go (inr o) i h = absurd (o.1.something none)

    pub none_fixes : ((i : ℕ) → i < n → m i ≡ false) → fixes_from m f 0 n ≡ []
    none_fixes none = go (last_or_none 0 n)
      where
        go : NoWriteFrom 0 n ⊎ ((j : ℕ) × LastWriteFrom 0 n j) → fixes_from m f 0 n ≡ []
        go (inl o) = o.nothing
        go (inr o) = let below = o.1.below in absurd (never_both o.1.writing (none o.0 (omega arith)))

-- what makes a write has a last one that does, and one
module _ (m : ℕ → Bool) (n : ℕ) where
  pub some_last : (i : ℕ) → i < n → m i ≡ true → (j : ℕ) × LastOf m n j
  some_last i low w = go (last_or_none m (λ k. 0) 0 n)
    where
      go : NoWriteFrom m (λ k. 0) 0 n ⊎ ((j : ℕ) × LastWriteFrom m (λ k. 0) 0 n j) → (j : ℕ) × LastOf m n j
      go (inl o) = absurd (never_both w (o.none i (omega arith) (omega arith)))
      go (inr o) = (o.0, last_is m (λ k. 0) n o.0 o.1)

  pub last_one : (i j : ℕ) → LastOf m n i → LastOf m n j → i ≡ j
  last_one i j a b = go (eq-zero-or-pos (j - i)) (eq-zero-or-pos (i - j))
    where
      go : (j - i ≡ 0) ⊎ (0 < j - i) → (i - j ≡ 0) ⊎ (0 < i - j) → i ≡ j
      go (inr h) c = absurd (never_both b.writing (a.last j (omega arith) b.there))
      go (inl h) (inr k) = absurd (never_both a.writing (b.last i (omega arith) a.there))
      go (inl h) (inl k) = omega arith

-- the last of some that are the same below n
pub last_same : (m o : ℕ → Bool) (n i : ℕ) → ((j : ℕ) → j < n → m j ≡ o j) → LastOf m n i → LastOf o n i
last_same m o n i same a =
    record {
      there = a.there;
      writing = sym (same i a.there) ∙ a.writing;
      last = λ j h k. sym (same j k) ∙ a.last j h k;
    }
