-- The limit L, and how much of it a walk uses up. Assumes nothing.
use Prim.Native.Nat.{ℕ, suc, zero, ◌+◌, ◌*◌, ◌/◌, ◌≤◌, ◌<◌, min}
use mathlib.Core.Path.{◌≡◌, refl, sym, ap, subst, ◌∙◌}
use mathlib.Core.Logic.{◌⊎◌, inl, inr}
use mathlib.Core.Bool.{Bool, true, false}
use mathlib.Core.List.{List, [], ◌∷◌}
use lib.ListN.{length}
use lib.Dec.{ltb}
use borrow.Author.Tests.{ltb-true, ltb-false}
use native.Mathlib.Omega.{arith}
use Rattle.cases.specs.declared.case.Step.{Step}
use Rattle.cases.proofs.ChoiceLaws.{pick_cases}
use Rattle.search.specs.declared.walk.Walked.{Walked}
use Rattle.search.specs.Sizes.{state_words}
use Rattle.search.specs.Walk.{Visit}
use Rattle.search.specs.Seek.{Sought, hit, done, used_up, seek, walked_of}
use Rattle.search.specs.Remember.{covers_of, states_of}
use Rattle.search.specs.Recall.{WithinLimit, states_walked}
use Rattle.search.proofs.seek.SeekLaws.{comes_to}

-- the smaller of the two
module _ (words b : ℕ) where
  pub covers_min : (n : ℕ) → n ≡ min (words / state_words) b → n ≡ covers_of words b
  unfolding covers_of
  covers_min n e =
      pick_cases (λ m. n ≡ m) (ltb (words / state_words) b) (words / state_words) b
      (λ h. let l = ltb-true (words / state_words) b h in omega arith)
      (λ h. let l = ltb-false (words / state_words) b h in omega arith)

  abbrev Least : ℕ → Type 0
  Least n = (n ≤ b) × (n * state_words ≤ words)

  -- it is no more than the budget, and so much memory there is
  pub covers_least : Least (covers_of words b)
  unfolding covers_of
  covers_least =
      pick_cases Least (ltb (words / state_words) b) (words / state_words) b
      (λ h. let l = ltb-true (words / state_words) b h in (omega arith, omega arith))
      (λ h. let l = ltb-false (words / state_words) b h in (omega arith, omega arith))

  abbrev Limits : ℕ → Type 0
  Limits n = (n ≤ b) × (n * state_words ≤ words) × ((n ≡ b) ⊎ (words < (n + 1) * state_words))

  -- and no larger number is both
  pub covers_exactly : Limits (covers_of words b)
  unfolding covers_of
  covers_exactly =
      pick_cases Limits (ltb (words / state_words) b) (words / state_words) b
      (λ h. let l = ltb-true (words / state_words) b h in (omega arith, omega arith, inr (omega arith)))
      (λ h. let l = ltb-false (words / state_words) b h in (omega arith, omega arith, inl refl))

-- what is sought leaves no more than there was, and where nothing is found just what the runs don't use up
seek_left : {S K : Type 0} (test : S → Bool) (b : ℕ) (vs : List (Visit S K)) (rest : ℕ) → seek test b vs ≡ done rest
    → length vs + rest ≡ b
unfolding seek
seek_left test b [] rest e = let same : b ≡ rest = cc in omega arith
seek_left test zero (v ∷ vs) rest e = absurd (let z : ◌≡◌ {A = ℕ} 0 1 = cc in omega arith)
seek_left {S} {K} test (suc b) (v ∷ vs) rest e = go (test v.end) e (seek_left test b vs rest)
  where
    go : (t : Bool)
        → ◌≡◌ {A = Sought K} (elim t as (λ _. Sought K) [ true ↦ hit v.run | false ↦ seek test b vs ]) (done rest)
        → (seek test b vs ≡ done rest → length vs + rest ≡ b)
        → length (v ∷ vs) + rest ≡ suc b
    go true e f = absurd (let z : ◌≡◌ {A = ℕ} 0 1 = cc in omega arith)
    go false e f = let g = f e in omega arith

module _ {S : Type 0} (test : S → Bool) (limit : ℕ) (vs : List (Visit S Step)) where
  abbrev sought : Sought Step
  sought = seek test limit vs

  pub walked_within : (w : Walked) → w ≡ walked_of 0 sought → WithinLimit limit w
  unfolding walked_of
  walked_within w e = subst (WithinLimit limit) (sym e) (go sought refl)
    where
      go : (x : Sought Step) → sought ≡ x → WithinLimit limit (walked_of 0 x)
      go (hit run) f = tt
      go (done rest) f = let g = seek_left test limit vs rest f in omega arith
      go used_up f = tt

  pub walked_states : (w : Walked) → w ≡ walked_of 0 sought
      → states_walked limit w ≡ states_of (comes_to sought) (length vs)
  unfolding walked_of states_of
  walked_states w e = ap (states_walked limit) e ∙ go sought refl
    where
      go : (x : Sought Step) → sought ≡ x → states_walked limit (walked_of 0 x) ≡ states_of (comes_to x) (length vs)
      go (hit run) f = refl
      go (done rest) f = let g = seek_left test limit vs rest f in omega arith
      go used_up f = refl
