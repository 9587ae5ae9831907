-- Laws of `seek`: over runs behind runs, and under a first step; what it comes to, and what the walk's answer
-- tells of it. Assumes nothing.
use Prim.Native.Nat.{ℕ, zero, suc, ◌+◌}
use mathlib.Core.Path.{◌≡◌, refl, sym, ap}
use mathlib.Core.Bool.{Bool, true, false}
use mathlib.Core.List.{List, [], ◌∷◌, ◌++◌, map}
use lib.ListN.{length, take}
use lib.Dec.{leb, leb-zero, leb-suc-suc, leb-suc-zero}
use native.Mathlib.Omega.{arith}
use Rattle.cases.specs.declared.case.Step.{Step}
use Rattle.search.specs.declared.walk.Walked.TheVariants.{Found, Finished, Stopped}
use Rattle.search.specs.Walk.{Visit, under}
use Rattle.search.specs.Question.{First, found, first_of, Decided, reached, unreachable, undecided}
use Rattle.search.specs.Question.{decided_by, decided}
use Rattle.search.specs.Seek.{Sought, hit, done, used_up, seek, walked_of}

-- where none passed, on with what is left of the budget; the step k before a run that passed
abbrev pub onward : {K : Type 0} → Sought K → (ℕ → Sought K) → Sought K
onward (hit run) f = hit run
onward (done b) f = f b
onward used_up f = used_up

abbrev pub behind_step : {K : Type 0} → K → Sought K → Sought K
behind_step k (hit run) = hit (k ∷ run)
behind_step k (done b) = done b
behind_step k used_up = used_up

module _ {S K : Type 0} (test : S → Bool) where
  pub seek_append : (b : ℕ) (xs ys : List (Visit S K))
      → seek test b (xs ++ ys) ≡ onward (seek test b xs) (λ n. seek test n ys)
  unfolding seek
  seek_append b [] ys = refl
  seek_append zero (x ∷ xs) ys = refl
  seek_append (suc b) (x ∷ xs) ys = go (test x.end) (seek_append b xs ys)
    where
      go : (t : Bool) → seek test b (xs ++ ys) ≡ onward (seek test b xs) (λ n. seek test n ys)
          → elim t as (λ _. Sought K) [ true ↦ hit x.run | false ↦ seek test b (xs ++ ys) ]
          ≡ onward (elim t as (λ _. Sought K) [ true ↦ hit x.run | false ↦ seek test b xs ])
          (λ n. seek test n ys)
      go true e = refl
      go false e = e

  pub seek_under : (b : ℕ) (k : K) (xs : List (Visit S K))
      → seek test b (map (under k) xs) ≡ behind_step k (seek test b xs)
  unfolding seek
  seek_under b k [] = refl
  seek_under zero k (x ∷ xs) = refl
  seek_under (suc b) k (x ∷ xs) = go (test x.end) (seek_under b k xs)
    where
      go : (t : Bool) → seek test b (map (under k) xs) ≡ behind_step k (seek test b xs)
          → elim t as (λ _. Sought K) [ true ↦ hit (k ∷ x.run) | false ↦ seek test b (map (under k) xs) ]
          ≡ behind_step k (elim t as (λ _. Sought K) [ true ↦ hit x.run | false ↦ seek test b xs ])
      go true e = refl
      go false e = e

-- what is found comes to what the definition of the question says
abbrev pub comes_to : {K : Type 0} → Sought K → Decided K
comes_to (hit run) = reached run
comes_to (done b) = unreachable
comes_to used_up = undecided

pub seek_decides : {S K : Type 0} (test : S → Bool) (b : ℕ) (vs : List (Visit S K))
    → comes_to (seek test b vs) ≡ decided test b vs
unfolding seek decided decided_by first_of
seek_decides test zero [] = refl
seek_decides test (suc b) [] = rw (leb-zero (suc b))
seek_decides test zero (v ∷ vs) = rw (leb-suc-zero (length vs))
seek_decides {S} {K} test (suc b) (v ∷ vs) =
    rw (leb-suc-suc (length vs) b) (go (test v.end) (seek_decides test b vs))
  where
    go : (t : Bool) → comes_to (seek test b vs) ≡ decided_by (first_of test (take b vs)) (leb (length vs) b)
        → comes_to {K = K} (elim t as (λ _. Sought K) [ true ↦ hit v.run | false ↦ seek test b vs ])
        ≡ decided_by {K = K}
        (elim t as (λ _. First K) [ true ↦ found v.run | false ↦ first_of test (take b vs) ])
        (leb (length vs) b)
    go true e = refl
    go false e = e

-- what the walk's answer tells of what was sought
module _ (depth : ℕ) where
  pub walked_found : (x : Sought Step) (n : ℕ) → walked_of depth x ≡ Found n
      → (run : List Step) × (x ≡ hit run) × (n ≡ depth + length run)
  unfolding walked_of
  walked_found (hit run) n e = let same : depth + length run ≡ n = cc in (run, refl, sym same)
  walked_found (done b) n e = absurd (let z : ◌≡◌ {A = ℕ} 0 1 = cc in omega arith)
  walked_found used_up n e = absurd (let z : ◌≡◌ {A = ℕ} 0 1 = cc in omega arith)

  pub walked_finished : (x : Sought Step) (m : ℕ) → walked_of depth x ≡ Finished m → x ≡ done m
  unfolding walked_of
  walked_finished (hit run) m e = absurd (let z : ◌≡◌ {A = ℕ} 0 1 = cc in omega arith)
  walked_finished (done b) m e = let same : b ≡ m = cc in ap done same
  walked_finished used_up m e = absurd (let z : ◌≡◌ {A = ℕ} 0 1 = cc in omega arith)

  pub walked_stopped : (x : Sought Step) → walked_of depth x ≡ Stopped → x ≡ used_up
  unfolding walked_of
  walked_stopped (hit run) e = absurd (let z : ◌≡◌ {A = ℕ} 0 1 = cc in omega arith)
  walked_stopped (done b) e = absurd (let z : ◌≡◌ {A = ℕ} 0 1 = cc in omega arith)
  walked_stopped used_up e = refl
