-- The walk's code over any machine, but for the turns of its loop (WalkTurnLaws): its ways
-- out, and where the loop begins and ends.
--   Lists next ks    the array `next` stands for the steps ks
--   rest_of m n s ks  what is still to walk below the state s: everything that starts with one of the steps ks
--   Left             what the walk of the runs vs leaves
--   Walking          what the loop keeps
-- Assumes nothing.
use Prim.Native.Nat.{ℕ, zero, suc, ◌+◌, ◌-◌, ◌≤◌, ◌<◌}
use mathlib.Core.Path.{◌≡◌, refl, sym, ap, ◌∙◌}
use mathlib.Core.Logic.{◌≢◌}
use mathlib.Core.Bool.{Bool, true, false}
use mathlib.Core.List.{List, [], ◌∷◌}
use lib.ListN.{drop, get_or}
use native.Mathlib.Omega.{arith}
use Rattle.cases.specs.declared.case.Step.{Step}
use Rattle.cases.specs.Seats.{steps_bytes}
use Rattle.cases.specs.Record.{bytes_of}
use Rattle.machine.specs.Sizes.{most_candidates}
use Rattle.search.specs.declared.next.Ranks.{Ranks}
use Rattle.search.specs.declared.walk.Walked.{Walked}
use Rattle.search.specs.declared.walk.Walked.TheVariants.{Found, Finished, Stopped}
use Rattle.search.specs.Barred.{step_at}
use Rattle.search.specs.Walk.{Machine, Visit, starting, walk}
use Rattle.search.specs.Seek.{Sought, hit, done, used_up, seek, walked_of, stored_of}

-- step i is the one of rank i, and the others stand behind it
pub record Lists (next : Ranks) (ks : List Step) : Type 0 where
  pub here : (i : ℕ) → i < next.count → drop i ks ≡ step_at (get_or next.ranks i 0) ∷ drop (i + 1) ks
  pub end : drop next.count ks ≡ []
  pub few : next.count ≤ most_candidates

abbrev pub rest_of : {S : Type 0} → Machine S Step → ℕ → S → List Step → List (Visit S Step)
rest_of m n s ks = starting m (walk m n) s ks

-- what the walk at a depth leaves, as the code has it: its answer and the lent bytes
pub record Left {S : Type 0} (test : S → Bool) (vs : List (Visit S Step)) (b depth : ℕ) (before : List ℕ)
    (r : Walked) (out : List ℕ) : Type 0 where
  pub told : r ≡ walked_of depth (seek test b vs)
  pub stored : out ≡ stored_of depth (seek test b vs) before

module _ {S : Type 0} (test : S → Bool) (b depth : ℕ) (out : List ℕ) where
  -- by what is sought
  pub left_as : (vs : List (Visit S Step)) (x : Sought Step) → seek test b vs ≡ x → (r : Walked) (last : List ℕ)
      → r ≡ walked_of depth x
      → last ≡ stored_of depth x out
      → Left test vs b depth out r last
  left_as vs x e r last f g =
      record {
        told = f ∙ ap (walked_of depth) (sym e);
        stored = g ∙ ap (λ y. stored_of depth y out) (sym e);
      }

  -- no budget is left; the state reaches
  module _ (m : Machine S Step) (n : ℕ) (s : S) where
    pub left_used_up : b ≡ 0 → Left test (walk m (suc n) s) b depth out Stopped out
    unfolding walk seek walked_of stored_of
    left_used_up e =
        left_as (walk m (suc n) s) used_up (ap (λ c. seek test c (walk m (suc n) s)) e) Stopped out refl refl

    pub left_here : b ≢ 0 → (here : Bool) → here ≡ test s → here ≡ true
        → Left test (walk m (suc n) s) b depth out (Found depth) out
    unfolding walk seek walked_of stored_of steps_bytes bytes_of
    left_here some here e t =
        left_as (walk m (suc n) s) (hit []) (go b some) (Found depth) out (ap Found (omega arith)) refl
      where
        go : (c : ℕ) → c ≢ 0 → seek test c (walk m (suc n) s) ≡ hit []
        go zero n = absurd (n refl)
        go (suc c) n = rw (sym e ∙ t, seek)

-- `next` lists the next steps; those from i on are still to be walked, with so much of the budget left, and
-- nothing is stored yet
pub record Walking {S : Type 0} (m : Machine S Step) (n : ℕ) (test : S → Bool) (s : S) (b : ℕ) (next : Ranks)
    (before out : List ℕ) (left i : ℕ) : Type 0 where
  pub list : Lists next (m.nexts s)
  pub within : i ≤ next.count
  pub kept : out ≡ before
  pub same : seek test left (rest_of m n s (drop i (m.nexts s))) ≡ seek test b (walk m (suc n) s)

module _ {S : Type 0} {m : Machine S Step} {n : ℕ} {test : S → Bool} {s : S} {b : ℕ} {next : Ranks} where
  pub walking_start : (out : List ℕ) → Lists next (m.nexts s) → b ≢ 0 → (here : Bool) → here ≡ test s → here ≡ false
      → Walking m n test s b next out out (b - 1) 0
  unfolding walk seek
  walking_start out list some here d t =
      record { list = list; within = omega arith; kept = refl; same = go b some }
    where
      go : (c : ℕ) → c ≢ 0 → seek test (c - 1) (rest_of m n s (m.nexts s)) ≡ seek test c (walk m (suc n) s)
      go zero none = absurd (none refl)
      go (suc c) none = let e : suc c - 1 ≡ c = omega arith in rw (e, sym d ∙ t, seek)

  -- the loop ends
  pub walking_end : {before out : List ℕ} {left i : ℕ}
      → Walking m n test s b next before out left i
      → (depth : ℕ) → next.count ≤ i
      → Left test (walk m (suc n) s) b depth before (Finished left) out
  unfolding starting seek walked_of stored_of
  walking_end {before} {out} {left} {i} o depth h =
      let w = o.within in
      let e : i ≡ next.count = omega arith in
      let none = ap (λ j. drop j (m.nexts s)) e ∙ o.list.end in
      let all = sym o.same ∙ ap (λ ks. seek test left (rest_of m n s ks)) none in
      left_as test b depth before (walk m (suc n) s) (done left) all (Finished left) out refl o.kept
