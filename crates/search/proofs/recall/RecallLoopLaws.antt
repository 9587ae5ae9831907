-- The code of the walk that remembers, over any machine, but for the turns of its loop (RecallTurnLaws): its ways out,
-- and where the loop begins and ends.
--   rest_new m key n met s ks   what is new below the state s, of all that starts with one of the steps ks
--   Recalling                  what the loop keeps: the next steps from position i on are still to be gone through, where
--                              met are the keys met by then
-- Assumes nothing.
use Prim.Native.Nat.{ℕ, zero, suc, ◌-◌, ◌≤◌}
use mathlib.Core.Path.{◌≡◌, refl, sym, ap, ◌∙◌}
use mathlib.Core.Logic.{◌≢◌}
use mathlib.Core.Bool.{Bool, true, false}
use mathlib.Core.List.{List, [], ◌∷◌}
use lib.ListN.{drop}
use native.Mathlib.Omega.{arith}
use Rattle.cases.specs.declared.case.Step.{Step}
use Rattle.cases.specs.Seats.{steps_bytes}
use Rattle.cases.specs.Record.{bytes_of}
use Rattle.search.specs.declared.next.Ranks.{Ranks}
use Rattle.search.specs.declared.walk.Walked.TheVariants.{Found, Finished, Stopped}
use Rattle.search.specs.Walk.{Machine, Visit, here}
use Rattle.search.specs.Seek.{hit, done, used_up, seek, walked_of, stored_of}
use Rattle.search.specs.Remember.{among}
use Rattle.search.specs.Recall.{met_by, starting_new, remembering}
use Rattle.search.proofs.walk.WalkLoopLaws.{Lists, Left, left_as}
use Rattle.search.proofs.recall.FirstsLaws.{met_new}
use Rattle.search.proofs.recall.RecallLaws.{remembering_met, remembering_new}

abbrev pub rest_new : {S : Type 0} → Machine S Step → (S → List ℕ) → ℕ → List (List ℕ) → S → List Step
    → List (Visit S Step)
rest_new m key n met s ks = starting_new m key (remembering m key n) met s ks

module _ {S : Type 0} (m : Machine S Step) (key : S → List ℕ) (n : ℕ) (test : S → Bool) (b depth : ℕ)
    (out : List ℕ) (met : List (List ℕ)) (s : S) where
  abbrev all : List (Visit S Step)
  all = remembering m key (suc n) met s

  -- the state was met before
  module _ (h : among (key s) met ≡ true) where
    pub new_before : Left test all b depth out (Finished b) out
    unfolding seek walked_of stored_of
    new_before =
        left_as test b depth out all (done b) (ap (seek test b) (remembering_met m key n met s h)) (Finished b) out
        refl refl

    pub met_before : met_by key met all ≡ met
    unfolding met_by
    met_before = ap (met_by key met) (remembering_met m key n met s h)

  -- it is new: there is no room for it; it reaches; or it goes on behind it
  module _ (h : among (key s) met ≡ false) where
    pub new_full : b ≡ 0 → Left test all b depth out Stopped out
    unfolding seek walked_of stored_of
    new_full e =
        left_as test b depth out all used_up
        (ap (seek test b) (remembering_new m key n met s h)
        ∙ ap (λ c. seek test c (here s ∷ rest_new m key n (key s ∷ met) s (m.nexts s))) e) Stopped out refl refl

    sought_here : (c : ℕ) → c ≢ 0 → test s ≡ true → (vs : List (Visit S Step)) → seek test c (here s ∷ vs) ≡ hit []
    unfolding seek
    sought_here zero some t vs = absurd (some refl)
    sought_here (suc c) some t vs = rw (t, seek)

    pub new_here : b ≢ 0 → test s ≡ true → Left test all b depth out (Found depth) out
    unfolding walked_of stored_of steps_bytes bytes_of
    new_here some t =
        left_as test b depth out all (hit [])
        (ap (seek test b) (remembering_new m key n met s h) ∙ sought_here b some t _) (Found depth) out
        (ap Found (omega arith)) refl

    sought_behind : (c : ℕ) → c ≢ 0 → test s ≡ false → (vs : List (Visit S Step))
        → seek test c (here s ∷ vs) ≡ seek test (c - 1) vs
    unfolding seek
    sought_behind zero some t vs = absurd (some refl)
    sought_behind (suc c) some t vs = let e : suc c - 1 ≡ c = omega arith in rw (e, t, seek)

    pub new_behind_lem : b ≢ 0 → test s ≡ false
        → seek test b all ≡ seek test (b - 1) (rest_new m key n (key s ∷ met) s (m.nexts s))
    new_behind_lem some t =
        ap (seek test b) (remembering_new m key n met s h) ∙ sought_behind b some t _

    pub met_behind : met_by key met all ≡ met_by key (key s ∷ met) (rest_new m key n (key s ∷ met) s (m.nexts s))
    met_behind = ap (met_by key met) (remembering_new m key n met s h) ∙ met_new key met (here s) _ h

pub record Recalling {S : Type 0} (m : Machine S Step) (key : S → List ℕ) (n : ℕ) (test : S → Bool) (s : S)
    (b : ℕ) (first : List (List ℕ)) (next : Ranks) (before out : List ℕ) (left i : ℕ) (met : List (List ℕ))
    : Type 0 where
  pub list : Lists next (m.nexts s)
  pub within : i ≤ next.count
  pub kept : out ≡ before
  pub same : seek test left (rest_new m key n met s (drop i (m.nexts s)))
      ≡ seek test b (rest_new m key n first s (m.nexts s))
  pub same_met : met_by key met (rest_new m key n met s (drop i (m.nexts s)))
      ≡ met_by key first (rest_new m key n first s (m.nexts s))

module _ {S : Type 0} {m : Machine S Step} {key : S → List ℕ} {n : ℕ} {test : S → Bool} {s : S} {b : ℕ}
    {next : Ranks} where
  -- the loop begins
  pub recalling_start : (first : List (List ℕ)) (out : List ℕ) → Lists next (m.nexts s)
      → Recalling m key n test s b first next out out b 0 first
  recalling_start first out list =
      record { list = list; within = omega arith; kept = refl; same = refl; same_met = refl }

  -- and ends: nothing was found, and these are the keys met
  module _ {first met : List (List ℕ)} {before out : List ℕ} {left i : ℕ}
      (o : Recalling m key n test s b first next before out left i met) (h : next.count ≤ i) where
    none : drop i (m.nexts s) ≡ []
    none =
        let w = o.within in
        let e : i ≡ next.count = omega arith in
        ap (λ j. drop j (m.nexts s)) e ∙ o.list.end

    pub recalling_end : (depth : ℕ)
        → Left test (rest_new m key n first s (m.nexts s)) b depth before (Finished left) out
    unfolding starting_new seek walked_of stored_of
    recalling_end depth =
        left_as test b depth before _ (done left)
        (sym o.same ∙ ap (λ ks. seek test left (rest_new m key n met s ks)) none) (Finished left) out refl
        o.kept

    pub recalling_met : met ≡ met_by key first (rest_new m key n first s (m.nexts s))
    unfolding starting_new met_by
    recalling_met = sym (ap (λ ks. met_by key met (rest_new m key n met s ks)) none) ∙ o.same_met
