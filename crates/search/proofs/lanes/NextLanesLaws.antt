-- The steps that are not barred over the lanes of a state are the machine's legal steps, in the same order.
-- Assumes nothing.
use Prim.Native.Nat.{ℕ, zero, suc, ◌+◌, ◌-◌, ◌≤◌, ◌<◌}
use mathlib.Core.Path.{◌≡◌, refl, sym, ap, ◌∙◌}
use mathlib.Core.Bool.{Bool, true, false, not}
use mathlib.Core.List.{List, [], ◌∷◌, ◌++◌}
use native.Mathlib.Omega.{arith}
use native.Mathlib.Nat.{zero-add, add-zero}
use lib.Dec.{eqb}
use lib.ListN.{length}
use Rattle.cases.specs.declared.case.Step.{Step}
use Rattle.cases.specs.declared.case.Program.{Program}
use Rattle.cases.specs.Choice.{pick}
use Rattle.cases.specs.Sizes.{most_instructions}
use Rattle.cases.specs.Checks.{lines_of, limits_of, step_fault}
use Rattle.cases.specs.Ranges.{ProgramFits}
use Rattle.cases.proofs.ChoiceLaws.{never_both}
use Rattle.cases.proofs.Promises.{thread_low}
use Rattle.machine.specs.declared.cells.State.{State}
use Rattle.machine.specs.View.{buffer}
use Rattle.machine.specs.Rules.{rule_of}
use Rattle.machine.specs.Model.{allowed, legal_steps, Listed}
use Rattle.machine.specs.Next.{issue_step, move_step, persist_step, steps_from, moves_of, moves_from, candidates}
use Rattle.machine.specs.Ptso.{ptso}
use Rattle.machine.specs.Fit.{Fits}
use Rattle.machine.proofs.Promises.{buffer_long, next_legal, ptso_lawful}
use Rattle.search.specs.Listing.{listing_of}
use Rattle.search.specs.Rows.{row_len}
use Rattle.search.specs.Barred.{issue_barred, move_barred, persist_barred, free_from, free_moves, legal_lanes}
use Rattle.search.proofs.listing.ListingLaws.{listing_threads, listing_lines}
use Rattle.search.proofs.lanes.LookLanesLaws.{laid_of, see_buffer_long}
use Rattle.search.proofs.lanes.RuleLanesLaws.{broken, issue_barred_lem, move_barred_lem, move_beyond}
use Rattle.search.proofs.lanes.RuleLanesLaws.{persist_barred_lem}

-- allowed: of two lists; of steps that all break a rule; of steps of which each is barred where it breaks one, and
-- the d behind them all break one
module _ (rule : Step → ℕ) where
  allowed_append : (ks js : List Step) → allowed rule (ks ++ js) ≡ allowed rule ks ++ allowed rule js
  unfolding allowed
  allowed_append [] js = refl
  allowed_append (k ∷ ks) js = go (eqb (rule k) 0) (allowed_append ks js)
    where
      go : (b : Bool) → allowed rule (ks ++ js) ≡ allowed rule ks ++ allowed rule js
          → pick b (k ∷ allowed rule (ks ++ js)) (allowed rule (ks ++ js))
          ≡ pick b (k ∷ allowed rule ks) (allowed rule ks) ++ allowed rule js
      go true e = unfold pick in ap (λ l. k ∷ l) e
      go false e = unfold pick in e

  module _ (step : ℕ → Step) where
    allowed_none : (i d : ℕ) → ((j : ℕ) → i ≤ j → j < i + d → broken (rule (step j)) ≡ true)
        → allowed rule (steps_from step i d) ≡ []
    unfolding allowed steps_from
    allowed_none i zero h = refl
    allowed_none i (suc d) h =
        go (eqb (rule (step i)) 0) (h i (omega arith) (omega arith))
        (allowed_none (suc i) d (λ j a b. h j (omega arith) (omega arith)))
      where
        go : (b : Bool) → not b ≡ true → allowed rule (steps_from step (suc i) d) ≡ []
            → pick b (step i ∷ allowed rule (steps_from step (suc i) d)) (allowed rule (steps_from step (suc i) d))
            ≡ []
        go true n e = absurd (never_both refl (sym n))
        go false n e = unfold pick in e

    allowed_free : (barred : ℕ → Bool) (i n d : ℕ)
        → ((j : ℕ) → i ≤ j → j < i + n → barred j ≡ broken (rule (step j)))
        → ((j : ℕ) → i + n ≤ j → j < i + n + d → broken (rule (step j)) ≡ true)
        → free_from barred step i n ≡ allowed rule (steps_from step i (n + d))
    unfolding allowed steps_from free_from
    allowed_free barred i zero d h g =
        sym (ap (λ n. allowed rule (steps_from step i n)) (zero-add d)
        ∙ allowed_none i d (λ j a b. g j (omega arith) (omega arith)))
    allowed_free barred i (suc n) d h g =
        let e : suc n + d ≡ suc (n + d) = omega arith in
        ap (λ b. pick b (free_from barred step (suc i) n) (step i ∷ free_from barred step (suc i) n))
        (h i (omega arith) (omega arith))
        ∙ go (eqb (rule (step i)) 0)
        (allowed_free barred (suc i) n d (λ j a b. h j (omega arith) (omega arith))
        (λ j a b. g j (omega arith) (omega arith)))
        ∙ ap (λ n. allowed rule (steps_from step i n)) (sym e)
      where
        go : (b : Bool) → free_from barred step (suc i) n ≡ allowed rule (steps_from step (suc i) (n + d))
            → pick (not b) (free_from barred step (suc i) n) (step i ∷ free_from barred step (suc i) n)
            ≡ pick b (step i ∷ allowed rule (steps_from step (suc i) (n + d)))
            (allowed rule (steps_from step (suc i) (n + d)))
        go true e = unfold pick in ap (λ l. step i ∷ l) e
        go false e = unfold pick in e

    -- none behind them
    allowed_all : (barred : ℕ → Bool) (n : ℕ) → ((j : ℕ) → j < n → barred j ≡ broken (rule (step j)))
        → free_from barred step 0 n ≡ allowed rule (steps_from step 0 n)
    allowed_all barred n h =
        allowed_free barred 0 n 0 (λ j a b. h j (omega arith)) (λ j a b. absurd (omega arith))
        ∙ ap (λ m. allowed rule (steps_from step 0 m)) (add-zero n)

-- A state that fits its program
module _ (p : Program) (s : State) (fit : Fits p s) where
  abbrev c : List ℕ
  c = listing_of p

  abbrev x : List ℕ
  x = laid_of p s

  -- the moves of a thread; of n threads from t on
  moves_of_lem : (t : ℕ) → t < p.threads
      → free_from (move_barred c x t) (move_step t) 0 (row_len c x t) ≡ allowed (rule_of p s) (moves_of t)
  moves_of_lem t low =
      let m = thread_low fit.program low in
      let w = fit.few_waiting t m in
      let n = buffer_long p s fit t m in
      let all : length (buffer s t) + (most_instructions - length (buffer s t)) ≡ most_instructions = omega arith in
      ap (free_from (move_barred c x t) (move_step t) 0) (see_buffer_long p s fit t low ∙ sym n)
      ∙ allowed_free (rule_of p s) (move_step t) (move_barred c x t) 0 (length (buffer s t))
      (most_instructions - length (buffer s t))
      (λ j a b. move_barred_lem p s fit t low j (omega arith))
      (λ j a b. move_beyond p s fit t low j (omega arith))
      ∙ ap (λ m. allowed (rule_of p s) (steps_from (move_step t) 0 m)) all

  moves : (n t : ℕ) → t + n ≤ p.threads → free_moves c x t n ≡ allowed (rule_of p s) (moves_from t n)
  unfolding free_moves moves_from allowed
  moves zero t h = refl
  moves (suc n) t h =
      rw (moves_of_lem t (omega arith), moves n (suc t) (omega arith))
      (sym (allowed_append (rule_of p s) (moves_of t) (moves_from (suc t) n)))

  -- "next steps in the order issue by thread, move by thread then position, persist by location"
  pub legal_is : legal_lanes c x ≡ legal_steps (ptso p) s
  unfolding legal_lanes legal_steps candidates
  legal_is =
      rw (
        listing_threads p,
        listing_lines p,
        allowed_all (rule_of p s) issue_step (issue_barred c x) p.threads (issue_barred_lem p s fit),
        moves p.threads 0 (omega arith),
        allowed_all (rule_of p s) persist_step (persist_barred c x) (lines_of p) (persist_barred_lem p s fit),
      )
      (sym (allowed_append (rule_of p s) (steps_from issue_step 0 p.threads ++ moves_from 0 p.threads)
      (steps_from persist_step 0 (lines_of p))
      ∙ rw (allowed_append (rule_of p s) (steps_from issue_step 0 p.threads) (moves_from 0 p.threads))))

-- a step on that list is faultless and breaks no rule
pub legal_listed : (p : Program) → ProgramFits p → (s : State) (k : Step) → Listed k (legal_steps (ptso p) s)
    → (step_fault (limits_of p) k ≡ 0) × (rule_of p s k ≡ 0)
legal_listed p fits s k = (next_legal (ptso p) (ptso_lawful p fits) s k).0
