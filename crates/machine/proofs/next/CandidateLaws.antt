-- The candidates are exactly the steps that pass the checks 5 and 8; how many there are. Assumes nothing.
use Prim.Native.Nat.{ℕ, zero, suc, ◌+◌, ◌≤◌, ◌<◌, ◌*◌}
use mathlib.Core.Path.{◌≡◌, refl, sym, ap, subst}
use mathlib.Core.Logic.{◌⊎◌, inl, inr}
use mathlib.Core.List.{List, [], ◌∷◌, ◌++◌}
use native.Mathlib.Omega.{arith}
use native.Mathlib.Nat.{eq-or-lt_of_le}
use lib.ListN.{length, length-append}
use Rattle.cases.specs.declared.case.Step.{Step}
use Rattle.cases.specs.declared.case.Program.{Program}
use Rattle.cases.specs.Ranges.{ProgramFits}
use Rattle.cases.specs.Checks.{limits_of, lines_of, step_fault}
use Rattle.cases.specs.Sizes.{most_instructions}
use Rattle.cases.proofs.ChoiceLaws.{pick_cases}
use Rattle.machine.proofs.view.LineOfLaws.{few_lines}
use Rattle.machine.proofs.lists.ListedLaws.{listed_left, listed_right, listed_either}
use Rattle.machine.proofs.steps.StepFaultLaws.{InRange, fault_none, StepKinds, step_kinds, issue_fault}
use Rattle.machine.proofs.steps.StepFaultLaws.{move_fault, persist_fault}
use Rattle.machine.specs.Next.{issue_step, move_step, persist_step, steps_from, moves_from, candidates}
use Rattle.machine.specs.Next.{moves_of}
use Rattle.machine.specs.Model.{Listed, allowed}
use Rattle.machine.specs.Sizes.{most_candidates}

-- A candidate of each kind is listed: one of those that a number tells, a move
listed_step : (step : ℕ → Step) (i m j : ℕ) → i ≤ j → j < i + m → Listed (step j) (steps_from step i m)
unfolding steps_from Listed
listed_step step i zero j h k = absurd (omega arith)
listed_step step i (suc m) j h k = go (eq-or-lt_of_le h) (listed_step step (suc i) m j)
  where
    go : (i ≡ j) ⊎ (i < j) → (suc i ≤ j → j < suc i + m → Listed (step j) (steps_from step (suc i) m))
        → (step j ≡ step i) ⊎ Listed (step j) (steps_from step (suc i) m)
    go (inl e) ih = inl (ap step (sym e))
    go (inr l) ih = inr (ih l (omega arith))

listed_move : (t m i j : ℕ) → t ≤ i → i < t + m → j < most_instructions → Listed (move_step i j) (moves_from t m)
unfolding moves_from
listed_move t zero i j h k l = absurd (omega arith)
listed_move t (suc m) i j h k l = go (eq-or-lt_of_le h) (listed_move (suc t) m i j)
  where
    go : (t ≡ i) ⊎ (t < i)
        → (suc t ≤ i → i < suc t + m → j < most_instructions → Listed (move_step i j) (moves_from (suc t) m))
        → Listed (move_step i j) (moves_of t ++ moves_from (suc t) m)
    go (inl e) ih =
        rw (← e) (listed_left _ _ (moves_from (suc t) m)
        (listed_step (move_step t) 0 most_instructions j (omega arith) (omega arith)))
    go (inr a) ih = listed_right _ (moves_of t) _ (ih a (omega arith) l)

-- every step that passes the checks 5 and 8 is a candidate
pub fault_candidate : (p : Program) (k : Step) → step_fault (limits_of p) k ≡ 0 → Listed k (candidates p)
unfolding candidates
fault_candidate p k h = go (step_kinds p k h)
  where
    go : StepKinds p k
        → Listed k
        (steps_from issue_step 0 p.threads ++ moves_from 0 p.threads ++ steps_from persist_step 0 (lines_of p))
    go (inl x) =
        rw x.2 (listed_left _ _ _ (listed_left _ _ _
        (listed_step issue_step 0 p.threads x.0 (omega arith) (omega arith))))
    go (inr (inl x)) =
        let n = (subst (InRange p) x.3 (fault_none p k h)).low_position refl in
        rw x.3 (listed_left _ _ _ (listed_right _ (steps_from issue_step 0 p.threads) _
        (listed_move 0 p.threads x.0 x.1 (omega arith) (omega arith) n)))
    go (inr (inr x)) =
        rw x.2 (listed_right _ (steps_from issue_step 0 p.threads ++ moves_from 0 p.threads) _
        (listed_step persist_step 0 (lines_of p) x.0 (omega arith) (omega arith)))

-- and every candidate is such a step
module _ (p : Program) where
  -- what holds of every issue of a thread, move of one and persist of a queue that there is, holds of every
  -- candidate
  module _ (P : Step → Type 0) (issue : (t : ℕ) → t < p.threads → P (issue_step t))
      (move : (t i : ℕ) → t < p.threads → i < most_instructions → P (move_step t i))
      (persist : (q : ℕ) → q < lines_of p → P (persist_step q)) where
    steps_all : (step : ℕ → Step) (most : ℕ) → ((j : ℕ) → j < most → P (step j))
        → (k : Step) (i m : ℕ) → i + m ≤ most → Listed k (steps_from step i m) → P k
    unfolding steps_from Listed
    steps_all step most f k i zero h e = absurd e
    steps_all step most f k i (suc m) h (inl e) = subst P (sym e) (f i (omega arith))
    steps_all step most f k i (suc m) h (inr e) = steps_all step most f k (suc i) m (omega arith) e

    moves_all : (k : Step) (t m : ℕ) → t + m ≤ p.threads → Listed k (moves_from t m) → P k
    unfolding moves_from
    moves_all k t zero h e = absurd (unfold Listed in e)
    moves_all k t (suc m) h e =
        go (listed_either k (moves_of t) (moves_from (suc t) m) e) (moves_all k (suc t) m)
      where
        go : Listed k (moves_of t) ⊎ Listed k (moves_from (suc t) m)
            → (suc t + m ≤ p.threads → Listed k (moves_from (suc t) m) → P k)
            → P k
        go (inl a) ih =
            steps_all (move_step t) most_instructions (λ i. move t i (omega arith)) k 0 most_instructions
            (omega arith) a
        go (inr a) ih = ih (omega arith) a

    pub candidates_all : (k : Step) → Listed k (candidates p) → P k
    unfolding candidates
    candidates_all k h =
        go (listed_either k (steps_from issue_step 0 p.threads ++ moves_from 0 p.threads) _ h)
      where
        to : Listed k (steps_from issue_step 0 p.threads) ⊎ Listed k (moves_from 0 p.threads) → P k
        to (inl a) = steps_all issue_step p.threads issue k 0 p.threads (omega arith) a
        to (inr a) = moves_all k 0 p.threads (omega arith) a

        go : Listed k (steps_from issue_step 0 p.threads ++ moves_from 0 p.threads)
            ⊎ Listed k (steps_from persist_step 0 (lines_of p))
            → P k
        go (inl a) = to (listed_either k (steps_from issue_step 0 p.threads) _ a)
        go (inr a) = steps_all persist_step (lines_of p) persist k 0 (lines_of p) (omega arith) a

  pub candidate_fault : (k : Step) → Listed k (candidates p) → step_fault (limits_of p) k ≡ 0
  candidate_fault =
      candidates_all (λ k. step_fault (limits_of p) k ≡ 0) (issue_fault p) (move_fault p) (persist_fault p)

-- how many candidates there are
pub length_steps : (step : ℕ → Step) (i n : ℕ) → length (steps_from step i n) ≡ n
unfolding steps_from
length_steps step i zero = refl
length_steps step i (suc n) = ap suc (length_steps step (suc i) n)

pub length_moves : (t n : ℕ) → length (moves_from t n) ≡ n * most_instructions
unfolding moves_from
length_moves t zero = refl
length_moves t (suc n) =
    let a = length-append (moves_of t) (moves_from (suc t) n) in
    let b = length_steps (move_step t) 0 most_instructions in
    let c = length_moves (suc t) n in
    omega arith

module _ (p : Program) (g : ProgramFits p) where
  pub few_candidates : length (candidates p) ≤ most_candidates
  unfolding candidates
  few_candidates =
      let a = length-append (steps_from issue_step 0 p.threads ++ moves_from 0 p.threads)
      (steps_from persist_step 0 (lines_of p)) in
      let b = length-append (steps_from issue_step 0 p.threads) (moves_from 0 p.threads) in
      let c = length_steps issue_step 0 p.threads in
      let d = length_moves 0 p.threads in
      let e = length_steps persist_step 0 (lines_of p) in
      let f = g.sized.few_threads in
      let h = few_lines p g in
      omega arith

-- so there is for those of them that are legal
few_allowed : (rule : Step → ℕ) (ks : List Step) → length (allowed rule ks) ≤ length ks
unfolding allowed
few_allowed rule [] = omega arith
few_allowed rule (k ∷ ks) =
    let rest = few_allowed rule ks in
    pick_cases (λ (js : List Step). length js ≤ suc (length ks)) _ _ _ (λ h. omega arith) (λ h. omega arith)

pub legal_few : (p : Program) (rule : Step → ℕ) → ProgramFits p → length (allowed rule (candidates p)) ≤ most_candidates
legal_few p rule g =
    let a = few_allowed rule (candidates p) in
    let b = few_candidates p g in
    omega arith
