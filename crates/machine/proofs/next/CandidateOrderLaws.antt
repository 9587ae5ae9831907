-- The candidates, and the legal ones among them, stand in 01's order, once each. Assumes nothing.
use Prim.Native.Nat.{ℕ, zero, suc, ◌+◌, ◌*◌, ◌<◌, ◌≤◌}
use mathlib.Core.Path.{◌≡◌, subst}
use mathlib.Core.Logic.{inl, inr}
use mathlib.Core.List.{List, [], ◌∷◌, ◌++◌, append_assoc, append-nil}
use native.Mathlib.Omega.{arith}
use native.Mathlib.Nat.{add-zero}
use Rattle.cases.specs.declared.case.Step.{Step}
use Rattle.cases.specs.declared.case.Program.{Program}
use Rattle.cases.specs.Sizes.{most_instructions}
use Rattle.cases.specs.Checks.{lines_of}
use Rattle.cases.specs.Ranges.{ProgramFits}
use Rattle.machine.specs.Sizes.{kind_ranks}
use Rattle.machine.specs.Next.{issue_step, move_step, persist_step, steps_from, moves_from, candidates, rank_of}
use Rattle.machine.specs.Next.{moves_of}
use Rattle.machine.specs.Model.{Listed, Ascending}

-- each step's rank is above the one before, the first one's at least n
unfoldable Rising : ℕ → List Step → Type 0
Rising n [] = Unit {0}
Rising n (k ∷ ks) = (n ≤ rank_of k) × Rising (suc (rank_of k)) ks

-- so it is below those of all behind it
rising_above : (n : ℕ) (ks : List Step) → Rising n ks → (k : Step) → Listed k ks → n ≤ rank_of k
unfolding Listed Rising
rising_above n [] r k h = absurd h
rising_above n (j ∷ ks) r k (inl e) = rw e r.0
rising_above n (j ∷ ks) r k (inr h) =
    let a = rising_above (suc (rank_of j)) ks r.1 k h in
    let b = r.0 in
    omega arith

rising_ascending : (n : ℕ) (ks : List Step) → Rising n ks → Ascending rank_of ks
unfolding Rising Ascending
rising_ascending n [] r = tt
rising_ascending n (k ∷ ks) r = (
  (λ j h. rising_above (suc (rank_of k)) ks r.1 j h),
  rising_ascending (suc (rank_of k)) ks r.1,
)

rising_low : (n m : ℕ) (ks : List Step) → n ≤ m → Rising m ks → Rising n ks
unfolding Rising
rising_low n m [] h r = tt
rising_low n m (k ∷ ks) h r = (let a = r.0 in omega arith, r.1)

-- steps that a number tells rise with it, and what comes behind them begins above them
rising_steps : (step : ℕ → Step) → ((i : ℕ) → rank_of (step i) < rank_of (step (suc i)))
    → (i m n : ℕ) (rest : List Step) → n ≤ rank_of (step i)
    → Rising (rank_of (step (i + m))) rest
    → Rising n (steps_from step i m ++ rest)
unfolding steps_from Rising
rising_steps step up i zero n rest h r = rising_low n _ rest h (rw (add-zero i) at r)
rising_steps step up i (suc m) n rest h r =
    let e : i + suc m ≡ suc i + m = omega arith in
    (h, rising_steps step up (suc i) m _ rest (up i) (subst (λ k. Rising (rank_of (step k)) rest) e r))

rising_moves : (t m n : ℕ) (rest : List Step) → n ≤ kind_ranks + t * most_instructions
    → Rising (kind_ranks + (t + m) * most_instructions) rest
    → Rising n (moves_from t m ++ rest)
unfolding moves_from rank_of
rising_moves t zero n rest h r = rising_low n _ rest (omega arith) r
rising_moves t (suc m) n rest h r =
    rw (append_assoc (moves_of t))
    (rising_steps (move_step t) (λ i. omega arith) 0 most_instructions n _ (omega arith)
    (rising_moves (suc t) m _ rest (omega arith) (rising_low _ _ rest (omega arith) r)))

candidates_rising : (p : Program) → ProgramFits p → Rising 0 (candidates p)
unfolding candidates rank_of
candidates_rising p g =
    let f = g.sized.few_threads in
    let low = kind_ranks + (0 + p.threads) * most_instructions in
    let persists = rising_steps persist_step (λ q. omega arith) 0 (lines_of p) low [] (omega arith)
    (unfold Rising in tt) in
    rw (append_assoc (steps_from issue_step 0 p.threads))
    (rising_steps issue_step (λ t. omega arith) 0 p.threads 0 _ (omega arith)
    (rising_moves 0 p.threads _ _ (omega arith)
    (subst (Rising low) (append-nil (steps_from persist_step 0 (lines_of p))) persists)))

pub candidates_rise : (p : Program) → ProgramFits p → Ascending rank_of (candidates p)
candidates_rise p g = rising_ascending 0 (candidates p) (candidates_rising p g)
