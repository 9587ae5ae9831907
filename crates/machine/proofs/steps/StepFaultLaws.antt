-- What a step that passes the checks 5 and 8 names, and of which kind it is. Assumes nothing.
use Prim.Native.Nat.{ℕ, ◌≤◌, ◌<◌}
use mathlib.Core.Path.{◌≡◌, refl}
use mathlib.Core.Logic.{◌⊎◌, inl, inr, ◌≢◌}
use mathlib.Core.Bool.{Bool, true, false}
use native.Mathlib.Omega.{arith}
use borrow.Author.Tests.{leb-false, ltb-false, eqb-true, eqb-false, le-leb, lt-leb, eq-eqb, ne_eqb, not-false}
use lib.Dec.{eqb}
use Rattle.cases.specs.declared.case.Step.{Step}
use Rattle.cases.specs.declared.case.Program.{Program}
use Rattle.cases.specs.Choice.{both, either, refuse}
use Rattle.cases.specs.Checks.{limits_of, lines_of, step_fault, step_out, step_left, beyond, left_over}
use Rattle.cases.specs.Sizes.{most_instructions}
use Rattle.cases.proofs.ChoiceLaws.{refuse_none, either_false}
use Rattle.cases.specs.Operations.{issue, move, persist, last_code}
use Rattle.machine.specs.Next.{issue_step, move_step, persist_step}

-- what a step that passes the checks 5 and 8 uses is there, and what it doesn't use is 0
pub record InRange (p : Program) (k : Step) : Type 0 where
  pub low_code : k.code ≤ last_code
  pub low_thread : k.code ≤ 1 → k.thread.0 < p.threads
  pub low_position : k.code ≡ move → k.position < most_instructions
  pub low_location : k.code ≡ persist → k.location.0 < lines_of p
  pub no_thread : 2 ≤ k.code → k.thread.0 ≡ 0
  pub no_position : k.code ≢ 1 → k.position ≡ 0
  pub no_location : k.code ≢ 2 → k.location.0 ≡ 0

used_low : (x limit : ℕ) (used : Bool) → beyond used x limit ≡ false → used ≡ true → x < limit
unfolding beyond both
used_low x limit used h e = leb-false _ _ (rw e at h)

unused_none : (x : ℕ) (used : Bool) → left_over used x ≡ false → used ≡ false → x ≡ 0
unfolding left_over both
unused_none x used h e = eqb-true _ _ (not-false _ (rw e at h))

pub fault_none : (p : Program) (k : Step) → step_fault (limits_of p) k ≡ 0 → InRange p k
unfolding step_fault step_out step_left lines_of
fault_none p k h =
    let chain = refuse_none _ 4 _ h in
    let code = either_false _ _ chain.0 in
    let thread = either_false _ _ code.1 in
    let position = either_false _ _ thread.1 in
    let left = either_false _ _ (refuse_none _ 7 _ chain.1).0 in
    let last = either_false _ _ left.1 in
    record {
      low_code = ltb-false _ _ code.0;
      low_thread = λ e. used_low _ _ _ thread.0 (le-leb _ _ e);
      low_position = λ e. used_low _ _ _ position.0 (eq-eqb _ _ e);
      low_location = λ e. used_low _ _ _ position.1 (eq-eqb _ _ e);
      no_thread = λ e. unused_none _ _ left.0 (lt-leb _ _ e);
      no_position = λ e. unused_none _ _ last.0 (ne_eqb _ _ e);
      no_location = λ e. unused_none _ _ last.1 (ne_eqb _ _ e);
    }

-- such a step of each code is made of what it names
module _ (p : Program) (k : Step) (r : InRange p k) where
  issue_is : k.code ≡ issue → k ≡ issue_step k.thread.0
  issue_is code =
      let position = r.no_position (λ z. omega arith) in
      let location = r.no_location (λ z. omega arith) in
      λ i. record {
        thread = k.thread;
        code = code i;
        position = position i;
        location = record { 0 = location i };
      }

  move_is : k.code ≡ move → k ≡ move_step k.thread.0 k.position
  move_is code =
      let location = r.no_location (λ z. omega arith) in
      λ i. record {
        thread = k.thread;
        code = code i;
        position = k.position;
        location = record { 0 = location i };
      }

  persist_is : k.code ≡ persist → k ≡ persist_step k.location.0
  persist_is code =
      let thread = r.no_thread (omega arith) in
      let position = r.no_position (λ z. omega arith) in
      λ i. record {
        thread = record { 0 = thread i };
        code = code i;
        position = position i;
        location = k.location;
      }

-- and so it is the issue or a move of a thread that there is, or the persist of a queue that there is
abbrev pub StepKinds : Program → Step → Type 0
StepKinds p k =
    ((t : ℕ) × (t < p.threads) × (k ≡ issue_step t))
    ⊎ ((t : ℕ) × (i : ℕ) × (t < p.threads) × (k ≡ move_step t i))
    ⊎ ((q : ℕ) × (q < lines_of p) × (k ≡ persist_step q))

pub step_kinds : (p : Program) (k : Step) → step_fault (limits_of p) k ≡ 0 → StepKinds p k
step_kinds p k h = go (eqb k.code issue) refl (eqb k.code move) refl (fault_none p k h)
  where
    go : (a : Bool) → eqb k.code issue ≡ a → (b : Bool) → eqb k.code move ≡ b → InRange p k
        → StepKinds p k
    go true e b g r =
        let code : k.code ≡ issue = eqb-true _ _ e in
        inl (k.thread.0, r.low_thread (omega arith), issue_is p k r code)
    go false e true g r =
        let code : k.code ≡ move = eqb-true _ _ g in
        inr (inl (k.thread.0, k.position, r.low_thread (omega arith), move_is p k r code))
    go false e false g r =
        let c : k.code ≢ 0 = eqb-false _ _ e in
        let d : k.code ≢ 1 = eqb-false _ _ g in
        let m = r.low_code in
        let code : k.code ≡ persist = omega arith in
        inr (inr (k.location.0, r.low_location code, persist_is p k r code))

-- an issue of a thread that there is passes them, and so does a move of one and a persist of a queue
module _ (p : Program) where
  pub issue_fault : (t : ℕ) → t < p.threads → step_fault (limits_of p) (issue_step t) ≡ 0
  unfolding step_fault step_out step_left beyond left_over both either refuse
  issue_fault t h = rw (lt-leb _ _ h)

  pub move_fault : (t i : ℕ) → t < p.threads → i < most_instructions
      → step_fault (limits_of p) (move_step t i) ≡ 0
  unfolding step_fault step_out step_left beyond left_over both either refuse
  move_fault t i h k = rw (lt-leb _ _ h, lt-leb _ _ k)

  pub persist_fault : (q : ℕ) → q < lines_of p → step_fault (limits_of p) (persist_step q) ≡ 0
  unfolding step_fault step_out step_left beyond left_over both either refuse
  persist_fault q h = rw (lt-leb _ _ h)
