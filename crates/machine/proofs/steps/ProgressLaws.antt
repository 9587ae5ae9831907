-- No program wedges the machine: in a state that fits, while there is something to do, some step is legal. What
-- a queue holds may persist; where no queue holds anything, a buffer's first entry may move, and a thread whose
-- buffer is empty may issue. Assumes nothing.
use Prim.Native.Nat.{ℕ, zero, suc, ◌+◌, ◌≤◌, ◌<◌}
use mathlib.Core.Path.{◌≡◌, refl, sym, ap, ◌∙◌}
use mathlib.Core.Logic.{◌⊎◌, inl, inr, ◌≢◌, ⊎_elim}
use mathlib.Core.Bool.{false}
use mathlib.Core.List.{List, []}
use native.Mathlib.Omega.{arith}
use borrow.Author.Tests.{ne_eqb, lt-leb}
use lib.ListN.{length, get_or}
use Rattle.cases.specs.declared.case.Step.{Step}
use Rattle.cases.specs.declared.case.Program.{Program}
use Rattle.cases.specs.Choice.{pick, refuse}
use Rattle.cases.specs.Checks.{limits_of, lines_of, step_fault, count_at}
use Rattle.cases.specs.Sizes.{most_threads, most_locations}
use Rattle.cases.proofs.ChoiceLaws.{pick_cases}
use Rattle.cases.proofs.ArrayLaws.{length_none}
use Rattle.cases.proofs.Promises.{thread_low}
use Rattle.machine.specs.declared.cells.State.{State}
use Rattle.machine.specs.declared.cells.Entry.{Entry}
use Rattle.machine.specs.declared.cells.Entry.TheVariants.{Store, Flush, FlushOpt, Sfence}
use Rattle.std.specs.Prelude.{None}
use Rattle.machine.specs.View.{part, line_of, marks_in, queue, queue_len, buffer_in, buffer, buffer_len}
use Rattle.machine.specs.View.{issued_of}
use Rattle.machine.specs.Parts.{Parts, parts_of}
use Rattle.machine.specs.Look.{marker_among, marker_from, marker_of, marked}
use Rattle.machine.specs.Rules.{barrier_rule, operation_rule, issue_rule, effect_rule, move_rule, persist_rule}
use Rattle.machine.specs.Rules.{rule_in, rule_of}
use Rattle.machine.specs.Fit.{unissued, Fits, Named}
use Rattle.cases.specs.Ranges.{ProgramFits}
use Rattle.machine.specs.Work.{unissued_code, thread_work, work, Unfinished, weigh}
use Rattle.machine.specs.Next.{issue_step, move_step, persist_step}
use Rattle.machine.proofs.lists.SumLaws.{sum_none, some_or_none}
use Rattle.machine.proofs.lists.PartLaws.{lt_or_ge}
use Rattle.machine.proofs.view.LineOfLaws.{few_lines, line_low}
use Rattle.machine.proofs.fit.FitLaws.{fits_queue_long, fits_buffer_long}
use Rattle.machine.proofs.rules.ReadyLaws.{head_named}
use Rattle.machine.proofs.steps.StepFaultLaws.{issue_fault, move_fault, persist_fault}

-- Where no queue holds anything: no marker is found, every entry may take effect, every operation may be issued
-- with an empty buffer
module _ (x : Parts) (none : (q : ℕ) → q < most_locations → get_or x.lengths q 0 ≡ 0) (t : ℕ) where
  empty_none : (k q : ℕ) → q + k ≤ most_locations → marker_from x.marks x.lengths t k q ≡ None
  unfolding marker_from marker_among marks_in part
  empty_none zero q h = refl
  empty_none (suc k) q h = rw (none q (omega arith)) (empty_none k (suc q) (omega arith))

  marked_none : marked x.marks x.lengths t ≡ false
  unfolding marked marker_of
  marked_none = rw (empty_none most_locations 0 (omega arith))

  effect_none : (p : Program) → ProgramFits p → (e : Entry) → Named most_locations e → effect_rule p x t e ≡ 0
  unfolding effect_rule refuse Named
  effect_none p g (Store w) h = refl
  effect_none p g (Flush l) h = rw (none (line_of p l.0) (line_low p g l.0 h))
  effect_none p g (FlushOpt l) h = refl
  effect_none p g Sfence h = rw marked_none

  operation_none : (op : ℕ) → get_or x.waiting t 0 ≡ 0 → operation_rule op x t ≡ 0
  unfolding operation_rule barrier_rule refuse
  operation_none op h = pick_cases (λ n. n ≡ 0) _ _ _ (λ b. rw (h, marked_none)) (λ b. refl)

-- one of n lists is not empty, or each is
abbrev EmptyOrNot : {A : Type 0} → ℕ → (ℕ → List A) → Type 0
EmptyOrNot n f = ((i : ℕ) × (i < n) × (f i ≢ [])) ⊎ ((i : ℕ) → i < n → f i ≡ [])

empty_or_not : {A : Type 0} (n : ℕ) (f : ℕ → List A) → EmptyOrNot n f
empty_or_not n f = go (some_or_none n (λ i. length (f i)))
  where
    go : ((i : ℕ) × (i < n) × (0 < length (f i))) ⊎ ((i : ℕ) → i < n → length (f i) ≡ 0) → EmptyOrNot n f
    go (inl x) = inl (x.0, x.1, (λ e. let h = x.2 in let z = ap length e in omega arith))
    go (inr r) = inr (λ i h. length_none (f i) (r i h))

-- no work is left where nothing is queued, nothing waits and nothing is unissued
work_none : (p : Program) (s : State) → ((q : ℕ) → q < most_locations → queue_len s q ≡ 0)
    → ((t : ℕ) → t < most_threads → buffer_len s t ≡ 0)
    → ((t : ℕ) → t < most_threads → unissued p s t ≡ 0)
    → work p s ≡ 0
unfolding work thread_work unissued_code weigh buffer_in part
work_none p s queues buffers code =
    let a = sum_none most_threads (thread_work p s) (λ t h. rw (buffers t h, code t h)) in
    let b = sum_none most_locations (queue_len s) queues in
    omega arith

module _ (p : Program) (s : State) (f : Fits p s) where
  -- where the program's own are empty, every queue's length is 0, and every buffer's
  queues_none : ((q : ℕ) → q < lines_of p → queue s q ≡ []) → (q : ℕ) → q < most_locations → queue_len s q ≡ 0
  queues_none quiet q low =
      ⊎_elim (λ h. sym (fits_queue_long p s f q low) ∙ ap length (quiet q h)) (f.no_queue q low)
      (lt_or_ge q (lines_of p))

  buffers_none : ((t : ℕ) → t < p.threads → buffer s t ≡ []) → (t : ℕ) → t < most_threads → buffer_len s t ≡ 0
  buffers_none still t low =
      ⊎_elim (λ h. sym (fits_buffer_long p s f t low) ∙ ap length (still t h)) (f.no_buffer t low)
      (lt_or_ge t p.threads)

  -- a queue that holds something: its oldest may persist
  pub persist_legal : (q : ℕ) → q < lines_of p → queue s q ≢ []
      → (step_fault (limits_of p) (persist_step q) ≡ 0) × (rule_of p s (persist_step q) ≡ 0)
  unfolding rule_of rule_in pick persist_rule refuse
  persist_legal q low h =
      let few = few_lines p f.program in
      let n = fits_queue_long p s f q (omega arith) in
      (persist_fault p q low, rw (ne_eqb _ _ (λ e. h (length_none _ (n ∙ e)))))

  -- where every queue is empty any thread's first entry may move, and a thread with an empty buffer may issue
  module _ (quiet : (q : ℕ) → q < lines_of p → queue s q ≡ []) where
    pub move_legal : (t : ℕ) → t < p.threads → buffer s t ≢ []
        → (step_fault (limits_of p) (move_step t 0) ≡ 0) × (rule_of p s (move_step t 0) ≡ 0)
    unfolding rule_of rule_in pick move_rule refuse
    move_legal t low h =
        let few = thread_low f.program low in
        let n = fits_buffer_long p s f t (omega arith) in
        let held : buffer_len s t ≢ 0 = λ e. h (length_none _ (n ∙ e)) in
        let some : 0 < buffer_len s t = omega arith in
        let named = head_named p s f t (omega arith) in (
          move_fault p t 0 low (omega arith),
          rw (lt-leb _ _ some) (effect_none (parts_of s) (queues_none quiet) t p f.program _ named),
        )

    pub issue_legal : (t : ℕ) → t < p.threads → buffer s t ≡ [] → issued_of s t < count_at p t
        → (step_fault (limits_of p) (issue_step t) ≡ 0) × (rule_of p s (issue_step t) ≡ 0)
    unfolding rule_of rule_in pick issue_rule refuse
    issue_legal t low h left =
        let few = thread_low f.program low in
        let n = sym (fits_buffer_long p s f t (omega arith)) ∙ ap length h in (
          issue_fault p t low,
          rw (lt-leb _ _ left) (operation_none (parts_of s) (queues_none quiet) t _ n),
        )

  -- while an instruction is unissued or an entry waits, some step is legal
  pub progress : Unfinished p s → (k : Step) × (step_fault (limits_of p) k ≡ 0) × (rule_of p s k ≡ 0)
  unfolding Unfinished
  progress u = go (empty_or_not (lines_of p) (queue s)) (empty_or_not p.threads (buffer s)) u
    where
      go : EmptyOrNot (lines_of p) (queue s) → EmptyOrNot p.threads (buffer s) → Unfinished p s
          → (k : Step) × (step_fault (limits_of p) k ≡ 0) × (rule_of p s k ≡ 0)
      go (inl x) y u = let k = persist_legal x.0 x.1 x.2 in (persist_step x.0, k.0, k.1)
      go (inr q) (inl x) u = let k = move_legal q x.0 x.1 x.2 in (move_step x.0 0, k.0, k.1)
      go (inr q) (inr b) (inl x) =
          let k = issue_legal q x.0 x.1 (b x.0 x.1) x.2 in
          (issue_step x.0, k.0, k.1)
      go (inr q) (inr b) (inr (inl x)) = absurd (x.2 (b x.0 x.1))
      go (inr q) (inr b) (inr (inr x)) = absurd (x.2 (q x.0 x.1))

  -- an instruction that is not issued is one of a thread that there is
  unissued_there : (t : ℕ) → 0 < unissued p s t → (t < p.threads) × (issued_of s t < count_at p t)
  unfolding unissued
  unissued_there t h =
      let left : issued_of s t < count_at p t = omega arith in
      ((f.program.instructions t (issued_of s t) left).0, left)

  -- work is left only where there is something to do
  pub work_some : 0 < work p s → Unfinished p s
  unfolding Unfinished
  work_some h =
      go (empty_or_not (lines_of p) (queue s)) (empty_or_not p.threads (buffer s))
      (some_or_none most_threads (unissued p s))
    where
      go : EmptyOrNot (lines_of p) (queue s) → EmptyOrNot p.threads (buffer s)
          → ((t : ℕ) × (t < most_threads) × (0 < unissued p s t))
          ⊎ ((t : ℕ) → t < most_threads → unissued p s t ≡ 0)
          → Unfinished p s
      go (inl x) b c = inr (inr x)
      go (inr q) (inl x) c = inr (inl x)
      go (inr q) (inr b) (inl x) = let k = unissued_there x.0 x.2 in inl (x.0, k.0, k.1)
      go (inr q) (inr b) (inr c) =
          let z = work_none p s (queues_none q) (buffers_none b) c in
          absurd (omega arith)
