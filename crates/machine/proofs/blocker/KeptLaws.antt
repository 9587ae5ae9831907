-- What a legal step leaves as it is: an entry that it does not take, what cannot move, and the next instruction of a
-- thread that cannot issue it. Assumes nothing.
use Prim.Native.Nat.{ℕ, ◌<◌}
use mathlib.Core.Path.{◌≡◌, sym, ap, ◌∙◌}
use mathlib.Core.Logic.{inl, inr, ◌≢◌}
use mathlib.Core.List.{[]}
use native.Mathlib.Omega.{arith}
use lib.ListN.{length}
use Rattle.cases.specs.declared.case.Line.{Line}
use Rattle.cases.specs.declared.case.Thread.{Thread}
use Rattle.cases.specs.declared.case.Step.{Step}
use Rattle.cases.specs.declared.case.Program.{Program}
use Rattle.cases.specs.Sizes.{most_threads}
use Rattle.cases.specs.Operations.{issue, move, persist}
use Rattle.cases.specs.Checks.{limits_of, step_fault}
use Rattle.cases.proofs.ChoiceLaws.{otherwise}
use Rattle.cases.proofs.Promises.{thread_low}
use Rattle.machine.specs.declared.cells.State.{State}
use Rattle.machine.specs.declared.cells.Waiting.{Waiting}
use Rattle.machine.specs.declared.cells.Entry.{Entry}
use Rattle.machine.specs.declared.blocker.Blocker.TheVariants.{InBuffer, InQueue, NoEntry}
use Rattle.machine.specs.View.{Slot, queue, buffer, issued_of}
use Rattle.machine.specs.Parts.{parts_of}
use Rattle.machine.specs.Rules.{rule_of, next_of}
use Rattle.machine.specs.Fit.{Fits}
use Rattle.machine.specs.Next.{issue_step, move_step}
use Rattle.machine.specs.Blocker.{entry_line, taken}
use Rattle.machine.specs.InTheWay.{StandsAt, left_by}
use Rattle.machine.proofs.steps.StepFaultLaws.{StepKinds, step_kinds, fault_none}
use Rattle.machine.proofs.steps.StepLaws.{step_fits}
use Rattle.machine.proofs.steps.IssueEffectLaws.{issue_issued_other, issue_buffer_other}
use Rattle.machine.proofs.steps.MoveEffectLaws.{move_within, move_issued, move_buffer_other}
use Rattle.machine.proofs.steps.PersistEffectLaws.{persist_issued, persist_buffer}
use Rattle.machine.proofs.blocker.BrokenLaws.{Barrier, entry_is, queue_low}
use Rattle.machine.proofs.blocker.LeftLaws.{left_buffer, left_queue, left_forward, left_none}
use Rattle.machine.proofs.blocker.LeftStepLaws.{left_buffer_step, left_queue_step}

-- A state that fits its program
module _ (p : Program) (s : State) (fit : Fits p s) where
  -- the line of what a move would take
  pub line_is : (t i : ℕ) (w : Waiting) (e : Entry) → StandsAt (buffer s t) i w → w.entry ≡ e
      → entry_line p (taken (parts_of s) (move_step t i)) ≡ entry_line p e
  line_is t i w e x d =
      ap (entry_line p) (entry_is p s fit t i w x ∙ d)

-- What a legal step leaves as it is, in a state that fits
module _ (p : Program) (s : State) (fit : Fits p s) (j : Step) (good : step_fault (limits_of p) j ≡ 0)
    (legal : rule_of p s j ≡ 0) where
  abbrev next : State
  next = next_of p s j

  pub fits_next : Fits p next
  fits_next = step_fits p s fit j (fault_none p j good) legal

  -- an entry that it does not take
  pub waiting_kept : (t : Thread) (i : ℕ) (w : Waiting) → t.0 < most_threads → StandsAt (buffer s t.0) i w
      → left_by j (InBuffer t i) ≢ NoEntry
      → (n : ℕ) × (left_by j (InBuffer t i) ≡ InBuffer t n) × StandsAt (buffer next t.0) n w
  waiting_kept t i w low x o =
      let n = otherwise (left_buffer j i t) o in
      (n.0, n.1, left_buffer_step p s fit j good legal t i n.0 w low x n.1)

  pub queued_kept : (q : Line) (i : ℕ) (h : Slot) → StandsAt (queue s q.0) i h
      → left_by j (InQueue q i) ≢ NoEntry
      → (n : ℕ) × (left_by j (InQueue q i) ≡ InQueue q n) × StandsAt (queue next q.0) n h
  queued_kept q i h x o =
      let n = otherwise (left_queue j i q) o in
      (n.0, n.1, left_queue_step p s fit j good legal q i n.0 h (queue_low p s fit q.0 i h x) x n.1)

  module _ (t : Thread) (low : t.0 < p.threads) where
    -- one whose own move is illegal
    pub not_taken : (i : ℕ) → rule_of p s (move_step t.0 i) ≢ 0 → left_by j (InBuffer t i) ≢ NoEntry
    not_taken i broken e = go (step_kinds p j good) (left_none j t i e)
      where
        go : StepKinds p j → (j.code ≡ move) × (j.thread.0 ≡ t.0) × (j.position ≡ i) → ⊥
        go (inl (m, there, z)) d = let code : j.code ≡ issue = ap (λ (k : Step). k.code) z in omega arith
        go (inr (inl (m, n, there, z))) d =
            let own : m ≡ t.0 = sym (ap (λ (k : Step). k.thread.0) z) ∙ d.1 in
            let at : n ≡ i = sym (ap (λ (k : Step). k.position) z) ∙ d.2 in
            broken (rw (← own, ← at, ← z) legal)
        go (inr (inr (m, there, z))) d =
            let code : j.code ≡ persist = ap (λ (k : Step). k.code) z in omega arith

    pub first_kept : (w : Waiting) → rule_of p s (move_step t.0 0) ≢ 0 → StandsAt (buffer s t.0) 0 w
        → StandsAt (buffer next t.0) 0 w
    first_kept w broken x =
        let n = waiting_kept t 0 w (thread_low fit.program low) x (not_taken 0 broken) in
        let few = left_forward j t 0 n.0 n.1 in
        let zero : 0 ≡ n.0 = omega arith in
        rw zero n.2

    -- the next instruction of a thread that cannot issue it, and its buffer where it is empty
    module _ (broken : rule_of p s (issue_step t.0) ≢ 0) where
      issued_kept : issued_of next t.0 ≡ issued_of s t.0
      issued_kept = go (step_kinds p j good)
        where
          go : StepKinds p j → issued_of next t.0 ≡ issued_of s t.0
          go (inl (m, there, z)) =
              rw z (issue_issued_other p s fit m there (rw z at legal) t.0
              (λ e. broken (rw (e, ← z) legal)))
          go (inr (inl (m, n, there, z))) = rw z (move_issued p s fit m n there (rw z at legal) t.0)
          go (inr (inr (m, there, z))) = rw z (persist_issued p s fit m there (rw z at legal) t.0)

      pub barrier_kept : Barrier p s t.0 → Barrier p next t.0
      barrier_kept b = rw issued_kept b

      pub empty_kept : buffer s t.0 ≡ [] → buffer next t.0 ≡ []
      empty_kept none = go (step_kinds p j good)
        where
          go : StepKinds p j → buffer next t.0 ≡ []
          go (inl (m, there, z)) =
              rw z (issue_buffer_other p s fit m there (rw z at legal) t.0 (thread_low fit.program low)
              (λ e. broken (rw (e, ← z) legal)) ∙ none)
          go (inr (inl (m, n, there, z))) =
              rw z (move_buffer_other p s fit m n there (rw z at legal) t.0 (thread_low fit.program low)
              apart ∙ none)
            where
              apart : t.0 ≢ m
              apart e =
                  let within = move_within p s fit m n there (rw z at legal) in
                  let long : length (buffer s m) ≡ 0 = ap length (rw e at none) in
                  omega arith
          go (inr (inr (m, there, z))) = rw z (persist_buffer p s fit m there (rw z at legal) t.0 ∙ none)
