-- All entries in queues and buffers and all unissued instructions together: a legal step makes them no more, so that
-- after a legal run they are at most the program's instructions. Assumes nothing.
use Prim.Native.Nat.{ℕ, suc, ◌+◌, ◌≤◌, ◌<◌}
use mathlib.Core.Path.{◌≡◌, refl, sym, ap, ◌∙◌}
use mathlib.Core.Logic.{◌≢◌, ⊎_elim, inl, inr}
use mathlib.Core.Bool.{Bool, true, false}
use mathlib.Core.List.{List, [], ◌∷◌, ◌++◌}
use native.Mathlib.Omega.{arith}
use borrow.Author.Tests.{eq-eqb, ne_eqb}
use lib.Dec.{eqb}
use lib.ListN.{length, length-append}
use Rattle.cases.specs.declared.case.Instruction.{Instruction}
use Rattle.cases.specs.declared.case.Step.{Step}
use Rattle.cases.specs.declared.case.Program.{Program}
use Rattle.cases.specs.Choice.{pick, both, either}
use Rattle.cases.specs.Sizes.{most_threads, most_instructions, most_locations, all_code}
use Rattle.cases.specs.Ranges.{ProgramFits}
use Rattle.cases.specs.Operations.{load, exchange, mfence, compare}
use Rattle.cases.specs.Checks.{limits_of, lines_of, step_fault, count_at, instruction_at}
use Rattle.cases.proofs.ChoiceLaws.{never_both}
use Rattle.cases.proofs.Promises.{thread_low}
use Rattle.machine.specs.declared.cells.State.{State}
use Rattle.machine.specs.declared.cells.Entry.{Entry}
use Rattle.machine.specs.declared.cells.Entry.TheVariants.{Store, Flush, FlushOpt, Sfence}
use Rattle.machine.specs.View.{Slot, line_of, write_slot, queue, queue_len, buffer, buffer_len, issued_of}
use Rattle.machine.specs.Rules.{is_barrier, matches, rule_of, next_of, start_of}
use Rattle.machine.specs.Joins.{joins, swaps, exchanges, enters}
use Rattle.machine.specs.Fit.{sum_to, unissued, due, together, instructions_of, Fits}
use Rattle.machine.specs.Model.{Leads, Faultless}
use Rattle.machine.specs.Next.{issue_step, move_step, persist_step}
use Rattle.machine.specs.Ptso.{ptso}
use Rattle.machine.proofs.lists.PutLaws.{length_without}
use Rattle.machine.proofs.lists.PartLaws.{lt_or_ge}
use Rattle.machine.proofs.lists.SumLaws.{sum_same, sum_change, sum_none, sum_most}
use Rattle.machine.proofs.view.LineOfLaws.{few_lines}
use Rattle.machine.proofs.fit.FitLaws.{fits_queue_long, fits_buffer_long}
use Rattle.machine.proofs.fit.StartLaws.{start_fits, start_queue, start_buffer, start_issued}
use Rattle.machine.proofs.steps.StepFaultLaws.{StepKinds, fault_none, step_kinds}
use Rattle.machine.proofs.steps.StepLaws.{step_fits}
use Rattle.machine.proofs.steps.IssueEffectLaws as IssueEffectLaws
use Rattle.machine.proofs.steps.MoveEffectLaws as MoveEffectLaws
use Rattle.machine.proofs.steps.PersistEffectLaws as PersistEffectLaws

-- one term at most grows, by one
sum_grown : (n l : ℕ) (f g : ℕ → ℕ) → ((k : ℕ) → k < n → g k ≡ f k + pick (eqb l k) 1 0)
    → sum_to n g ≤ suc (sum_to n f)
unfolding pick
sum_grown n l f g h = ⊎_elim here none (lt_or_ge l n)
  where
    other : (k : ℕ) → k < n → k ≢ l → g k ≡ f k
    other k low e = h k low ∙ rw (ne_eqb l k (λ d. e (sym d))) (omega arith)

    here : l < n → sum_to n g ≤ suc (sum_to n f)
    here low =
        let c = sum_change n l g f low other in
        let e : g l ≡ f l + 1 = h l low ∙ rw (eq-eqb l l refl) refl in
        omega arith

    none : n ≤ l → sum_to n g ≤ suc (sum_to n f)
    none far = let e = sum_same n g f (λ k low. other k low (λ d. omega arith)) in omega arith

-- what is put at the end of one queue
length_put : {A : Type 0} (b : Bool) (x : A) → length (pick b (x ∷ []) []) ≡ pick b 1 0
unfolding pick
length_put true x = refl
length_put false x = refl

length_joined : {A : Type 0} (b : Bool) (x : A) → length (pick b [] (x ∷ [])) ≡ pick b 0 1
unfolding pick
length_joined true x = refl
length_joined false x = refl

pick_few : (b : Bool) → pick b 0 1 ≤ 1
unfolding pick
pick_few true = omega arith
pick_few false = omega arith

-- what writes a queue at once is a barrier: of a load, an exchange, a compare that finds its word, an mfence
swaps_barrier : (l x y m z : Bool) → either x (both y m) ≡ true → either l (either x (either y z)) ≡ true
unfolding either both
swaps_barrier true x y m z e = refl
swaps_barrier false true y m z e = refl
swaps_barrier false false true m z e = refl
swaps_barrier false false false m z e = absurd (never_both refl (sym e))

-- From a state that fits to another
module _ (p : Program) (s u : State) (f : Fits p s) (g : Fits p u) where
  -- each queue has so many more
  queues_grown : (r : ℕ → List Slot) → ((q : ℕ) → q < most_locations → queue u q ≡ queue s q ++ r q)
      → (q : ℕ) → q < most_locations → queue_len u q ≡ queue_len s q + length (r q)
  queues_grown r e q low =
      sym (fits_queue_long p u g q low) ∙ ap length (e q low) ∙ length-append (queue s q) (r q)
      ∙ rw (fits_queue_long p s f q low)

  -- none has more; one has
  queues_none : ((q : ℕ) → q < most_locations → queue u q ≡ queue s q ++ [])
      → sum_to most_locations (queue_len u) ≡ sum_to most_locations (queue_len s)
  queues_none e =
      sum_same most_locations (queue_len u) (queue_len s)
      (λ q low. queues_grown (λ q. []) e q low ∙ omega arith)

  queues_one : (l : ℕ) (h : Slot)
      → ((q : ℕ) → q < most_locations → queue u q ≡ queue s q ++ pick (eqb l q) (h ∷ []) [])
      → sum_to most_locations (queue_len u) ≤ suc (sum_to most_locations (queue_len s))
  queues_one l h e =
      sum_grown most_locations l (queue_len s) (queue_len u)
      (λ q low.
      queues_grown (λ q. pick (eqb l q) (h ∷ []) []) e q low
      ∙ ap (λ n. queue_len s q + n) (length_put (eqb l q) h))

  -- the buffers but one are as they were
  buffers_other : (t : ℕ) → t < most_threads
      → ((k : ℕ) → k < most_threads → k ≢ t → buffer u k ≡ buffer s k)
      → sum_to most_threads (buffer_len u) + buffer_len s t ≡ sum_to most_threads (buffer_len s) + buffer_len u t
  buffers_other t low e =
      sum_change most_threads t (buffer_len u) (buffer_len s) low
      (λ k a d.
      sym (fits_buffer_long p u g k a) ∙ ap length (e k a d) ∙ fits_buffer_long p s f k a)

  unissued_kept : ((k : ℕ) → issued_of u k ≡ issued_of s k)
      → sum_to most_threads (unissued p u) ≡ sum_to most_threads (unissued p s)
  unfolding unissued
  unissued_kept e = sum_same most_threads (unissued p u) (unissued p s) (λ k low. rw (e k))

-- Issue
module _ (p : Program) (s : State) (f : Fits p s) (t : ℕ) (low : t < p.threads)
    (legal : rule_of p s (issue_step t) ≡ 0) (g : Fits p (next_of p s (issue_step t))) where
  abbrev after : State
  after = next_of p s (issue_step t)

  abbrev next : Instruction
  next = instruction_at p t (issued_of s t)

  in_range : t < most_threads
  in_range = thread_low f.program low

  fewer : suc (sum_to most_threads (unissued p after)) ≡ sum_to most_threads (unissued p s)
  unfolding unissued
  fewer =
      let c = sum_change most_threads t (unissued p after) (unissued p s) in_range
      (λ k a e. rw (IssueEffectLaws.issue_issued_other p s f t low legal k e)) in
      let e = IssueEffectLaws.issue_issued p s f t low legal in
      let h = IssueEffectLaws.issue_left p s f t low legal in
      omega arith

  -- its buffer has so many more
  own : buffer_len after t ≡ buffer_len s t + length (joins s.registers t next)
  own =
      sym (fits_buffer_long p after g t in_range) ∙ ap length (IssueEffectLaws.issue_buffer p s f t low legal)
      ∙ length-append (buffer s t) _ ∙ rw (fits_buffer_long p s f t in_range)

  -- what joins a buffer and what goes to a queue are one at most: a barrier joins none
  joined : (b : Bool) → either (eqb next.operation load) (is_barrier next.operation) ≡ b
      → length (joins s.registers t next) ≡ pick b 0 1
  unfolding joins
  joined b e = rw e (length_joined b _)

  swapped : (a : Bool) → swaps p s t next ≡ a
      → (q : ℕ) → q < most_locations
      → queue after q ≡ queue s q
      ++ pick (both a (eqb (line_of p next.location.0) q)) (write_slot next.location.0 next.word ∷ []) []
  unfolding exchanges
  swapped a e q there = rw (sym e) (IssueEffectLaws.issue_queue p s f t low legal q there)

  barrier : swaps p s t next ≡ true → either (eqb next.operation load) (is_barrier next.operation) ≡ true
  unfolding swaps is_barrier
  barrier =
      swaps_barrier (eqb next.operation load) (eqb next.operation exchange)
      (eqb next.operation compare) (matches p s t next) (eqb next.operation mfence)

  added : (a : Bool) → swaps p s t next ≡ a
      → sum_to most_threads (buffer_len after) + sum_to most_locations (queue_len after)
      ≤ suc (sum_to most_threads (buffer_len s) + sum_to most_locations (queue_len s))
  unfolding both pick
  added true e =
      let q = queues_one p s after f g (line_of p next.location.0) _ (swapped true e) in
      let j = joined true (barrier e) in
      let o = own in
      let b = buffers_other p s after f g t in_range (IssueEffectLaws.issue_buffer_other p s f t low legal) in
      omega arith
  added false e =
      let q = queues_none p s after f g (swapped false e) in
      let j = joined (either (eqb next.operation load) (is_barrier next.operation)) refl in
      let m = pick_few (either (eqb next.operation load) (is_barrier next.operation)) in
      let o = own in
      let b = buffers_other p s after f g t in_range (IssueEffectLaws.issue_buffer_other p s f t low legal) in
      omega arith

  pub issue_together : together p after ≤ together p s
  unfolding together due
  issue_together = let a = added (swaps p s t next) refl in let b = fewer in omega arith

-- Move
module _ (p : Program) (s : State) (f : Fits p s) (t i : ℕ) (low : t < p.threads)
    (legal : rule_of p s (move_step t i) ≡ 0) (g : Fits p (next_of p s (move_step t i))) where
  -- it leaves its buffer, and goes to one queue at most
  entered : (e : Entry)
      → ((q : ℕ) → q < most_locations → queue (next_of p s (move_step t i)) q ≡ queue s q ++ enters p t q e)
      → sum_to most_locations (queue_len (next_of p s (move_step t i))) ≤ suc (sum_to most_locations (queue_len s))
  unfolding enters
  entered (Store w) h = queues_one p s _ f g (line_of p w.location.0) _ h
  entered (Flush l) h = let e = queues_none p s _ f g h in omega arith
  entered (FlushOpt l) h = queues_one p s _ f g (line_of p l.0) _ h
  entered Sfence h = let e = queues_none p s _ f g h in omega arith

  pub move_together : together p (next_of p s (move_step t i)) ≤ together p s
  unfolding together due
  move_together =
      let in_range = thread_low f.program low in
      let q = entered _ (MoveEffectLaws.move_queue p s f t i low legal) in
      let b = buffers_other p s _ f g t in_range (MoveEffectLaws.move_buffer_other p s f t i low legal) in
      let n = length_without i (buffer s t) (MoveEffectLaws.move_within p s f t i low legal) in
      let m = ap length (MoveEffectLaws.move_buffer p s f t i low legal) in
      let x = fits_buffer_long p s f t in_range in
      let y = fits_buffer_long p (next_of p s (move_step t i)) g t in_range in
      let u = unissued_kept p s _ f g (MoveEffectLaws.move_issued p s f t i low legal) in
      omega arith

-- Persist
module _ (p : Program) (s : State) (f : Fits p s) (q : ℕ) (low : q < lines_of p)
    (legal : rule_of p s (persist_step q) ≡ 0) (g : Fits p (next_of p s (persist_step q))) where
  pub persist_together : together p (next_of p s (persist_step q)) ≤ together p s
  unfolding together due
  persist_together =
      let z = few_lines p f.program in
      let in_range : q < most_locations = omega arith in
      let c = sum_change most_locations q (queue_len (next_of p s (persist_step q))) (queue_len s) in_range
      (λ k a e.
      sym (fits_queue_long p (next_of p s (persist_step q)) g k a)
      ∙ ap length (PersistEffectLaws.persist_queue_other p s f q low legal k a e) ∙ fits_queue_long p s f k a) in
      let n = ap length (PersistEffectLaws.persist_queue p s f q low legal).1 in
      let x = fits_queue_long p s f q in_range in
      let y = fits_queue_long p (next_of p s (persist_step q)) g q in_range in
      let b = sum_same most_threads (buffer_len (next_of p s (persist_step q))) (buffer_len s)
      (λ k a.
      sym (fits_buffer_long p (next_of p s (persist_step q)) g k a)
      ∙ ap length (PersistEffectLaws.persist_buffer p s f q low legal k) ∙ fits_buffer_long p s f k a) in
      let u = unissued_kept p s _ f g (PersistEffectLaws.persist_issued p s f q low legal) in
      omega arith

-- A legal step, a legal run
pub step_together : (p : Program) (s : State) → Fits p s → (k : Step) → step_fault (limits_of p) k ≡ 0
    → rule_of p s k ≡ 0
    → together p (next_of p s k) ≤ together p s
step_together p s f k faultless legal =
    go (step_kinds p k faultless) legal (step_fits p s f k (fault_none p k faultless) legal)
  where
    go : StepKinds p k → rule_of p s k ≡ 0 → Fits p (next_of p s k) → together p (next_of p s k) ≤ together p s
    go (inl (t, low, e)) h g = rw e (issue_together p s f t low (rw e at h) (rw e at g))
    go (inr (inl (t, i, low, e))) h g = rw e (move_together p s f t i low (rw e at h) (rw e at g))
    go (inr (inr (q, low, e))) h g = rw e (persist_together p s f q low (rw e at h) (rw e at g))

pub leads_together : (p : Program) (s : State) (ks : List Step) (u : State) → Fits p s → Faultless (ptso p) ks
    → Leads (ptso p) s ks u
    → together p u ≤ together p s
unfolding Leads Faultless
leads_together p s [] u f r h = rw h (omega arith)
leads_together p s (k ∷ ks) u f r h =
    let one = step_together p s f k r.0 h.0 in
    let rest = leads_together p (next_of p s k) ks u (step_fits p s f k (fault_none p k r.0) h.0) r.1 h.1 in
    omega arith

-- at the start they are the program's instructions, as many as there is room for at most
module _ (p : Program) (fits : ProgramFits p) where
  pub start_together : together p (start_of p) ≡ instructions_of p
  unfolding together due instructions_of
  start_together =
      let f = start_fits p fits in
      let q = sum_none most_locations (queue_len (start_of p))
      (λ k low. sym (fits_queue_long p (start_of p) f k low) ∙ ap length (start_queue p k)) in
      let b = sum_none most_threads (buffer_len (start_of p))
      (λ k low. sym (fits_buffer_long p (start_of p) f k low) ∙ ap length (start_buffer p k)) in
      let u = sum_same most_threads (unissued p (start_of p)) (count_at p) (λ k low. unissued_start k) in
      omega arith
    where
      unissued_start : (k : ℕ) → unissued p (start_of p) k ≡ count_at p k
      unissued_start k = unfold unissued in rw (start_issued p k) (omega arith)

  pub instructions_most : instructions_of p ≤ all_code
  unfolding instructions_of
  instructions_most =
      sum_most most_threads most_instructions (count_at p) (λ k low. fits.sized.few_instructions k)
