-- The start of a run is blank behind its entries, a legal step leaves it so, and so does a run. Assumes
-- nothing.
use Rattle.cases.proofs.ChoiceLaws.{pick_cases}
use Prim.Native.Nat.{ℕ, suc, ◌+◌, ◌*◌, ◌≤◌, ◌<◌}
use mathlib.Core.Path.{◌≡◌, refl, sym, ap}
use mathlib.Core.List.{List, [], ◌∷◌, ◌++◌}
use native.Mathlib.Omega.{arith}
use lib.ListN.{length, length-append}
use Rattle.cases.specs.declared.case.Location.{Location}
use Rattle.cases.specs.declared.case.Register.{Register}
use Rattle.cases.specs.declared.case.Instruction.{Instruction}
use Rattle.cases.specs.declared.case.Step.{Step}
use Rattle.cases.specs.declared.case.Program.{Program}
use Rattle.cases.specs.Choice.{pick}
use Rattle.cases.specs.Sizes.{most_instructions, all_code}
use Rattle.cases.specs.Checks.{lines_of, instruction_at}
use Rattle.cases.proofs.ArrayLaws.{get_or_blank}
use Rattle.cases.proofs.Promises.{thread_low}
use Rattle.cases.specs.Operations.{exchange, compare, first_operation, last_operation}
use Rattle.machine.specs.declared.cells.State.{State}
use Rattle.machine.specs.declared.cells.Entry.{Entry}
use Rattle.machine.specs.declared.cells.Entry.TheVariants.{Store, Flush, FlushOpt, Sfence}
use Rattle.machine.specs.Sizes.{room, all_slots}
use Rattle.machine.specs.View.{Slot, line_of, write_slot, marker_slot, without, queue, queue_len, with_queue}
use Rattle.machine.specs.View.{with_word, blank_waiting, buffer, issued_of}
use Rattle.machine.specs.Parts.{parts_of}
use Rattle.machine.specs.Behind.{BlankBehind}
use Rattle.machine.specs.Look.{queued_word}
use Rattle.machine.specs.Rules.{enqueue, await, issue_rule, entry_of, loaded, fetched}
use Rattle.machine.specs.Rules.{exchanged, matches, compared, performed, issue_of, effect_of, move_rule}
use Rattle.machine.specs.Rules.{move_of, settled, persist_first, persist_of, rule_of, next_of, start_of}
use Rattle.cases.specs.Ranges.{ProgramFits}
use Rattle.machine.specs.Fit.{Fits, Named}
use Rattle.machine.specs.Model.{Leads, Faultless}
use Rattle.machine.specs.Ptso.{ptso}
use Rattle.machine.proofs.lists.PutLaws.{length_without}
use Rattle.machine.proofs.view.SizedLaws.{sized_word}
use Rattle.machine.proofs.view.LineOfLaws.{few_lines, line_there}
use Rattle.machine.proofs.fit.FitLaws.{fits_queue_within, fits_buffer_within, fits_queue_long}
use Rattle.machine.proofs.fit.FitLaws.{fits_buffer_long}
use Rattle.machine.proofs.fit.SpareLaws.{Spare, counted_spare, taken_spare, register_spare}
use Rattle.machine.proofs.fit.StartLaws.{start_fits}
use Rattle.machine.proofs.OperationLaws.{each_operation, of}
use Rattle.machine.proofs.steps.IssueLaws.{issue_left}
use Rattle.machine.proofs.steps.StepFaultLaws.{InRange, fault_none}
use Rattle.machine.proofs.steps.StepLaws.{step_cases, step_fits, move_there, move_named}
use Rattle.machine.proofs.behind.BlankLaws.{blank_queue, blank_buffer, blank_word, blank_register}
use Rattle.machine.proofs.behind.BlankLaws.{blank_issued}

-- the start: everything is blank
pub start_blank : (p : Program) → BlankBehind (start_of p)
unfolding start_of
start_blank p =
    record {
      words_blank = λ q h i a b. get_or_blank {A = ℕ} all_slots (q * room + i) 0;
      marks_blank = λ q h i a b. get_or_blank {A = ℕ} all_slots (q * room + i) 0;
      entries_blank = λ t h i a b. get_or_blank all_code (t * most_instructions + i) blank_waiting;
    }

-- one more at a queue's end, at a buffer's end
module _ (p : Program) (s : State) (t : ℕ) (o : Spare p s t) (blank : BlankBehind s) where
  enqueue_blank : (q : ℕ) → q < lines_of p → (h : Slot) → BlankBehind (enqueue s q h)
  unfolding enqueue
  enqueue_blank q low h =
      let z = few_lines p o.fit.program in
      let n = fits_queue_long p s o.fit q (omega arith) in
      let w = o.queues q (omega arith) in
      let k : length (queue s q ++ (h ∷ [])) ≤ room = simp (length-append, n) (omega arith) in
      blank_queue s o.fit.sized blank q (omega arith) (fits_queue_within p s o.fit q (omega arith))
      (queue s q ++ (h ∷ [])) k

  await_blank : t < p.threads → (e : Entry) → BlankBehind (await s t e)
  unfolding await
  await_blank low e =
      let z = thread_low o.fit.program low in
      let n = fits_buffer_long p s o.fit t (omega arith) in
      let w = o.space in
      let k : length (buffer s t ++ (record { entry = e } ∷ [])) ≤ most_instructions
      = simp (length-append, n) (omega arith) in
      blank_buffer s o.fit.sized blank t (omega arith) (fits_buffer_within p s o.fit t (omega arith))
      (buffer s t ++ (record { entry = e } ∷ [])) k

-- an instruction that is counted already; an entry that is out of its buffer
module _ (p : Program) (s : State) (t : ℕ) (o : Spare p s t) (blank : BlankBehind s)
    (low : t < p.threads) where
  to : (l : ℕ) → l < p.locations → line_of p l < lines_of p
  to = line_there p o.fit.program

  performed_blank : (l : Location) (r : Register) (w : ℕ) → l.0 < p.locations
      → (op : ℕ) → first_operation ≤ op → op ≤ last_operation → BlankBehind (performed p s t (of op l r w))
  unfolding performed pick entry_of loaded fetched exchanged compared
  performed_blank l r w there =
      let swapped = enqueue_blank p _ t (register_spare p s t o r.0 (queued_word p s l.0))
      (blank_register s blank t _ _) (line_of p l.0) (to l.0 there) (write_slot l.0 w) in
      each_operation (λ op. BlankBehind (performed p s t (of op l r w)))
      (await_blank p s t o blank low _)
      (await_blank p s t o blank low _)
      (blank_register s blank t _ _)
      swapped
      (await_blank p s t o blank low _)
      (await_blank p s t o blank low _)
      (await_blank p s t o blank low _)
      blank
      (pick_cases BlankBehind (matches p s t (of compare l r w)) (exchanged p s t (of exchange l r w))
      (fetched p s t (of exchange l r w)) (λ e. swapped) (λ e. blank_register s blank t _ _))

  effect_blank : (e : Entry) → Named p.locations e → BlankBehind (effect_of p s t e)
  unfolding effect_of Named
  effect_blank (Store w) h =
      enqueue_blank p s t o blank _ (to w.location.0 h) (write_slot w.location.0 w.word)
  effect_blank (Flush l) h = blank
  effect_blank (FlushOpt l) h = enqueue_blank p s t o blank _ (to l.0 h) (marker_slot t)
  effect_blank Sfence h = blank

-- Issue, move, persist
module _ (p : Program) (s : State) (f : Fits p s) (blank : BlankBehind s) where
  issue_blank : (t : ℕ) → issue_rule p (parts_of s) t ≡ 0 → BlankBehind (issue_of p s t)
  unfolding issue_of
  issue_blank t legal =
      let left = issue_left p s f t legal in
      let there = f.program.instructions t (issued_of s t) left in
      let x : Instruction = instruction_at p t (issued_of s t) in
      performed_blank p _ t (counted_spare p s f t there.0 left) (blank_issued s blank t _) there.0
      x.location x.register x.word there.1.low_location x.operation there.1.some_operation
      there.1.low_operation

  move_blank : (t i : ℕ) → t < p.threads → move_rule p (parts_of s) t i ≡ 0 → BlankBehind (move_of p s t i)
  unfolding move_of
  move_blank t i low legal =
      let z = thread_low f.program low in
      let there = move_there p s f t i low legal in
      let n = fits_buffer_long p s f t (omega arith) in
      let m = fits_buffer_within p s f t (omega arith) in
      let k = length_without i (buffer s t) (omega arith) in
      effect_blank p _ t (taken_spare p s f t i low there)
      (blank_buffer s f.sized blank t (omega arith) m (without i (buffer s t)) (omega arith)) low _
      (move_named p s f t i low legal)

  -- the oldest entry, the rest
  first_blank : (q : ℕ) → q < lines_of p → (r : List Slot) → queue s q ≡ r → BlankBehind (persist_first s q r)
  unfolding persist_first settled
  first_blank q low [] e = blank
  first_blank q low (h ∷ r) e =
      let z = few_lines p f.program in
      let k : length (queue s q) ≡ suc (length r) = ap length e in
      let n = fits_queue_long p s f q (omega arith) in
      let m : queue_len s q ≤ room = fits_queue_within p s f q (omega arith) in
      let l : ℕ = h.mark in
      let w : ℕ = h.word in
      let same : queue_len (with_word s l w) q ≡ queue_len s q = unfold with_word in refl in
      pick_cases (λ u. BlankBehind (with_queue u q r)) _ _ s
      (λ c. blank_queue (with_word s l w) (sized_word s f.sized l w) (blank_word s blank l w) q (omega arith)
      (omega arith) r (omega arith))
      (λ c. blank_queue s f.sized blank q (omega arith) m r (omega arith))

  persist_blank : (q : ℕ) → q < lines_of p → BlankBehind (persist_of s q)
  unfolding persist_of
  persist_blank q low = first_blank q low (queue s q) refl

  pub step_blank : (k : Step) → InRange p k → rule_of p s k ≡ 0 → BlankBehind (next_of p s k)
  step_blank k =
      step_cases p s k BlankBehind
      (λ c. issue_blank k.thread.0)
      (λ c. move_blank k.thread.0 k.position)
      (λ c low legal. persist_blank k.location.0 low)

-- a run; one from the start
module _ (p : Program) where
  pub leads_blank : (s : State) (ks : List Step) (u : State) → Fits p s → BlankBehind s → Faultless (ptso p) ks
      → Leads (ptso p) s ks u
      → BlankBehind u
  unfolding Leads Faultless
  leads_blank s [] u f b r h = rw (sym h) b
  leads_blank s (k ∷ ks) u f b r h =
      let in_range = fault_none p k r.0 in
      leads_blank (next_of p s k) ks u (step_fits p s f k in_range h.0)
      (step_blank p s f b k in_range h.0) r.1 h.1

  pub run_blank : (ks : List Step) (u : State) → ProgramFits p → Faultless (ptso p) ks
      → Leads (ptso p) (start_of p) ks u
      → BlankBehind u
  run_blank ks u fits = leads_blank (start_of p) ks u (start_fits p fits) (start_blank p)
