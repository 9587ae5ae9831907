-- What the functions of one kind of step ask for, of a state that fits and a step that 5 and 8 have nothing
-- against. Assumes nothing.
use Prim.Native.Nat.{ℕ, ◌≤◌, ◌<◌}
use mathlib.Core.Path.{◌≡◌, sym, ◌∙◌}
use mathlib.Core.Logic.{◌≢◌}
use native.Mathlib.Omega.{arith}
use borrow.Author.Tests.{eq-eqb, ne_eqb}
use mathlib.Core.List.{List, [], ◌∷◌}
use Rattle.cases.specs.declared.case.Step.{Step}
use Rattle.cases.specs.declared.case.Program.{Program}
use Rattle.cases.specs.Checks.{limits_of, step_fault, count_at, instruction_at}
use Rattle.cases.specs.Sizes.{most_threads, most_instructions, most_locations}
use Rattle.cases.proofs.ChoiceLaws.{pick_true, pick_false}
use Rattle.cases.proofs.Promises.{thread_low}
use Rattle.cases.specs.Operations.{issue, move}
use Rattle.machine.specs.declared.cells.State.{State}
use Rattle.machine.specs.declared.cells.Waiting.{Waiting}
use Rattle.machine.specs.declared.cells.Entry.{Entry}
use Rattle.machine.specs.declared.cells.Entry.TheVariants.{Store, Flush, FlushOpt, Sfence}
use Rattle.machine.specs.Sizes.{room}
use Rattle.machine.specs.View.{queue_len, buffer, buffer_len, issued_of}
use Rattle.machine.specs.Parts.{parts_of}
use Rattle.machine.specs.Rules.{issue_rule, move_rule, persist_rule, rule_in, rule_of, entry_at}
use Rattle.cases.specs.Ranges.{ProgramFits}
use Rattle.machine.specs.Fit.{Fits, Issuable, Named, Roomy, unissued, due, AllOf, NamedBy}
use Rattle.machine.proofs.lists.SumLaws.{sum_part}
use Rattle.machine.proofs.view.LineOfLaws.{few_lines, line_low}
use Rattle.machine.proofs.fit.FitLaws.{fits_queue_within, fits_buffer_within}
use Rattle.machine.proofs.steps.StepFaultLaws.{fault_none}
use Rattle.machine.proofs.steps.IssueLaws.{issue_left}
use Rattle.machine.proofs.steps.StepLaws.{move_there, move_named, persist_there}

-- what names one of a program's locations names one of those that there may be
named_low : (n : ℕ) (e : Entry) → n ≤ most_locations → Named n e → Named most_locations e
unfolding Named
named_low n (Store w) h a = omega arith
named_low n (Flush l) h a = omega arith
named_low n (FlushOpt l) h a = omega arith
named_low n Sfence h a = tt

-- the first entry, or the blank where there is none
first_entry : (n : ℕ) (b : List Waiting) → n ≤ most_locations → AllOf (NamedBy n) b
    → Named most_locations (entry_at b 0)
unfolding AllOf
first_entry n [] h a = unfold Named in omega arith
first_entry n (w ∷ b) h a = named_low n w.entry h a.0

-- the rules by their codes, over the parts they look at
module _ (p : Program) (g : ProgramFits p) (k : Step) (faultless : step_fault (limits_of p) k ≡ 0) where
  pub taken_low : k.code ≤ 1 → k.thread.0 < most_threads
  taken_low h = thread_low g ((fault_none p k faultless).low_thread h)

  pub persist_low : k.code ≢ 0 → k.code ≢ 1 → k.location.0 < most_locations
  persist_low h n =
      let r = fault_none p k faultless in
      let c = r.low_code in
      let a = r.low_location (omega arith) in
      let b = few_lines p g in
      omega arith

module _ (p : Program) (s : State) (f : Fits p s) where
  pub head_named : (t : ℕ) → t < most_threads → Named most_locations (entry_at (buffer s t) 0)
  head_named t h = first_entry p.locations (buffer s t) f.program.sized.few_locations (f.named t h)

  -- while something is due, no queue is full
  queue_room : 0 < due p s → (q : ℕ) → q < most_locations → queue_len s q < room
  queue_room h q low = let w = f.few_queued q low in omega arith

  roomy : 0 < due p s → Roomy s
  unfolding Roomy
  roomy = queue_room

  due_waiting : (t : ℕ) → t < most_threads → 0 < buffer_len s t → 0 < due p s
  unfolding due
  due_waiting t low h = let w = sum_part most_threads t (buffer_len s) low in omega arith

  due_unissued : (t : ℕ) → t < most_threads → 0 < unissued p s t → 0 < due p s
  unfolding due
  due_unissued t low h = let w = sum_part most_threads t (unissued p s) low in omega arith

  module _ (k : Step) (faultless : step_fault (limits_of p) k ≡ 0) where
    -- the three steps, where they are legal
    module _ (legal : rule_of p s k ≡ 0) where
      issue_legal : k.code ≡ issue → issue_rule p (parts_of s) k.thread.0 ≡ 0
      unfolding rule_of rule_in
      issue_legal h = sym (pick_true _ _ _ (eq-eqb _ _ h)) ∙ legal

      move_legal : k.code ≡ move → move_rule p (parts_of s) k.thread.0 k.position ≡ 0
      unfolding rule_of rule_in
      move_legal h =
          let n : k.code ≢ 0 = λ z. omega arith in
          sym (pick_false _ _ _ (ne_eqb _ _ n) ∙ pick_true _ _ _ (eq-eqb _ _ h)) ∙ legal

      persist_legal : k.code ≢ 0 → k.code ≢ 1 → persist_rule (parts_of s) k.location.0 ≡ 0
      unfolding rule_of rule_in
      persist_legal h g =
          sym (pick_false _ _ _ (ne_eqb _ _ h) ∙ pick_false _ _ _ (ne_eqb _ _ g)) ∙ legal

      pub issue_ready : k.code ≡ issue
          → (issued_of s k.thread.0 < most_instructions)
          × Issuable p s k.thread.0 (instruction_at p k.thread.0 (issued_of s k.thread.0))
      issue_ready h =
          let low = taken_low p f.program k faultless (omega arith) in
          let left : issued_of s k.thread.0 < count_at p k.thread.0
          = issue_left p s f k.thread.0 (issue_legal h) in
          let few = f.program.sized.few_instructions k.thread.0 in
          let fits = (f.program.instructions k.thread.0 (issued_of s k.thread.0) left).1 in
          let some : 0 < unissued p s k.thread.0 = unfold unissued in omega arith in
          let wait = f.few_waiting k.thread.0 low in
          let most = f.program.sized.few_locations in
          let named = fits.low_location in
          let reg = fits.low_register in
          let l : (instruction_at p k.thread.0 (issued_of s k.thread.0)).location.0 < most_locations
          = omega arith in
          let q = line_low p f.program _ l in (
            omega arith,
            record {
              low_thread = low;
              low_location = l;
              low_register = reg;
              low_line = q;
              queue_room = queue_room (due_unissued k.thread.0 low some) _ q;
              buffer_room = omega arith;
            },
          )

      pub move_ready : k.code ≡ move
          → ProgramFits p × (k.thread.0 < most_threads) × (k.position < buffer_len s k.thread.0)
          × (buffer_len s k.thread.0 ≤ most_instructions)
          × Named most_locations (entry_at (buffer s k.thread.0) k.position) × Roomy s
      move_ready h =
          let low = taken_low p f.program k faultless (omega arith) in
          let range = (fault_none p k faultless).low_thread (omega arith) in
          let there = move_there p s f k.thread.0 k.position range (move_legal h) in
          let named = move_named p s f k.thread.0 k.position range (move_legal h) in (
            f.program,
            low,
            there,
            fits_buffer_within p s f k.thread.0 low,
            named_low p.locations _ f.program.sized.few_locations named,
            roomy (due_waiting k.thread.0 low (omega arith)),
          )

      pub persist_ready : k.code ≢ 0 → k.code ≢ 1
          → (k.location.0 < most_locations) × (0 < queue_len s k.location.0)
          × (queue_len s k.location.0 ≤ room)
      persist_ready h g =
          let low = persist_low p f.program k faultless h g in
          let r = fault_none p k faultless in
          let c = r.low_code in
          let range = r.low_location (omega arith) in (
            low,
            persist_there p s f k.location.0 range (persist_legal h g),
            fits_queue_within p s f k.location.0 low,
          )
