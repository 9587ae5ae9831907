-- Issue: what an instruction does keeps the fit, and lowers the work left by one, a compare that fails by two.
-- Assumes nothing.
use mathlib.Core.Logic.{inl, ◌≢◌}
use Prim.Native.Nat.{ℕ, suc, ◌+◌, ◌*◌, ◌≤◌, ◌<◌}
use mathlib.Core.Path.{◌≡◌, refl, sym, ap, ◌∙◌}
use mathlib.Core.Bool.{Bool, true, false, not}
use native.Mathlib.Omega.{arith}
use borrow.Author.Tests.{leb-false, eq-eqb, ne_eqb}
use lib.ListN.{length}
use Rattle.cases.specs.declared.case.Location.{Location}
use Rattle.cases.specs.declared.case.Register.{Register}
use Rattle.cases.specs.declared.case.Instruction.{Instruction}
use Rattle.cases.specs.declared.case.Program.{Program}
use Rattle.cases.specs.Choice.{pick, both}
use Rattle.cases.specs.Ranges.{InstructionFits}
use Rattle.cases.proofs.ChoiceLaws.{refuse_none, pick_cases}
use Rattle.cases.proofs.Promises.{thread_low}
use Rattle.cases.specs.Checks.{count_at, lines_of, instruction_at}
use Rattle.cases.specs.Operations.{exchange, compare, last_operation, first_operation}
use Rattle.machine.specs.declared.cells.State.{State}
use Rattle.machine.specs.declared.cells.Entry.TheVariants.{Flush, FlushOpt, Sfence}
use Rattle.cases.specs.Sizes.{most_threads, most_registers}
use lib.Seq.{get_or-set_same}
use Rattle.machine.specs.Sizes.{room, all_registers}
use Rattle.machine.specs.View.{write_slot, line_of, queue_len, with_register}
use Rattle.machine.specs.View.{register_in, issued_of, with_issued}
use Rattle.machine.specs.Parts.{parts_of}
use Rattle.machine.specs.Look.{queued_word}
use Rattle.machine.specs.Rules.{issue_rule, entry_of, loaded, fetched, exchanged, matches}
use Rattle.machine.specs.Rules.{compared, fails, performed, issue_of, enqueue}
use Rattle.machine.specs.Fit.{Fits, Named}
use Rattle.machine.specs.Work.{unissued_weight, waiting_weight, work, cost_if}
use Rattle.machine.proofs.OperationLaws.{each_operation, of}
use Rattle.machine.proofs.view.LineOfLaws.{few_lines, line_there}
use Rattle.machine.proofs.fit.FitLaws.{fits_register}
use Rattle.machine.proofs.fit.SpareLaws.{Spare, counted_spare, await_fits, enqueue_fits, register_spare}
use Rattle.machine.proofs.work.WorkLaws.{work_enqueue, work_await, work_counted, work_register}

-- What an instruction does, where it is counted already
module _ (p : Program) (s : State) (t : ℕ) (o : Spare p s t) (low : t < p.threads)
    (l : Location) (r : Register) (w : ℕ) (there : l.0 < p.locations) where
  to : line_of p l.0 < lines_of p
  to = line_there p o.fit.program l.0 there

  performed_fits : (op : ℕ) → first_operation ≤ op → op ≤ last_operation
      → Fits p (performed p s t (of op l r w))
  unfolding performed pick entry_of Named loaded fetched exchanged compared
  performed_fits =
      let swapped = enqueue_fits p _ t (register_spare p s t o r.0 (queued_word p s l.0)) (line_of p l.0) to
      (write_slot l.0 w) (inl (there, refl)) in
      each_operation (λ op. Fits p (performed p s t (of op l r w)))
      (await_fits p s t o low _ there)
      (await_fits p s t o low _ there)
      (fits_register p s o.fit t _ _)
      swapped
      (await_fits p s t o low (Flush l) there)
      (await_fits p s t o low (FlushOpt l) there)
      (await_fits p s t o low Sfence tt)
      o.fit
      (pick_cases (Fits p) (matches p s t (of compare l r w)) (exchanged p s t (of exchange l r w))
      (fetched p s t (of exchange l r w)) (λ e. swapped) (λ e. fits_register p s o.fit t _ _))

  -- the register takes the word read: as much is left; and the write goes to the queue's end: one more
  abbrev fetch : State
  fetch = fetched p s t (of exchange l r w)

  fetched_work : work p fetch ≡ work p s
  unfolding fetched
  fetched_work = work_register p s o.fit t r.0 (queued_word p s l.0)

  exchanged_work : work p (exchanged p s t (of exchange l r w)) ≡ suc (work p s)
  unfolding exchanged fetched
  exchanged_work =
      let y = few_lines p o.fit.program in
      let at = to in
      let q = o.queues (line_of p l.0) (omega arith) in
      let f = register_spare p s t o r.0 (queued_word p s l.0) in
      let n : queue_len fetch (line_of p l.0) < room = unfold with_register in omega arith in
      work_enqueue p fetch f.fit (line_of p l.0) (omega arith) n (write_slot l.0 w)
      ∙ ap suc fetched_work

  -- a compare leaves one where it succeeds, nothing where it fails
  compared_work : (b : Bool)
      → work p (pick b (exchanged p s t (of exchange l r w)) fetch) + cost_if (not b) ≡ work p s + 2
  unfolding cost_if pick
  compared_work true = rw exchanged_work (omega arith)
  compared_work false = rw fetched_work refl

  performed_work : (op : ℕ) → first_operation ≤ op → op ≤ last_operation
      → work p (performed p s t (of op l r w)) + cost_if (fails p s t (of op l r w)) ≡ work p s + unissued_weight op
  unfolding performed pick both entry_of loaded fetched exchanged compared fails cost_if unissued_weight waiting_weight
  performed_work =
      let z = thread_low o.fit.program low in
      let b = o.space in
      each_operation
      (λ op.
      work p (performed p s t (of op l r w)) + cost_if (fails p s t (of op l r w)) ≡ work p s + unissued_weight op)
      (rw (work_await p s o.fit t (omega arith) (omega arith)) (omega arith))
      (rw (work_await p s o.fit t (omega arith) (omega arith)) (omega arith))
      (rw (work_register p s o.fit t r.0) (omega arith))
      (rw exchanged_work (omega arith))
      (rw (work_await p s o.fit t (omega arith) (omega arith)) (omega arith))
      (rw (work_await p s o.fit t (omega arith) (omega arith)) (omega arith))
      (rw (work_await p s o.fit t (omega arith) (omega arith)) (omega arith))
      refl
      (compared_work (matches p s t (of compare l r w)))

-- Issue
module _ (p : Program) (s : State) (f : Fits p s) (t : ℕ) (legal : issue_rule p (parts_of s) t ≡ 0) where
  pub issue_left : issued_of s t < count_at p t
  unfolding issue_rule
  issue_left = leb-false _ _ (refuse_none _ 20 _ legal).0

  abbrev next : Instruction
  next = instruction_at p t (issued_of s t)

  there : (t < p.threads) × InstructionFits p next
  there = f.program.instructions t (issued_of s t) issue_left

  pub issue_fits : Fits p (issue_of p s t)
  unfolding issue_of
  issue_fits =
      performed_fits p (with_issued s t (issued_of s t + 1)) t (counted_spare p s f t there.0 issue_left)
      there.0 next.location next.register next.word there.1.low_location next.operation
      there.1.some_operation there.1.low_operation

  pub issue_work : work p (issue_of p s t) + cost_if (fails p s t next) ≡ work p s
  unfolding issue_of fails matches queued_word with_issued
  issue_work =
      performed_work p (with_issued s t (issued_of s t + 1)) t (counted_spare p s f t there.0 issue_left)
      there.0 next.location next.register next.word there.1.low_location next.operation
      there.1.some_operation there.1.low_operation
      ∙ work_counted p s f t there.0 issue_left

-- a compare, by what its register holds before and behind the look: where that is the same word it is written,
-- else nothing is
module _ (p : Program) (s : State) (t : ℕ) (x : Instruction) (long : length s.registers ≡ all_registers)
    (low : t < most_threads) (few : x.register.0 < most_registers) (u : State) (e : u ≡ fetched p s t x) where
  read : register_in u.registers t x.register.0 ≡ queued_word p s x.location.0
  unfolding fetched with_register
  read = rw e (get_or-set_same s.registers (t * most_registers + x.register.0) _ 0 (omega arith))

  pub compare_some : register_in u.registers t x.register.0 ≡ register_in s.registers t x.register.0
      → (q : ℕ) (v : State)
      → q ≡ line_of p x.location.0
      → v ≡ enqueue u q (write_slot x.location.0 x.word)
      → v ≡ compared p s t x
  unfolding compared matches exchanged pick
  compare_some same q v to is =
      rw (is, to, e, eq-eqb _ _ (sym read ∙ same)) refl

  pub compare_none : register_in u.registers t x.register.0 ≢ register_in s.registers t x.register.0
      → u ≡ compared p s t x
  unfolding compared matches pick
  compare_none other = rw (e, ne_eqb _ _ (λ same. other (read ∙ same))) refl
