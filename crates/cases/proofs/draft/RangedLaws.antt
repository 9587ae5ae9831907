-- A sound draft's case has every number in range. Assumes nothing.
use Prim.Native.Nat.{ℕ, ◌+◌, ◌*◌, ◌/◌, ◌%◌, ◌<◌, ◌≤◌}
use mathlib.Core.Path.{◌≡◌, refl, ◌∙◌}
use mathlib.Core.Bool.{Bool, true, false}
use lib.ListN.{get_or}
use lib.Dec.{eqb, leb}
use borrow.Author.Tests.{leb-false, ltb-false, lt-leb, eqb-true, eqb-false}
use native.Mathlib.Omega.{arith}
use Rattle.cases.specs.declared.case.Program.{Program}
use Rattle.cases.specs.declared.case.Instruction.{Instruction}
use Rattle.cases.specs.declared.draft.Draft.{Draft}
use Rattle.cases.specs.declared.record.Record.{Record}
use Rattle.cases.specs.declared.record.Record.TheVariants.{Instruct}
use Rattle.std.specs.declared.option.Option.TheVariants.{Some}
use Rattle.cases.specs.Sizes.{most_threads, most_instructions, most_locations}
use Rattle.cases.specs.Choice.{refuse}
use Rattle.cases.specs.Checks.{no_instruction, instruction_at, passed_out, limits_of, step_fault}
use Rattle.cases.specs.Draft.{no_step}
use Rattle.cases.specs.Seats.{from_code, from_wants, from_passed, from_steps, instruction_seat, want_seat}
use Rattle.cases.specs.Seats.{passed_seat, step_seat, seat_of}
use Rattle.cases.specs.Ranges.{InstructionFits, ProgramFits, Ranged}
use Rattle.cases.proofs.ArrayLaws.{within}
use Rattle.cases.proofs.ChoiceLaws.{never_both, either_false, pick_true, pick_false}
use Rattle.cases.proofs.seats.SeatLaws.{seat_code, seat_want, seat_passed, seat_step}
use Rattle.cases.proofs.draft.RecordFitLaws.{RecordFits, SeatFits, instruction_fits}
use Rattle.cases.proofs.draft.SoundLaws.{Sound}

-- A sound draft
module _ (d : Draft) (front : ℕ) (s : Sound d front) where
  abbrev program : Program
  program = d.case.program

  -- a seat that holds a record: the record is in range
  held : (j : ℕ) (r : Record) → seat_of d.case j ≡ Some r → RecordFits program r
  unfolding SeatFits
  held j r e = rw e at (s.ranged j)

  -- what stands in its case is in range: the instructions, the wants, the passed counts and the steps
  instruction_ranged : (t i : ℕ) → i < get_or program.counts t 0
      → (t < program.threads) × InstructionFits program (instruction_at program t i)
  unfolding RecordFits instruction_seat
  instruction_ranged t i h =
      let p = s.sized.of_program in
      let m : ℕ = t * most_instructions + i in
      let there = within program.counts t 0 (λ z. omega arith) in
      let low : t < most_threads = omega (arith, there, p.counts_long) in
      let few = p.few_instructions t in
      let q : m / most_instructions ≡ t = omega arith in
      let r : m % most_instructions ≡ i = omega arith in
      let x : Instruction = get_or program.code m no_instruction in
      let e : seat_of d.case (from_code + m) ≡ Some (Instruct (record { 0 = t }) x) =
      seat_code d.case (from_code + m) m refl (omega arith)
      ∙ rw (q, r) (pick_false (leb (get_or program.counts t 0) i) _ _ (lt-leb _ _ h)) in
      let f = held (from_code + m) _ e in
      instruction_fits program (record { 0 = t }) _ s.sized.some_locations f.0 f.1

  want_ranged : (l : ℕ) → get_or d.case.ask.wanted l false ≡ true → l < program.locations
  unfolding RecordFits want_seat
  want_ranged l h =
      let a = s.sized.of_ask in
      let there = within d.case.ask.wanted l false (never_both h) in
      let low : l < most_locations = omega (arith, there, a.wanted_long) in
      let e = seat_want d.case (from_wants + l) l refl low
      ∙ pick_true (get_or d.case.ask.wanted l false) _ _ h in
      leb-false program.locations l (held (from_wants + l) _ e)

  abbrev passed_by : ℕ → ℕ
  passed_by t = get_or d.case.ask.passed t 0

  passed_ranged : (t : ℕ) → passed_by t ≤ get_or program.counts t 0
  unfolding RecordFits passed_seat passed_out
  passed_ranged t = go (eqb (passed_by t) 0) refl
    where
      go : (b : Bool) → eqb (passed_by t) 0 ≡ b → passed_by t ≤ get_or program.counts t 0
      go true e = omega (arith, eqb-true (passed_by t) 0 e)
      go false e =
          let some = within d.case.ask.passed t 0 (eqb-false _ _ e) in
          let low : t < most_threads = omega (arith, some, s.sized.of_ask.passed_long) in
          let f = held (from_passed + t) _
          (seat_passed d.case (from_passed + t) t refl low ∙ pick_false _ _ _ e) in
          ltb-false _ _ (either_false (leb program.threads t) _ f).1

  step_ranged : (k : ℕ) → k < d.case.run.count
      → step_fault (limits_of program) (get_or d.case.run.steps k no_step) ≡ 0
  unfolding RecordFits step_seat step_fault refuse
  step_ranged k h =
      let e = seat_step d.case (from_steps + k) k refl
      ∙ pick_false (leb d.case.run.count k) _ _ (lt-leb _ _ h) in
      let f = held (from_steps + k) _ e in
      rw (f.0, f.1)

  -- every number of its case is in range
  pub sound_ranged : Ranged d.case
  sound_ranged =
      record {
        program = record {
          sized = s.sized.of_program;
          lines = s.sized.on_lines;
          instructions = instruction_ranged;
        };
        registers = s.sized.registers;
        ask = s.sized.of_ask;
        run = s.sized.of_run;
        lines_own = s.sized.own;
        some_threads = s.sized.some_threads;
        some_locations = s.sized.some_locations;
        wants = want_ranged;
        passed = passed_ranged;
        steps = step_ranged;
      }

-- a thread of a program is one that there may be
pub thread_low : {p : Program} → ProgramFits p → {t : ℕ} → t < p.threads → t < most_threads
thread_low g h = let w = g.sized.few_threads in omega arith
