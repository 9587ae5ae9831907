-- The records of the program behind a sound draft: where each stands, and that the draft stays sound; a second
-- program record is misplaced. Assumes nothing.
use Prim.Native.Nat.{ℕ, ◌+◌, ◌*◌, ◌<◌}
use mathlib.Core.Path.{◌≡◌, refl, ◌∙◌}
use lib.ListN.{length, length-set}
use lib.Dec.{eqb, leb}
use native.Mathlib.Omega.{arith}
use Rattle.cases.specs.declared.case.Program.{Program}
use Rattle.cases.specs.declared.case.Write.{Write}
use Rattle.cases.specs.declared.case.Thread.{Thread}
use Rattle.cases.specs.declared.case.Instruction.{Instruction}
use Rattle.cases.specs.declared.draft.Draft.{Draft}
use Rattle.cases.specs.declared.record.Header.{Header}
use Rattle.cases.specs.declared.record.Record.TheVariants.{Declare, First, Instruct}
use Rattle.cases.specs.Sizes.{most_instructions}
use Rattle.cases.specs.Checks.{misplaced, disordered, count_at, fault_of, instruction_out, instruction_left}
use Rattle.cases.specs.Checks.{unset}
use Rattle.cases.specs.Draft.{add_of, with_program, with_first, with_instruction}
use Rattle.cases.specs.Seats.{from_firsts, from_code, listed_lines, header_seat, first_seat}
use Rattle.cases.specs.Seats.{instruction_seat}
use Rattle.cases.specs.Ranges.{HasOwnLines, ProgramSized}
use Rattle.cases.proofs.ChoiceLaws.{refuse_none}
use Rattle.cases.proofs.seats.SeatLaws.{seat_first, seat_code, seat_same}
use Rattle.cases.proofs.draft.WithLaws.{first_same, first_other, instruction_same, instruction_other}
use Rattle.cases.proofs.draft.CountLaws.{count_more, count_few, count_front}
use Rattle.cases.proofs.draft.RegistersLaws.{registers_same, registers_instruction}
use Rattle.cases.proofs.draft.RecordFitLaws.{RecordFits}
use Rattle.cases.proofs.draft.DraftLaws.{rank_rises, seated_kind, draft_in_turn, first_seated}
use Rattle.cases.proofs.draft.DraftLaws.{instruction_seated, draft_ordered}
use Rattle.cases.proofs.draft.SoundLaws.{Sound, Added, added}

-- A faultless record behind a sound draft: that it is added as `Added` says
module _ (d : Draft) (front : ℕ) (s : Sound d front) where
  abbrev program : Program
  program = d.case.program

  sized : ProgramSized program
  sized = s.sized.of_program

  -- the first content of a location
  pub add_first : (w : Write) → fault_of d (First w) ≡ 0 → Added d (First w)
  unfolding fault_of add_of with_program with_first header_seat listed_lines instruction_seat RecordFits HasOwnLines
  add_first w h =
      let in_range = refuse_none (leb program.locations w.location.0) 4 _ (refuse_none _ 3 _ h).1 in
      let clean = refuse_none (eqb w.word 0) 7 _ in_range.1 in
      let in_order = refuse_none (disordered d 2 w.location.0) 5 _ clean.1 in
      let low = first_seated d sized.few_threads sized.few_locations w h in
      added d front s (First w) (from_firsts + w.location.0)
      (record {
        reached =
            s.fronts.to_firsts (draft_in_turn d (First w) h) w.location.0
            (draft_ordered d 2 _ in_order.0);
        inside = omega arith;
        here =
            seat_first _ _ w.location.0 refl low
            ∙ first_same program w (omega (arith, sized.first_long)) clean.0;
        other = λ j n. seat_same (add_of d (First w)).case d.case j (λ z. refl)
            (λ l z. first_other program w l (λ q. n (omega arith)))
            (λ m z. refl) (λ l z. refl) (λ t z. refl) (λ i z. refl);
        grown = record { same_threads = refl; same_locations = refl; same_lines = refl; more = λ t. omega arith };
        fit = in_range.0;
        sized = record {
          of_program = record {
            line_long = sized.line_long;
            first_long = simp length-set sized.first_long;
            counts_long = sized.counts_long;
            code_long = sized.code_long;
            few_threads = sized.few_threads;
            few_locations = sized.few_locations;
            few_lines = sized.few_lines;
            few_instructions = sized.few_instructions;
          };
          on_lines = s.sized.on_lines;
          registers = registers_same program _ refl refl s.sized.registers;
          own = s.sized.own;
          some_threads = s.sized.some_threads;
          some_locations = s.sized.some_locations;
          of_ask = s.sized.of_ask;
          of_run = s.sized.of_run;
        };
        fronts = record {
          begun = omega arith;
          to_firsts = λ q n z. omega (arith, z refl);
          to_code = λ q t z. omega arith;
          to_wants = λ q n z. omega arith;
          to_passed = λ q n z. omega arith;
          to_steps = omega arith;
        };
      })

  -- an instruction, behind its thread's
  pub add_instruction : (t : Thread) (x : Instruction) → fault_of d (Instruct t x) ≡ 0 → Added d (Instruct t x)
  unfolding fault_of add_of with_program with_instruction header_seat listed_lines first_seat RecordFits HasOwnLines
  add_instruction t x h =
      let in_range = refuse_none (instruction_out program t x) 4 _ (refuse_none _ 3 _ h).1 in
      let clean = refuse_none (instruction_left x) 7 _ in_range.1 in
      let in_order = refuse_none (disordered d 3 t.0) 5 _ clean.1 in
      let set = refuse_none (unset program t x) 9 _ (refuse_none _ 6 _ in_order.1).1 in
      let seated = instruction_seated d sized.few_threads sized.few_locations t x h in
      let low : t.0 < length program.counts = omega (arith, seated.0, sized.counts_long) in
      let few : count_at program t.0 < most_instructions = seated.1 in
      let room : t.0 * most_instructions + count_at program t.0 < length program.code
      = omega (arith, seated.0, sized.code_long) in
      added d front s (Instruct t x) (from_code + (t.0 * most_instructions + count_at program t.0))
      (record {
        reached =
            s.fronts.to_code (draft_in_turn d (Instruct t x) h) t.0 (draft_ordered d 3 _ in_order.0);
        inside = omega (arith, seated.0);
        here =
            seat_code _ _ (t.0 * most_instructions + count_at program t.0) refl (omega (arith, seated.0))
            ∙ instruction_same program t x low room few;
        other = λ j n. seat_same (add_of d (Instruct t x)).case d.case j (λ z. refl) (λ l z. refl)
            (λ m z. instruction_other program t x m low (λ q. n (omega arith)))
            (λ l z. refl) (λ u z. refl) (λ i z. refl);
        grown = record { same_threads = refl; same_locations = refl; same_lines = refl; more = count_more program t low };
        fit = (in_range.0, clean.0);
        sized = record {
          of_program = record {
            line_long = sized.line_long;
            first_long = sized.first_long;
            counts_long = simp length-set sized.counts_long;
            code_long = simp length-set sized.code_long;
            few_threads = sized.few_threads;
            few_locations = sized.few_locations;
            few_lines = sized.few_lines;
            few_instructions = count_few program t low few sized.few_instructions;
          };
          on_lines = s.sized.on_lines;
          registers =
              registers_instruction program t x low room few sized.few_instructions s.sized.registers set.0;
          own = s.sized.own;
          some_threads = s.sized.some_threads;
          some_locations = s.sized.some_locations;
          of_ask = s.sized.of_ask;
          of_run = s.sized.of_run;
        };
        fronts = record {
          begun = omega arith;
          to_firsts = λ q n z. absurd (omega (arith, rank_rises));
          to_code = λ q u z. count_front program t low few u (z refl);
          to_wants = λ q n z. omega (arith, seated.0);
          to_passed = λ q n z. omega (arith, seated.0);
          to_steps = omega (arith, seated.0);
        };
      })

  -- a second program record is misplaced
  pub declared_once : (h : Header) → fault_of d (Declare h) ≡ 0 → ⊥
  unfolding fault_of
  declared_once h f =
      let a = refuse_none (misplaced d.kind 1) 3 _ f in
      (seated_kind d.kind 1 s.fronts.begun a.0).1 refl
