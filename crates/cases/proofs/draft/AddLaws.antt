-- A record behind a sound draft: where it stands, and that the draft stays sound. Here those of the question
-- and of the run, and, with the program's (AddProgramLaws), a record of any kind. Assumes nothing.
use Prim.Native.Nat.{ℕ, ◌+◌}
use mathlib.Core.Path.{◌≡◌, refl, ◌∙◌}
use lib.ListN.{length-set}
use lib.Dec.{eqb, leb}
use native.Mathlib.Omega.{arith}
use Rattle.cases.specs.declared.case.Program.{Program}
use Rattle.cases.specs.declared.case.Write.{Write}
use Rattle.cases.specs.declared.case.Thread.{Thread}
use Rattle.cases.specs.declared.case.Step.{Step}
use Rattle.cases.specs.declared.draft.Draft.{Draft}
use Rattle.cases.specs.declared.record.Record.{Record}
use Rattle.cases.specs.declared.record.Record.TheVariants.{Declare, First, Instruct, Want, Passed, Take}
use Rattle.cases.specs.Checks.{disordered, fault_of, passed_out, limits_of, step_out, step_left}
use Rattle.cases.specs.Draft.{add_of, with_ask, with_run, with_want, with_passed, with_step}
use Rattle.cases.specs.Seats.{from_wants, from_passed, from_steps, listed_lines, header_seat, want_seat}
use Rattle.cases.specs.Seats.{passed_seat}
use Rattle.cases.specs.Ranges.{ProgramSized}
use Rattle.cases.proofs.ChoiceLaws.{refuse_none}
use Rattle.cases.proofs.seats.SeatLaws.{seat_want, seat_passed, seat_step, seat_same}
use Rattle.cases.proofs.draft.WithLaws.{want_same, want_other, passed_same, passed_other, step_same}
use Rattle.cases.proofs.draft.WithLaws.{step_other}
use Rattle.cases.proofs.draft.RecordFitLaws.{RecordFits, Grown}
use Rattle.cases.proofs.draft.DraftLaws.{rank_rises, draft_in_turn, want_seated, passed_seated}
use Rattle.cases.proofs.draft.DraftLaws.{step_seated, draft_ordered}
use Rattle.cases.proofs.draft.SoundLaws.{Sound, Added, added}
use Rattle.cases.proofs.draft.AddProgramLaws.{declared_once, add_first, add_instruction}

-- a program that a record leaves as it is
kept : (p : Program) → Grown p p
kept p = record { same_threads = refl; same_locations = refl; same_lines = refl; more = λ t. omega arith }

-- A faultless record behind a sound draft: that it is added as `Added` says
module _ (d : Draft) (front : ℕ) (s : Sound d front) where
  abbrev program : Program
  program = d.case.program

  sized : ProgramSized program
  sized = s.sized.of_program

  -- the want of a location
  pub add_want : (w : Write) → fault_of d (Want w) ≡ 0 → Added d (Want w)
  unfolding fault_of add_of with_ask with_want header_seat listed_lines passed_seat RecordFits
  add_want w h =
      let in_range = refuse_none (leb program.locations w.location.0) 4 _ (refuse_none _ 3 _ h).1 in
      let in_order = refuse_none (disordered d 4 w.location.0) 5 _ in_range.1 in
      let ask = s.sized.of_ask in
      let low = want_seated d sized.few_threads sized.few_locations w h in
      added d front s (Want w) (from_wants + w.location.0)
      (record {
        reached =
            s.fronts.to_wants (draft_in_turn d (Want w) h) w.location.0
            (draft_ordered d 4 _ in_order.0);
        inside = omega arith;
        here =
            seat_want _ _ w.location.0 refl low
            ∙ want_same d.case.ask w (omega (arith, ask.wanted_long)) (omega (arith, ask.want_long));
        other = λ j n. seat_same (add_of d (Want w)).case d.case j (λ z. refl) (λ l z. refl) (λ m z. refl)
            (λ l z. want_other d.case.ask w l (λ q. n (omega arith))) (λ t z. refl) (λ i z. refl);
        grown = kept program;
        fit = in_range.0;
        sized = record {
          of_program = sized;
          on_lines = s.sized.on_lines;
          registers = s.sized.registers;
          own = s.sized.own;
          some_threads = s.sized.some_threads;
          some_locations = s.sized.some_locations;
          of_ask = record {
            wanted_long = simp length-set ask.wanted_long;
            want_long = simp length-set ask.want_long;
            passed_long = ask.passed_long;
          };
          of_run = s.sized.of_run;
        };
        fronts = record {
          begun = omega arith;
          to_firsts = λ q n z. absurd (omega (arith, rank_rises));
          to_code = λ q t z. absurd (omega (arith, rank_rises));
          to_wants = λ q n z. omega (arith, z refl);
          to_passed = λ q n z. omega arith;
          to_steps = omega arith;
        };
      })

  -- the passed count of a thread
  pub add_passed : (t : Thread) (n : ℕ) → fault_of d (Passed t n) ≡ 0 → Added d (Passed t n)
  unfolding fault_of add_of with_ask with_passed header_seat listed_lines want_seat RecordFits
  add_passed t n h =
      let in_range = refuse_none (passed_out program t n) 4 _ (refuse_none _ 3 _ h).1 in
      let clean = refuse_none (eqb n 0) 7 _ in_range.1 in
      let in_order = refuse_none (disordered d 5 t.0) 5 _ clean.1 in
      let ask = s.sized.of_ask in
      let low = passed_seated d sized.few_threads sized.few_locations t n h in
      added d front s (Passed t n) (from_passed + t.0)
      (record {
        reached =
            s.fronts.to_passed (draft_in_turn d (Passed t n) h) t.0 (draft_ordered d 5 _ in_order.0);
        inside = omega arith;
        here =
            seat_passed _ _ t.0 refl low
            ∙ passed_same d.case.ask t n (omega (arith, ask.passed_long)) clean.0;
        other = λ j m. seat_same (add_of d (Passed t n)).case d.case j (λ z. refl) (λ l z. refl)
            (λ i z. refl) (λ l z. refl)
            (λ u z. passed_other d.case.ask t n u (λ q. m (omega arith))) (λ i z. refl);
        grown = kept program;
        fit = in_range.0;
        sized = record {
          of_program = sized;
          on_lines = s.sized.on_lines;
          registers = s.sized.registers;
          own = s.sized.own;
          some_threads = s.sized.some_threads;
          some_locations = s.sized.some_locations;
          of_ask = record {
            wanted_long = ask.wanted_long;
            want_long = ask.want_long;
            passed_long = simp length-set ask.passed_long;
          };
          of_run = s.sized.of_run;
        };
        fronts = record {
          begun = omega arith;
          to_firsts = λ q m z. absurd (omega (arith, rank_rises));
          to_code = λ q u z. absurd (omega (arith, rank_rises));
          to_wants = λ q m z. absurd (omega (arith, rank_rises));
          to_passed = λ q m z. omega (arith, z refl);
          to_steps = omega arith;
        };
      })

  -- a step, behind the others
  pub add_step : (k : Step) → fault_of d (Take k) ≡ 0 → Added d (Take k)
  unfolding fault_of add_of with_run with_step header_seat listed_lines RecordFits
  add_step k h =
      let in_range = refuse_none (step_out (limits_of program) k) 4 _ (refuse_none _ 3 _ h).1 in
      let clean = refuse_none (step_left k) 7 _ in_range.1 in
      let run = s.sized.of_run in
      let low = step_seated d k h in
      added d front s (Take k) (from_steps + d.case.run.count)
      (record {
        reached = s.fronts.to_steps;
        inside = omega arith;
        here =
            seat_step _ _ d.case.run.count refl
            ∙ step_same d.case.run k (omega (arith, run.steps_long));
        other = λ j n. seat_same (add_of d (Take k)).case d.case j (λ z. refl) (λ l z. refl) (λ m z. refl)
            (λ l z. refl) (λ t z. refl) (λ i z. step_other d.case.run k i (λ q. n (omega arith)));
        grown = kept program;
        fit = (in_range.0, clean.0);
        sized = record {
          of_program = sized;
          on_lines = s.sized.on_lines;
          registers = s.sized.registers;
          own = s.sized.own;
          some_threads = s.sized.some_threads;
          some_locations = s.sized.some_locations;
          of_ask = s.sized.of_ask;
          of_run = record { steps_long = simp length-set run.steps_long; few_steps = omega arith };
        };
        fronts = record {
          begun = omega arith;
          to_firsts = λ q n z. absurd (omega (arith, rank_rises));
          to_code = λ q t z. absurd (omega (arith, rank_rises));
          to_wants = λ q n z. absurd (omega (arith, rank_rises));
          to_passed = λ q n z. absurd (omega (arith, rank_rises));
          to_steps = omega arith;
        };
      })

  -- a record of any kind
  pub add_record : (r : Record) → fault_of d r ≡ 0 → Added d r
  add_record (Declare h) f = absurd (declared_once d front s h f)
  add_record (First w) f = add_first d front s w f
  add_record (Instruct t x) f = add_instruction d front s t x f
  add_record (Want w) f = add_want w f
  add_record (Passed t n) f = add_passed t n f
  add_record (Take k) f = add_step k f
