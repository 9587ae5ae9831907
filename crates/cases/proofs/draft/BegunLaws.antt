-- The first record: the program, behind the blank draft. Assumes nothing.
use Prim.Native.Nat.{ℕ, zero, suc, ◌/◌, ◌%◌, ◌≤◌}
use mathlib.Core.Path.{◌≡◌, refl, sym, ap, ◌∙◌}
use mathlib.Core.List.{List, []}
use mathlib.Core.Bool.{false}
use lib.Dec.{leb-zero}
use native.Mathlib.Omega.{arith}
use Rattle.cases.specs.declared.draft.Draft.{Draft}
use Rattle.cases.specs.declared.record.Header.{Header}
use Rattle.cases.specs.declared.record.Record.{Record}
use Rattle.cases.specs.declared.record.Record.TheVariants.{Declare, First, Instruct, Want, Passed, Take}
use Rattle.std.specs.declared.option.Option.{Option}
use Rattle.std.specs.declared.option.Option.TheVariants.{Some, None}
use Rattle.cases.specs.Sizes.{most_threads, most_instructions, most_locations}
use Rattle.cases.specs.Choice.{pick, refuse}
use Rattle.cases.specs.Lines.{unordered}
use Rattle.cases.specs.Record.{line_bytes, record_bytes, record_of}
use Rattle.cases.specs.Checks.{misplaced, header_out, mislisted, fault_of}
use Rattle.cases.specs.Draft.{empty_case, blank_draft, add_of, with_header, with_sizes}
use Rattle.cases.specs.Seats.{listed_lines, header_seat, first_seat, instruction_seat}
use Rattle.cases.specs.Seats.{want_seat, passed_seat, step_seat}
use Rattle.cases.specs.Seats.{seats, seat_of, seat_bytes, bytes_at, encode_of}
use Rattle.cases.specs.Ranges.{HasOwnLines, RegistersSet}
use Rattle.cases.proofs.ChoiceLaws.{refuse_none}
use Rattle.cases.proofs.ArrayLaws.{get_or_blank}
use Rattle.cases.proofs.seats.EachLaws.{each_more, each_none}
use Rattle.cases.proofs.seats.SeatLaws.{seat_cases, seat_header}
use Rattle.cases.proofs.draft.RecordFitLaws.{RecordFits, SeatFits}
use Rattle.cases.proofs.draft.HeaderLaws.{Opening, header_low, header_listed, header_listing, header_bytes}
use Rattle.cases.proofs.draft.HeaderLaws.{header_row, header_table_long, header_few_lines}
use Rattle.cases.proofs.draft.HeaderLaws.{header_on_lines, header_own}
use Rattle.cases.proofs.draft.SoundLaws.{Sound}

-- the first record is the program
blank_declared : (r : Record) → fault_of blank_draft r ≡ 0
    → (h : Header) × (r ≡ Declare h) × (header_out h ≡ false) × (mislisted h ≡ false)
    × (unordered 0 (line_bytes h) ≡ false)
unfolding fault_of blank_draft misplaced refuse pick
blank_declared (Declare h) f =
    let inside = refuse_none (header_out h) 4 _ f in
    let right = refuse_none (mislisted h) 2 _ inside.1 in
    let ordered = refuse_none (unordered 0 (line_bytes h)) 7 _ right.1 in
    (h, refl, inside.0, right.0, ordered.0)
blank_declared (First w) f = absurd (omega arith)
blank_declared (Instruct t x) f = absurd (omega arith)
blank_declared (Want w) f = absurd (omega arith)
blank_declared (Passed t n) f = absurd (omega arith)
blank_declared (Take k) f = absurd (omega arith)

pub blank_first : (k : ℕ) (t : List ℕ) → fault_of blank_draft (record_of k t) ≡ 0
    → (h : Header) × (record_of k t ≡ Declare h) × Opening h
blank_first k t f =
    let b = blank_declared (record_of k t) f in
    (b.0, b.1, record { out = b.2; right = b.3; ordered = b.4; listing = header_listing k t b.0 b.1 })

-- the empty case with other sizes: nothing stands behind the program
module _ (h : Header) (fit : Opening h) where
  abbrev begun : Draft
  begun = add_of blank_draft (Declare h)

  -- the program's record stands at its seat, every other seat is empty, and what stands there is in range
  begun_here : seat_of begun.case 0 ≡ Some (Declare h)
  unfolding add_of with_header with_sizes header_seat listed_lines
  begun_here =
      let n = sym (header_listed h fit.right) in
      let x = header_row h fit in
      seat_header begun.case 0 refl
      ∙ (λ i. Some (Declare (record {
        version = h.version;
        threads = h.threads;
        locations = h.locations;
        listed = n i;
        line = x i;
      })))

  begun_blank : (j : ℕ) → 1 ≤ j → seat_of begun.case j ≡ None
  unfolding add_of with_header with_sizes blank_draft empty_case
      first_seat instruction_seat want_seat passed_seat step_seat pick
  begun_blank j low =
      seat_cases (λ (x : Option Record). x ≡ None) begun.case j
      (λ e. absurd (omega arith))
      (λ l e m. rw (get_or_blank {A = ℕ} most_locations l 0))
      (λ m e n. rw (get_or_blank {A = ℕ} most_threads (m / most_instructions) 0, leb-zero (m % most_instructions)))
      (λ l e m. rw (get_or_blank most_locations l false))
      (λ t e m. rw (get_or_blank {A = ℕ} most_threads t 0))
      (λ k e. rw (leb-zero k))

  begun_fits : (j : ℕ) → SeatFits begun.case.program (seat_of begun.case j)
  unfolding SeatFits RecordFits
  begun_fits zero = rw begun_here (fit.out, header_bytes h fit)
  begun_fits (suc j) = rw (begun_blank (suc j) (omega arith)) tt

  -- the file is the program's record
  pub begun_longer : encode_of begun.case ≡ record_bytes (Declare h)
  unfolding encode_of bytes_at seat_bytes
  begun_longer =
      each_more seats 0 (bytes_at begun.case) (λ k. []) (omega arith)
      (λ k n. ap seat_bytes (begun_blank k (omega arith))) (λ k n. refl)
      ∙ rw (each_none seats (λ (k : ℕ). []) (λ k. refl), begun_here)

  -- the draft is sound, and the next record comes behind seat 0
  pub begun_sound : Sound begun 1
  unfolding add_of with_header with_sizes blank_draft empty_case HasOwnLines RegistersSet
  begun_sound =
      let low = header_low h fit.out in
      record {
        sized = record {
          of_program = record {
            line_long = header_table_long h fit;
            first_long = refl;
            counts_long = refl;
            code_long = refl;
            few_threads = low.1;
            few_locations = low.3;
            few_lines = header_few_lines h fit;
            few_instructions = λ u. omega (arith, get_or_blank {A = ℕ} most_threads u 0);
          };
          on_lines = header_on_lines h fit;
          registers = λ u i k. absurd (omega (arith, get_or_blank {A = ℕ} most_threads u 0));
          own = header_own h;
          some_threads = low.0;
          some_locations = low.2;
          of_ask = record { wanted_long = refl; want_long = refl; passed_long = refl };
          of_run = record { steps_long = refl; few_steps = omega arith };
        };
        fronts = record {
          begun = omega arith;
          to_firsts = λ q n z. omega arith;
          to_code = λ q u z. omega arith;
          to_wants = λ q n z. omega arith;
          to_passed = λ q n z. omega arith;
          to_steps = omega arith;
        };
        blank = begun_blank;
        ranged = begun_fits;
      }
