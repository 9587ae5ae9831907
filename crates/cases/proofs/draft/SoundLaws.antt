-- What holds of a draft after each record, and what a record more does to the case's file: its bytes are added
-- at the end. Records come at rising seats: `front` is the seat behind the last one. Assumes nothing.
use Prim.Native.Nat.{ℕ, suc, ◌+◌, ◌*◌, ◌<◌, ◌≤◌}
use mathlib.Core.Path.{◌≡◌, refl, ap, ◌∙◌}
use mathlib.Core.Logic.{◌≢◌}
use mathlib.Core.List.{◌++◌}
use mathlib.Core.Bool.{Bool, true, false}
use lib.ListN.{get_or}
use lib.Dec.{eqb}
use borrow.Author.Tests.{eqb-true, eqb-false}
use native.Mathlib.Omega.{arith}
use Rattle.cases.specs.declared.case.Case.{Case}
use Rattle.cases.specs.declared.draft.Draft.{Draft}
use Rattle.cases.specs.declared.record.Record.{Record}
use Rattle.std.specs.declared.option.Option.{Option}
use Rattle.std.specs.declared.option.Option.TheVariants.{Some, None}
use Rattle.cases.specs.Sizes.{most_instructions, most_locations}
use Rattle.cases.specs.Lines.{own_version}
use Rattle.cases.specs.Record.{record_bytes}
use Rattle.cases.specs.Checks.{kind_rank}
use Rattle.cases.specs.Draft.{add_of}
use Rattle.cases.specs.Seats.{from_firsts, from_code, from_wants, from_passed, from_steps, seats, seat_of}
use Rattle.cases.specs.Seats.{seat_bytes, bytes_at, encode_of}
use Rattle.cases.specs.Ranges.{HasOwnLines, ProgramSized, RegistersSet, AskSized, RunSized}
use Rattle.cases.proofs.seats.EachLaws.{each_more}
use Rattle.cases.proofs.draft.RecordFitLaws.{RecordFits, SeatFits, Grown, record_grown, seat_grown}

-- how long the arrays are, how much they hold at least and at most, that the locations lie on the lines, and that
-- the registers that are needed are set
pub record SoundSized (c : Case) : Type 0 where
  pub of_program : ProgramSized c.program
  pub on_lines : (l : ℕ) → l < most_locations → get_or c.program.line l 0 < c.program.lines
  pub registers : RegistersSet c.program
  pub own : c.version ≡ own_version → HasOwnLines c.program
  pub some_threads : 1 ≤ c.program.threads
  pub some_locations : 1 ≤ c.program.locations
  pub of_ask : AskSized c.ask
  pub of_run : RunSized c.run

-- a record that may come next stands at the front or behind it, by its kind
pub record SoundFronts (d : Draft) (front : ℕ) : Type 0 where
  pub begun : 1 ≤ d.kind
  pub to_firsts : kind_rank d.kind ≤ kind_rank 2 → (n : ℕ) → (d.kind ≡ 2 → d.next ≤ n)
      → front ≤ from_firsts + n
  pub to_code : kind_rank d.kind ≤ kind_rank 3 → (t : ℕ) → (d.kind ≡ 3 → d.next ≤ t)
      → front ≤ from_code + (t * most_instructions + get_or d.case.program.counts t 0)
  pub to_wants : kind_rank d.kind ≤ kind_rank 4 → (n : ℕ) → (d.kind ≡ 4 → d.next ≤ n)
      → front ≤ from_wants + n
  pub to_passed : kind_rank d.kind ≤ kind_rank 5 → (n : ℕ) → (d.kind ≡ 5 → d.next ≤ n)
      → front ≤ from_passed + n
  pub to_steps : front ≤ from_steps + d.case.run.count

-- the case keeps to its sizes, no record stands at the front or behind it, and every record is in range
pub record Sound (d : Draft) (front : ℕ) : Type 0 where
  pub sized : SoundSized d.case
  pub fronts : SoundFronts d front
  pub blank : (j : ℕ) → front ≤ j → seat_of d.case j ≡ None
  pub ranged : (j : ℕ) → SeatFits d.case.program (seat_of d.case j)

-- what a record more does
pub record Added (d : Draft) (r : Record) : Type 0 where
  pub spot : ℕ
  pub sound : Sound (add_of d r) (suc spot)
  pub longer : encode_of (add_of d r).case ≡ encode_of d.case ++ record_bytes r

-- A record behind a sound draft: it stands at a seat of its own, at the front or behind it, and every other
-- seat is as it was
pub record SoundStands (d : Draft) (front : ℕ) (r : Record) (spot : ℕ) : Type 0 where
  pub reached : front ≤ spot
  pub inside : spot < seats
  pub here : seat_of (add_of d r).case spot ≡ Some r
  pub other : (j : ℕ) → j ≢ spot → seat_of (add_of d r).case j ≡ seat_of d.case j
  pub grown : Grown d.case.program (add_of d r).case.program
  pub fit : RecordFits d.case.program r
  pub sized : SoundSized (add_of d r).case
  pub fronts : SoundFronts (add_of d r) (suc spot)

-- A record that stands so: its bytes are added at the end, no record stands behind it, and all are in range
module _ (d : Draft) (front : ℕ) (s : Sound d front)
    (r : Record) (spot : ℕ) (stands : SoundStands d front r spot) where
  add_longer : encode_of (add_of d r).case ≡ encode_of d.case ++ record_bytes r
  unfolding encode_of bytes_at seat_bytes
  add_longer =
      let reached = stands.reached in
      each_more seats spot (bytes_at (add_of d r).case) (bytes_at d.case) stands.inside
      (λ j n. ap seat_bytes (stands.other j n))
      (λ j n. ap seat_bytes (s.blank j (omega arith)))
      ∙ ap (λ (x : Option Record). encode_of d.case ++ seat_bytes x) stands.here

  add_blank : (j : ℕ) → suc spot ≤ j → seat_of (add_of d r).case j ≡ None
  add_blank j h =
      let reached = stands.reached in
      stands.other j (λ e. omega arith) ∙ s.blank j (omega arith)

  add_ranged : (j : ℕ) → SeatFits (add_of d r).case.program (seat_of (add_of d r).case j)
  unfolding SeatFits
  add_ranged j = go (eqb j spot) refl
    where
      go : (t : Bool) → eqb j spot ≡ t → SeatFits (add_of d r).case.program (seat_of (add_of d r).case j)
      go true e = rw (eqb-true j spot e, stands.here) (record_grown _ _ stands.grown r stands.fit)
      go false e =
          rw (stands.other j (eqb-false j spot e))
          (seat_grown _ _ stands.grown (seat_of d.case j) (s.ranged j))

  pub added : Added d r
  added =
      record {
        spot = spot;
        sound = record {
          sized = stands.sized;
          fronts = stands.fronts;
          blank = add_blank;
          ranged = add_ranged;
        };
        longer = add_longer;
      }
