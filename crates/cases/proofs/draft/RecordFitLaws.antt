-- What stands at a seat is in range of its program: what the checks 5 and 8 leave of a record.
--   RecordFits p r   what is known of a record that passed its checks behind a program
--   SeatFits p x    the same of a seat: nothing, where it is empty
-- Assumes nothing.
use Prim.Native.Nat.{ℕ, ◌<◌, ◌≤◌}
use mathlib.Core.Path.{◌≡◌}
use mathlib.Core.Bool.{Bool, true, false}
use lib.ListN.{get_or}
use lib.Dec.{eqb, leb, ltb}
use borrow.Author.Tests.{leb-false, ltb-false, le-ltb, eqb-true, not-false}
use native.Mathlib.Omega.{arith}
use Rattle.cases.specs.declared.case.Program.{Program}
use Rattle.cases.specs.declared.case.Thread.{Thread}
use Rattle.cases.specs.declared.case.Instruction.{Instruction}
use Rattle.cases.specs.declared.case.Step.{Step}
use Rattle.cases.specs.declared.record.Record.{Record}
use Rattle.cases.specs.declared.record.Record.TheVariants.{Declare, First, Instruct, Want, Passed, Take}
use Rattle.std.specs.declared.option.Option.{Option}
use Rattle.std.specs.declared.option.Option.TheVariants.{Some, None}
use Rattle.cases.specs.Sizes.{most_threads, most_instructions, most_locations}
use Rattle.cases.specs.Choice.{both, either}
use Rattle.cases.specs.Bytes.{IsBytes}
use Rattle.cases.specs.Record.{line_bytes}
use Rattle.cases.specs.Checks.{outside, beyond, left_over, count_at, header_out, instruction_out}
use Rattle.cases.specs.Checks.{instruction_left, passed_out, lines_of, Limits, limits_of, step_out, step_left}
use Rattle.cases.specs.Checks.{uses_location, uses_register}
use Rattle.cases.specs.Ranges.{InstructionFits, ProgramSized}
use Rattle.cases.proofs.ChoiceLaws.{either_false}
use Rattle.cases.specs.Operations.{last_operation, move, persist, last_code}

unfoldable pub RecordFits : Program → Record → Type 0
RecordFits p (Declare h) = (header_out h ≡ false) × IsBytes (line_bytes h)
RecordFits p (First w) = leb p.locations w.location.0 ≡ false
RecordFits p (Instruct t x) = (instruction_out p t x ≡ false) × (instruction_left x ≡ false)
RecordFits p (Want w) = leb p.locations w.location.0 ≡ false
RecordFits p (Passed t n) = passed_out p t n ≡ false
RecordFits p (Take k) = (step_out (limits_of p) k ≡ false) × (step_left k ≡ false)

unfoldable pub SeatFits : Program → Option Record → Type 0
SeatFits p (Some r) = RecordFits p r
SeatFits p None = Unit {0}

-- a field that passed 5 and 8 is below the most, used or not
pub field_low : (used : Bool) (x limit most : ℕ) → beyond used x limit ≡ false → left_over used x ≡ false
    → limit ≤ most
    → 0 < most
    → x < most
unfolding beyond left_over both
field_low true x limit most b l h k = omega (arith, leb-false limit x b)
field_low false x limit most b l h k = omega (arith, eqb-true x 0 (not-false _ l))

-- what is not outside is from 1 to the most
pub outside_low : (x most : ℕ) → outside x most ≡ false → (1 ≤ x) × (x ≤ most)
unfolding outside
outside_low x most h =
    let e = either_false _ _ h in
    (ltb-false x 1 e.0, ltb-false most x e.1)

-- a program that has as many threads, locations and lines, and no fewer instructions
pub record Grown (p q : Program) : Type 0 where
  pub same_threads : q.threads ≡ p.threads
  pub same_locations : q.locations ≡ p.locations
  pub same_lines : q.lines ≡ p.lines
  pub more : (t : ℕ) → get_or p.counts t 0 ≤ get_or q.counts t 0

-- a step of the grown one may name the same
limits_grown : (p q : Program) → Grown p q → limits_of q ≡ limits_of p
unfolding lines_of
limits_grown p q g = λ i. record { threads = g.same_threads i; lines = g.same_lines i }

-- a program has no more lines than there may be locations
pub few_lines : (p : Program) → ProgramSized p → lines_of p ≤ most_locations
unfolding lines_of
few_lines p s = s.few_lines

-- what fits a program fits the grown one
pub record_grown : (p q : Program) → Grown p q → (r : Record) → RecordFits p r → RecordFits q r
unfolding RecordFits instruction_out passed_out either
record_grown p q g (Declare h) f = f
record_grown p q g (First w) f = rw g.same_locations f
record_grown p q g (Instruct t x) f = (rw (g.same_threads, g.same_locations) f.0, f.1)
record_grown p q g (Want w) f = rw g.same_locations f
record_grown p q g (Passed t n) f =
    let e = either_false (leb p.threads t.0) (ltb (count_at p t.0) n) f in
    let few = ltb-false (count_at p t.0) n e.1 in
    rw (g.same_threads, e.0) (le-ltb (count_at q t.0) n (omega (arith, g.more t.0, few)))
record_grown p q g (Take k) f = (rw (limits_grown p q g) f.0, f.1)

pub seat_grown : (p q : Program) → Grown p q → (x : Option Record) → SeatFits p x → SeatFits q x
unfolding SeatFits
seat_grown p q g (Some r) f = record_grown p q g r f
seat_grown p q g None f = f

-- What the checks leave of an instruction and of a step
pub instruction_fits : (p : Program) (t : Thread) (x : Instruction) → 1 ≤ p.locations
    → instruction_out p t x ≡ false
    → instruction_left x ≡ false
    → (t.0 < p.threads) × InstructionFits p x
unfolding instruction_out instruction_left
instruction_fits p t x some out left =
    let a = either_false (leb p.threads t.0) _ out in
    let b = either_false (outside x.operation last_operation) _ a.1 in
    let c = either_false (beyond (uses_location x.operation) x.location.0 p.locations) _ b.1 in
    let e = either_false (left_over (uses_location x.operation) x.location.0) _ left in
    let f = either_false (left_over (uses_register x.operation) x.register.0) _ e.1 in
    let o = outside_low x.operation last_operation b.0 in (
      leb-false p.threads t.0 a.0,
      record {
        some_operation = o.0;
        low_operation = o.1;
        low_location = field_low (uses_location x.operation) _ _ _ c.0 e.0 (omega arith) some;
        low_register = field_low (uses_register x.operation) _ _ _ c.1 f.0 (omega arith) (omega arith);
      },
    )

pub step_low : (limits : Limits) (k : Step) → limits.threads ≤ most_threads → limits.lines ≤ most_locations
    → step_out limits k ≡ false
    → step_left k ≡ false
    → (k.code ≤ last_code)
    × (k.thread.0 < most_threads)
    × (k.position < most_instructions)
    × (k.location.0 < most_locations)
unfolding step_out step_left
step_low limits k few near out left =
    let a = either_false (ltb last_code k.code) _ out in
    let b = either_false (beyond (leb k.code move) k.thread.0 limits.threads) _ a.1 in
    let c = either_false (beyond (eqb k.code move) k.position most_instructions) _ b.1 in
    let e = either_false (left_over (leb k.code move) k.thread.0) _ left in
    let f = either_false (left_over (eqb k.code move) k.position) _ e.1 in (
      ltb-false last_code k.code a.0,
      field_low (leb k.code move) _ _ _ b.0 e.0 few (omega arith),
      field_low (eqb k.code move) _ _ _ c.0 f.0 (omega arith) (omega arith),
      field_low (eqb k.code persist) _ _ _ c.1 f.1 near (omega arith),
    )
