-- A sound draft's file is made of bytes.
--   Bytewise s   every element of s is a byte, said by the way s is made
-- Assumes nothing.
use Prim.Native.Nat.{ℕ, zero, suc, ◌/◌, ◌%◌, ◌<◌, ◌≤◌}
use mathlib.Core.List.{List, [], ◌∷◌, ◌++◌}
use lib.Dec.{leb}
use borrow.Author.Tests.{leb-false, ltb-false}
use native.Mathlib.Omega.{arith}
use Rattle.cases.specs.declared.case.Program.{Program}
use Rattle.cases.specs.declared.case.Write.{Write}
use Rattle.cases.specs.declared.draft.Draft.{Draft}
use Rattle.cases.specs.declared.record.Record.{Record}
use Rattle.cases.specs.declared.record.Record.TheVariants.{Declare, First, Instruct, Want, Passed, Take}
use Rattle.std.specs.declared.option.Option.{Option}
use Rattle.std.specs.declared.option.Option.TheVariants.{Some, None}
use Rattle.cases.specs.Sizes.{most_threads, most_locations}
use Rattle.cases.specs.Lines.{last_version}
use Rattle.cases.specs.Bytes.{half_bytes, word_bytes, IsBytes}
use Rattle.cases.specs.Record.{line_bytes, payload_bytes, record_bytes}
use Rattle.cases.specs.Checks.{outside, count_at, header_out, passed_out, limits_of}
use Rattle.cases.specs.Seats.{seats, seat_bytes, bytes_at, each, encode_of}
use Rattle.cases.specs.Ranges.{ProgramSized}
use Rattle.cases.proofs.ChoiceLaws.{either_false}
use Rattle.cases.proofs.draft.RecordFitLaws.{RecordFits, SeatFits, outside_low, few_lines}
use Rattle.cases.proofs.draft.RecordFitLaws.{instruction_fits, step_low}
use Rattle.cases.proofs.draft.SoundLaws.{Sound}

data Bytewise : List ℕ → Type 0 where
  none : Bytewise []
  byte : (a : ℕ) {s : List ℕ} → a < 256 → Bytewise s → Bytewise (a ∷ s)

-- such a list is one of bytes, and back; two of them joined; one said of each number; a number's bytes
bytewise_is : {s : List ℕ} → Bytewise s → IsBytes s
bytewise_is none i = omega arith
bytewise_is (byte a h b) zero = h
bytewise_is (byte a h b) (suc i) = bytewise_is b i

is_bytewise : (s : List ℕ) → IsBytes s → Bytewise s
is_bytewise [] b = none
is_bytewise (a ∷ s) b = byte a (b 0) (is_bytewise s (λ i. b (suc i)))

joined : {s t : List ℕ} → Bytewise s → Bytewise t → Bytewise (s ++ t)
joined none c = c
joined (byte a h b) c = byte a h (joined b c)

bytes_each : (n : ℕ) (f : ℕ → List ℕ) → ((k : ℕ) → Bytewise (f k)) → Bytewise (each n f)
unfolding each
bytes_each zero f h = none
bytes_each (suc n) f h = joined (bytes_each n f h) (h n)

half_are : (n : ℕ) → Bytewise (half_bytes n)
unfolding half_bytes
half_are n = byte (n % 256) (omega arith) (byte (n / 256 % 256) (omega arith) none)

word_are : (n : ℕ) → Bytewise (word_bytes n)
unfolding word_bytes
word_are n =
    byte (n % 256) (omega arith)
    (byte (n / 256 % 256) (omega arith)
    (byte (n / 65536 % 256) (omega arith)
    (byte (n / 16777216 % 256) (omega arith) none)))

-- the bytes of a payload behind a head; of a location and a word
head_are : (n kind : ℕ) {s : List ℕ} → Bytewise s → Bytewise (half_bytes n ++ half_bytes kind ++ s)
head_are n kind b = joined (joined (half_are n) (half_are kind)) b

write_are : (w : Write) → w.location.0 < 256 → Bytewise (w.location.0 ∷ word_bytes w.word)
write_are w low = byte w.location.0 low (word_are w.word)

-- the bytes of a record in range are bytes
record_are : (p : Program) → ProgramSized p → 1 ≤ p.locations → (r : Record) → RecordFits p r
    → Bytewise (record_bytes r)
unfolding RecordFits record_bytes payload_bytes header_out passed_out
record_are p s some (Declare h) f =
    let e = either_false (outside h.version last_version) _ f.0 in
    let g = either_false (outside h.threads most_threads) _ e.1 in
    head_are _ 1
    (joined (half_are h.version)
    (byte h.threads (omega (arith, (outside_low h.threads most_threads g.0).1))
    (byte h.locations (omega (arith, (outside_low h.locations most_locations g.1).1))
    (is_bytewise (line_bytes h) f.1))))
record_are p s some (First w) f =
    head_are _ 2 (write_are w (omega (arith, leb-false p.locations w.location.0 f, s.few_locations)))
record_are p s some (Instruct t x) f =
    let i = instruction_fits p t x some f.0 f.1 in
    head_are _ 3
    (byte t.0 (omega (arith, i.0, s.few_threads))
    (byte x.operation (omega (arith, i.1.low_operation))
    (byte x.location.0 (omega (arith, i.1.low_location, s.few_locations))
    (byte x.register.0 (omega (arith, i.1.low_register)) (word_are x.word)))))
record_are p s some (Want w) f =
    head_are _ 4 (write_are w (omega (arith, leb-false p.locations w.location.0 f, s.few_locations)))
record_are p s some (Passed t n) f =
    let e = either_false (leb p.threads t.0) _ f in
    head_are _ 5
    (byte t.0 (omega (arith, leb-false p.threads t.0 e.0, s.few_threads))
    (byte n (omega (arith, ltb-false (count_at p t.0) n e.1, s.few_instructions t.0)) none))
record_are p s some (Take k) f =
    let i = step_low (limits_of p) k s.few_threads (few_lines p s) f.0 f.1 in
    head_are _ 6
    (byte k.thread.0 (omega (arith, i.1))
    (byte k.code (omega (arith, i.0))
    (byte k.position (omega (arith, i.2))
    (byte k.location.0 (omega (arith, i.3)) none))))

seat_are : (p : Program) → ProgramSized p → 1 ≤ p.locations → (x : Option Record) → SeatFits p x
    → Bytewise (seat_bytes x)
unfolding SeatFits seat_bytes
seat_are p s some (Some r) f = record_are p s some r f
seat_are p s some None f = none

-- a sound draft's file is made of bytes
pub sound_bytes : (d : Draft) (front : ℕ) → Sound d front → IsBytes (encode_of d.case)
unfolding encode_of bytes_at
sound_bytes d front s =
    bytewise_is (bytes_each seats (bytes_at d.case)
    (λ k. seat_are _ s.sized.of_program s.sized.some_locations _ (s.ranged k)))
