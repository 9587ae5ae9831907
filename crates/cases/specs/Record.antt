-- Document 01, "Records of a case", its table, and the checks 1 (head), 2, 3, 1 (payload) of "Refusal numbers".
--   kind_of r           the record's kind, 1 to 6
--   payload_of k        how long the payload of kind k is at least; 0: there is no such kind
--   spare_of k          how much longer it may be: a line byte for each location, of kind 1
--   mislong k n         a payload of n bytes is shorter or longer than one of kind k may be
--   as_row xs           a byte for each location that there may be: those of xs, 0 behind them
--   line_bytes h        the line bytes of a program's record
--   record_bytes r      the record's bytes: "a two-byte payload length, a two-byte kind, the payload"
--   payload_bytes r     its payload's
--   bytes_of rs         the bytes of the records rs, one behind the other
--   line_byte s l       the byte that says the line of location l
--   as_header, as_write, as_instruction, as_step   the bytes s as what a payload holds, behind a head of 4 bytes
--   step_from b         the step whose fields are the four bytes b, in the order of its payload
--   record_of k s       the record of kind k whose bytes s starts with
--   open_no s           0 where s starts with a whole record, else the number of the refusal
--   size_of s           how long that record is, by its head
-- Assumes nothing.
use Rattle.std.specs.Prelude.{ℕ, ◌+◌, ◌-◌, List, [], ◌∷◌, ◌++◌, Bool, length, get_or, take, replicate, eqb, ltb}
use Rattle.cases.specs.declared.case.Write.{Write}
use Rattle.cases.specs.declared.case.Instruction.{Instruction}
use Rattle.cases.specs.declared.case.Step.{Step}
use Rattle.cases.specs.declared.record.Header.{Header}
use Rattle.cases.specs.declared.record.Record.{Record}
use Rattle.cases.specs.declared.record.Record.TheVariants.{Declare, First, Instruct, Want, Passed, Take}
use Rattle.cases.specs.Sizes.{most_locations}
use Rattle.cases.specs.Choice.{pick, either, refuse}
use Rattle.cases.specs.Bytes.{half, word_at, half_bytes, word_bytes}
use Rattle.cases.specs.Lines.{table}

abbrev pub kind_of : Record → ℕ
kind_of (Declare h) = 1
kind_of (First w) = 2
kind_of (Instruct t x) = 3
kind_of (Want w) = 4
kind_of (Passed t n) = 5
kind_of (Take k) = 6

unfoldable pub payload_of : ℕ → ℕ
payload_of k =
    pick (eqb k 1) 4
    (pick (eqb k 2) 5
    (pick (eqb k 3) 8
    (pick (eqb k 4) 5
    (pick (eqb k 5) 2
    (pick (eqb k 6) 4 0)))))

unfoldable pub spare_of : ℕ → ℕ
spare_of k = pick (eqb k 1) most_locations 0

unfoldable pub mislong : ℕ → ℕ → Bool
mislong k n = either (ltb n (payload_of k)) (ltb (spare_of k) (n - payload_of k))

unfoldable pub as_row : List ℕ → List ℕ
as_row xs = take most_locations (xs ++ replicate most_locations 0)

unfoldable pub line_bytes : Header → List ℕ
line_bytes h = take h.listed h.line

-- kind 1: version (2 bytes), threads, locations, line bytes. Kinds 2 and 4: location, word. Kind 3: thread, operation,
-- location, register, word. Kind 5: thread, least number of instructions issued. Kind 6: thread, code,
-- position, location
unfoldable pub payload_bytes : Record → List ℕ
payload_bytes (Declare h) = half_bytes h.version ++ h.threads ∷ h.locations ∷ line_bytes h
payload_bytes (First w) = w.location.0 ∷ word_bytes w.word
payload_bytes (Instruct t x) = t.0 ∷ x.operation ∷ x.location.0 ∷ x.register.0 ∷ word_bytes x.word
payload_bytes (Want w) = w.location.0 ∷ word_bytes w.word
payload_bytes (Passed t n) = t.0 ∷ n ∷ []
payload_bytes (Take k) = k.thread.0 ∷ k.code ∷ k.position ∷ k.location.0 ∷ []

unfoldable pub record_bytes : Record → List ℕ
record_bytes r = half_bytes (length (payload_bytes r)) ++ half_bytes (kind_of r) ++ payload_bytes r

unfoldable pub bytes_of : List Record → List ℕ
bytes_of [] = []
bytes_of (r ∷ rs) = record_bytes r ++ bytes_of rs

abbrev pub line_byte : List ℕ → ℕ → ℕ
line_byte s l = get_or s (8 + l) 0

-- what the payload has beyond 4 bytes is line bytes
unfoldable pub as_header : List ℕ → Header
as_header s =
    record {
      version = half s 4;
      threads = get_or s 6 0;
      locations = get_or s 7 0;
      listed = half s 0 - 4;
      line = table (line_byte s) (half s 0 - 4);
    }

unfoldable pub as_write : List ℕ → Write
as_write s = record { location = record { 0 = get_or s 4 0 }; word = word_at s 5 }

unfoldable pub as_instruction : List ℕ → Instruction
as_instruction s =
    record {
      operation = get_or s 5 0;
      location = record { 0 = get_or s 6 0 };
      register = record { 0 = get_or s 7 0 };
      word = word_at s 8;
    }

-- thread, code, position, location
abbrev pub step_from : List ℕ → Step
step_from b =
    record {
      thread = record { 0 = get_or b 0 0 };
      code = get_or b 1 0;
      position = get_or b 2 0;
      location = record { 0 = get_or b 3 0 };
    }

unfoldable pub as_step : List ℕ → Step
as_step s =
    record {
      thread = record { 0 = get_or s 4 0 };
      code = get_or s 5 0;
      position = get_or s 6 0;
      location = record { 0 = get_or s 7 0 };
    }

unfoldable pub record_of : ℕ → List ℕ → Record
record_of k s =
    pick (eqb k 1) (Declare (as_header s))
    (pick (eqb k 2) (First (as_write s))
    (pick (eqb k 3) (Instruct (record { 0 = get_or s 4 0 }) (as_instruction s))
    (pick (eqb k 4) (Want (as_write s))
    (pick (eqb k 5) (Passed (record { 0 = get_or s 4 0 }) (get_or s 5 0))
    (Take (as_step s))))))

unfoldable pub open_no : List ℕ → ℕ
open_no s =
    refuse (ltb (length s) 4) 1
    (refuse (eqb (payload_of (half s 2)) 0) 2
    (refuse (mislong (half s 2) (half s 0)) 3
    (refuse (ltb (length s - 4) (half s 0)) 1 0)))

unfoldable pub size_of : List ℕ → ℕ
size_of s = 4 + half s 0
