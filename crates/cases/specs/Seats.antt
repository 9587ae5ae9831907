-- Document 01, "Records of a case": a case as a file. A file has a seat for each record that may stand in it,
-- in one fixed order: the program; the first content of each location; the instructions of each thread; the
-- want of each location; the passed count of each thread; the steps. A seat holds a record or is empty.
--   from_firsts, from_code, from_wants, from_passed, from_steps   where the seats of each kind begin
--   seats           how many there are
--   listed_lines c  the lines that the program's record lists
--   header_seat, first_seat, instruction_seat, want_seat, passed_seat, step_seat
--                   what stands at a seat of that kind, counted from the first of its kind
--   seat_of c k     what stands at seat k of the case's file
--   seat_bytes x    a seat's bytes: none where it is empty
--   bytes_at c k    those of seat k
--   encode_of c     the case's file
--   steps_bytes ks  the bytes of the steps ks: what stands at the end of the file of a case with that run
-- Assumes nothing.
use Rattle.std.specs.Prelude.{ℕ, zero, suc, ◌+◌, ◌-◌, ◌/◌, ◌%◌, List, [], ◌++◌, map, false, Option, Some, None, get_or, replicate, eqb, leb, ltb}
use Rattle.cases.specs.declared.case.Step.{Step}
use Rattle.cases.specs.declared.case.Program.{Program}
use Rattle.cases.specs.declared.case.Ask.{Ask}
use Rattle.cases.specs.declared.case.Run.{Run}
use Rattle.cases.specs.declared.case.Case.{Case}
use Rattle.cases.specs.declared.record.Record.{Record}
use Rattle.cases.specs.declared.record.Record.TheVariants.{Declare, First, Instruct, Want, Passed, Take}
use Rattle.cases.specs.Sizes.{most_threads, most_instructions, most_locations, most_steps, all_code}
use Rattle.cases.specs.Choice.{pick}
use Rattle.cases.specs.Lines.{own_version, listed_of}
use Rattle.cases.specs.Record.{as_row, record_bytes, bytes_of}
use Rattle.cases.specs.Checks.{no_instruction, count_at}
use Rattle.cases.specs.Draft.{no_step}

abbrev pub from_firsts : ℕ
from_firsts = 1

abbrev pub from_code : ℕ
from_code = from_firsts + most_locations

abbrev pub from_wants : ℕ
from_wants = from_code + all_code

abbrev pub from_passed : ℕ
from_passed = from_wants + most_locations

abbrev pub from_steps : ℕ
from_steps = from_passed + most_threads

abbrev pub seats : ℕ
seats = from_steps + most_steps

-- in version 1 none is listed, and zeros stand in their place
unfoldable pub listed_lines : Case → List ℕ
listed_lines c = pick (eqb c.version own_version) (replicate most_locations 0) c.program.line

unfoldable pub header_seat : Case → Option Record
header_seat c =
    Some (Declare (record {
      version = c.version;
      threads = c.program.threads;
      locations = c.program.locations;
      listed = listed_of c.version c.program.locations;
      line = as_row (listed_lines c);
    }))

-- "A location without a kind 2 holds 0"
unfoldable pub first_seat : Program → ℕ → Option Record
first_seat p l =
    pick (eqb (get_or p.first l 0) 0) None
    (Some (First (record { location = record { 0 = l }; word = get_or p.first l 0 })))

-- m counts through all threads' instructions
unfoldable pub instruction_seat : Program → ℕ → Option Record
instruction_seat p m =
    pick (leb (count_at p (m / most_instructions)) (m % most_instructions)) None
    (Some (Instruct (record { 0 = m / most_instructions }) (get_or p.code m no_instruction)))

-- "one without a kind 4 may hold anything, and that is not the same as wanting 0"
unfoldable pub want_seat : Ask → ℕ → Option Record
want_seat a l =
    pick (get_or a.wanted l false)
    (Some (Want (record { location = record { 0 = l }; word = get_or a.want l 0 }))) None

unfoldable pub passed_seat : Ask → ℕ → Option Record
passed_seat a t =
    pick (eqb (get_or a.passed t 0) 0) None
    (Some (Passed (record { 0 = t }) (get_or a.passed t 0)))

unfoldable pub step_seat : Run → ℕ → Option Record
step_seat r k = pick (leb r.count k) None (Some (Take (get_or r.steps k no_step)))

unfoldable pub seat_of : Case → ℕ → Option Record
seat_of c k =
    pick (ltb k from_firsts) (header_seat c)
    (pick (ltb k from_code) (first_seat c.program (k - from_firsts))
    (pick (ltb k from_wants) (instruction_seat c.program (k - from_code))
    (pick (ltb k from_passed) (want_seat c.ask (k - from_wants))
    (pick (ltb k from_steps) (passed_seat c.ask (k - from_passed))
    (step_seat c.run (k - from_steps))))))

unfoldable pub seat_bytes : Option Record → List ℕ
seat_bytes (Some r) = record_bytes r
seat_bytes None = []

unfoldable pub bytes_at : Case → ℕ → List ℕ
bytes_at c k = seat_bytes (seat_of c k)

-- what f says of each number below n, joined
unfoldable pub each : {A : Type 0} → ℕ → (ℕ → List A) → List A
each zero f = []
each (suc n) f = each n f ++ f n

unfoldable pub encode_of : Case → List ℕ
encode_of c = each seats (bytes_at c)

unfoldable pub steps_bytes : List Step → List ℕ
steps_bytes ks = bytes_of (map Take ks)
