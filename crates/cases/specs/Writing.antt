-- Document 01, "Refusal numbers": writing, and 32, "a case in memory that no byte string reads as".
--   unwritten_no m    the number of the refusal
--   wrote_no, wrote_length   the number that an answer stands for, and the length
--   same_list, same_flag, same_instruction, same_step, same_sizes, same_program, same_ask, same_run, same_case
--                     the two are the same in every field; same_list by a test of two elements
--   reads_back c      the case's file reads as the case: 32 where it does not
--   wrote_of c out    what writing the case into the lent bytes `out` answers
--   written_of c out  what they hold afterwards
-- Assumes nothing.
use Rattle.std.specs.Prelude.{ℕ, List, [], ◌∷◌, ◌++◌, Bool, true, false, not, Result, Ok, Err, length, drop, eqb, ltb}
use Rattle.cases.specs.declared.case.Instruction.{Instruction}
use Rattle.cases.specs.declared.case.Step.{Step}
use Rattle.cases.specs.declared.case.Program.{Program}
use Rattle.cases.specs.declared.case.Ask.{Ask}
use Rattle.cases.specs.declared.case.Run.{Run}
use Rattle.cases.specs.declared.case.Case.{Case}
use Rattle.cases.specs.declared.writer.Unwritten.{Unwritten}
use Rattle.cases.specs.declared.writer.Unwritten.TheVariants.{Unreadable, Short, Other}
use Rattle.cases.specs.Choice.{pick, both}
use Rattle.cases.specs.Reading.{number_of, read_of}
use Rattle.cases.specs.Seats.{encode_of}

-- why nothing is written, by number
abbrev pub unwritten_no : Unwritten → ℕ
unwritten_no Unreadable = 32
unwritten_no Short = 31
unwritten_no (Other m) = m

-- "writing 0 and the length"
abbrev pub wrote_no : Result ℕ Unwritten → ℕ
wrote_no (Ok n) = 0
wrote_no (Err m) = unwritten_no m

abbrev pub wrote_length : Result ℕ Unwritten → ℕ
wrote_length (Ok n) = n
wrote_length (Err m) = 0

unfoldable pub same_list : {A : Type 0} → (A → A → Bool) → List A → List A → Bool
same_list e [] [] = true
same_list e [] (y ∷ ys) = false
same_list e (x ∷ xs) [] = false
same_list e (x ∷ xs) (y ∷ ys) = both (e x y) (same_list e xs ys)

abbrev pub same_flag : Bool → Bool → Bool
same_flag true b = b
same_flag false b = not b

unfoldable pub same_instruction : Instruction → Instruction → Bool
same_instruction x y =
    both (eqb x.operation y.operation)
    (both (eqb x.location.0 y.location.0)
    (both (eqb x.register.0 y.register.0)
    (eqb x.word y.word)))

unfoldable pub same_step : Step → Step → Bool
same_step x y =
    both (eqb x.thread.0 y.thread.0)
    (both (eqb x.code y.code)
    (both (eqb x.position y.position)
    (eqb x.location.0 y.location.0)))

-- what the program's record says
unfoldable pub same_sizes : Program → Program → Bool
same_sizes p q =
    both (eqb p.threads q.threads)
    (both (eqb p.locations q.locations)
    (both (eqb p.lines q.lines)
    (same_list eqb p.line q.line)))

unfoldable pub same_program : Program → Program → Bool
same_program p q =
    both (same_sizes p q)
    (both (same_list eqb p.first q.first)
    (both (same_list eqb p.counts q.counts)
    (same_list same_instruction p.code q.code)))

unfoldable pub same_ask : Ask → Ask → Bool
same_ask a b =
    both (same_list same_flag a.wanted b.wanted)
    (both (same_list eqb a.want b.want)
    (same_list eqb a.passed b.passed))

unfoldable pub same_run : Run → Run → Bool
same_run r s = both (eqb r.count s.count) (same_list same_step r.steps s.steps)

unfoldable pub same_case : Case → Case → Bool
same_case c d =
    both (eqb c.version d.version)
    (both (same_program c.program d.program)
    (both (same_ask c.ask d.ask)
    (same_run c.run d.run)))

-- the bytes s read as the case c
unfoldable pub reads_as : List ℕ → Case → Bool
reads_as s c = both (eqb (number_of (read_of s).answer) 0) (same_case c (read_of s).case)

unfoldable pub reads_back : Case → Bool
reads_back c = reads_as (encode_of c) c

-- "The writer tests 32, then 31 (shorter than the file)."
unfoldable pub wrote_of : Case → List ℕ → Result ℕ Unwritten
wrote_of c out =
    pick (not (reads_back c)) (Err Unreadable)
    (pick (ltb (length out) (length (encode_of c))) (Err Short)
    (Ok (length (encode_of c))))

-- "Refusals .. store nothing. A success writes from the front and touches nothing behind."
unfoldable pub written_of : Case → List ℕ → List ℕ
written_of c out =
    pick (not (reads_back c)) out
    (pick (ltb (length out) (length (encode_of c))) out
    (encode_of c ++ drop (length (encode_of c)) out))
