-- A row of document 01: records, and what must come out of their bytes.
--   asked rs full b d   a program of the full length `full`, asked with the budget b: the answer d, with the
--                       walk's first run where it is reached
--   ruled rs v          a run, judged: legal with its number of steps, or the rule and the index
--   ended rs full n hs r w   a program of the full length `full` and a run, judged: legal, with its n steps;
--                       behind it line 0's queue holds hs, register 0 of thread 0 the word r, and w is the work
--                       left
--   opened rs n at      bytes, read: the number and the offset
--   row_number, row_offset, row_program, row_ask   what reading the records' bytes answers, and what it hands out
--   row_end rs          the state behind the run, as it is judged
--   said r              what the layers' definitions say of the row's bytes
--   due r               what the row says of them
--   Fact r              what it tells of the functions that a host or a program calls
-- Assumes nothing.
use Rattle.std.specs.Prelude.{ℕ, ◌*◌, ◌≤◌, ◌≡◌, List, length}
use Rattle.cases.specs.declared.case.Step.{Step}
use Rattle.cases.specs.declared.case.Program.{Program}
use Rattle.cases.specs.declared.case.Ask.{Ask}
use Rattle.cases.specs.declared.record.Record.{Record}
use Rattle.cases.specs.Record.{bytes_of}
use Rattle.cases.specs.Reading.{number_of, offset_of, read_of}
use Rattle.cases.specs.Sizes.{step_size}
use Rattle.machine.specs.declared.cells.State.{State}
use Rattle.machine.specs.declared.runs.Verdict.{Verdict}
use Rattle.machine.specs.declared.runs.Verdict.TheVariants.{Legal}
use Rattle.machine.specs.View.{Slot, queue, register_in}
use Rattle.machine.specs.Work.{work}
use Rattle.machine.specs.Model.{full_length}
use Rattle.machine.specs.Ptso.{ptso}
use Rattle.machine.specs.Judge.{judge_bytes}
use Rattle.search.specs.Question.{reaches, Decided, ask_of, told_of, question_of, shown_by, shown_of}

-- a question, a run judged, a run with what it leaves, or bytes read
pub data Row : Type 0 where
  asked : List Record → ℕ → ℕ → Decided Step → Row
  ruled : List Record → Verdict → Row
  ended : List Record → ℕ → ℕ → List Slot → ℕ → ℕ → Row
  opened : List Record → ℕ → ℕ → Row

abbrev pub row_number : List Record → ℕ
row_number rs = number_of (read_of (bytes_of rs)).answer

abbrev pub row_offset : List Record → ℕ
row_offset rs = offset_of (read_of (bytes_of rs)).answer

abbrev pub row_program : List Record → Program
row_program rs = (read_of (bytes_of rs)).case.program

abbrev pub row_ask : List Record → Ask
row_ask rs = (read_of (bytes_of rs)).case.ask

abbrev pub row_end : List Record → State
row_end rs = (judge_bytes (bytes_of rs)).state

-- reading's number, full length and answer; a verdict; a full length, a verdict, a queue, a register and the work
-- left; reading's number and offset
pub data Said : Type 0 where
  answers : ℕ → ℕ → Decided Step → Said
  rules : Verdict → Said
  ends : ℕ → Verdict → List Slot → ℕ → ℕ → Said
  opens : ℕ → ℕ → Said

unfoldable pub said : Row → Said
said (asked rs full b d) =
    answers (row_number rs) (full_length (ptso (row_program rs)))
    (ask_of (ptso (row_program rs)) (reaches (row_ask rs)) b)
said (ruled rs v) = rules (judge_bytes (bytes_of rs)).verdict
said (ended rs full n hs r w) =
    ends (full_length (ptso (row_program rs))) (judge_bytes (bytes_of rs)).verdict (queue (row_end rs) 0)
    (register_in (row_end rs).registers 0 0)
    (work (row_program rs) (row_end rs))
said (opened rs n at) = opens (row_number rs) (row_offset rs)

unfoldable pub due : Row → Said
due (asked rs full b d) = answers 0 full d
due (ruled rs v) = rules v
due (ended rs full n hs r w) = ends full (Legal n) hs r w
due (opened rs n at) = opens n at

-- of a question: whatever bytes are lent, if they are long enough, the answer and what they hold afterwards
unfoldable pub Fact : Row → Type 0
Fact (asked rs full b d) =
    (full_length (ptso (row_program rs)) ≡ full)
    × ((out : List ℕ) → step_size * full ≤ length out
    → (question_of (bytes_of rs) (length out) b ≡ told_of d) × (shown_of (bytes_of rs) b out ≡ shown_by d out))
Fact (ruled rs v) = (judge_bytes (bytes_of rs)).verdict ≡ v
Fact (ended rs full n hs r w) =
    (full_length (ptso (row_program rs)) ≡ full)
    × ((judge_bytes (bytes_of rs)).verdict ≡ Legal n)
    × (queue (row_end rs) 0 ≡ hs)
    × (register_in (row_end rs).registers 0 0 ≡ r)
    × (work (row_program rs) (row_end rs) ≡ w)
Fact (opened rs n at) = (row_number rs ≡ n) × (row_offset rs ≡ at)
