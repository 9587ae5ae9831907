-- Document 01, "Records of a case" and "Refusal numbers": reading. "Records are checked from the left; the
-- first faulty one decides."
--   number_of, offset_of   the number that an answer stands for, and its offset
--   read_from n d at s     what reading s answers, which lies at offset `at` behind the draft d; fewer than n
--                          records are left
--   read_of s              what reading s answers
--   unread_of s            the part of s that was not read
--   unread_at place s      where that part lies, if s lies at that place: in the same memory, behind what was read
-- Assumes nothing.
use Rattle.std.specs.Prelude.{ℕ, zero, suc, ◌+◌, List, length, drop, eqb}
use Rattle.cases.specs.declared.draft.Draft.{Draft}
use Rattle.cases.specs.declared.reader.Answer.{Answer}
use Rattle.cases.specs.declared.reader.Answer.TheVariants.{Whole, Refused}
use Rattle.cases.specs.declared.reader.Reading.{Reading}
use Rattle.cases.specs.Choice.{pick}
use Rattle.cases.specs.Bytes.{half}
use Rattle.cases.specs.Record.{record_of, open_no, size_of}
use Rattle.cases.specs.Checks.{fault_of}
use Rattle.cases.specs.Draft.{empty_case, blank_draft, add_of}

-- "Reading with success answers 0 and the empty rest"
abbrev pub number_of : Answer → ℕ
number_of (Whole at) = 0
number_of (Refused n at) = n

abbrev pub offset_of : Answer → ℕ
offset_of (Whole at) = at
offset_of (Refused n at) = at

-- "It hands out no case, only the fixed empty one"
unfoldable pub refused_of : ℕ → ℕ → Reading
refused_of n at = record { answer = Refused n at; case = empty_case }

-- the input ends here: refusal 1 where no record came, since one must start there
unfoldable pub ended_of : Draft → ℕ → Reading
ended_of d at = pick (eqb d.kind 0) (refused_of 1 at) (record { answer = Whole at; case = d.case })

-- a record takes 4 bytes at least, so the length of s and one more is enough for n
unfoldable pub read_from : ℕ → Draft → ℕ → List ℕ → Reading
read_from zero d at s = refused_of 1 at
read_from (suc n) d at s =
    elim (length s) [
      | zero ↦ ended_of d at
      | suc l ↦
          elim (open_no s) [
            | suc m ↦ refused_of (suc m) at
            | zero ↦
                elim (fault_of d (record_of (half s 2) s)) [
                  | suc m ↦ refused_of (suc m) at
                  | zero ↦
                      read_from n (add_of d (record_of (half s 2) s)) (at + size_of s) (drop (size_of s) s)
                ]
          ]
    ]

unfoldable pub read_of : List ℕ → Reading
read_of s = read_from (suc (length s)) blank_draft 0 s

unfoldable pub unread_of : List ℕ → List ℕ
unread_of s = drop (offset_of (read_of s).answer) s

-- "the part of the caller's own bytes": a place is a piece of memory, and an offset in it
abbrev pub unread_at : ℕ × ℕ → List ℕ → ℕ × ℕ
unread_at place s = (place.0, offset_of (read_of s).answer + place.1)
