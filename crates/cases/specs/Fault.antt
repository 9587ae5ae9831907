-- Document 01, "Refusal numbers": why a reading refuses a record.
--   fault_no f     the fault's number, 1 to 10
--   refusal_no x   the number that an answer stands for: 0 where nothing was refused, else the fault's
-- Assumes nothing.
use Rattle.std.specs.Prelude.{ℕ, Result, Ok, Err}
use Rattle.cases.specs.declared.fault.Fault.{Fault}
use Rattle.cases.specs.declared.fault.Fault.TheVariants.{Cut, UnknownKind, Length, Misplaced, Range, Disorder}
use Rattle.cases.specs.declared.fault.Fault.TheVariants.{TooMany, Unused, TooManySteps, Unset}

abbrev pub fault_no : Fault → ℕ
fault_no Cut = 1
fault_no UnknownKind = 2
fault_no Length = 3
fault_no Misplaced = 4
fault_no Range = 5
fault_no Disorder = 6
fault_no TooMany = 7
fault_no Unused = 8
fault_no TooManySteps = 9
fault_no Unset = 10

abbrev pub refusal_no : {A : Type 0} → Result A Fault → ℕ
refusal_no (Ok a) = 0
refusal_no (Err f) = fault_no f
