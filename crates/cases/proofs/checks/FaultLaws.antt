-- Laws of a fault's number and of a record's place. Assumes nothing.
use Prim.Native.Nat.{ℕ}
use mathlib.Core.Path.{◌≡◌}
use mathlib.Core.Logic.{◌≢◌}
use mathlib.Core.Bool.{Bool, true, false}
use native.Mathlib.Omega.{arith}
use Rattle.cases.specs.declared.fault.Fault.{Fault}
use Rattle.cases.specs.declared.fault.Fault.TheVariants.{Cut, UnknownKind, Length, Misplaced, Range, Disorder}
use Rattle.cases.specs.declared.fault.Fault.TheVariants.{TooMany, Unused, TooManySteps, Unset}
use Rattle.cases.specs.Choice.{refuse}
use Rattle.cases.specs.Fault.{fault_no}

-- a fault has a number
pub fault_some : (f : Fault) → fault_no f ≢ 0
fault_some Cut h = omega arith
fault_some UnknownKind h = omega arith
fault_some Length h = omega arith
fault_some Misplaced h = omega arith
fault_some Range h = omega arith
fault_some Disorder h = omega arith
fault_some TooMany h = omega arith
fault_some Unused h = omega arith
fault_some TooManySteps h = omega arith
fault_some Unset h = omega arith

-- a record's place is refused: that is the first of its kind's checks
pub place_refused : (f : Fault) (t : Bool) (rest : ℕ) → fault_no f ≡ refuse t 4 0 → fault_no f ≡ refuse t 4 rest
unfolding refuse
place_refused f true rest h = h
place_refused f false rest h = absurd (fault_some f h)
