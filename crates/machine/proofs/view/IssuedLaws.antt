-- Laws of the state's issued counts: one that is put is what is there, and the others stay. Assumes nothing.
use Prim.Native.Nat.{ℕ, ◌<◌}
use mathlib.Core.Path.{◌≡◌}
use mathlib.Core.Logic.{◌≢◌}
use native.Mathlib.Omega.{arith}
use lib.Seq.{get_or-set_same, get_or-set_other}
use Rattle.cases.specs.Sizes.{most_threads}
use Rattle.machine.specs.declared.cells.State.{State}
use Rattle.machine.specs.View.{with_issued, issued_of}
use Rattle.machine.specs.Fit.{Sized}

module _ (s : State) (z : Sized s) where
  pub issued_same : (t n : ℕ) → t < most_threads → issued_of (with_issued s t n) t ≡ n
  unfolding with_issued
  issued_same t n low = get_or-set_same s.issued t n 0 (let w = z.issued_long in omega arith)

  pub issued_other : (t n k : ℕ) → k ≢ t → issued_of (with_issued s t n) k ≡ issued_of s k
  unfolding with_issued
  issued_other t n k h = get_or-set_other s.issued t k n 0 h
