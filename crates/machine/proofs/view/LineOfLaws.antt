-- Which line a location lies on: all that is known of `line_of` and `lines_of`. Assumes nothing.
use Prim.Native.Nat.{ℕ, ◌<◌, ◌≤◌}
use mathlib.Core.Path.{◌≡◌, sym}
use native.Mathlib.Omega.{arith}
use lib.ListN.{length, get_or-eq_default}
use Rattle.cases.specs.declared.case.Program.{Program}
use Rattle.cases.specs.Sizes.{most_locations}
use Rattle.cases.specs.Checks.{lines_of}
use Rattle.machine.specs.View.{line_of}
use Rattle.cases.specs.Ranges.{ProgramFits}

module _ (p : Program) (g : ProgramFits p) where
  -- a program has no more lines than there is room for
  pub few_lines : lines_of p ≤ most_locations
  unfolding lines_of
  few_lines = g.sized.few_lines

  -- the line of a location that it has is one that it has, and the line of any location one that there is room
  -- for
  pub line_there : (l : ℕ) → l < p.locations → line_of p l < lines_of p
  unfolding line_of lines_of
  line_there l h = let w = g.sized.few_locations in g.lines l (omega arith)

  pub line_low : (l : ℕ) → l < most_locations → line_of p l < most_locations
  unfolding line_of
  line_low l h = let w = g.sized.few_lines in let k = g.lines l h in omega arith

-- a location that there is no room for has line 0
pub line_beyond : (p : Program) → length p.line ≡ most_locations → (l : ℕ) → most_locations ≤ l → 0 ≡ line_of p l
unfolding line_of
line_beyond p long l h = sym (get_or-eq_default p.line 0 (omega arith))
