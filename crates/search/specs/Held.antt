-- What the walk's code asks of its lanes, and what it is asked.
--   AskWithin p a      nothing is asked of a location or a thread that the program p lacks
--   Held c x depth room   x are the lanes of a state that fits and holds no more than there is room for, of the
--                      program with the listing c; `depth` and the work left come to no more than a program weighs,
--                      and that many steps fit `room` bytes
-- Assumes nothing.
use Rattle.std.specs.Prelude.{ℕ, ◌+◌, ◌*◌, ◌<◌, ◌≤◌, ◌≡◌, true, false, List, get_or}
use Rattle.cases.specs.declared.case.Program.{Program}
use Rattle.cases.specs.declared.case.Ask.{Ask}
use Rattle.cases.specs.Sizes.{all_code, step_size}
use Rattle.cases.specs.Checks.{count_at}
use Rattle.machine.specs.declared.cells.State.{State}
use Rattle.machine.specs.Sizes.{most_work}
use Rattle.machine.specs.Fit.{together, Fits}
use Rattle.machine.specs.Work.{work}
use Rattle.search.specs.Lanes.{lanes_of}
use Rattle.search.specs.Listing.{listing_of}
use Rattle.search.specs.Taken.{padded}

pub record AskWithin (p : Program) (a : Ask) : Type 0 where
  pub wants : (l : ℕ) → get_or a.wanted l false ≡ true → l < p.locations
  pub passed : (t : ℕ) → get_or a.passed t 0 ≤ count_at p t

pub record Held (c x : List ℕ) (depth room : ℕ) : Type 0 where
  pub program : Program
  pub state : State
  pub fits : Fits program state
  pub few : together program state ≤ all_code
  pub listed : c ≡ listing_of program
  pub laid : x ≡ padded (lanes_of program state)
  pub deep : depth + work program state ≤ most_work
  pub roomy : step_size * (depth + work program state) ≤ room
