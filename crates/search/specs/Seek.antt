-- How the code goes through the walk, counting the budget down; Question says what it comes to, and doesn't use
-- this page.
--   seek test b vs       the first of the runs vs that passes the test, at a budget b
--   walked_of d x        what the walk at depth d answers
--   walked_no, walked_place, walked_rest   of that answer: 01's number, its place, what is left of the budget
--   walked_outcome w     what a caller gets for that answer
--   stored_of d x out    what it leaves in the lent bytes: the run's records behind those of the first d steps
-- Assumes nothing.
use Rattle.std.specs.Prelude.{ℕ, zero, suc, ◌+◌, ◌*◌, Bool, true, false, List, [], ◌∷◌, length}
use Rattle.std.proofs.lemmas.List.Edits.{sets}
use Rattle.cases.specs.declared.case.Step.{Step}
use Rattle.cases.specs.Seats.{steps_bytes}
use Rattle.cases.specs.Sizes.{step_size}
use Rattle.search.specs.declared.walk.Walked.{Walked}
use Rattle.search.specs.declared.walk.Walked.TheVariants.{Found, Finished, Stopped}
use Rattle.search.specs.declared.ask.Outcome.{Outcome}
use Rattle.search.specs.declared.ask.Outcome.TheVariants.{Reached, Unreachable, Undecided}
use Rattle.search.specs.Walk.{Visit}

-- a run that passes; none does, and so much of the budget is left; the budget is used up
pub data Sought (K : Type 0) : Type 0 where
  hit : List K → Sought K
  done : ℕ → Sought K
  used_up : Sought K

unfoldable pub seek : {S K : Type 0} → (S → Bool) → ℕ → List (Visit S K) → Sought K
seek test b [] = done b
seek test zero (v ∷ vs) = used_up
seek test (suc b) (v ∷ vs) = elim (test v.end) [ true ↦ hit v.run | false ↦ seek test b vs ]

unfoldable pub walked_of : ℕ → Sought Step → Walked
walked_of d (hit run) = Found (d + length run)
walked_of d (done b) = Finished b
walked_of d used_up = Stopped

-- "100 reached (.., and its length), 101 unreachable, 102 undecided"; the place is the number of steps for 100,
-- else 0
abbrev pub walked_no : Walked → ℕ
walked_no (Found n) = 100
walked_no (Finished b) = 101
walked_no Stopped = 102

abbrev pub walked_place : Walked → ℕ
walked_place (Found n) = n
walked_place (Finished b) = 0
walked_place Stopped = 0

-- what is left of the budget where the walk came to its end: one that is used up leaves 0, and where a run is
-- found nobody asks
abbrev pub walked_rest : Walked → ℕ
walked_rest (Found n) = 0
walked_rest (Finished b) = b
walked_rest Stopped = 0

abbrev pub walked_outcome : Walked → Outcome
walked_outcome (Found n) = Reached n
walked_outcome (Finished b) = Unreachable
walked_outcome Stopped = Undecided

unfoldable pub stored_of : ℕ → Sought Step → List ℕ → List ℕ
stored_of d (hit run) out = sets out (step_size * d) (steps_bytes run)
stored_of d (done b) out = out
stored_of d used_up out = out
