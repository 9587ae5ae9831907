-- Document 01, "Work left and the walk": "next steps in the order issue by thread, move by thread then
-- position, persist by location", with document 02's "line" for "location".
--   issue_step t, move_step t i, persist_step q   a step of each code
--   steps_from step i n   the steps that `step` says of the n numbers from i on
--   moves_of t        the moves of thread t, at every position
--   moves_from t n    those of n threads from t on
--   candidates p      every step that such a program can have, in that order
--   rank_of           a step's rank in that order
-- Assumes nothing.
use Rattle.std.specs.Prelude.{ℕ, zero, suc, ◌+◌, ◌*◌, List, [], ◌∷◌, ◌++◌}
use Rattle.cases.specs.declared.case.Step.{Step}
use Rattle.cases.specs.declared.case.Program.{Program}
use Rattle.cases.specs.Checks.{lines_of}
use Rattle.cases.specs.Sizes.{most_instructions}
use Rattle.cases.specs.Operations.{issue, move, persist}
use Rattle.machine.specs.Sizes.{kind_ranks}

abbrev pub issue_step : ℕ → Step
issue_step t = record { thread = record { 0 = t }; code = issue; position = 0; location = record { 0 = 0 } }

abbrev pub move_step : ℕ → ℕ → Step
move_step t i = record { thread = record { 0 = t }; code = move; position = i; location = record { 0 = 0 } }

abbrev pub persist_step : ℕ → Step
persist_step q = record { thread = record { 0 = 0 }; code = persist; position = 0; location = record { 0 = q } }

unfoldable pub steps_from : (ℕ → Step) → ℕ → ℕ → List Step
steps_from step i zero = []
steps_from step i (suc n) = step i ∷ steps_from step (suc i) n

abbrev pub moves_of : ℕ → List Step
moves_of t = steps_from (move_step t) 0 most_instructions

unfoldable pub moves_from : ℕ → ℕ → List Step
moves_from t zero = []
moves_from t (suc n) = moves_of t ++ moves_from (suc t) n

unfoldable pub candidates : Program → List Step
candidates p =
    steps_from issue_step 0 p.threads ++ moves_from 0 p.threads ++ steps_from persist_step 0 (lines_of p)

-- a step's rank in that order
unfoldable pub rank_of : Step → ℕ
rank_of k = k.code * kind_ranks + k.thread.0 * most_instructions + k.position + k.location.0
