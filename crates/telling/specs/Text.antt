-- How a step and the place of an entry are written, as the bytes that are printed.
--   step_text k    I0, M0.0 or P1 by the step's code, and nothing for a code that there is not
--   place_text b   behind a blank, B and thread or Q and line, a dot and the position; nothing where no entry is named
-- Assumes nothing.
use Rattle.std.specs.Prelude.{ℕ, List, [], ◌++◌, eqb, codes, decimal}
use Rattle.cases.specs.declared.case.Step.{Step}
use Rattle.cases.specs.Choice.{pick}
use Rattle.cases.specs.Operations.{issue, move, persist}
use Rattle.machine.specs.declared.blocker.Blocker.{Blocker}
use Rattle.machine.specs.declared.blocker.Blocker.TheVariants.{InBuffer, InQueue, NoEntry}

abbrev pub step_text : Step → List ℕ
step_text k =
    pick (eqb k.code issue) (codes "I" ++ decimal k.thread.0)
    (pick (eqb k.code move) (codes "M" ++ (decimal k.thread.0 ++ (codes "." ++ decimal k.position)))
    (pick (eqb k.code persist) (codes "P" ++ decimal k.location.0)
    []))

abbrev pub place_text : Blocker → List ℕ
place_text (InBuffer t i) = codes " B" ++ (decimal t.0 ++ (codes "." ++ decimal i))
place_text (InQueue q i) = codes " Q" ++ (decimal q.0 ++ (codes "." ++ decimal i))
place_text NoEntry = []
