-- Demand 3, "any of those threads can be the one", of a program without operation 9: the run in which a thread
-- comes last, written out. Every other thread in turn, then that one; each instruction is carried through, from
-- its issue to the memory, before the next.
--   carried p t x          the steps that carry instruction x of thread t through
--   carried_from p t i n   those of the n instructions of thread t from the i-th on
--   carried_all p t        those of all its instructions
--   others_from p t u n    those of the n threads from u on, without t
--   last_run p t           the run in which thread t comes last
-- Assumes nothing.
use Rattle.std.specs.Prelude.{ℕ, zero, suc, List, [], ◌∷◌, ◌++◌, eqb}
use Rattle.cases.specs.declared.case.Instruction.{Instruction}
use Rattle.cases.specs.declared.case.Step.{Step}
use Rattle.cases.specs.declared.case.Program.{Program}
use Rattle.cases.specs.Operations.{load, exchange, flush, sfence, mfence}
use Rattle.cases.specs.Choice.{pick, either}
use Rattle.cases.specs.Checks.{count_at, instruction_at}
use Rattle.machine.specs.View.{line_of}
use Rattle.machine.specs.Next.{issue_step, move_step, persist_step}

-- load and mfence: the issue is all; exchange: its write goes straight into the queue; flush and sfence: they
-- leave the buffer and nothing comes of them; stores and flush-opt: through buffer and queue
unfoldable pub carried : Program → ℕ → Instruction → List Step
carried p t x =
    pick (either (eqb x.operation load) (eqb x.operation mfence)) (issue_step t ∷ [])
    (pick (eqb x.operation exchange) (issue_step t ∷ persist_step (line_of p x.location.0) ∷ [])
    (pick (either (eqb x.operation flush) (eqb x.operation sfence)) (issue_step t ∷ move_step t 0 ∷ [])
    (issue_step t ∷ move_step t 0 ∷ persist_step (line_of p x.location.0) ∷ [])))

unfoldable pub carried_from : Program → ℕ → ℕ → ℕ → List Step
carried_from p t i zero = []
carried_from p t i (suc n) = carried p t (instruction_at p t i) ++ carried_from p t (suc i) n

unfoldable pub carried_all : Program → ℕ → List Step
carried_all p t = carried_from p t 0 (count_at p t)

unfoldable pub others_from : Program → ℕ → ℕ → ℕ → List Step
others_from p t u zero = []
others_from p t u (suc n) = pick (eqb u t) [] (carried_all p u) ++ others_from p t (suc u) n

unfoldable pub last_run : Program → ℕ → List Step
last_run p t = others_from p t 0 p.threads ++ carried_all p t
