-- `judge_run` meets its contract. Assumes nothing.
use Rattle.std.proofs.Common.{take}
use Rattle.machine.proofs.runs.JudgeLoopLaws.{JudgedSoFar}
use Rattle.machine.proofs.runs.judge_run.Given as goal

-- i steps are taken; what is still to judge says what the whole run says
abbrev pub invariant-loop-i : goal.invariant-loop-i
invariant-loop-i l = JudgedSoFar l.p (take l.n l.c.run.steps) l.initial.s l.s l.i
