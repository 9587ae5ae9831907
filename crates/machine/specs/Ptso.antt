-- The machine of document 01, PTSOsyn: one among machines (Model).
--   ptso p    the machine, for the program p
-- Assumes nothing.
use Rattle.cases.specs.declared.case.Step.{Step}
use Rattle.cases.specs.declared.case.Program.{Program}
use Rattle.cases.specs.Checks.{limits_of, step_fault}
use Rattle.machine.specs.declared.cells.State.{State}
use Rattle.machine.specs.Model.{Model}
use Rattle.machine.specs.Rules.{rule_of, next_of, start_of}
use Rattle.machine.specs.Blocker.{blocker_of}
use Rattle.machine.specs.Fit.{misfits}
use Rattle.machine.specs.Work.{work, cost}
use Rattle.machine.specs.Next.{candidates}

abbrev pub ptso : Program → Model State Step
ptso p =
    record {
      fault = step_fault (limits_of p);
      rule = rule_of p;
      blocker = blocker_of p;
      after = next_of p;
      start = start_of p;
      candidates = candidates p;
      misfits = misfits p;
      left = work p;
      cost = cost p;
    }
