-- The machine of document 01 has the laws of a machine. Assumes nothing.
use Rattle.cases.specs.declared.case.Program.{Program}
use Rattle.machine.specs.Model.{Lawful}
use Rattle.cases.specs.Ranges.{ProgramFits}
use Rattle.machine.specs.Fit.{Fits}
use Rattle.machine.specs.Next.{rank_of}
use Rattle.machine.specs.Ptso.{ptso}
use Rattle.machine.proofs.fit.StartLaws.{start_fits}
use Rattle.machine.proofs.steps.StepFaultLaws.{fault_none}
use Rattle.machine.proofs.fit.FitTestLaws.{is_fits}
use Rattle.machine.proofs.work.CostLaws.{cost_least}
use Rattle.machine.proofs.steps.StepLaws.{step_fits, step_work}
use Rattle.machine.proofs.next.CandidateLaws.{candidate_fault, fault_candidate}
use Rattle.machine.proofs.next.CandidateOrderLaws.{candidates_rise}

pub ptso_lawful : (p : Program) → ProgramFits p → Lawful (ptso p) (Fits p) rank_of
ptso_lawful p g =
    record {
      starts = start_fits p g;
      keeps = λ s f k h e. step_fits p s f k (fault_none p k h) e;
      passes = λ s f. is_fits p s f;
      lowers = λ s f k h e. step_work p s f k (fault_none p k h) e;
      costs = λ s f k h e. cost_least p s k;
      complete = λ k. (candidate_fault p k, fault_candidate p k);
      rises = candidates_rise p g;
    }
