-- `instruction_fault` meets its contract: its place is refused. Assumes nothing.
use Rattle.std.proofs.lemmas.Result.{err_from_is_err_and}
use Rattle.cases.specs.Checks.{fault_of}
use Rattle.cases.proofs.checks.FaultLaws.{place_refused}
use Rattle.cases.proofs.checks.instruction_fault.Goals as goal

pub returns-in_err-check_place : goal.returns-in_err-check_place
unfolding fault_of
returns-in_err-check_place c =
    let p = err_from_is_err_and c.from_residual.result c.from_residual.ensures.1 in
    rw (p.1, p.2) (place_refused _ _ _ c.in_err-check_place.ensures)
