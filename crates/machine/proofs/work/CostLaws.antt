-- What a step costs: one, but a compare that fails two. So what the steps of a run use up together is their
-- number and that of its failures. Assumes nothing.
use Prim.Native.Nat.{suc, ◌+◌, ◌≤◌}
use mathlib.Core.Path.{◌≡◌, refl}
use mathlib.Core.Logic.{◌≢◌}
use mathlib.Core.Bool.{Bool, true, false}
use mathlib.Core.List.{List, [], ◌∷◌}
use native.Mathlib.Omega.{arith}
use borrow.Author.Tests.{eq-eqb, ne_eqb}
use lib.ListN.{length}
use Rattle.cases.specs.declared.case.Step.{Step}
use Rattle.cases.specs.declared.case.Program.{Program}
use Rattle.cases.specs.Choice.{pick, both}
use Rattle.cases.specs.Operations.{issue}
use Rattle.cases.specs.Checks.{instruction_at}
use Rattle.machine.specs.declared.cells.State.{State}
use Rattle.machine.specs.View.{issued_of}
use Rattle.machine.specs.Rules.{fails, next_of}
use Rattle.machine.specs.Model.{spent}
use Rattle.machine.specs.Work.{fails_at, cost_if, cost, failures_from}
use Rattle.machine.specs.Ptso.{ptso}

module _ (p : Program) (s : State) (k : Step) where
  -- an issue by what its instruction does; another step one
  pub cost_issue : k.code ≡ issue
      → cost p s k ≡ cost_if (fails p s k.thread.0 (instruction_at p k.thread.0 (issued_of s k.thread.0)))
  unfolding cost fails_at both
  cost_issue e = rw (eq-eqb _ _ e) refl

  pub cost_other : k.code ≢ issue → cost p s k ≡ 1
  unfolding cost cost_if fails_at both pick
  cost_other n = rw (ne_eqb _ _ n) refl

  pub cost_failure : cost p s k ≡ suc (pick (fails_at p s k) 1 0)
  unfolding cost cost_if
  cost_failure = go (fails_at p s k)
    where
      go : (b : Bool) → pick b 2 1 ≡ suc (pick b 1 0)
      go true = unfold pick in refl
      go false = unfold pick in refl

  pub cost_least : 1 ≤ cost p s k
  cost_least = let c = cost_failure in omega arith

pub spent_failures : (p : Program) (s : State) (ks : List Step)
    → spent (ptso p) s ks ≡ length ks + failures_from p s ks
unfolding spent failures_from
spent_failures p s [] = refl
spent_failures p s (k ∷ ks) =
    let c = cost_failure p s k in
    let rest = spent_failures p (next_of p s k) ks in
    omega arith
