-- In a program without a compare no legal step is a failed one: each costs one. Assumes nothing.
use mathlib.Core.Path.{◌≡◌, refl}
use mathlib.Core.Bool.{false}
use mathlib.Core.List.{List, [], ◌∷◌}
use borrow.Author.Tests.{ne_eqb}
use Rattle.cases.specs.declared.case.Step.{Step}
use Rattle.cases.specs.declared.case.Program.{Program}
use Rattle.cases.specs.Choice.{pick, both}
use Rattle.machine.specs.declared.cells.State.{State}
use Rattle.machine.specs.View.{issued_of}
use Rattle.machine.specs.Rules.{fails, rule_of, next_of}
use Rattle.machine.specs.Fit.{Fits}
use Rattle.machine.specs.Model.{Leads, Faultless}
use Rattle.machine.specs.Work.{Uncompared, fails_at, cost, failures_from}
use Rattle.machine.specs.Ptso.{ptso}
use Rattle.machine.proofs.steps.StepFaultLaws.{InRange, fault_none}
use Rattle.machine.proofs.steps.IssueLaws.{issue_left}
use Rattle.machine.proofs.steps.StepLaws.{step_cases, step_fits}
use Rattle.machine.proofs.work.CostLaws.{cost_failure}

module _ (p : Program) (plain : Uncompared p) where
  fails_none : (s : State) → Fits p s → (k : Step) → InRange p k → rule_of p s k ≡ 0 → fails_at p s k ≡ false
  unfolding fails_at fails both Uncompared
  fails_none s f k =
      step_cases p s k (λ u. fails_at p s k ≡ false)
      (λ c legal. rw (
        c,
        ne_eqb _ _ (plain k.thread.0 (issued_of s k.thread.0)
            (issue_left p s f k.thread.0 legal)),
      ) refl)
      (λ c low legal. rw c refl)
      (λ c low legal. rw c refl)

  pub cost_one : (s : State) → Fits p s → (k : Step) → InRange p k → rule_of p s k ≡ 0 → cost p s k ≡ 1
  unfolding pick
  cost_one s f k r legal = rw (cost_failure p s k, fails_none s f k r legal) refl

  pub failures_none : (s : State) (ks : List Step) (u : State) → Fits p s → Faultless (ptso p) ks
      → Leads (ptso p) s ks u
      → failures_from p s ks ≡ 0
  unfolding failures_from Faultless Leads pick
  failures_none s [] u f r h = refl
  failures_none s (k ∷ ks) u f r h =
      let range = fault_none p k r.0 in
      rw (
        fails_none s f k range h.0,
        failures_none (next_of p s k) ks u (step_fits p s f k range h.0) r.1 h.1,
      )
      refl
