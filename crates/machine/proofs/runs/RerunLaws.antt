-- The run of a case is one of faultless steps, and a legal run put into a case as its steps is judged legal.
-- Assumes nothing.
use Prim.Native.Nat.{ℕ, zero, suc, ◌-◌, ◌≤◌, ◌<◌}
use mathlib.Core.Path.{◌≡◌, refl, ap, ◌∙◌}
use mathlib.Core.Bool.{true}
use mathlib.Core.List.{List, [], ◌∷◌}
use native.Mathlib.Omega.{arith}
use lib.ListN.{length, get_or, take, replicate}
use lib.Seq.{take_at}
use Rattle.cases.specs.declared.case.Step.{Step}
use Rattle.cases.specs.declared.case.Program.{Program}
use Rattle.cases.specs.declared.case.Case.{Case}
use Rattle.cases.specs.Sizes.{most_steps}
use Rattle.cases.specs.Checks.{limits_of, step_fault}
use Rattle.cases.specs.Draft.{no_step, run_with, with_run}
use Rattle.cases.specs.Ranges.{Ranged}
use Rattle.cases.specs.Writing.{reads_back}
use Rattle.cases.proofs.Promises.{readable_ranged, other_run_reads_back}
use Rattle.cases.proofs.ChoiceLaws.{pick_false, true_not}
use Rattle.machine.specs.declared.cells.State.{State}
use Rattle.machine.specs.declared.runs.Verdict.TheVariants.{Legal}
use Rattle.machine.specs.Rules.{start_of}
use Rattle.machine.specs.Model.{full_length, Leads, Faultless}
use Rattle.machine.specs.Judge.{judged, judge_from, run_of, judge_run, judge_of}
use Rattle.machine.specs.Ptso.{ptso}
use Rattle.machine.proofs.fit.StartLaws.{start_fits, full_most}
use Rattle.machine.proofs.model.ModelLaws.{leads_work, spent_least}
use Rattle.machine.proofs.model.PtsoLaws.{ptso_lawful}
use Rattle.machine.proofs.runs.JudgeLaws.{judge_says_legal}

-- a faultless run is one of faultless steps; the run of a case that can be read is one
pub faultless_at : (p : Program) (ks : List Step) → Faultless (ptso p) ks → (i : ℕ) → i < length ks
    → step_fault (limits_of p) (get_or ks i no_step) ≡ 0
unfolding Faultless
faultless_at p [] f i h = absurd (omega arith)
faultless_at p (k ∷ ks) f zero h = f.0
faultless_at p (k ∷ ks) f (suc i) h = faultless_at p ks f.1 i (omega arith)

front_faultless : (p : Program) (n : ℕ) (ks : List Step) → n ≤ length ks
    → ((i : ℕ) → i < n → step_fault (limits_of p) (get_or ks i no_step) ≡ 0)
    → Faultless (ptso p) (take n ks)
unfolding Faultless
front_faultless p zero ks h f = tt
front_faultless p (suc n) [] h f = absurd (omega arith)
front_faultless p (suc n) (k ∷ ks) h f =
    (f 0 (omega arith), front_faultless p n ks (omega arith) (λ i l. f (suc i) (omega arith)))

pub run_faultless : (c : Case) → Ranged c → Faultless (ptso c.program) (run_of c)
run_faultless c r =
    let few = r.run.few_steps in
    let long = r.run.steps_long in
    front_faultless c.program c.run.count c.run.steps (omega arith) r.steps

-- the run of a case with the steps ks is ks
pub run_again : (c : Case) (ks : List Step) → run_of (with_run c (run_with ks)) ≡ ks
unfolding with_run run_with
run_again c ks = take_at ks (replicate (most_steps - length ks) no_step) (length ks) refl

-- where they are a legal run of a case that can be read: the case with them can be read, and the judge passes
-- them
module _ (c : Case) (readable : reads_back c ≡ true) (ks : List Step) (u : State)
    (faultless : Faultless (ptso c.program) ks)
    (legal : Leads (ptso c.program) (start_of c.program) ks u) where
  pub rerun_reads : reads_back (with_run c (run_with ks)) ≡ true
  unfolding full_length
  rerun_reads =
      let fits = (readable_ranged c readable).program in
      let most = full_most c.program fits in
      let laws = ptso_lawful c.program fits in
      let work = leads_work (ptso c.program) laws _ ks u (start_fits c.program fits) faultless legal in
      let long = spent_least (ptso c.program) laws _ ks u (start_fits c.program fits) faultless legal in
      other_run_reads_back c readable ks (omega arith) (faultless_at c.program ks faultless)

  pub rerun_passes : judge_of (with_run c (run_with ks)) ≡ judged (Legal (length ks)) u
  unfolding judge_of judge_run with_run
  rerun_passes =
      pick_false _ _ _ (true_not _ rerun_reads)
      ∙ ap (judge_from (ptso c.program) 0 (start_of c.program)) (run_again c ks)
      ∙ judge_says_legal (ptso c.program) (start_of c.program) ks u legal
