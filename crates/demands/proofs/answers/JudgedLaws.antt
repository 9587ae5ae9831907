-- A legal run of a case is one that the judge passes, put into the case as its steps. Assumes nothing.
use Prim.Native.Nat.{ℕ}
use mathlib.Core.Path.{◌≡◌, refl, sym, ap, subst, ◌∙◌}
use mathlib.Core.Logic.{◌↔◌}
use mathlib.Core.Bool.{Bool, true, false}
use mathlib.Core.List.{List}
use native.Mathlib.Omega.{arith}
use lib.ListN.{length}
use Rattle.cases.specs.declared.case.Step.{Step}
use Rattle.cases.specs.declared.case.Case.{Case}
use Rattle.cases.specs.Draft.{run_with, with_run}
use Rattle.cases.specs.Writing.{reads_back}
use Rattle.machine.specs.declared.cells.State.{State}
use Rattle.machine.specs.declared.runs.Judged.{Judged}
use Rattle.machine.specs.declared.runs.Verdict.TheVariants.{Legal}
use Rattle.machine.specs.Rules.{start_of}
use Rattle.machine.specs.Judge.{verdict_no, judged, run_of, stopped, judge_of}
use Rattle.machine.specs.Model.{Leads, Faultless, LegalRun}
use Rattle.machine.specs.Ptso.{ptso}
use Rattle.machine.proofs.Promises.{run_faultless, judge_legal, judge_legal_state, judge_unreadable, run_again}
use Rattle.machine.proofs.Promises.{rerun_passes}

module _ (c : Case) (readable : reads_back c ≡ true) (ks : List Step) (u : State) where
  abbrev rerun : Case
  rerun = with_run c (run_with ks)

  legal_judged : LegalRun (ptso c.program) ks u → judge_of rerun ≡ judged (Legal (length ks)) u
  legal_judged run = rerun_passes c readable ks u run.faultless run.leads

  -- where the judge passes it the case with it reads, and so it is faultless
  judged_readable : (judge_of rerun).verdict ≡ Legal (length ks) → reads_back rerun ≡ true
  unfolding stopped judged
  judged_readable e = go (reads_back rerun) refl
    where
      go : (b : Bool) → reads_back rerun ≡ b → b ≡ true
      go true h = refl
      go false h =
          let n : ◌≡◌ {A = ℕ} 103 32
          = ap verdict_no (sym e) ∙ ap (λ (j : Judged). verdict_no j.verdict) (judge_unreadable rerun h) in
          absurd (omega arith)

  judged_legal : judge_of rerun ≡ judged (Legal (length ks)) u → LegalRun (ptso c.program) ks u
  unfolding judged with_run
  judged_legal e =
      let verdict : (judge_of rerun).verdict ≡ Legal (length ks) = ap (λ (j : Judged). j.verdict) e in
      let r = judged_readable verdict in
      let v = (judge_legal rerun r).0
      (verdict ∙ ap (λ (js : List Step). Legal (length js)) (sym (run_again c ks))) in
      let end : v.0 ≡ u
      = sym (judge_legal_state rerun r v.0 v.1) ∙ ap (λ (j : Judged). j.state) e in
      record {
        faultless = subst (Faultless (ptso c.program)) (run_again c ks) (run_faultless rerun r);
        leads = subst (λ js. Leads (ptso c.program) (start_of c.program) js u) (run_again c ks)
            (subst (Leads (ptso c.program) (start_of c.program) (run_of rerun)) end v.1);
      }

  pub legal_as_judged : LegalRun (ptso c.program) ks u ↔ (judge_of rerun ≡ judged (Legal (length ks)) u)
  legal_as_judged = (legal_judged, judged_legal)
