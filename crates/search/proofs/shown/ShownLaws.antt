-- The run that is shown: it passes the judge, and ends where the question is reached. Assumes nothing.
use Prim.Native.Nat.{ℕ, ◌*◌, ◌≤◌}
use mathlib.Core.Path.{◌≡◌, sym, ap, subst, ◌∙◌}
use mathlib.Core.Bool.{true}
use mathlib.Core.List.{List, [], ◌++◌}
use lib.ListN.{length, take, drop}
use lib.Seq.{take_at}
use native.Mathlib.Omega.{arith}
use Rattle.cases.specs.declared.case.Step.{Step}
use Rattle.cases.specs.declared.case.Case.{Case}
use Rattle.cases.specs.declared.reader.Reading.{Reading}
use Rattle.cases.specs.Sizes.{most_steps, step_size}
use Rattle.cases.specs.Bytes.{IsBytes}
use Rattle.cases.specs.Draft.{run_with, with_run}
use Rattle.cases.specs.Reading.{number_of, read_of}
use Rattle.cases.specs.Seats.{encode_of, steps_bytes}
use Rattle.cases.specs.Writing.{reads_back}
use Rattle.cases.proofs.Promises.{read_reads_back, read_after_write, file_bytes, steps_bytes_length}
use Rattle.cases.proofs.Promises.{other_run_file}
use Rattle.machine.specs.declared.cells.State.{State}
use Rattle.machine.specs.declared.runs.Verdict.TheVariants.{Legal}
use Rattle.machine.specs.declared.runs.Judged.{Judged}
use Rattle.machine.specs.Rules.{start_of}
use Rattle.machine.specs.Model.{full_length, Leads, Faultless}
use Rattle.machine.specs.Judge.{judged, judge_of, judge_bytes}
use Rattle.machine.specs.Ptso.{ptso}
use Rattle.machine.proofs.Promises.{program_fits, start_fits, full_length_most, judge_read, rerun_reads}
use Rattle.machine.proofs.Promises.{rerun_passes, case_lawful}
use Rattle.search.specs.Walk.{walk_of, walk_from}
use Rattle.search.specs.Question.{reaches, reached, ask_of, shown_of}
use Rattle.search.proofs.walk.WalkModelLaws.{walk_leads}
use Rattle.search.proofs.seek.BudgetLaws.{budget_reached_is}
use Rattle.search.proofs.ask.AskLaws.{ask_first_on, reached_short}
use Rattle.search.proofs.ask.QuestionLaws as QuestionLaws

-- where the run leads
pub reached_leads : (c : Case) → reads_back c ≡ true → (b : ℕ) (run : List Step)
    → ask_of (ptso c.program) (reaches c.ask) b ≡ reached run
    → (u : State)
    × Faultless (ptso c.program) run
    × Leads (ptso c.program) (start_of c.program) run u
    × (reaches c.ask u ≡ true)
unfolding ask_of walk_from
reached_leads c h b run q =
    let fits = start_fits c.program (program_fits c h) in
    let r = budget_reached_is (reaches c.ask) b (walk_of (ptso c.program) (start_of c.program)) run q in
    let v = r.1 in
    let on = ask_first_on (reaches c.ask) (walk_of (ptso c.program) (start_of c.program)) r.0 v
    r.2 in
    let l = walk_leads (ptso c.program) (case_lawful c h)
    (start_of c.program) fits
    v.run v.end on in (
      v.end,
      subst (Faultless (ptso c.program)) r.4 l.0,
      subst (λ ks. Leads (ptso c.program) (start_of c.program) ks v.end) r.4 l.1,
      r.2.passes,
    )

-- a case that passes the test for 32, and a run that the question shows of it
module _ (c : Case) (h : reads_back c ≡ true) (b : ℕ) (run : List Step)
    (q : ask_of (ptso c.program) (reaches c.ask) b ≡ reached run) where
  abbrev shown : Case
  shown = with_run c (run_with run)

  few : length run ≤ most_steps
  few =
      let laws = case_lawful c h in
      let a = reached_short (ptso c.program) laws (reaches c.ask) b run q in
      let f = full_length_most c.program (program_fits c h) in
      omega arith

  pub shown_readable : reads_back shown ≡ true
  shown_readable = let l = reached_leads c h b run q in rerun_reads c h run l.0 l.1 l.2

  pub shown_legal : (judge_of shown).verdict ≡ Legal (length run)
  unfolding judged
  shown_legal =
      let l = reached_leads c h b run q in
      ap (λ (j : Judged). j.verdict) (rerun_passes c h run l.0 l.1 l.2)

  pub shown_reaches : reaches c.ask (judge_of shown).state ≡ true
  unfolding judged
  shown_reaches =
      let l = reached_leads c h b run q in
      ap (λ (j : Judged). reaches c.ask j.state) (rerun_passes c h run l.0 l.1 l.2) ∙ l.3

-- Bytes that read, and the bytes that the question stores for them: behind the file without its steps they are
-- a file that the judge passes
module _ (s : List ℕ) (bytes : IsBytes s) (read : number_of (read_of s).answer ≡ 0) (b : ℕ) (out : List ℕ)
    (room : step_size * full_length (ptso (read_of s).case.program) ≤ length out) (run : List Step)
    (q : ask_of (ptso (read_of s).case.program) (reaches (read_of s).case.ask) b ≡ reached run) where
  abbrev case : Case
  case = (read_of s).case

  readable : reads_back case ≡ true
  readable = read_reads_back s bytes read

  stored : take (step_size * length run) (shown_of s b out) ≡ steps_bytes run
  stored =
      ap (take (step_size * length run)) (QuestionLaws.shown_run s b out read room run q)
      ∙ take_at (steps_bytes run) (drop (step_size * length run) out) (step_size * length run)
      (steps_bytes_length run)

  file : encode_of (with_run case (run_with [])) ++ take (step_size * length run) (shown_of s b out)
      ≡ encode_of (with_run case (run_with run))
  file =
      ap (λ (x : List ℕ). encode_of (with_run case (run_with [])) ++ x) stored
      ∙ sym (other_run_file case run (few case readable b run q))

  -- a readable case's file is judged as the case
  file_judged : (c : Case) → reads_back c ≡ true → judge_bytes (encode_of c) ≡ judge_of c
  file_judged c h =
      let e = read_after_write c h in
      judge_read (encode_of c) (file_bytes c h) (ap (λ (r : Reading). number_of r.answer) e)
      ∙ ap (λ (r : Reading). judge_of r.case) e

  pub stored_legal :
      (judge_bytes
      (encode_of (with_run case (run_with [])) ++ take (step_size * length run) (shown_of s b out))).verdict
      ≡ Legal (length run)
  stored_legal =
      ap (λ (x : List ℕ). (judge_bytes x).verdict) file
      ∙ ap (λ (j : Judged). j.verdict) (file_judged _ (shown_readable case readable b run q))
      ∙ shown_legal case readable b run q
