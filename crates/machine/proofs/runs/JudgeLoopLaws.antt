-- A run judged step by step: the loop's turns. Assumes nothing.
use Prim.Native.Nat.{ℕ, suc, ◌+◌, ◌≤◌, ◌<◌}
use mathlib.Core.Path.{◌≡◌, refl, sym, ap, ◌∙◌, subst}
use mathlib.Core.Logic.{◌≢◌}
use mathlib.Core.List.{List, ◌∷◌}
use native.Mathlib.Omega.{arith}
use borrow.Author.Tests.{ne_eqb}
use Rattle.cases.proofs.ChoiceLaws.{pick_next}
use native.Mathlib.Numerals.{add-one}
use lib.ListN.{length, get_or, drop, length-take, drop_of_length-le}
use lib.Seq.{drop-cons, get_or-take}
use Rattle.cases.specs.declared.case.Step.{Step}
use Rattle.cases.specs.declared.case.Program.{Program}
use Rattle.cases.specs.declared.case.Case.{Case}
use Rattle.cases.specs.Checks.{limits_of, step_fault}
use Rattle.cases.specs.Draft.{no_step}
use Rattle.cases.specs.declared.reader.Reading.{Reading}
use Rattle.cases.specs.declared.reader.Answer.TheVariants.{Whole, Refused}
use Rattle.cases.specs.Ranges.{Ranged}
use Rattle.cases.specs.Reading.{number_of, read_of}
use Rattle.cases.proofs.Promises.{read_ranged, success_whole}
use Rattle.machine.specs.declared.cells.State.{State}
use Rattle.machine.specs.declared.blocker.Blocker.{Blocker}
use Rattle.machine.specs.declared.runs.Verdict.TheVariants.{Legal, Illegal}
use Rattle.machine.specs.Rules.{rule_of, next_of, start_of}
use Rattle.machine.specs.Blocker.{blocker_of}
use Rattle.machine.specs.Fit.{Fits}
use Rattle.machine.specs.Judge.{judged, judge_from, run_of, stopped, judge_bytes}
use Rattle.machine.specs.Ptso.{ptso}
use Rattle.machine.proofs.fit.StartLaws.{start_fits}
use Rattle.machine.proofs.steps.StepFaultLaws.{fault_none}
use Rattle.machine.proofs.steps.StepLaws.{step_fits}
use Rattle.machine.proofs.runs.JudgeLaws.{judge_next, judge_here}

-- i of the steps ks are taken and lead from the start, s₀, to s: what is still to judge says what the whole run says
pub record JudgedSoFar (p : Program) (ks : List Step) (s₀ : State) (s : State) (i : ℕ) : Type 0 where
  pub within : i ≤ length ks
  pub faultless : (k : ℕ) → k < length ks → step_fault (limits_of p) (get_or ks k no_step) ≡ 0
  pub fit : Fits p s
  pub started : s₀ ≡ start_of p
  pub rest : judge_from (ptso p) i s (drop i ks) ≡ judge_from (ptso p) 0 (start_of p) ks

pub judging_start : (c : Case) (s : State) → Ranged c → s ≡ start_of c.program
    → JudgedSoFar c.program (run_of c) s s 0
judging_start c s r e =
    record {
      within = omega arith;
      faultless =
          λ k h.
          let m : length (run_of c) ≤ c.run.count = rw length-take (omega arith) in
          let l : k < c.run.count = omega arith in
          rw (get_or-take c.run.count c.run.steps k no_step l) (r.steps k l);
      fit = rw e (start_fits c.program r.program);
      started = e;
      rest = ap (λ x. judge_from (ptso c.program) 0 x (run_of c)) e;
    }

-- as many as the run says
pub run_long : (c : Case) → Ranged c → length (run_of c) ≡ c.run.count
run_long c r = let a = r.run.few_steps in let b = r.run.steps_long in rw length-take (omega arith)

module _ {p : Program} {ks : List Step} {s₀ s : State} {i : ℕ} (o : JudgedSoFar p ks s₀ s i) where
  -- a turn goes on; a step is illegal; the run ends
  module _ (h : i < length ks) where
    front : drop i ks ≡ get_or ks i no_step ∷ drop (i + 1) ks
    front = drop-cons ks i no_step h ∙ rw add-one

    pub judging_next : (u : State) → rule_of p s (get_or ks i no_step) ≡ 0 → u ≡ next_of p s (get_or ks i no_step)
        → JudgedSoFar p ks s₀ u (i + 1)
    judging_next u legal e =
        record {
          within = omega arith;
          faultless = o.faultless;
          started = o.started;
          fit = rw e (step_fits p s o.fit _ (fault_none p _ (o.faultless i h)) legal);
          rest =
              rw (e, add-one)
              (sym (judge_next (ptso p) i s _ (drop (suc i) ks) legal)
              ∙ ap (judge_from (ptso p) i s) (sym (rw add-one at front))
              ∙ o.rest);
        }

    pub judging_here : (r : ℕ) → r ≡ rule_of p s (get_or ks i no_step) → r ≢ 0
        → (b : Blocker) → b ≡ blocker_of p s (get_or ks i no_step)
        → judged (Illegal r i b) s ≡ judge_from (ptso p) 0 (start_of p) ks
    judging_here r e z b d =
        let k : rule_of p s (get_or ks i no_step) ≢ 0 = λ h. z (e ∙ h) in
        ap (λ x. judged (Illegal x i b) s) e
        ∙ ap (λ x. judged (Illegal (rule_of p s (get_or ks i no_step)) i x) s) d
        ∙ sym (judge_here (ptso p) i s _ (drop (i + 1) ks) k)
        ∙ ap (judge_from (ptso p) i s) (sym front)
        ∙ o.rest

  pub judging_end : length ks ≤ i → (n : ℕ) → length ks ≡ n
      → judged (Legal n) s ≡ judge_from (ptso p) 0 (start_of p) ks
  unfolding judge_from
  judging_end h n e =
      let same : n ≡ i = let w = o.within in omega arith in
      ap (λ x. judged (Legal x) s) same ∙ sym (ap (judge_from (ptso p) i s) (drop_of_length-le ks h)) ∙ o.rest

-- an answer of one kind is none of the other
whole_refused : (n m at : ℕ) → Whole n ≡ Refused m at → ⊥
whole_refused n m at e = let z : ◌≡◌ {A = ℕ} 0 1 = cc in omega arith

-- what reading hands out with 0 is a case that the judge can run; what it refuses stops it
module _ (s : List ℕ) (r : Reading) (e : r ≡ read_of s) where
  pub read_case : (n : ℕ) → n ≡ number_of r.answer → n ≡ 0 → Ranged r.case
  read_case n a h =
      let z : number_of (read_of s).answer ≡ 0 = ap (λ (x : Reading). number_of x.answer) (sym e) ∙ sym a ∙ h in
      subst (λ (x : Reading). Ranged x.case) (sym e) (read_ranged s z)

  read_number : (n at : ℕ) → r.answer ≡ Refused n at → n ≢ 0
  read_number n at h z =
      let a : (read_of s).answer ≡ Refused n at = ap (λ (x : Reading). x.answer) (sym e) ∙ h in
      let w : (read_of s).answer ≡ Whole (length s) = success_whole s (ap number_of a ∙ z) in
      whole_refused (length s) n at (sym w ∙ a)

  pub read_stopped : (n at : ℕ) → r.answer ≡ Refused n at → stopped n at ≡ judge_bytes s
  unfolding judge_bytes
  read_stopped n at h =
      let a : (read_of s).answer ≡ Refused n at = ap (λ (x : Reading). x.answer) (sym e) ∙ h in
      rw a (pick_next _ _ _ _ (ne_eqb _ _ (read_number n at h)) refl)
