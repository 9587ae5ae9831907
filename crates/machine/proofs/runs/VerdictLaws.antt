-- The judge's number is below 256 and its place at most the longest file's length: the two can be packed into
-- one number. Assumes nothing.
use Prim.Native.Nat.{ℕ, ◌<◌, ◌≤◌}
use mathlib.Core.Path.{◌≡◌, refl}
use mathlib.Core.Logic.{◌⊎◌, inl, inr}
use mathlib.Core.List.{List}
use native.Mathlib.Omega.{arith}
use lib.ListN.{length, length-take}
use Rattle.cases.specs.declared.case.Step.{Step}
use Rattle.cases.specs.declared.case.Program.{Program}
use Rattle.cases.specs.declared.case.Case.{Case}
use Rattle.cases.specs.Sizes.{most_steps, most_locations, longest}
use Rattle.cases.specs.Ranges.{Ranged}
use Rattle.cases.proofs.Promises.{number_in_table, offset_low, read_ranged}
use Rattle.cases.proofs.ChoiceLaws.{pick_cases}
use borrow.Author.Tests.{eqb-true}
use Rattle.machine.specs.declared.cells.State.{State}
use Rattle.machine.specs.declared.runs.Verdict.{Verdict}
use Rattle.machine.specs.declared.runs.Judged.{Judged}
use Rattle.machine.specs.declared.blocker.Blocker.{Blocker}
use Rattle.machine.specs.Sizes.{room}
use Rattle.machine.specs.Rules.{rule_of, start_of}
use Rattle.machine.specs.Blocker.{blocker_number, blocker_position}
use Rattle.machine.specs.Judge.{verdict_no, verdict_place, judged, judge_from, run_of, judge_run, stopped}
use Rattle.machine.specs.Judge.{verdict_blocker, judge_bytes}
use Rattle.machine.specs.Model.{Leads, StopsAt}
use Rattle.machine.specs.Ptso.{ptso}
use Rattle.machine.proofs.fit.StartLaws.{start_fits}
use Rattle.machine.proofs.model.ModelLaws.{stops_fits}
use Rattle.machine.proofs.model.PtsoLaws.{ptso_lawful}
use Rattle.machine.proofs.blocker.NamedLaws.{blocker_low}
use Rattle.machine.proofs.runs.RerunLaws.{run_faultless}
use Rattle.machine.proofs.rules.RuleLaws.{rule_table}
use Rattle.machine.proofs.runs.JudgeLaws.{leads_or_stops, judge_legal_says, judge_illegal_says}

abbrev Low : Verdict → Type 0
Low v = (verdict_no v < 256) × (verdict_place v ≤ longest)

rule_low : (p : Program) (s : State) (k : Step) → rule_of p s k < 256
rule_low p s k = go (rule_table p s k)
  where
    go : (rule_of p s k ≡ 0) ⊎ ((21 ≤ rule_of p s k) × (rule_of p s k ≤ 29)) → rule_of p s k < 256
    go (inl e) = omega arith
    go (inr e) = let h = e.1 in omega arith

-- of a run that a file can hold the place is the number of its steps, or an index below it
run_low : (p : Program) (s : State) (ks : List Step) → length ks ≤ most_steps
    → Low (judge_from (ptso p) 0 s ks).verdict
run_low p s ks h = go (leads_or_stops (ptso p) s ks)
  where
    go : ((u : State) × Leads (ptso p) s ks u) ⊎ ((n : ℕ) × (u : State) × StopsAt (ptso p) s ks n u)
        → Low (judge_from (ptso p) 0 s ks).verdict
    go (inl e) = rw (judge_legal_says (ptso p) s ks e.0 e.1) (omega arith, omega arith)
    go (inr e) =
        let w = e.2.within in
        rw (judge_illegal_says (ptso p) s ks e.0 e.1 _ _ e.2 refl refl) (rule_low p e.1 _, omega arith)

-- a run that was read has no more
run_short : (c : Case) → Ranged c → length (run_of c) ≤ most_steps
run_short c r =
    let few = r.run.few_steps in
    omega (arith, length-take c.run.count c.run.steps)

pub verdict_low : (s : List ℕ) → Low (judge_bytes s).verdict
unfolding judge_bytes judge_run stopped judged
verdict_low s =
    pick_cases (λ (j : Judged). Low j.verdict) _ _ _
    (λ h. run_low _ _ _ (run_short _ (read_ranged s (eqb-true _ _ h))))
    (λ h. (omega (arith, number_in_table s), offset_low s))

-- the place of the first entry in the way too: a thread or a line, and a position
abbrev LowPlace : Blocker → Type 0
LowPlace b = (blocker_number b < most_locations) × (blocker_position b < room)

run_place : (c : Case) → Ranged c → LowPlace (verdict_blocker (judge_run c).verdict)
unfolding judge_run
run_place c r = go (leads_or_stops (ptso c.program) (start_of c.program) (run_of c))
  where
    go : ((u : State) × Leads (ptso c.program) (start_of c.program) (run_of c) u)
        ⊎ ((n : ℕ) × (u : State) × StopsAt (ptso c.program) (start_of c.program) (run_of c) n u)
        → LowPlace (verdict_blocker (judge_from (ptso c.program) 0 (start_of c.program) (run_of c)).verdict)
    go (inl e) =
        rw (judge_legal_says (ptso c.program) (start_of c.program) (run_of c) e.0 e.1)
        (omega arith, omega arith)
    go (inr e) =
        let f = stops_fits (ptso c.program) (ptso_lawful c.program r.program) _ (run_of c) e.0 e.1
        (start_fits c.program r.program) (run_faultless c r) e.2 in
        rw (judge_illegal_says (ptso c.program) (start_of c.program) (run_of c) e.0 e.1 _ _ e.2 refl refl)
        (blocker_low c.program e.1 f.0 _ f.1)

pub verdict_blocker_low : (s : List ℕ) → LowPlace (verdict_blocker (judge_bytes s).verdict)
unfolding judge_bytes stopped judged
verdict_blocker_low s =
    pick_cases (λ (j : Judged). LowPlace (verdict_blocker j.verdict)) _ _ _
    (λ h. run_place _ (read_ranged s (eqb-true _ _ h)))
    (λ h. (omega arith, omega arith))
