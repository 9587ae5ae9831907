-- The numbers that the judge and the question can answer. Assumes nothing.
use Prim.Native.Nat.{ℕ, ◌*◌, ◌≤◌, ◌<◌}
use mathlib.Core.Path.{◌≡◌, refl, sym, ap, subst, ◌∙◌}
use mathlib.Core.Logic.{◌⊎◌, inl, inr, ◌≢◌}
use mathlib.Core.Bool.{Bool, true, false, not}
use mathlib.Core.List.{List}
use native.Mathlib.Omega.{arith}
use native.Mathlib.Nat.{eq-zero-or-pos}
use borrow.Author.Tests.{eqb-false}
use lib.Dec.{eqb, ltb}
use lib.ListN.{get_or}
use Rattle.cases.specs.declared.case.Step.{Step}
use Rattle.cases.specs.declared.case.Case.{Case}
use Rattle.cases.specs.Choice.{pick}
use Rattle.cases.specs.Bytes.{IsBytes}
use Rattle.cases.specs.Draft.{no_step}
use Rattle.cases.specs.Reading.{number_of, offset_of, read_of}
use Rattle.cases.specs.Writing.{reads_back}
use Rattle.cases.proofs.Promises.{number_in_table, read_reads_back}
use Rattle.cases.proofs.ChoiceLaws.{pick_cases}
use Rattle.cases.specs.Sizes.{step_size}
use Rattle.machine.specs.declared.cells.State.{State}
use Rattle.machine.specs.declared.runs.Judged.{Judged}
use Rattle.machine.specs.Rules.{rule_of, start_of}
use Rattle.machine.specs.Model.{full_length, Leads, StopsAt}
use Rattle.machine.specs.Judge.{verdict_no, judged, run_of, stopped, judge_of, judge_bytes}
use Rattle.machine.specs.Ptso.{ptso}
use Rattle.machine.proofs.Promises.{judge_legal, judge_illegal, legal_or_not, judge_refused, judge_read}
use Rattle.machine.proofs.Promises.{rule_in_table}
use Rattle.search.specs.declared.ask.Outcome.{Outcome}
use Rattle.search.specs.declared.ask.Outcome.TheVariants.{Refused}
use Rattle.search.specs.Question.{Decided, reached, unreachable, undecided, told_of, outcome_no, ask_of, short}
use Rattle.search.specs.declared.distinct.Remembered.{Remembered}
use Rattle.search.specs.Question.{reaches, answer_by, question_of}
use Rattle.search.specs.Remember.{remember_for, remember_of}

-- a verdict's number: 103, 21 to 29, or 1 to 10
unfoldable Told : ℕ → Type 0
Told n = (n ≡ 103) ⊎ ((21 ≤ n) × (n ≤ 29)) ⊎ ((1 ≤ n) × (n ≤ 10))

case_table : (c : Case) → reads_back c ≡ true → Told (verdict_no (judge_of c).verdict)
unfolding Told
case_table c readable = go (legal_or_not c readable)
  where
    ruled : (i : ℕ) (u : State) → StopsAt (ptso c.program) (start_of c.program) (run_of c) i u
        → (n : ℕ) → rule_of c.program u (get_or (run_of c) i no_step) ≡ n
        → (n ≡ 0) ⊎ ((21 ≤ n) × (n ≤ 29))
        → Told n
    ruled i u o n e (inl z) = absurd (o.broken (e ∙ z))
    ruled i u o n e (inr h) = inr (inl h)

    go : ((u : State) × Leads (ptso c.program) (start_of c.program) (run_of c) u)
        ⊎ ((i : ℕ) × (u : State) × StopsAt (ptso c.program) (start_of c.program) (run_of c) i u)
        → Told (verdict_no (judge_of c).verdict)
    go (inl x) = inl (ap verdict_no ((judge_legal c readable).1 x))
    go (inr x) =
        let u = x.1 in
        let r = rule_of c.program u (get_or (run_of c) x.0 no_step) in
        let e = (judge_illegal c readable r x.0 _).1 (u, x.2, refl, refl) in
        subst Told (sym (ap verdict_no e))
        (ruled x.0 u x.2 r refl (rule_in_table c.program u (get_or (run_of c) x.0 no_step)))

refused_table : (s : List ℕ) → number_of (read_of s).answer ≢ 0
    → (1 ≤ number_of (read_of s).answer) × (number_of (read_of s).answer ≤ 10)
refused_table s h = (omega arith, number_in_table s)

pub judge_table : (s : List ℕ) → IsBytes s
    → (verdict_no (judge_bytes s).verdict ≡ 103)
    ⊎ ((21 ≤ verdict_no (judge_bytes s).verdict) × (verdict_no (judge_bytes s).verdict ≤ 29))
    ⊎ ((1 ≤ verdict_no (judge_bytes s).verdict) × (verdict_no (judge_bytes s).verdict ≤ 10))
unfolding Told stopped judged
judge_table s bytes = go (eq-zero-or-pos (number_of (read_of s).answer))
  where
    go : (number_of (read_of s).answer ≡ 0) ⊎ (0 < number_of (read_of s).answer)
        → Told (verdict_no (judge_bytes s).verdict)
    go (inl e) =
        subst (λ (j : Judged). Told (verdict_no j.verdict)) (sym (judge_read s bytes e))
        (case_table (read_of s).case (read_reads_back s bytes e))
    go (inr h) =
        let n : number_of (read_of s).answer ≢ 0 = λ z. omega arith in
        subst (λ (j : Judged). Told (verdict_no j.verdict)) (sym (judge_refused s n))
        (inr (inr (refused_table s n)))

-- the question's: 100 to 102, 31, or 1 to 10
unfoldable Answered : Outcome → Type 0
Answered o =
    ((100 ≤ outcome_no o) × (outcome_no o ≤ 102)) ⊎ (outcome_no o ≡ 31) ⊎ ((1 ≤ outcome_no o) × (outcome_no o ≤ 10))

decided_table : (d : Decided Step) → Answered (told_of d)
unfolding Answered told_of
decided_table (reached run) = inl (omega arith, omega arith)
decided_table unreachable = inl (omega arith, omega arith)
decided_table undecided = inl (omega arith, omega arith)

pub question_table : (s : List ℕ) (room b : ℕ)
    → ((100 ≤ outcome_no (question_of s room b)) × (outcome_no (question_of s room b) ≤ 102))
    ⊎ (outcome_no (question_of s room b) ≡ 31)
    ⊎ ((1 ≤ outcome_no (question_of s room b)) × (outcome_no (question_of s room b) ≤ 10))
unfolding Answered question_of answer_by
question_table s room b =
    pick_cases Answered _ _ _
    (λ e. pick_cases Answered _ _ _ (λ k. inr (inl refl)) (λ k. decided_table _))
    (λ e. inr (inr (refused_table s (eqb-false _ _ e))))

pub remember_table : (s : List ℕ) (room words b : ℕ)
    → ((100 ≤ outcome_no (remember_of s room words b).outcome) × (outcome_no (remember_of s room words b).outcome ≤ 102))
    ⊎ (outcome_no (remember_of s room words b).outcome ≡ 31)
    ⊎ ((1 ≤ outcome_no (remember_of s room words b).outcome) × (outcome_no (remember_of s room words b).outcome ≤ 10))
unfolding Answered remember_of remember_for answer_by
remember_table s room words b =
    pick_cases (λ (r : Remembered). Answered r.outcome) _ _ _
    (λ e. pick_cases Answered _ _ _ (λ k. inr (inl refl)) (λ k. decided_table _))
    (λ e. inr (inr (refused_table s (eqb-false _ _ e))))

pub asking_order : (s : List ℕ) (room b : ℕ)
    → question_of s room b
    ≡ pick (not (eqb (number_of (read_of s).answer) 0))
    (Refused (number_of (read_of s).answer) (offset_of (read_of s).answer))
    (pick (ltb room (step_size * full_length (ptso (read_of s).case.program))) (Refused 31 0)
    (told_of (ask_of (ptso (read_of s).case.program) (reaches (read_of s).case.ask) b)))
unfolding question_of answer_by short pick
asking_order s room b = swapped (eqb (number_of (read_of s).answer) 0) _ _
  where
    swapped : (t : Bool) (x y : Outcome) → pick t x y ≡ pick (not t) y x
    swapped true x y = refl
    swapped false x y = refl
