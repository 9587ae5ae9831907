-- The two engines: what is decided of the walk and what is decided of the distinct states are told and stored alike;
-- where the distinct states show a run, the whole walk shows it too, and so the judge passes it. Assumes nothing.
use Prim.Native.Nat.{ℕ, zero, suc, ◌*◌, ◌<◌, ◌≤◌}
use mathlib.Core.Path.{◌≡◌, sym, ap, ◌∙◌}
use mathlib.Core.Bool.{Bool}
use mathlib.Core.Logic.{◌≢◌, inl, inr}
use mathlib.Core.List.{List, [], ◌∷◌, ◌++◌}
use lib.ListN.{length, take}
use lib.Dec.{eqb}
use borrow.Author.Tests.{eqb-true}
use native.Mathlib.Omega.{arith}
use Rattle.cases.specs.declared.case.Step.{Step}
use Rattle.cases.specs.Sizes.{step_size}
use Rattle.cases.specs.Bytes.{IsBytes}
use Rattle.cases.specs.Choice.{pick}
use Rattle.cases.specs.Draft.{run_with, with_run}
use Rattle.cases.specs.Reading.{number_of, read_of}
use Rattle.cases.specs.Seats.{encode_of}
use Rattle.cases.proofs.ChoiceLaws.{pick_true, pick_false}
use Rattle.cases.proofs.Promises.{read_ranged}
use Rattle.machine.specs.declared.runs.Verdict.TheVariants.{Legal}
use Rattle.machine.specs.Model.{Model, full_length, Listed}
use Rattle.machine.specs.Judge.{judge_bytes}
use Rattle.machine.specs.Ptso.{ptso}
use Rattle.machine.proofs.Promises.{read_fits}
use Rattle.search.specs.declared.ask.Outcome.TheVariants.{Undecided}
use Rattle.search.specs.declared.distinct.Remembered.{Remembered}
use Rattle.search.specs.Walk.{Visit, walk_from}
use Rattle.search.specs.Question.{reaches, Decided, reached, undecided, decided, None, ask_of, told_of, short}
use Rattle.search.specs.Question.{answer_by, shown_after, answer_for, question_of, shown_of}
use Rattle.search.specs.Held.{AskWithin}
use Rattle.search.specs.Remember.{covers_of, recall_for, remember_for, remember_of, recalled_of}
use Rattle.search.proofs.seek.BudgetLaws.{budget_undecided_is, budget_is_undecided}
use Rattle.search.proofs.shown.ShownLaws.{stored_legal}
use Rattle.search.proofs.recall.FirstsLaws.{cases}
use Rattle.search.proofs.distinct.AgreeLaws.{recall_agrees_ptso}

-- fewer than all, where none passes, decide nothing
module _ {S K : Type 0} (test : S → Bool) where
  none_take : (b : ℕ) (vs : List (Visit S K)) → None test vs → None test (take b vs)
  unfolding None Listed
  none_take zero vs f v l = absurd l
  none_take (suc b) [] f v l = absurd l
  none_take (suc b) (w ∷ vs) f v (inl e) = f v (inl e)
  none_take (suc b) (w ∷ vs) f v (inr l) = none_take b vs (λ x h. f x (inr h)) v l

  pub less_undecided : (b : ℕ) (vs : List (Visit S K)) → b < length vs → None test vs
      → decided test b vs ≡ undecided
  less_undecided b vs h f = budget_is_undecided test b vs h (none_take b vs f)

-- a budget of all the walk's runs decides
pub whole_decides : {S K : Type 0} (m : Model S K) (test : S → Bool)
    → ask_of m test (length (walk_from m)) ≢ undecided
unfolding ask_of
whole_decides m test =
    λ e. let h = (budget_undecided_is test (length (walk_from m)) (walk_from m) e).0 in omega arith

reached_decides : {K : Type 0} (d : Decided K) (run : List K) → d ≡ reached run → d ≢ undecided
reached_decides d run e = λ u. let z : ◌≡◌ {A = ℕ} 0 1 = cc in omega arith

-- of one model: two that are one where both decide are told and stored alike, where neither is told undecided
pub answer_agrees : {S : Type 0} (m : Model S Step) (out : List ℕ) (d e : Decided Step)
    → (d ≢ undecided → e ≢ undecided → d ≡ e)
    → answer_by m (length out) d ≢ Undecided
    → answer_by m (length out) e ≢ Undecided
    → (answer_by m (length out) d ≡ answer_by m (length out) e) × (shown_after m d out ≡ shown_after m e out)
unfolding answer_by shown_after told_of
answer_agrees m out d e agree h k =
    cases (short m (length out))
    (λ t. (pick_true _ _ _ t ∙ sym (pick_true _ _ _ t), pick_true _ _ _ t ∙ sym (pick_true _ _ _ t)))
    (λ t.
    let same = agree (λ u. h (pick_false _ _ _ t ∙ ap told_of u)) (λ u. k (pick_false _ _ _ t ∙ ap told_of u)) in
    (ap (answer_by m (length out)) same, ap (λ x. shown_after m x out) same))

-- bytes that read: what is decided of the case
module _ (s : List ℕ) (read : number_of (read_of s).answer ≡ 0) where
  within : AskWithin (read_of s).case.program (read_of s).case.ask
  within = let ranged = read_ranged s read in record { wants = ranged.wants; passed = ranged.passed }

  pub agrees_read : (b words n : ℕ)
      → ask_of (ptso (read_of s).case.program) (reaches (read_of s).case.ask) b ≢ undecided
      → recall_for (read_of s).case.program (read_of s).case.ask words n ≢ undecided
      → ask_of (ptso (read_of s).case.program) (reaches (read_of s).case.ask) b
      ≡ recall_for (read_of s).case.program (read_of s).case.ask words n
  unfolding recall_for
  agrees_read b words n =
      recall_agrees_ptso (read_of s).case.program (read_of s).case.ask within (read_fits s read) b
      (covers_of words n)

  -- a run that is shown, by a budget of all the walk's runs too
  module _ (words b : ℕ) (run : List Step)
      (e : recall_for (read_of s).case.program (read_of s).case.ask words b ≡ reached run) where
    abbrev all : ℕ
    all = length (walk_from (ptso (read_of s).case.program))

    pub recalled_whole :
        ask_of (ptso (read_of s).case.program) (reaches (read_of s).case.ask)
        (length (walk_from (ptso (read_of s).case.program)))
        ≡ reached run
    recalled_whole =
        agrees_read all words b (whole_decides (ptso (read_of s).case.program) (reaches (read_of s).case.ask))
        (reached_decides _ run e)
        ∙ e

    pub recalled_shown : (out : List ℕ)
        → recalled_of s words b out ≡ shown_of s (length (walk_from (ptso (read_of s).case.program))) out
    unfolding recalled_of shown_of
    recalled_shown out =
        ap (λ (d : Decided Step). pick (eqb (number_of (read_of s).answer) 0)
        (shown_after (ptso (read_of s).case.program) d out) out)
        (e ∙ sym recalled_whole)

    pub recalled_legal : IsBytes s → (out : List ℕ)
        → step_size * full_length (ptso (read_of s).case.program) ≤ length out
        → (judge_bytes
        (encode_of (with_run (read_of s).case (run_with []))
        ++ take (step_size * length run) (recalled_of s words b out))).verdict
        ≡ Legal (length run)
    recalled_legal bytes out room =
        ap (λ (x : List ℕ). (judge_bytes
        (encode_of (with_run (read_of s).case (run_with [])) ++ take (step_size * length run) x)).verdict)
        (recalled_shown out)
        ∙ stored_legal s bytes read all out room run recalled_whole

-- any bytes
pub engines_agree : (s : List ℕ) (b words n : ℕ) (out : List ℕ)
    → question_of s (length out) b ≢ Undecided
    → (remember_of s (length out) words n).outcome ≢ Undecided
    → (question_of s (length out) b ≡ (remember_of s (length out) words n).outcome)
    × (shown_of s b out ≡ recalled_of s words n out)
unfolding question_of shown_of remember_of remember_for recalled_of
engines_agree s b words n out h k =
    cases (eqb (number_of (read_of s).answer) 0)
    (λ t.
    let p = (read_of s).case.program in
    let a = (read_of s).case.ask in
    let asked : question_of s (length out) b ≡ answer_for (ptso p) (reaches a) (length out) b =
    pick_true _ _ _ t in
    let told : (remember_of s (length out) words n).outcome ≡ answer_by (ptso p) (length out) (recall_for p a words n) =
    ap (λ (r : Remembered). r.outcome) (pick_true _ _ _ t) in
    let same = answer_agrees (ptso p) out (ask_of (ptso p) (reaches a) b) (recall_for p a words n)
    (agrees_read s (eqb-true _ _ t) b words n) (λ u. h (asked ∙ u)) (λ u. k (told ∙ u)) in
    (asked ∙ same.0 ∙ sym told, pick_true _ _ _ t ∙ same.1 ∙ sym (pick_true _ _ _ t)))
    (λ t. (
      pick_false _ _ _ t ∙ sym (ap (λ (r : Remembered). r.outcome) (pick_false _ _ _ t)),
      pick_false _ _ _ t ∙ sym (pick_false _ _ _ t),
    ))
