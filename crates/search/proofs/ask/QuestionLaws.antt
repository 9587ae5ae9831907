-- What the question answers, by its definition: refused, short, or as the budget decides. Assumes nothing.
use Prim.Native.Nat.{ℕ, ◌*◌, ◌<◌, ◌≤◌}
use mathlib.Core.Path.{◌≡◌, refl, sym, ◌∙◌}
use mathlib.Core.Logic.{◌≢◌, ◌↔◌}
use mathlib.Core.List.{List, ◌∷◌, ◌++◌}
use lib.ListN.{length, drop}
use lib.Dec.{eqb}
use borrow.Author.Tests.{lt-ltb, eq-eqb, ne_eqb, eqb-true}
use native.Mathlib.Omega.{arith}
use Rattle.cases.specs.declared.case.Step.{Step}
use Rattle.cases.specs.Sizes.{longest, step_size}
use Rattle.cases.specs.Reading.{number_of, offset_of, read_of}
use Rattle.cases.specs.Seats.{steps_bytes}
use Rattle.cases.proofs.ChoiceLaws.{pick_true, pick_false, pick_cases, pick_pair}
use Rattle.cases.proofs.Promises.{number_in_table, offset_low}
use Rattle.machine.specs.Model.{Model, Lawful, full_length, Listed}
use Rattle.machine.specs.Ptso.{ptso}
use Rattle.machine.proofs.Promises.{read_fits, ptso_lawful, full_length_most}
use Rattle.search.specs.declared.ask.Outcome.TheVariants.{Reached, Unreachable, Undecided, Refused}
use Rattle.search.specs.Walk.{Visit, here, walk, walk_from}
use Rattle.search.specs.Question.{reached, unreachable, undecided, reaches, ask_of, outcome_no, outcome_place}
use Rattle.search.specs.Question.{short, answer_by, answer_for, question_of, shown_for, shown_of}
use Rattle.search.proofs.walk.WalkModelLaws.{walk_short}
use Rattle.search.proofs.ask.AskLaws.{reached_short}
use Rattle.search.proofs.ask.AnswerLaws.{answer_reached, answer_unreachable, answer_undecided, answer_shown}
use Rattle.search.proofs.ask.AnswerLaws.{Stores, answer_stores, Low, answer_low}

pub walk_first : {S K : Type 0} (m : Model S K)
    → (rest : List (Visit S K)) × (walk_from m ≡ here m.start ∷ rest)
unfolding walk_from walk
walk_first m = (_, refl)

pub walk_deep : {S K : Type 0} (m : Model S K) {Fit : S → Type 0} {rank : K → ℕ} → Lawful m Fit rank
    → (ks : List K) (u : S)
    → Listed (record { run = ks; end = u }) (walk_from m)
    → length ks ≤ full_length m
unfolding walk_from full_length
walk_deep m laws ks u h = let e = walk_short m laws m.start laws.starts ks u h in omega arith

module _ (s : List ℕ) (room b : ℕ) where
  pub question_unread : number_of (read_of s).answer ≢ 0
      → question_of s room b ≡ Refused (number_of (read_of s).answer) (offset_of (read_of s).answer)
  unfolding question_of
  question_unread h = pick_false _ _ _ (ne_eqb _ _ h)

  module _ (read : number_of (read_of s).answer ≡ 0) where
    pub question_short : room < step_size * full_length (ptso (read_of s).case.program)
        → question_of s room b ≡ Refused 31 0
    unfolding question_of answer_by short
    question_short h = pick_true _ _ _ (eq-eqb _ _ read) ∙ pick_true _ _ _ (lt-ltb _ _ h)

    module _ (h : step_size * full_length (ptso (read_of s).case.program) ≤ room) where
      asked : question_of s room b
          ≡ answer_for (ptso (read_of s).case.program) (reaches (read_of s).case.ask) room b
      unfolding question_of
      asked = pick_true _ _ _ (eq-eqb _ _ read)

      pub question_reached : (n : ℕ)
          → (question_of s room b ≡ Reached n)
          ↔ ((run : List Step)
          × (ask_of (ptso (read_of s).case.program) (reaches (read_of s).case.ask) b ≡ reached run)
          × (n ≡ length run))
      question_reached n =
          let a = answer_reached _ room h (ask_of (ptso (read_of s).case.program) (reaches (read_of s).case.ask) b) n in
          ((λ e. a.0 (sym asked ∙ e)), (λ e. asked ∙ a.1 e))

      pub question_unreachable :
          (question_of s room b ≡ Unreachable)
          ↔ (ask_of (ptso (read_of s).case.program) (reaches (read_of s).case.ask) b ≡ unreachable)
      question_unreachable =
          let a = answer_unreachable _ room h (ask_of (ptso (read_of s).case.program) (reaches (read_of s).case.ask) b) in
          ((λ e. a.0 (sym asked ∙ e)), (λ e. asked ∙ a.1 e))

      pub question_undecided :
          (question_of s room b ≡ Undecided)
          ↔ (ask_of (ptso (read_of s).case.program) (reaches (read_of s).case.ask) b ≡ undecided)
      question_undecided =
          let a = answer_undecided _ room h (ask_of (ptso (read_of s).case.program) (reaches (read_of s).case.ask) b) in
          ((λ e. a.0 (sym asked ∙ e)), (λ e. asked ∙ a.1 e))

-- what is shown
pub shown_run : (s : List ℕ) (b : ℕ) (out : List ℕ) → number_of (read_of s).answer ≡ 0
    → step_size * full_length (ptso (read_of s).case.program) ≤ length out
    → (run : List Step) → ask_of (ptso (read_of s).case.program) (reaches (read_of s).case.ask) b ≡ reached run
    → shown_of s b out ≡ steps_bytes run ++ drop (step_size * length run) out
unfolding shown_of
shown_run s b out read h run e =
    pick_true _ _ _ (eq-eqb _ _ read)
    ∙ answer_shown (ptso (read_of s).case.program) (length out) h _ out refl run e

pub only_reached_stores : (s : List ℕ) (b : ℕ) (out : List ℕ)
    → outcome_no (question_of s (length out) b) ≢ 100
    → shown_of s b out ≡ out
unfolding question_of shown_of
only_reached_stores s b out =
    pick_pair (Stores out) (eqb (number_of (read_of s).answer) 0) _ _ _ _
    (answer_stores (ptso (read_of s).case.program)
    (ask_of (ptso (read_of s).case.program) (reaches (read_of s).case.ask) b) out)
    (λ n. refl)

pub steps_not_looked_at : (s t : List ℕ)
    → number_of (read_of s).answer ≡ 0
    → number_of (read_of t).answer ≡ 0
    → (read_of s).case.program ≡ (read_of t).case.program
    → (read_of s).case.ask ≡ (read_of t).case.ask
    → (b : ℕ) (out : List ℕ)
    → (question_of s (length out) b ≡ question_of t (length out) b) × (shown_of s b out ≡ shown_of t b out)
unfolding question_of shown_of
steps_not_looked_at s t g h p a b out =
    let x = eq-eqb (number_of (read_of s).answer) 0 g in
    let y = eq-eqb (number_of (read_of t).answer) 0 h in (
      pick_true _ _ _ x ∙ (λ i. answer_for (ptso (p i)) (reaches (a i)) (length out) b) ∙
          sym (pick_true _ _ _ y),
      pick_true _ _ _ x ∙ (λ i. shown_for (ptso (p i)) (reaches (a i)) b out) ∙ sym (pick_true _ _ _ y),
    )

pub question_low : (s : List ℕ) (room b : ℕ)
    → (outcome_no (question_of s room b) < 256) × (outcome_place (question_of s room b) ≤ longest)
unfolding question_of
question_low s room b =
    pick_cases Low (eqb (number_of (read_of s).answer) 0) _ _
    (λ h.
    let fits = read_fits s (eqb-true _ _ h) in
    answer_low (ptso (read_of s).case.program) room
    (ask_of (ptso (read_of s).case.program) (reaches (read_of s).case.ask) b)
    (λ run e.
    let a = reached_short (ptso (read_of s).case.program) (ptso_lawful (read_of s).case.program fits)
    (reaches (read_of s).case.ask) b run e in
    let f = full_length_most (read_of s).case.program fits in
    omega arith))
    (λ h. (omega (arith, number_in_table s), offset_low s))
