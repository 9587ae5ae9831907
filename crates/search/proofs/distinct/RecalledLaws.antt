-- What the engine answers, by its definition: refused, short, or as is decided of the distinct states; what the lent
-- bytes and the lent words hold then. Assumes nothing.
use Prim.Native.Nat.{ℕ, ◌*◌, ◌<◌, ◌≤◌}
use mathlib.Core.Path.{◌≡◌, refl, sym, ap, ◌∙◌}
use mathlib.Core.Logic.{◌≢◌, ◌↔◌}
use mathlib.Core.List.{List, ◌++◌}
use lib.ListN.{length, drop, replicate}
use lib.Dec.{eqb}
use borrow.Author.Tests.{lt-ltb, le-ltb, eq-eqb, ne_eqb, eqb-true}
use native.Mathlib.Omega.{arith}
use Rattle.cases.specs.declared.case.Step.{Step}
use Rattle.cases.specs.Sizes.{step_size}
use Rattle.cases.specs.Reading.{number_of, offset_of, read_of}
use Rattle.cases.specs.Seats.{steps_bytes}
use Rattle.cases.proofs.ChoiceLaws.{pick_true, pick_false, pick_cases, pick_pair}
use Rattle.cases.proofs.Promises.{number_in_table, offset_low}
use Rattle.machine.specs.Model.{full_length}
use Rattle.machine.specs.Ptso.{ptso}
use Rattle.machine.proofs.Promises.{read_fits, ptso_lawful, full_length_most}
use Rattle.search.specs.declared.ask.Outcome.TheVariants.{Reached, Unreachable, Undecided, Refused}
use Rattle.search.specs.declared.distinct.Remembered.{Remembered}
use Rattle.search.specs.Question.{reaches, reached, unreachable, undecided, outcome_no, short}
use Rattle.search.specs.Question.{answer_by, shown_after}
use Rattle.search.specs.Lanes.{lanes_of}
use Rattle.search.specs.Remember.{distinct_of, states_of, covers_of, recall_for, remember_for, remember_of, recalled_of}
use Rattle.search.specs.Remember.{cleared_for, cleared_of}
use Rattle.search.proofs.ask.AnswerLaws.{answer_reached, answer_unreachable, answer_undecided, answer_shown}
use Rattle.search.proofs.ask.AnswerLaws.{Stores, answer_stores, Low, answer_low}
use Rattle.search.proofs.distinct.RememberLaws.{recalled_short}

module _ (s : List ℕ) (room words b : ℕ) where
  pub remember_unread : number_of (read_of s).answer ≢ 0
      → remember_of s room words b
      ≡ record { outcome = Refused (number_of (read_of s).answer) (offset_of (read_of s).answer); states = 0 }
  unfolding remember_of
  remember_unread h = pick_false _ _ _ (ne_eqb _ _ h)

  module _ (read : number_of (read_of s).answer ≡ 0) where
    remembered : remember_of s room words b
        ≡ remember_for (read_of s).case.program (read_of s).case.ask room words b
    unfolding remember_of
    remembered = pick_true _ _ _ (eq-eqb _ _ read)

    pub remember_brief : room < step_size * full_length (ptso (read_of s).case.program)
        → remember_of s room words b ≡ record { outcome = Refused 31 0; states = 0 }
    unfolding remember_for answer_by short
    remember_brief h =
        let t = lt-ltb room (step_size * full_length (ptso (read_of s).case.program)) h in
        let x : answer_by (ptso (read_of s).case.program) room
        (recall_for (read_of s).case.program (read_of s).case.ask words b) ≡ Refused 31 0 = pick_true _ _ _ t in
        let y = pick_true (short (ptso (read_of s).case.program) room) 0
        (states_of (recall_for (read_of s).case.program (read_of s).case.ask words b)
        (length (distinct_of (ptso (read_of s).case.program) (lanes_of (read_of s).case.program)))) t in
        remembered ∙ (λ i. record { outcome = x i; states = y i })

    module _ (h : step_size * full_length (ptso (read_of s).case.program) ≤ room) where
      answered : (remember_of s room words b).outcome
          ≡ answer_by (ptso (read_of s).case.program) room
          (recall_for (read_of s).case.program (read_of s).case.ask words b)
      unfolding remember_for
      answered = ap (λ (r : Remembered). r.outcome) remembered

      pub remember_reached : (n : ℕ)
          → ((remember_of s room words b).outcome ≡ Reached n)
          ↔ ((run : List Step)
          × (recall_for (read_of s).case.program (read_of s).case.ask words b ≡ reached run)
          × (n ≡ length run))
      remember_reached n =
          let a = answer_reached _ room h (recall_for (read_of s).case.program (read_of s).case.ask words b) n in
          ((λ e. a.0 (sym answered ∙ e)), (λ e. answered ∙ a.1 e))

      pub remember_unreachable :
          ((remember_of s room words b).outcome ≡ Unreachable)
          ↔ (recall_for (read_of s).case.program (read_of s).case.ask words b ≡ unreachable)
      remember_unreachable =
          let a = answer_unreachable _ room h (recall_for (read_of s).case.program (read_of s).case.ask words b) in
          ((λ e. a.0 (sym answered ∙ e)), (λ e. answered ∙ a.1 e))

      pub remember_undecided :
          ((remember_of s room words b).outcome ≡ Undecided)
          ↔ (recall_for (read_of s).case.program (read_of s).case.ask words b ≡ undecided)
      remember_undecided =
          let a = answer_undecided _ room h (recall_for (read_of s).case.program (read_of s).case.ask words b) in
          ((λ e. a.0 (sym answered ∙ e)), (λ e. answered ∙ a.1 e))

      -- how many distinct states there are
      pub remember_states : recall_for (read_of s).case.program (read_of s).case.ask words b ≡ unreachable
          → (remember_of s room words b).states
          ≡ length (distinct_of (ptso (read_of s).case.program) (lanes_of (read_of s).case.program))
      unfolding remember_for short states_of
      remember_states e =
          ap (λ (r : Remembered). r.states) remembered
          ∙ pick_false _ 0 _ (le-ltb room (step_size * full_length (ptso (read_of s).case.program)) h)
          ∙ ap (λ d. states_of d (length (distinct_of (ptso (read_of s).case.program) (lanes_of (read_of s).case.program))))
          e

-- what is shown, and stored only where the number is 100
pub recalled_run : (s : List ℕ) (words b : ℕ) (out : List ℕ) → number_of (read_of s).answer ≡ 0
    → step_size * full_length (ptso (read_of s).case.program) ≤ length out
    → (run : List Step) → recall_for (read_of s).case.program (read_of s).case.ask words b ≡ reached run
    → recalled_of s words b out ≡ steps_bytes run ++ drop (step_size * length run) out
unfolding recalled_of
recalled_run s words b out read h run e =
    pick_true _ _ _ (eq-eqb _ _ read)
    ∙ answer_shown (ptso (read_of s).case.program) (length out) h _ out refl run e

pub only_reached_recalls : (s : List ℕ) (words b : ℕ) (out : List ℕ)
    → outcome_no (remember_of s (length out) words b).outcome ≢ 100
    → recalled_of s words b out ≡ out
unfolding remember_of recalled_of remember_for
only_reached_recalls s words b out =
    pick_pair (λ (r : Remembered) (last : List ℕ). Stores out r.outcome last) (eqb (number_of (read_of s).answer) 0)
    _ _ _ _
    (answer_stores (ptso (read_of s).case.program)
    (recall_for (read_of s).case.program (read_of s).case.ask words b) out)
    (λ n. refl)

-- what the memory holds: as it was, where reading or 31 refuses; else zeros
module _ (s : List ℕ) (room : ℕ) (memory : List ℕ) where
  pub cleared_unread : number_of (read_of s).answer ≢ 0 → cleared_of s room memory ≡ memory
  unfolding cleared_of
  cleared_unread h = pick_false _ _ _ (ne_eqb _ _ h)

  module _ (read : number_of (read_of s).answer ≡ 0) where
    pub cleared_brief : room < step_size * full_length (ptso (read_of s).case.program) → cleared_of s room memory ≡ memory
    unfolding cleared_of cleared_for short
    cleared_brief h = pick_true _ _ _ (eq-eqb _ _ read) ∙ pick_true _ _ _ (lt-ltb _ _ h)

    pub cleared_zeros : step_size * full_length (ptso (read_of s).case.program) ≤ room
        → cleared_of s room memory ≡ replicate (length memory) 0
    unfolding cleared_of cleared_for short
    cleared_zeros h = pick_true _ _ _ (eq-eqb _ _ read) ∙ pick_false _ _ _ (le-ltb _ _ h)

pub remember_low : (s : List ℕ) (room words b : ℕ) → Low (remember_of s room words b).outcome
unfolding remember_of remember_for recall_for
remember_low s room words b =
    pick_cases (λ (r : Remembered). Low r.outcome) (eqb (number_of (read_of s).answer) 0) _ _
    (λ h.
    let fits = read_fits s (eqb-true _ _ h) in
    answer_low (ptso (read_of s).case.program) room
    (recall_for (read_of s).case.program (read_of s).case.ask words b)
    (λ run e.
    let a = recalled_short (ptso (read_of s).case.program) (ptso_lawful (read_of s).case.program fits)
    (lanes_of (read_of s).case.program) (reaches (read_of s).case.ask) (covers_of words b) run e in
    let f = full_length_most (read_of s).case.program fits in
    omega arith))
    (λ h. (omega (arith, number_in_table s), offset_low s))

-- the case's own steps are not looked at
pub remember_steps_not_looked_at : (s t : List ℕ)
    → number_of (read_of s).answer ≡ 0
    → number_of (read_of t).answer ≡ 0
    → (read_of s).case.program ≡ (read_of t).case.program
    → (read_of s).case.ask ≡ (read_of t).case.ask
    → (b : ℕ) (out memory : List ℕ)
    → (remember_of s (length out) (length memory) b ≡ remember_of t (length out) (length memory) b)
    × (recalled_of s (length memory) b out ≡ recalled_of t (length memory) b out)
    × (cleared_of s (length out) memory ≡ cleared_of t (length out) memory)
unfolding remember_of recalled_of cleared_of
remember_steps_not_looked_at s t g h p a b out memory =
    let x = eq-eqb (number_of (read_of s).answer) 0 g in
    let y = eq-eqb (number_of (read_of t).answer) 0 h in (
      pick_true _ _ _ x
          ∙ (λ i. remember_for (p i) (a i) (length out) (length memory) b)
          ∙ sym (pick_true _ _ _ y),
      pick_true _ _ _ x
          ∙ (λ i. shown_after (ptso (p i)) (recall_for (p i) (a i) (length memory) b) out)
          ∙ sym (pick_true _ _ _ y),
      pick_true _ _ _ x ∙ (λ i. cleared_for (p i) (length out) memory) ∙ sym (pick_true _ _ _ y),
    )
