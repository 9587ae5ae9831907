-- What the search promises of request P7, "A walk that remembers": of the distinct states, of what is answered over
-- them, and of the lent memory. Each law is stated in full. Assumes nothing.
use Prim.Native.Nat.{ℕ, ◌+◌, ◌*◌, ◌<◌, ◌≤◌}
use mathlib.Core.Path.{◌≡◌, ap, ◌∙◌}
use mathlib.Core.Logic.{◌≢◌, ◌↔◌, ◌⊎◌}
use mathlib.Core.Bool.{Bool}
use mathlib.Core.List.{List, [], ◌∷◌, ◌++◌}
use lib.ListN.{length, take, drop, replicate}
use Rattle.cases.specs.declared.case.Step.{Step}
use Rattle.cases.specs.Sizes.{step_size}
use Rattle.cases.specs.Bytes.{IsBytes}
use Rattle.cases.specs.Draft.{run_with, with_run}
use Rattle.cases.specs.Reading.{number_of, offset_of, read_of}
use Rattle.cases.specs.Seats.{encode_of, steps_bytes}
use Rattle.machine.specs.declared.runs.Verdict.TheVariants.{Legal}
use Rattle.machine.specs.Model.{Model, Lawful, full_length, Leads, Faultless, Listed}
use Rattle.machine.specs.Judge.{judge_bytes}
use Rattle.machine.specs.Ptso.{ptso}
use Rattle.search.specs.declared.ask.Outcome.TheVariants.{Reached, Unreachable, Undecided, Refused}
use Rattle.search.specs.Sizes.{state_words}
use Rattle.search.specs.Walk.{Visit, Sublist, walk_from}
use Rattle.search.specs.Question.{reached, unreachable, undecided, None, FirstThat, ask_of}
use Rattle.search.specs.Question.{outcome_no, question_of, shown_of}
use Rattle.search.specs.Lanes.{lanes_of}
use Rattle.search.specs.Remember.{distinct_of, recall_of, covers_of, recall_for, remember_of, recalled_of, cleared_of}
use Rattle.search.proofs.seek.BudgetLaws as BudgetLaws
use Rattle.search.proofs.distinct.DistinctLaws as DistinctLaws
use Rattle.search.proofs.distinct.AgreeLaws as AgreeLaws
use Rattle.search.proofs.distinct.LimitLaws as LimitLaws
use Rattle.search.proofs.distinct.RecalledLaws as RecalledLaws
use Rattle.search.proofs.distinct.EngineLaws as EngineLaws

-- "distinct states in the order of the plain walk's first meeting": of a model, two states being one where they have
-- one key
module _ {S K : Type 0} (m : Model S K) (key : S → List ℕ) where
  -- runs of the walk, in its order, and no more than those
  pub distinct_sub : Sublist (distinct_of m key) (walk_from m)
  distinct_sub = DistinctLaws.distinct_sub m key

  pub distinct_few : length (distinct_of m key) ≤ length (walk_from m)
  distinct_few = DistinctLaws.distinct_few m key

  -- each is the walk's first run whose end has its key
  pub distinct_first : (v : Visit S K) → Listed v (distinct_of m key)
      → (before : List (Visit S K)) × (after : List (Visit S K)) × (walk_from m ≡ before ++ v ∷ after)
      × ((w : Visit S K) → Listed w before → key w.end ≢ key v.end)
  distinct_first = DistinctLaws.distinct_first m key

  -- each state once: of two parts of the list, the keys differ
  pub distinct_once : (xs ys : List (Visit S K)) → distinct_of m key ≡ xs ++ ys
      → (v w : Visit S K) → Listed v xs → Listed w ys → key v.end ≢ key w.end
  distinct_once = DistinctLaws.distinct_once m key

  -- of a model that has its laws: each ends a legal run, in a state that fits; and every state to which a legal run
  -- leads has the key of one of them
  module _ {Fit : S → Type 0} {rank : K → ℕ} (laws : Lawful m Fit rank) where
    pub distinct_legal : (v : Visit S K) → Listed v (distinct_of m key)
        → Faultless m v.run × Leads m m.start v.run v.end
    distinct_legal = DistinctLaws.distinct_legal m laws key

    pub distinct_fits : (v : Visit S K) → Listed v (distinct_of m key) → Fit v.end
    distinct_fits = DistinctLaws.distinct_fits m laws key

    pub distinct_all : (ks : List K) (u : S) → Faultless m ks → Leads m m.start ks u
        → (v : Visit S K) × Listed v (distinct_of m key) × (key v.end ≡ key u)
    distinct_all = DistinctLaws.distinct_all m laws key

-- "demand 2's three answers are read over them, the whole walk being all distinct states": what the first n decide
module _ {S K : Type 0} (m : Model S K) (key : S → List ℕ) (test : S → Bool) where
  module _ (n : ℕ) where
    pub recall_reached_exactly : (run : List K)
        → (recall_of m key test n ≡ reached run)
        ↔ ((before : List (Visit S K))
        × (v : Visit S K)
        × FirstThat test (distinct_of m key) before v
        × (length before < n)
        × (v.run ≡ run))
    unfolding recall_of
    recall_reached_exactly run = (
      BudgetLaws.budget_reached_is test n (distinct_of m key) run,
      (λ h. BudgetLaws.budget_is_reached test n (distinct_of m key) h.0 h.1 h.2 h.3 ∙ ap reached h.4),
    )

    pub recall_unreachable_exactly : (recall_of m key test n ≡ unreachable)
        ↔ ((length (distinct_of m key) ≤ n) × None test (distinct_of m key))
    unfolding recall_of
    recall_unreachable_exactly = (
      BudgetLaws.budget_unreachable_is test n (distinct_of m key),
      (λ h. BudgetLaws.budget_is_unreachable test n (distinct_of m key) h.0 h.1),
    )

    pub recall_undecided_exactly : (recall_of m key test n ≡ undecided)
        ↔ ((n < length (distinct_of m key)) × None test (take n (distinct_of m key)))
    unfolding recall_of
    recall_undecided_exactly = (
      BudgetLaws.budget_undecided_is test n (distinct_of m key),
      (λ h. BudgetLaws.budget_is_undecided test n (distinct_of m key) h.0 h.1),
    )

    -- where no state reaches, fewer than all decide nothing
    pub recall_few_undecided : n < length (distinct_of m key) → None test (distinct_of m key)
        → recall_of m key test n ≡ undecided
    unfolding recall_of
    recall_few_undecided = EngineLaws.less_undecided test n (distinct_of m key)

  -- nor do just those before the first that reaches
  pub recall_one_less : (before : List (Visit S K)) (v : Visit S K) → FirstThat test (distinct_of m key) before v
      → recall_of m key test (length before) ≡ undecided
  unfolding recall_of
  recall_one_less = BudgetLaws.budget_one_less test (distinct_of m key)

  -- "Wherever both engines decide, they agree, the run shown included.": of a model that has its laws, where states
  -- of one key pass the test alike
  pub recall_agrees : {Fit : S → Type 0} {rank : K → ℕ} → Lawful m Fit rank
      → ((s u : S) → Fit s → Fit u → key s ≡ key u → test s ≡ test u)
      → (b n : ℕ) → ask_of m test b ≢ undecided → recall_of m key test n ≢ undecided
      → ask_of m test b ≡ recall_of m key test n
  recall_agrees laws = AgreeLaws.recall_agrees m laws key test

-- "the lent memory's length divided by a size per state .., rounded down, is a second such limit. The smaller limit L":
-- no more than the budget, so many states fit the memory, and no more do unless it is the budget
pub covers_exactly : (words b : ℕ)
    → (covers_of words b ≤ b)
    × (covers_of words b * state_words ≤ words)
    × ((covers_of words b ≡ b) ⊎ (words < (covers_of words b + 1) * state_words))
covers_exactly = LimitLaws.covers_exactly

-- What is answered for bytes, with `room` lent bytes and `words` lent words
module _ (s : List ℕ) (room words b : ℕ) where
  -- "reading and 31" first, as for the question
  pub remember_unread : number_of (read_of s).answer ≢ 0
      → remember_of s room words b
      ≡ record { outcome = Refused (number_of (read_of s).answer) (offset_of (read_of s).answer); states = 0 }
  remember_unread = RecalledLaws.remember_unread s room words b

  module _ (read : number_of (read_of s).answer ≡ 0) where
    pub remember_brief : room < step_size * full_length (ptso (read_of s).case.program)
        → remember_of s room words b ≡ record { outcome = Refused 31 0; states = 0 }
    remember_brief = RecalledLaws.remember_brief s room words b read

    -- then 100, 101 or 102, by what the first L distinct states decide
    module _ (enough : step_size * full_length (ptso (read_of s).case.program) ≤ room) where
      pub remember_reached : (n : ℕ)
          → ((remember_of s room words b).outcome ≡ Reached n)
          ↔ ((run : List Step)
          × (recall_for (read_of s).case.program (read_of s).case.ask words b ≡ reached run)
          × (n ≡ length run))
      remember_reached = RecalledLaws.remember_reached s room words b read enough

      pub remember_unreachable :
          ((remember_of s room words b).outcome ≡ Unreachable)
          ↔ (recall_for (read_of s).case.program (read_of s).case.ask words b ≡ unreachable)
      remember_unreachable = RecalledLaws.remember_unreachable s room words b read enough

      pub remember_undecided :
          ((remember_of s room words b).outcome ≡ Undecided)
          ↔ (recall_for (read_of s).case.program (read_of s).case.ask words b ≡ undecided)
      remember_undecided = RecalledLaws.remember_undecided s room words b read enough

      -- with 101, how many distinct states there are
      pub remember_states : recall_for (read_of s).case.program (read_of s).case.ask words b ≡ unreachable
          → (remember_of s room words b).states
          ≡ length (distinct_of (ptso (read_of s).case.program) (lanes_of (read_of s).case.program))
      remember_states = RecalledLaws.remember_states s room words b read enough

-- "01's "store nothing" is said of the step buffer": the run is stored from the front, and only where it is reached
module _ (s : List ℕ) (words b : ℕ) (out : List ℕ) where
  pub recalled_run : number_of (read_of s).answer ≡ 0
      → step_size * full_length (ptso (read_of s).case.program) ≤ length out
      → (run : List Step) → recall_for (read_of s).case.program (read_of s).case.ask words b ≡ reached run
      → recalled_of s words b out ≡ steps_bytes run ++ drop (step_size * length run) out
  recalled_run = RecalledLaws.recalled_run s words b out

  pub only_reached_recalls : outcome_no (remember_of s (length out) words b).outcome ≢ 100
      → recalled_of s words b out ≡ out
  only_reached_recalls = RecalledLaws.only_reached_recalls s words b out

  -- "with a run it would itself pass": the bytes that are stored, behind the case's file without its steps, are a file
  -- that gets 103
  pub recalled_passes : IsBytes s → number_of (read_of s).answer ≡ 0
      → step_size * full_length (ptso (read_of s).case.program) ≤ length out
      → (run : List Step) → recall_for (read_of s).case.program (read_of s).case.ask words b ≡ reached run
      → (judge_bytes
      (encode_of (with_run (read_of s).case (run_with []))
      ++ take (step_size * length run) (recalled_of s words b out))).verdict
      ≡ Legal (length run)
  recalled_passes bytes read room run e = EngineLaws.recalled_legal s read words b run e bytes out room

-- "After any call that gets past reading and 31, the lent memory is all zeros"; before, it is as it was
module _ (s : List ℕ) (room : ℕ) (memory : List ℕ) where
  pub cleared_unread : number_of (read_of s).answer ≢ 0 → cleared_of s room memory ≡ memory
  cleared_unread = RecalledLaws.cleared_unread s room memory

  module _ (read : number_of (read_of s).answer ≡ 0) where
    pub cleared_brief : room < step_size * full_length (ptso (read_of s).case.program)
        → cleared_of s room memory ≡ memory
    cleared_brief = RecalledLaws.cleared_brief s room memory read

    pub cleared_zeros : step_size * full_length (ptso (read_of s).case.program) ≤ room
        → cleared_of s room memory ≡ replicate (length memory) 0
    cleared_zeros = RecalledLaws.cleared_zeros s room memory read

-- "Wherever both engines decide, they agree, the run shown included.": of any bytes, whatever the budgets and the
-- memory; a refusal decides
pub engines_agree : (s : List ℕ) (b words n : ℕ) (out : List ℕ)
    → question_of s (length out) b ≢ Undecided
    → (remember_of s (length out) words n).outcome ≢ Undecided
    → (question_of s (length out) b ≡ (remember_of s (length out) words n).outcome)
    × (shown_of s b out ≡ recalled_of s words n out)
engines_agree = EngineLaws.engines_agree

-- "Kind 6 records in the input are not looked at": cases with the same program and the same ask answer alike
pub remember_steps_not_looked_at : (s t : List ℕ)
    → number_of (read_of s).answer ≡ 0
    → number_of (read_of t).answer ≡ 0
    → (read_of s).case.program ≡ (read_of t).case.program
    → (read_of s).case.ask ≡ (read_of t).case.ask
    → (b : ℕ) (out memory : List ℕ)
    → (remember_of s (length out) (length memory) b ≡ remember_of t (length out) (length memory) b)
    × (recalled_of s (length memory) b out ≡ recalled_of t (length memory) b out)
    × (cleared_of s (length out) memory ≡ cleared_of t (length out) memory)
remember_steps_not_looked_at = RecalledLaws.remember_steps_not_looked_at
