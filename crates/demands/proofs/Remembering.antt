-- Request P7, "A walk that remembers", in theorems to quote. Two states are the same where they hold the same, of the
-- program's threads, lines and locations (`Alike`). Assumes nothing.
use Prim.Native.Nat.{ℕ, ◌+◌, ◌*◌, ◌≤◌, ◌<◌}
use mathlib.Core.Path.{◌≡◌}
use mathlib.Core.Logic.{◌⊎◌, ◌↔◌, ◌≢◌}
use mathlib.Core.Bool.{true}
use mathlib.Core.List.{List, [], ◌∷◌, ◌++◌}
use lib.ListN.{length, take, drop, replicate}
use Rattle.cases.specs.declared.case.Step.{Step}
use Rattle.cases.specs.declared.case.Case.{Case}
use Rattle.cases.specs.Sizes.{step_size}
use Rattle.cases.specs.Bytes.{IsBytes}
use Rattle.cases.specs.Draft.{run_with, with_run}
use Rattle.cases.specs.Reading.{number_of, offset_of, read_of}
use Rattle.cases.specs.Seats.{encode_of, steps_bytes}
use Rattle.cases.specs.Writing.{reads_back}
use Rattle.machine.specs.declared.cells.State.{State}
use Rattle.machine.specs.declared.runs.Verdict.TheVariants.{Legal}
use Rattle.machine.specs.Rules.{start_of}
use Rattle.machine.specs.Model.{full_length, Leads, Faultless, Listed}
use Rattle.machine.specs.Judge.{judge_bytes}
use Rattle.machine.specs.Ptso.{ptso}
use Rattle.search.specs.declared.ask.Outcome.TheVariants.{Reached, Unreachable, Undecided, Refused}
use Rattle.search.specs.Sizes.{state_words}
use Rattle.search.specs.Walk.{Visit, Sublist, walk_from}
use Rattle.search.specs.Question.{reaches, None, FirstThat, outcome_no, question_of, shown_of}
use Rattle.search.specs.Lanes.{lanes_of, Alike}
use Rattle.search.specs.Remember.{distinct_of, covers_of, remember_of, recalled_of, cleared_of}
use Rattle.search.proofs.Recalled as Recalled
use Rattle.demands.proofs.answers.MetAskedLaws as MetAskedLaws
use Rattle.demands.proofs.answers.TableLaws as TableLaws

-- "Add an engine": for any bytes, any lent bytes, any number of lent words and any budget it answers 100 to 102, 31, or a
-- reading refusal, 1 to 10
pub recalled_or_refused : (s : List ℕ) (room words b : ℕ)
    → ((100 ≤ outcome_no (remember_of s room words b).outcome) × (outcome_no (remember_of s room words b).outcome ≤ 102))
    ⊎ (outcome_no (remember_of s room words b).outcome ≡ 31)
    ⊎ ((1 ≤ outcome_no (remember_of s room words b).outcome) × (outcome_no (remember_of s room words b).outcome ≤ 10))
recalled_or_refused = TableLaws.remember_table

-- "Its budget counts distinct states in the order of the plain walk's first meeting": the list of a case that can be
-- read
module _ (c : Case) (readable : reads_back c ≡ true) where
  -- it is some of the walk's runs, in the walk's order, each with its end
  pub in_the_order_of_the_walk :
      Sublist (distinct_of (ptso c.program) (lanes_of c.program)) (walk_from (ptso c.program))
  in_the_order_of_the_walk = Recalled.distinct_sub (ptso c.program) (lanes_of c.program)

  -- no run of the walk before one of them ends in the same state
  pub each_state_by_its_first_run :
      (v : Visit State Step)
      → Listed v (distinct_of (ptso c.program) (lanes_of c.program))
      → (before : List (Visit State Step)) × (after : List (Visit State Step))
      × (walk_from (ptso c.program) ≡ before ++ v ∷ after)
      × ((w : Visit State Step) → Listed w before → Alike c.program w.end v.end → ⊥)
  each_state_by_its_first_run = MetAskedLaws.met_first c readable

  -- every state to which a legal run leads is the same as one of theirs
  pub every_state_is_met :
      (ks : List Step) (u : State)
      → Faultless (ptso c.program) ks
      → Leads (ptso c.program) (start_of c.program) ks u
      → (v : Visit State Step)
      × Listed v (distinct_of (ptso c.program) (lanes_of c.program))
      × Alike c.program v.end u
  every_state_is_met = MetAskedLaws.met_all c readable

  -- and each once: of two parts of the list, no state of the one is the same as one of the other
  pub each_state_once :
      (xs ys : List (Visit State Step))
      → distinct_of (ptso c.program) (lanes_of c.program) ≡ xs ++ ys
      → (v w : Visit State Step) → Listed v xs → Listed w ys
      → Alike c.program v.end w.end → ⊥
  each_state_once = MetAskedLaws.met_once c readable

-- "the lent memory's length divided by a size per state fixed in docs/ (at most 4,096 bytes), rounded down, is a second
-- such limit. The smaller limit L": no more than the budget; so many states fit the memory's words; and no more fit,
-- unless it is the budget
pub the_smaller_limit : (words b : ℕ)
    → (covers_of words b ≤ b)
    × (covers_of words b * state_words ≤ words)
    × ((covers_of words b ≡ b) ⊎ (words < (covers_of words b + 1) * state_words))
the_smaller_limit = Recalled.covers_exactly

-- "The smaller limit L covers the first L states, and demand 2's three answers are read over them, the whole walk being
-- all distinct states.": bytes that read, and a lent buffer with room for a run of the full length
module _ (s : List ℕ) (bytes : IsBytes s) (read : number_of (read_of s).answer ≡ 0) (b : ℕ) (out memory : List ℕ)
    (room : step_size * full_length (ptso (read_of s).case.program) ≤ length out) where
  -- reached: the first of them that reaches the question stands among the first L; n steps lead there
  pub recalled_reached_exactly : (n : ℕ)
      → ((remember_of s (length out) (length memory) b).outcome ≡ Reached n)
      ↔ ((before : List (Visit State Step)) × (v : Visit State Step)
      × FirstThat (reaches (read_of s).case.ask)
      (distinct_of (ptso (read_of s).case.program) (lanes_of (read_of s).case.program)) before v
      × (length before < covers_of (length memory) b)
      × (n ≡ length v.run))
  recalled_reached_exactly = MetAskedLaws.met_reached s read (length memory) b out room

  -- with its run, as kind 6 records from the front of the lent bytes
  pub recalled_shows_the_run : (before : List (Visit State Step)) (v : Visit State Step)
      → FirstThat (reaches (read_of s).case.ask)
      (distinct_of (ptso (read_of s).case.program) (lanes_of (read_of s).case.program)) before v
      → length before < covers_of (length memory) b
      → recalled_of s (length memory) b out ≡ steps_bytes v.run ++ drop (step_size * length v.run) out
  recalled_shows_the_run = MetAskedLaws.met_shows_the_run s read (length memory) b out room

  -- a run that the judge would itself pass: what is stored, behind the case's file without its own steps, gets 103
  pub recalled_passes : (n : ℕ) → (remember_of s (length out) (length memory) b).outcome ≡ Reached n
      → (judge_bytes
      (encode_of (with_run (read_of s).case (run_with []))
      ++ take (step_size * n) (recalled_of s (length memory) b out))).verdict
      ≡ Legal n
  recalled_passes = MetAskedLaws.met_passes s read (length memory) b out room bytes

  -- unreachable: L covers all distinct states, and none of them reaches
  pub recalled_unreachable_exactly :
      ((remember_of s (length out) (length memory) b).outcome ≡ Unreachable)
      ↔ ((length (distinct_of (ptso (read_of s).case.program) (lanes_of (read_of s).case.program))
      ≤ covers_of (length memory) b)
      × None (reaches (read_of s).case.ask)
      (distinct_of (ptso (read_of s).case.program) (lanes_of (read_of s).case.program)))
  recalled_unreachable_exactly = MetAskedLaws.met_unreachable s read (length memory) b out room

  -- then their number is told
  pub number_of_states_told : (remember_of s (length out) (length memory) b).outcome ≡ Unreachable
      → (remember_of s (length out) (length memory) b).states
      ≡ length (distinct_of (ptso (read_of s).case.program) (lanes_of (read_of s).case.program))
  number_of_states_told = MetAskedLaws.met_states s read (length memory) b out room

  -- undecided: there are more than L, and none of the first L reaches
  pub recalled_undecided_exactly :
      ((remember_of s (length out) (length memory) b).outcome ≡ Undecided)
      ↔ ((covers_of (length memory) b
      < length (distinct_of (ptso (read_of s).case.program) (lanes_of (read_of s).case.program)))
      × None (reaches (read_of s).case.ask)
      (take (covers_of (length memory) b)
      (distinct_of (ptso (read_of s).case.program) (lanes_of (read_of s).case.program))))
  recalled_undecided_exactly = MetAskedLaws.met_undecided s read (length memory) b out room

  -- a limit one less than reaches decides nothing; where none reaches, nor does one less than all
  pub one_state_less_is_undecided : (before : List (Visit State Step)) (v : Visit State Step)
      → FirstThat (reaches (read_of s).case.ask)
      (distinct_of (ptso (read_of s).case.program) (lanes_of (read_of s).case.program)) before v
      → covers_of (length memory) b ≡ length before
      → (remember_of s (length out) (length memory) b).outcome ≡ Undecided
  one_state_less_is_undecided = MetAskedLaws.met_one_less s read (length memory) b out room

  pub last_state_less_is_undecided :
      None (reaches (read_of s).case.ask)
      (distinct_of (ptso (read_of s).case.program) (lanes_of (read_of s).case.program))
      → covers_of (length memory) b + 1
      ≡ length (distinct_of (ptso (read_of s).case.program) (lanes_of (read_of s).case.program))
      → (remember_of s (length out) (length memory) b).outcome ≡ Undecided
  last_state_less_is_undecided = MetAskedLaws.met_last_less s read (length memory) b out room

-- "After any call that gets past reading and 31, the lent memory is all zeros;": what those two answer, and leave
module _ (s : List ℕ) (out memory : List ℕ) where
  pub reading_comes_first : number_of (read_of s).answer ≢ 0
      → (b : ℕ)
      → remember_of s (length out) (length memory) b
      ≡ record { outcome = Refused (number_of (read_of s).answer) (offset_of (read_of s).answer); states = 0 }
  reading_comes_first unread b = Recalled.remember_unread s (length out) (length memory) b unread

  pub memory_left_by_reading : number_of (read_of s).answer ≢ 0 → cleared_of s (length out) memory ≡ memory
  memory_left_by_reading = Recalled.cleared_unread s (length out) memory

  module _ (read : number_of (read_of s).answer ≡ 0) where
    pub short_comes_next : length out < step_size * full_length (ptso (read_of s).case.program)
        → (b : ℕ)
        → remember_of s (length out) (length memory) b ≡ record { outcome = Refused 31 0; states = 0 }
    short_comes_next short b = Recalled.remember_brief s (length out) (length memory) b read short

    pub memory_left_by_short : length out < step_size * full_length (ptso (read_of s).case.program)
        → cleared_of s (length out) memory ≡ memory
    memory_left_by_short = Recalled.cleared_brief s (length out) memory read

    -- past both, whatever is answered
    pub memory_all_zeros : step_size * full_length (ptso (read_of s).case.program) ≤ length out
        → cleared_of s (length out) memory ≡ replicate (length memory) 0
    memory_all_zeros = Recalled.cleared_zeros s (length out) memory read

  -- "01's "store nothing" is said of the step buffer."
  pub only_reached_stores_steps : (b : ℕ)
      → outcome_no (remember_of s (length out) (length memory) b).outcome ≢ 100
      → recalled_of s (length memory) b out ≡ out
  only_reached_stores_steps b = Recalled.only_reached_recalls s (length memory) b out

-- "Wherever both engines decide, they agree, the run shown included.": the same bytes and the same lent bytes, whatever
-- the budgets b and n and the lent words; a refusal decides
pub both_engines_agree : (s : List ℕ) (b words n : ℕ) (out : List ℕ)
    → question_of s (length out) b ≢ Undecided
    → (remember_of s (length out) words n).outcome ≢ Undecided
    → (question_of s (length out) b ≡ (remember_of s (length out) words n).outcome)
    × (shown_of s b out ≡ recalled_of s words n out)
both_engines_agree = Recalled.engines_agree
