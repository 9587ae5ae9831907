-- Document 01, "Work left and the walk" and "Refusal numbers": the question.
--   reaches a s           a crash in the state s leaves what is asked for, with what is asked for issued
--   misses, misses_at, lacks_at   a location holds another word than is wanted; a thread has issued too few
--   first_of test vs      the first of some runs whose end passes a test, or none (First)
--   decided test b vs     what a budget b says of the runs vs (Decided)
--   FirstThat             the run v is the first of vs that passes, and `before` stands before it
--   ask_of m test b       what a budget b says of the walk of a model
--   outcome_no, outcome_place   01's number of an answer, and its place
--   told_of d             the answer that a caller gets for d
--   answer_by m room d    the answer where d is decided of a model, with a lent buffer of `room` bytes
--   shown_after m d out   what the lent bytes hold afterwards
--   answer_for m test room b, shown_for m test b out   both for the walk of a model, and a budget b
--   question_of s room b  what the question answers for the bytes s, a lent buffer of `room` bytes, a budget b
--   shown_of s b out      what the lent bytes `out` hold afterwards
-- Assumes nothing.
use Rattle.std.specs.Prelude.{ℕ, ◌*◌, ◌≡◌, Bool, true, false, not, List, [], ◌∷◌, ◌++◌, length, get_or, take, drop, eqb, leb, ltb}
use Rattle.cases.specs.declared.case.Step.{Step}
use Rattle.cases.specs.declared.case.Ask.{Ask}
use Rattle.cases.specs.Choice.{pick, both}
use Rattle.cases.specs.Sizes.{most_threads, most_locations, step_size}
use Rattle.cases.specs.Reading.{number_of, offset_of, read_of}
use Rattle.cases.specs.Seats.{steps_bytes}
use Rattle.machine.specs.declared.cells.State.{State}
use Rattle.machine.specs.Fit.{any_from}
use Rattle.machine.specs.Model.{Model, full_length, Listed}
use Rattle.machine.specs.Ptso.{ptso}
use Rattle.search.specs.declared.ask.Outcome.{Outcome}
use Rattle.search.specs.declared.ask.Outcome.TheVariants.{Reached, Unreachable, Undecided, Refused}
use Rattle.search.specs.Walk.{Visit, walk_from}

-- a location holds another word than is wanted there. "Not wanted" is not "wanted 0".
unfoldable pub misses : Bool → ℕ → ℕ → Bool
misses wanted want word = both wanted (not (eqb word want))

unfoldable pub misses_at : List Bool → List ℕ → List ℕ → ℕ → Bool
misses_at wanted want words l = misses (get_or wanted l false) (get_or want l 0) (get_or words l 0)

-- thread t has issued fewer instructions than asked for
unfoldable pub lacks_at : List ℕ → List ℕ → ℕ → Bool
lacks_at passed issued t = ltb (get_or issued t 0) (get_or passed t 0)

-- "A run reaches the question if the persistent words match every want and every passed count is met."
unfoldable pub reaches_in : List Bool → List ℕ → List ℕ → List ℕ → List ℕ → Bool
reaches_in wanted want passed words issued =
    both (not (any_from 0 most_locations (misses_at wanted want words)))
    (not (any_from 0 most_threads (lacks_at passed issued)))

unfoldable pub reaches : Ask → State → Bool
reaches a s = reaches_in a.wanted a.want a.passed s.words s.issued

pub data First (K : Type 0) : Type 0 where
  found : List K → First K
  missing : First K

unfoldable pub first_of : {S K : Type 0} → (S → Bool) → List (Visit S K) → First K
first_of test [] = missing
first_of test (v ∷ vs) = elim (test v.end) [ true ↦ found v.run | false ↦ first_of test vs ]

-- 100 with the run, 101, 102
pub data Decided (K : Type 0) : Type 0 where
  reached : List K → Decided K
  unreachable : Decided K
  undecided : Decided K

-- "A budget B covers the first B runs."
unfoldable pub decided_by : {K : Type 0} → First K → Bool → Decided K
decided_by (found run) all = reached run
decided_by missing true = unreachable
decided_by missing false = undecided

unfoldable pub decided : {S K : Type 0} → (S → Bool) → ℕ → List (Visit S K) → Decided K
decided test b vs = decided_by (first_of test (take b vs)) (leb (length vs) b)

-- how the theorems say it: no run of vs passes; the run of v stands in vs behind `before`, and is the first
-- that passes
unfoldable pub None : {S K : Type 0} → (S → Bool) → List (Visit S K) → Type 0
None {S} {K} test vs = (v : Visit S K) → Listed v vs → test v.end ≡ false

pub record FirstThat {S K : Type 0} (test : S → Bool) (vs before : List (Visit S K)) (v : Visit S K)
    : Type 0 where
  pub after : List (Visit S K)
  pub stands : vs ≡ before ++ v ∷ after
  pub passes : test v.end ≡ true
  pub none : None test before

unfoldable pub ask_of : {S K : Type 0} → Model S K → (S → Bool) → ℕ → Decided K
ask_of m test b = decided test b (walk_from m)

-- 01's number of an answer, and its place: "(offset for reading refusals, .. number of steps for 100 .., else
-- 0)"
abbrev pub outcome_no : Outcome → ℕ
outcome_no (Reached n) = 100
outcome_no Unreachable = 101
outcome_no Undecided = 102
outcome_no (Refused m at) = m

abbrev pub outcome_place : Outcome → ℕ
outcome_place (Reached n) = n
outcome_place Unreachable = 0
outcome_place Undecided = 0
outcome_place (Refused m at) = at

unfoldable pub told_of : Decided Step → Outcome
told_of (reached run) = Reached (length run)
told_of unreachable = Unreachable
told_of undecided = Undecided

-- "The question tests reading first, then 31 (shorter than 8 bytes times the program's full length, below)."
unfoldable pub short : {S K : Type 0} → Model S K → ℕ → Bool
short m room = ltb room (step_size * full_length m)

-- the answer for what is decided of a model
unfoldable pub answer_by : {S : Type 0} → Model S Step → ℕ → Decided Step → Outcome
answer_by m room d = pick (short m room) (Refused 31 0) (told_of d)

abbrev pub answer_for : {S : Type 0} → Model S Step → (S → Bool) → ℕ → ℕ → Outcome
answer_for m test room b = answer_by m room (ask_of m test b)

unfoldable pub question_of : List ℕ → ℕ → ℕ → Outcome
question_of s room b =
    pick (eqb (number_of (read_of s).answer) 0)
    (answer_for (ptso (read_of s).case.program) (reaches (read_of s).case.ask) room b)
    (Refused (number_of (read_of s).answer) (offset_of (read_of s).answer))

-- "100 reached (the first such run, as kind 6 records in the lent buffer ..)": from the front, and nothing
-- behind them is touched. "Refusals, and the answers 101 and 102, store nothing."
unfoldable pub shown_by : Decided Step → List ℕ → List ℕ
shown_by (reached run) out = steps_bytes run ++ drop (step_size * length run) out
shown_by unreachable out = out
shown_by undecided out = out

unfoldable pub shown_after : {S : Type 0} → Model S Step → Decided Step → List ℕ → List ℕ
shown_after m d out = pick (short m (length out)) out (shown_by d out)

abbrev pub shown_for : {S : Type 0} → Model S Step → (S → Bool) → ℕ → List ℕ → List ℕ
shown_for m test b out = shown_after m (ask_of m test b) out

unfoldable pub shown_of : List ℕ → ℕ → List ℕ → List ℕ
shown_of s b out =
    pick (eqb (number_of (read_of s).answer) 0)
    (shown_for (ptso (read_of s).case.program) (reaches (read_of s).case.ask) b out)
    out
