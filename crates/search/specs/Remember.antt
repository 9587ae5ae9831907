-- Request P7, "A walk that remembers": the distinct states "in the order of the plain walk's first meeting", and
-- demand 2's three answers "read over them".
--   eq_lanes x y            two lists of numbers are equal
--   among x met             x is one of met
--   firsts key met vs       those of the runs vs that end in a state not met before: its key is neither among met nor the
--                           key of an earlier run's end
--   distinct_of m key       of a model: its distinct states, each at the end of the walk's first run that leads there
--   recall_of m key test n  what the first n of them say
--   states_of d n           how many distinct states were gone through, where that is all n of them; else 0
--   state_words             the lent words that a state takes
--   covers_of words b       L: how many states `words` lent words and a budget b cover
--   recall_for p a words b  what is decided of the program p, asked a
--   remember_for p a room words b   answer and number of states, behind 31
--   remember_of s room words b   what the engine answers for the bytes s, `room` lent bytes, `words` lent words, a budget b
--   recalled_of s words b out    what the lent bytes `out` hold afterwards
--   cleared_for p room memory    what the lent words hold afterwards, behind 31
--   cleared_of s room memory     what the lent words `memory` hold afterwards
-- Assumes nothing.
use Rattle.std.specs.Prelude.{ℕ, ◌/◌, Bool, true, false, List, [], ◌∷◌, length, replicate, eqb, ltb}
use Rattle.cases.specs.declared.case.Program.{Program}
use Rattle.cases.specs.declared.case.Ask.{Ask}
use Rattle.cases.specs.declared.case.Step.{Step}
use Rattle.cases.specs.Choice.{pick, both, either}
use Rattle.cases.specs.Reading.{number_of, offset_of, read_of}
use Rattle.machine.specs.Model.{Model}
use Rattle.machine.specs.Ptso.{ptso}
use Rattle.search.specs.declared.ask.Outcome.TheVariants.{Refused}
use Rattle.search.specs.declared.distinct.Remembered.{Remembered}
use Rattle.search.specs.Sizes.{state_words}
use Rattle.search.specs.Walk.{Visit, walk_from}
use Rattle.search.specs.Question.{reaches, Decided, reached, unreachable, undecided, decided, short}
use Rattle.search.specs.Question.{answer_by, shown_after}
use Rattle.search.specs.Lanes.{lanes_of}

unfoldable pub eq_lanes : List ℕ → List ℕ → Bool
eq_lanes [] [] = true
eq_lanes [] (y ∷ ys) = false
eq_lanes (x ∷ xs) [] = false
eq_lanes (x ∷ xs) (y ∷ ys) = both (eqb x y) (eq_lanes xs ys)

unfoldable pub among : List ℕ → List (List ℕ) → Bool
among x [] = false
among x (y ∷ ys) = either (eq_lanes x y) (among x ys)

unfoldable pub firsts : {S K : Type 0} → (S → List ℕ) → List (List ℕ) → List (Visit S K) → List (Visit S K)
firsts key met [] = []
firsts key met (v ∷ vs) =
    elim (among (key v.end) met) [ true ↦ firsts key met vs | false ↦ v ∷ firsts key (key v.end ∷ met) vs ]

-- "the whole walk being all distinct states"
unfoldable pub distinct_of : {S K : Type 0} → Model S K → (S → List ℕ) → List (Visit S K)
distinct_of m key = firsts key [] (walk_from m)

-- "The smaller limit L covers the first L states, and demand 2's three answers are read over them"
unfoldable pub recall_of : {S K : Type 0} → Model S K → (S → List ℕ) → (S → Bool) → ℕ → Decided K
recall_of m key test n = decided test n (distinct_of m key)

unfoldable pub states_of : {K : Type 0} → Decided K → ℕ → ℕ
states_of (reached run) n = 0
states_of unreachable n = n
states_of undecided n = 0

-- "Its budget counts distinct states ..; the lent memory's length divided by a size per state fixed in docs/ ..,
-- rounded down, is a second such limit. The smaller limit L"
unfoldable pub covers_of : ℕ → ℕ → ℕ
covers_of words b = pick (ltb (words / state_words) b) (words / state_words) b

-- the same state: the same lanes (`alike_exactly`)
unfoldable pub recall_for : Program → Ask → ℕ → ℕ → Decided Step
recall_for p a words b = recall_of (ptso p) (lanes_of p) (reaches a) (covers_of words b)

unfoldable pub remember_for : Program → Ask → ℕ → ℕ → ℕ → Remembered
remember_for p a room words b =
    record {
      outcome = answer_by (ptso p) room (recall_for p a words b);
      states =
          pick (short (ptso p) room) 0 (states_of (recall_for p a words b) (length (distinct_of (ptso p) (lanes_of p))));
    }

unfoldable pub remember_of : List ℕ → ℕ → ℕ → ℕ → Remembered
remember_of s room words b =
    pick (eqb (number_of (read_of s).answer) 0)
    (remember_for (read_of s).case.program (read_of s).case.ask room words b)
    (record { outcome = Refused (number_of (read_of s).answer) (offset_of (read_of s).answer); states = 0 })

-- as the question shows its run: "01's "store nothing" is said of the step buffer"
unfoldable pub recalled_of : List ℕ → ℕ → ℕ → List ℕ → List ℕ
recalled_of s words b out =
    pick (eqb (number_of (read_of s).answer) 0)
    (shown_after (ptso (read_of s).case.program) (recall_for (read_of s).case.program (read_of s).case.ask words b) out)
    out

-- "After any call that gets past reading and 31, the lent memory is all zeros"; those two leave it as it was
unfoldable pub cleared_for : Program → ℕ → List ℕ → List ℕ
cleared_for p room memory = pick (short (ptso p) room) memory (replicate (length memory) 0)

unfoldable pub cleared_of : List ℕ → ℕ → List ℕ → List ℕ
cleared_of s room memory =
    pick (eqb (number_of (read_of s).answer) 0) (cleared_for (read_of s).case.program room memory) memory
