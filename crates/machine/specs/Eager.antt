-- Request P10, "Flush-opts as early as can be": "a legal move of a flush-opt or a legal persist of a marker is always
-- taken before any other step". Such steps are called eager.
--   is_flush_opt e        the entry e is a flush-opt
--   marks_first q         the oldest entry of the queue q is a marker
--   is_eager s k          in the state s the step k moves a flush-opt or persists a marker
--   has_eager p s         an eager step is legal in s
--   put_off               the number of the rule that is added: it is no rule of 01's, and nobody is told it
--   eager_rule p s k      the rule that the step k breaks, where eager steps come before all others
--   eager p               the machine, for the program p, with these rules and nothing else changed
--   those f xs            those on the list xs of which f is true; or_else xs ys: ys where xs is empty
--   SameLeft s u          the states s and u hold the same in memory and in registers, with as many issued
-- Assumes nothing.
use Rattle.std.specs.Prelude.{ℕ, ◌<◌, ◌≡◌, Bool, true, false, not, List, [], ◌∷◌, eqb, leb}
use Rattle.cases.specs.declared.case.Step.{Step}
use Rattle.cases.specs.declared.case.Program.{Program}
use Rattle.cases.specs.Choice.{pick, both, refuse}
use Rattle.cases.specs.Sizes.{most_threads, most_locations}
use Rattle.cases.specs.Operations.{issue, move}
use Rattle.machine.specs.declared.cells.State.{State}
use Rattle.machine.specs.declared.cells.Entry.{Entry}
use Rattle.machine.specs.declared.cells.Entry.TheVariants.{Store, Flush, FlushOpt, Sfence}
use Rattle.machine.specs.Sizes.{first_marker}
use Rattle.machine.specs.View.{Slot, queue, buffer, word_of, issued_of}
use Rattle.machine.specs.Rules.{entry_at, rule_of}
use Rattle.machine.specs.Fit.{any_of}
use Rattle.machine.specs.Model.{Model, ruled, legal_steps}
use Rattle.machine.specs.Ptso.{ptso}

unfoldable pub is_flush_opt : Entry → Bool
is_flush_opt (Store w) = false
is_flush_opt (Flush l) = false
is_flush_opt (FlushOpt l) = true
is_flush_opt Sfence = false

unfoldable pub marks_first : List Slot → Bool
marks_first [] = false
marks_first (h ∷ q) = leb first_marker h.mark

unfoldable pub is_eager : State → Step → Bool
is_eager s k =
    pick (eqb k.code issue) false
    (pick (eqb k.code move) (is_flush_opt (entry_at (buffer s k.thread.0) k.position))
    (marks_first (queue s k.location.0)))

unfoldable pub has_eager : Program → State → Bool
has_eager p s = any_of (is_eager s) (legal_steps (ptso p) s)

abbrev pub put_off : ℕ
put_off = 30

-- "always taken before any other step": where one is legal, a step that is not eager is put off
unfoldable pub eager_rule : Program → State → Step → ℕ
eager_rule p s k = refuse (both (has_eager p s) (not (is_eager s k))) put_off (rule_of p s k)

abbrev pub eager : Program → Model State Step
eager p = ruled (eager_rule p) (ptso p)

-- how the theorems say which steps are next then (`eager_steps`)
unfoldable pub those : {A : Type 0} → (A → Bool) → List A → List A
those f [] = []
those f (x ∷ xs) = pick (f x) (x ∷ those f xs) (those f xs)

unfoldable pub or_else : {A : Type 0} → List A → List A → List A
or_else [] ys = ys
or_else (x ∷ xs) ys = x ∷ xs

-- "the same memories are reached with the same passed counts", and the same words are loaded
pub record SameLeft (s u : State) : Type 0 where
  pub words_same : (l : ℕ) → l < most_locations → word_of s l ≡ word_of u l
  pub issued_same : (t : ℕ) → t < most_threads → issued_of s t ≡ issued_of u t
  pub registers_same : s.registers ≡ u.registers
