-- Document 02, P8, "No stores from an unset register": what it buys. Where the words come from that a run stores,
-- compares and leaves in memory.
--   FirstContent p w        w is the first content of a location of the program p
--   StandsFor p l w         w is the word of an operation 1, 4 or 9 of the program on location l
--   StandsIn p w            the same of any location
--   OfProgram p w           w is a first content or stands in the program
--   StoresRegister p l      an operation 2 of the program stores to location l
--   OfLocation p l w        what location l can hold
--   set_at p t r i          instruction i of thread t sets register r
--   took_from p s ks t i    the word that the register of instruction i of thread t takes as the run ks from the
--                           state s issues it
--   took_of p ks t i        the same from the start
-- Assumes nothing.
use Rattle.std.specs.Prelude.{ℕ, ◌<◌, ◌≡◌, ◌⊎◌, Bool, true, List, get_or}
use Rattle.cases.specs.declared.case.Step.{Step}
use Rattle.cases.specs.declared.case.Program.{Program}
use Rattle.cases.specs.Operations.{store_register}
use Rattle.cases.specs.Checks.{count_at, instruction_at, uses_word, set_by}
use Rattle.machine.specs.declared.cells.State.{State}
use Rattle.machine.specs.Rules.{start_of}
use Rattle.machine.specs.Joins.{taken_by}
use Rattle.demands.specs.Writes.{at_issue}

-- what some location of the program holds at the start
unfoldable pub FirstContent : Program → ℕ → Type 0
FirstContent p w = (l : ℕ) × (l < p.locations) × (w ≡ get_or p.first l 0)

-- instruction i of thread t has the word w and the location l: a store of a word, an exchange or a compare
unfoldable pub StandsFor : Program → ℕ → ℕ → Type 0
StandsFor p l w =
    (t : ℕ) × (i : ℕ) × (i < count_at p t)
    × (uses_word (instruction_at p t i).operation ≡ true)
    × ((instruction_at p t i).location.0 ≡ l)
    × (w ≡ (instruction_at p t i).word)

-- whichever the location is
unfoldable pub StandsIn : Program → ℕ → Type 0
StandsIn p w = (l : ℕ) × StandsFor p l w

-- a word that is known from the program
unfoldable pub OfProgram : Program → ℕ → Type 0
OfProgram p w = FirstContent p w ⊎ StandsIn p w

-- instruction i of thread t is a store of a register to the location l
unfoldable pub StoresRegister : Program → ℕ → Type 0
StoresRegister p l =
    (t : ℕ) × (i : ℕ) × (i < count_at p t)
    × ((instruction_at p t i).operation ≡ store_register)
    × ((instruction_at p t i).location.0 ≡ l)

-- its first content; a word that stands in the program for it; where a register is stored to it, any word of the
-- program
unfoldable pub OfLocation : Program → ℕ → ℕ → Type 0
OfLocation p l w = (w ≡ get_or p.first l 0) ⊎ StandsFor p l w ⊎ (StoresRegister p l × OfProgram p w)

-- a load, an exchange or a compare with that register
unfoldable pub set_at : Program → ℕ → ℕ → ℕ → Bool
set_at p t r i = set_by r (instruction_at p t i)

-- 0 where the run doesn't issue it
unfoldable pub took_from : Program → State → List Step → ℕ → ℕ → ℕ
took_from p s ks t i = at_issue p (λ u. taken_by p u t (instruction_at p t i)) 0 s ks t i

-- a run starts from the program's start
unfoldable pub took_of : Program → List Step → ℕ → ℕ → ℕ
took_of p ks t i = took_from p (start_of p) ks t i
