-- The parts of a state that rules look at, as one thing: so none is taken for another.
--   Parts              store buffers with how many wait in each, how many each thread has issued, the queues'
--                      marks with how many each holds
--   lent, parts_of s   those that stand by themselves; those of the state s
-- Assumes nothing.
use Rattle.std.specs.Prelude.{ℕ, List}
use Rattle.machine.specs.declared.cells.State.{State}
use Rattle.machine.specs.declared.cells.Waiting.{Waiting}

pub record Parts : Type 0 where
  pub buffers : List Waiting
  pub issued : List ℕ
  pub waiting : List ℕ
  pub marks : List ℕ
  pub lengths : List ℕ

-- these parts; [] for one that a rule is not lent, where it doesn't look
abbrev pub lent : List Waiting → List ℕ → List ℕ → List ℕ → List ℕ → Parts
lent buffers issued waiting marks lengths =
    record { buffers = buffers; issued = issued; waiting = waiting; marks = marks; lengths = lengths }

abbrev pub parts_of : State → Parts
parts_of s = lent s.buffers s.issued s.waiting s.marks s.lengths
