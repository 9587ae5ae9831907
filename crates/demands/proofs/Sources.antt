-- Request P8, "No stores from an unset register": what it buys, as theorems. A program is that of a case that can be
-- read, a run is legal where the judge passes it, as in DemandThree. Assumes nothing.
use Prim.Native.Nat.{ℕ, ◌<◌}
use mathlib.Core.Path.{◌≡◌}
use mathlib.Core.Bool.{true}
use mathlib.Core.List.{List}
use lib.Dec.{eqb}
use Rattle.cases.specs.declared.case.Step.{Step}
use Rattle.cases.specs.declared.case.Case.{Case}
use Rattle.cases.specs.Operations.{store_register, compare}
use Rattle.cases.specs.Sizes.{most_registers}
use Rattle.cases.specs.Checks.{count_at, instruction_at, needs_register, set_before}
use Rattle.cases.specs.Ranges.{RegistersSet}
use Rattle.cases.specs.Writing.{reads_back}
use Rattle.cases.proofs.Promises.{registers_set}
use Rattle.machine.specs.declared.cells.State.{State}
use Rattle.machine.specs.View.{word_of, register_in, issued_of}
use Rattle.machine.specs.Look.{queued_word}
use Rattle.machine.specs.Rules.{matches}
use Rattle.machine.specs.Model.{LegalRun}
use Rattle.machine.specs.Ptso.{ptso}
use Rattle.machine.proofs.Promises.{program_fits}
use Rattle.demands.specs.Writes.{fixed_of, LastOf}
use Rattle.demands.specs.Sources.{OfProgram, OfLocation, set_at, took_of}
use Rattle.demands.proofs.sourced.TookLaws as TookLaws
use Rattle.demands.proofs.sourced.StoredLaws as StoredLaws
use Rattle.demands.proofs.sourced.BroughtLaws as BroughtLaws
use Rattle.demands.proofs.sourced.SourcedLaws as SourcedLaws

-- A case that can be read
module _ (c : Case) (readable : reads_back c ≡ true) where
  set : RegistersSet c.program
  set = registers_set c readable

  -- After a legal run
  module _ (ks : List Step) (u : State) (run : LegalRun (ptso c.program) ks u) where
    -- Every word that a store of a register or a compare finds in its register is one that a load, an exchange or a
    -- compare of that thread took in this run: the last before it, in program order, that sets the register. So it
    -- is never what stands there because nothing has set the register.
    pub needed_word_was_taken : (t : ℕ) → t < c.program.threads
        → issued_of u t < count_at c.program t
        → needs_register (instruction_at c.program t (issued_of u t)).operation ≡ true
        → (i : ℕ)
        × LastOf (set_at c.program t (instruction_at c.program t (issued_of u t)).register.0) (issued_of u t) i
        × (register_in u.registers t (instruction_at c.program t (issued_of u t)).register.0
        ≡ took_of c.program ks t i)
    needed_word_was_taken = TookLaws.needed_took c.program (program_fits c readable) set ks u run

    -- So that is the word which a store of a register, once issued, has fixed in the run;
    pub stored_word_was_taken : (t j : ℕ) → t < c.program.threads
        → j < issued_of u t
        → (instruction_at c.program t j).operation ≡ store_register
        → (i : ℕ)
        × LastOf (set_at c.program t (instruction_at c.program t j).register.0) j i
        × (fixed_of c.program ks t j ≡ took_of c.program ks t i)
    stored_word_was_taken = StoredLaws.stored_was_taken c.program (program_fits c readable) set ks u run

    -- and the word with which a compare compares the one that it reads.
    pub compared_word_was_taken : (t : ℕ) → t < c.program.threads
        → issued_of u t < count_at c.program t
        → (instruction_at c.program t (issued_of u t)).operation ≡ compare
        → (i : ℕ)
        × LastOf (set_at c.program t (instruction_at c.program t (issued_of u t)).register.0) (issued_of u t) i
        × (matches c.program u t (instruction_at c.program t (issued_of u t))
        ≡ eqb (queued_word c.program u (instruction_at c.program t (issued_of u t)).location.0)
        (took_of c.program ks t i))
    compared_word_was_taken = TookLaws.needed_compared c.program (program_fits c readable) set ks u run

    -- A location holds its first content; or the word of an operation 1, 4 or 9 on it; or, only where an operation 2
    -- of the program stores to it, any first content or word of an operation 1, 4 or 9 of the program.
    pub words_of_a_location : (l : ℕ) → l < c.program.locations → OfLocation c.program l (word_of u l)
    words_of_a_location = (SourcedLaws.run_sourced c.program set (program_fits c readable) ks u run).words

    -- So every word in memory is a first content or the word of an operation 1, 4 or 9 of the program,
    pub words_from_the_program : (l : ℕ) → l < c.program.locations → OfProgram c.program (word_of u l)
    words_from_the_program l low = BroughtLaws.brought_program c.program l _ low (words_of_a_location l low)

    -- and so is every word in a register that was set.
    pub registers_from_the_program : (t r : ℕ) → t < c.program.threads → r < most_registers
        → set_before c.program t r (issued_of u t) ≡ true
        → OfProgram c.program (register_in u.registers t r)
    registers_from_the_program =
        (SourcedLaws.run_sourced c.program set (program_fits c readable) ks u run).registers
