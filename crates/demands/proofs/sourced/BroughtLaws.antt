-- The words that an instruction brings to a location, and what the words of a location are to the program.
-- Assumes nothing.
use Prim.Native.Nat.{ℕ, ◌≤◌, ◌<◌}
use mathlib.Core.Path.{◌≡◌, refl}
use mathlib.Core.Logic.{inl, inr}
use mathlib.Core.Bool.{Bool, true, false}
use borrow.Author.Tests.{eqb-true}
use lib.Dec.{eqb}
use Rattle.cases.specs.declared.case.Location.{Location}
use Rattle.cases.specs.declared.case.Register.{Register}
use Rattle.cases.specs.declared.case.Instruction.{Instruction}
use Rattle.cases.specs.declared.case.Program.{Program}
use Rattle.cases.specs.Choice.{pick, both, either}
use Rattle.cases.specs.Operations.{store_register, compare, last_operation, first_operation}
use Rattle.cases.specs.Checks.{count_at, instruction_at, uses_word}
use Rattle.cases.specs.Ranges.{ProgramFits}
use Rattle.cases.proofs.ChoiceLaws.{both_true}
use Rattle.machine.specs.declared.cells.State.{State}
use Rattle.machine.specs.declared.cells.Waiting.{Waiting}
use Rattle.machine.specs.View.{register_in}
use Rattle.machine.specs.Rules.{entry_of, is_barrier, matches}
use Rattle.machine.specs.Joins.{joins, swaps, only_if, store_of, swap_of}
use Rattle.machine.specs.Fit.{AllOf}
use Rattle.machine.proofs.OperationLaws.{each_operation, of}
use Rattle.demands.specs.Sources.{FirstContent, StandsFor, StandsIn, OfProgram, StoresRegister, OfLocation}

-- of every word that an entry which waits brings to location l
abbrev pub Brings : (ℕ → Type 0) → ℕ → Waiting → Type 0
Brings P l e = AllOf P (store_of l e.entry)

-- what holds of the words that an instruction with location l brings there holds of all that it brings to l
module _ (P : ℕ → Type 0) where
  only_holds : (b : Bool) (w : ℕ) → (b ≡ true → P w) → AllOf P (only_if b w)
  unfolding only_if pick AllOf
  only_holds true w h = (h refl, tt)
  only_holds false w h = tt

  module _ (p : Program) (s : State) (t l : ℕ) (m : Location) (r : Register) (w : ℕ) where
    there : (v : ℕ) → (m.0 ≡ l → P v) → AllOf P (only_if (eqb m.0 l) v)
    there v h = only_holds (eqb m.0 l) v (λ e. h (eqb-true _ _ e))

    compared_there : (b : Bool) → (m.0 ≡ l → P w) → AllOf P (only_if (both b (eqb m.0 l)) w)
    compared_there b h = only_holds _ w (λ e. h (eqb-true _ _ (both_true b (eqb m.0 l) e).1))

    abbrev Holds : ℕ → Type 0
    Holds op = (uses_word op ≡ true → m.0 ≡ l → P w)
        → (op ≡ store_register → m.0 ≡ l → P (register_in s.registers t r.0))
        → AllOf (Brings P l) (joins s.registers t (of op m r w)) × AllOf P (swap_of p s t l (of op m r w))

    brought_each : (op : ℕ) → first_operation ≤ op → op ≤ last_operation → Holds op
    unfolding joins is_barrier entry_of swap_of swaps both either pick AllOf store_of uses_word only_if
    brought_each =
        each_operation Holds
        (λ a b. ((there w (a refl), tt), tt))
        (λ a b. ((there (register_in s.registers t r.0) (b refl), tt), tt))
        (λ a b. (tt, tt))
        (λ a b. (tt, there w (a refl)))
        (λ a b. ((tt, tt), tt))
        (λ a b. ((tt, tt), tt))
        (λ a b. ((tt, tt), tt))
        (λ a b. (tt, tt))
        (λ a b. (tt, compared_there (matches p s t (of compare m r w)) (a refl)))

-- instruction i of thread t brings words that its location can hold, if the word of its register is of the program
module _ (p : Program) (fits : ProgramFits p) (s : State) (t i l : ℕ) (low : i < count_at p t) where
  abbrev x : Instruction
  x = instruction_at p t i

  pub brought_of : (x.operation ≡ store_register → OfProgram p (register_in s.registers t x.register.0))
      → AllOf (Brings (OfLocation p l) l) (joins s.registers t x)
      × AllOf (OfLocation p l) (swap_of p s t l x)
  brought_of known =
      let o = (fits.instructions t i low).1 in
      brought_each (OfLocation p l) p s t l x.location x.register x.word x.operation
      o.some_operation o.low_operation
      (λ a e. unfold OfLocation StandsFor in inr (inl (t, i, low, a, e, refl)))
      (λ a e. unfold OfLocation StoresRegister in inr (inr ((t, i, low, a, e), known a)))

-- what a location can hold is a word of the program
pub brought_program : (p : Program) (l w : ℕ) → l < p.locations → OfLocation p l w → OfProgram p w
unfolding OfLocation OfProgram FirstContent StandsIn
brought_program p l w low (inl e) = inl (l, low, e)
brought_program p l w low (inr (inl o)) = inr (l, o)
brought_program p l w low (inr (inr o)) = o.1
