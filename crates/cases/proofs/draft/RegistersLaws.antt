-- A program with an instruction more still sets every register that it needs: the instruction passed 10, and those
-- before it stand where they stood. Assumes nothing.
use Prim.Native.Nat.{ℕ, ◌+◌, ◌*◌, ◌<◌, ◌≤◌}
use mathlib.Core.Path.{◌≡◌, ap}
use mathlib.Core.Logic.{inl, inr}
use mathlib.Core.List.{List}
use mathlib.Core.Bool.{true, false}
use lib.ListN.{length, get_or}
use lib.Seq.{get_or-set_same, get_or-set_other}
use native.Mathlib.Decide.{ℕ_discrete}
use native.Mathlib.Omega.{arith}
use Rattle.cases.specs.declared.case.Program.{Program}
use Rattle.cases.specs.declared.case.Thread.{Thread}
use Rattle.cases.specs.declared.case.Instruction.{Instruction}
use Rattle.cases.specs.Sizes.{most_instructions}
use Rattle.cases.specs.Checks.{no_instruction, count_at, instruction_at, needs_register, set_before, unset}
use Rattle.cases.specs.Draft.{with_instruction}
use Rattle.cases.specs.Ranges.{RegistersSet}
use Rattle.cases.proofs.checks.SetLaws.{set_same, set_before_lem}
use Rattle.cases.proofs.draft.CountLaws.{counted, CountedAs, count_cases}

-- a program with the same instructions
pub registers_same : (p q : Program) → q.code ≡ p.code → q.counts ≡ p.counts → RegistersSet p → RegistersSet q
unfolding RegistersSet
registers_same p q code counts s t i h =
    rw (at i, set_same p q t (instruction_at p t i).register.0 i (λ j k. at j)) (s t i (rw counts at h))
  where
    at : (j : ℕ) → instruction_at q t j ≡ instruction_at p t j
    at j = ap (λ (c : List Instruction). get_or c (t * most_instructions + j) no_instruction) code

-- an instruction more
module _ (p : Program) (t : Thread) (x : Instruction) (low : t.0 < length p.counts)
    (room : t.0 * most_instructions + count_at p t.0 < length p.code)
    (few : count_at p t.0 < most_instructions) (all : (u : ℕ) → count_at p u ≤ most_instructions) where
  abbrev grown : Program
  grown = with_instruction p t x

  -- the new one stands behind its thread's others, and every other where it stood
  registers_new : instruction_at grown t.0 (count_at p t.0) ≡ x
  unfolding with_instruction
  registers_new = get_or-set_same p.code (t.0 * most_instructions + count_at p t.0) x no_instruction room

  registers_old : (u i : ℕ) → i < count_at p u → instruction_at grown u i ≡ instruction_at p u i
  unfolding with_instruction
  registers_old u i h =
      get_or-set_other p.code (t.0 * most_instructions + count_at p t.0) (u * most_instructions + i) x no_instruction
      (λ e. apart (ℕ_discrete u t.0) e)
    where
      apart : Dec (u ≡ t.0) → u * most_instructions + i ≡ t.0 * most_instructions + count_at p t.0 → ⊥
      apart (yes d) e = let c = ap (count_at p) d in omega arith
      apart (no d) e = let m = all u in omega arith

  -- of each instruction in turn
  abbrev SetAt : ℕ → ℕ → Type 0
  SetAt u i =
      needs_register (instruction_at grown u i).operation ≡ true
      → set_before grown u (instruction_at grown u i).register.0 i ≡ true

  registers_old_set : RegistersSet p → (u i : ℕ) → i < count_at p u → SetAt u i
  unfolding RegistersSet
  registers_old_set s u i h =
      let r = (instruction_at p u i).register.0 in
      let same = set_same p grown u r i (λ j k. registers_old u j (omega arith)) in
      rw (registers_old u i h, same) (s u i h)

  registers_new_set : unset p t x ≡ false → SetAt t.0 (count_at p t.0)
  registers_new_set h =
      let same = set_same p grown t.0 x.register.0 (count_at p t.0) (registers_old t.0) in
      rw (registers_new, same) (set_before_lem p t x h)

  pub registers_instruction : RegistersSet p → unset p t x ≡ false → RegistersSet grown
  unfolding RegistersSet with_instruction
  registers_instruction s h u i k = go (count_cases p t low u)
    where
      own : u ≡ t.0 → counted p t low u ≡ count_at p t.0 + 1 → Dec (i ≡ count_at p t.0) → SetAt u i
      own d c (yes e) = rw (d, e) (registers_new_set h)
      own d c (no e) = registers_old_set s u i (let z = ap (count_at p) d in omega arith)

      go : CountedAs p t low u → SetAt u i
      go (inl e) = own e.0 e.1 (ℕ_discrete i (count_at p t.0))
      go (inr e) = registers_old_set s u i (omega (arith, e.1))
