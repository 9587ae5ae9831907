-- Location l's writes: those that wait in a store buffer, and those that a thread has still to make. Assumes
-- nothing.
use Prim.Native.Nat.{ℕ, zero, suc, ◌≤◌, ◌<◌}
use mathlib.Core.Path.{◌≡◌, refl, sym, ap, ◌∙◌}
use mathlib.Core.Logic.{◌⊎◌, inl, inr}
use mathlib.Core.Bool.{Bool, true, false}
use mathlib.Core.List.{List, [], ◌∷◌, ◌++◌, append-nil, append_assoc}
use native.Mathlib.Omega.{arith}
use native.Mathlib.Numerals.{add-one}
use lib.Dec.{eqb}
use lib.ListN.{length}
use Rattle.cases.specs.declared.case.Location.{Location}
use Rattle.cases.specs.declared.case.Register.{Register}
use Rattle.cases.specs.declared.case.Instruction.{Instruction}
use Rattle.cases.specs.declared.case.Program.{Program}
use Rattle.cases.specs.Choice.{pick, both, either}
use Rattle.cases.specs.Operations.{last_operation, first_operation}
use Rattle.cases.specs.Checks.{instruction_at}
use Rattle.machine.specs.declared.cells.State.{State}
use Rattle.machine.specs.declared.cells.Waiting.{Waiting}
use Rattle.machine.specs.declared.cells.Entry.{Entry}
use Rattle.machine.specs.View.{without, register_in, buffer, issued_of}
use Rattle.machine.specs.Rules.{entry_at, entry_of, is_barrier, rule_of}
use Rattle.machine.specs.Fit.{Fits}
use Rattle.machine.specs.Next.{issue_step}
use Rattle.machine.specs.Joins.{joins, swaps, only_if, store_of, swap_of}
use Rattle.machine.proofs.OperationLaws.{each_operation, of}
use Rattle.machine.proofs.Effects.{issue_left, barrier_alone}
use Rattle.cases.specs.Ranges.{InstructionFits}
use Rattle.demands.specs.Writes.{really, makes, fixed_by}

-- what f says of each entry that waits, joined
unfoldable pub gathered : {A : Type 0} → (Entry → List A) → List Waiting → List A
gathered f [] = []
gathered f (w ∷ b) = f w.entry ++ gathered f b

abbrev pub stores_of : ℕ → List Waiting → List ℕ
stores_of l b = gathered (store_of l) b

-- of the n instructions from the i-th on those that make a write, by m; instruction j fixes the word f j
unfoldable pub fixes_from : (ℕ → Bool) → (ℕ → ℕ) → ℕ → ℕ → List ℕ
fixes_from m f i zero = []
fixes_from m f i (suc n) = only_if (m i) (f i) ++ fixes_from m f (suc i) n

-- one behind another
pub gathered_append : {A : Type 0} (f : Entry → List A) (b c : List Waiting)
    → gathered f (b ++ c) ≡ gathered f b ++ gathered f c
unfolding gathered
gathered_append f [] c = refl
gathered_append f (w ∷ b) c =
    rw (gathered_append f b c) (sym (append_assoc (f w.entry) (gathered f b) (gathered f c)))

-- an entry taken out that is the first, or one of which nothing is said
pub gathered_without : {A : Type 0} (f : Entry → List A) (b : List Waiting) (i : ℕ) → i < length b
    → (i ≡ 0) ⊎ (f (entry_at b i) ≡ [])
    → gathered f b ≡ f (entry_at b i) ++ gathered f (without i b)
unfolding gathered without
gathered_without f [] i h o = absurd (omega arith)
gathered_without f (w ∷ b) zero h o = refl
gathered_without f (w ∷ b) (suc i) h (inl e) = absurd (omega arith)
gathered_without f (w ∷ b) (suc i) h (inr e) =
    let r = gathered_without f b i (omega arith) (inr e) in
    rw (add-one, e) (ap (λ x. f w.entry ++ x) (rw (e, add-one) at r))

-- writes and words that are the same to the last
pub fixes_same : (m o : ℕ → Bool) (f g : ℕ → ℕ) (i n : ℕ) → ((j : ℕ) → i ≤ j → m j ≡ o j)
    → ((j : ℕ) → i ≤ j → f j ≡ g j)
    → fixes_from m f i n ≡ fixes_from o g i n
unfolding fixes_from
fixes_same m o f g i zero e h = refl
fixes_same m o f g i (suc n) e h =
    rw (
      e i (omega arith),
      h i (omega arith),
      fixes_same m o f g (suc i) n (λ j k. e j (omega arith)) (λ j k. h j (omega arith)),
    )

-- What an instruction makes goes into its thread's buffer or straight into the queue
module _ (p : Program) (s : State) (t l : ℕ) (m : Location) (r : Register) (w : ℕ) where
  abbrev Splits : ℕ → Type 0
  Splits op = only_if (makes p s t (of op m r w) l) (fixed_by s t (of op m r w))
      ≡ stores_of l (joins s.registers t (of op m r w)) ++ swap_of p s t l (of op m r w)

  stored : (v : ℕ) → only_if (eqb m.0 l) v ≡ (only_if (eqb m.0 l) v ++ []) ++ []
  stored v = sym (append-nil (only_if (eqb m.0 l) v ++ []) ∙ append-nil (only_if (eqb m.0 l) v))

  pub stores_split : (op : ℕ) → first_operation ≤ op → op ≤ last_operation → Splits op
  unfolding makes really swaps both either fixed_by joins is_barrier swap_of entry_of gathered store_of only_if pick
  stores_split =
      each_operation Splits
      (stored w)
      (stored (register_in s.registers t r.0))
      refl
      refl
      refl
      refl
      refl
      refl
      refl

  -- a barrier puts nothing into the buffer; another instruction writes nothing at once
  abbrev Apart : ℕ → Type 0
  Apart op =
      ((is_barrier op ≡ true) × (joins s.registers t (of op m r w) ≡ [])) ⊎ (swaps p s t (of op m r w) ≡ false)

  stores_apart : (op : ℕ) → first_operation ≤ op → op ≤ last_operation → Apart op
  unfolding joins is_barrier swaps both either pick
  stores_apart =
      each_operation Apart (inr refl) (inr refl) (inr refl) (inl (refl, refl)) (inr refl) (inr refl) (inr refl)
      (inr refl) (inl (refl, refl))

-- what is issued legally: a barrier, with nothing in the buffer before and behind it, or what writes nothing at once
module _ {A : Type 0} (g : Entry → List A) (p : Program) (s : State) (f : Fits p s) (t : ℕ) (low : t < p.threads)
    (legal : rule_of p s (issue_step t) ≡ 0) where
  abbrev x : Instruction
  x = instruction_at p t (issued_of s t)

  fits : InstructionFits p x
  fits = (f.program.instructions t (issued_of s t) (issue_left p s f t low legal)).1

  pub gathered_alone : ((gathered g (buffer s t) ≡ []) × (gathered g (joins s.registers t x) ≡ []))
      ⊎ (swaps p s t x ≡ false)
  unfolding gathered
  gathered_alone =
      go (stores_apart p s t 0 x.location x.register x.word x.operation fits.some_operation
      fits.low_operation)
    where
      go : ((is_barrier x.operation ≡ true) × (joins s.registers t x ≡ [])) ⊎ (swaps p s t x ≡ false)
          → ((gathered g (buffer s t) ≡ []) × (gathered g (joins s.registers t x) ≡ []))
          ⊎ (swaps p s t x ≡ false)
      go (inl e) = inl (rw (barrier_alone p s f t low legal e.0) refl, rw e.1 refl)
      go (inr e) = inr e

-- so what goes straight on its way comes before or alone
pub gathered_swap : {A : Type 0} (a j n : List A) → ((a ≡ []) × (j ≡ [])) ⊎ (n ≡ []) → a ++ (j ++ n) ≡ n ++ (a ++ j)
gathered_swap a j n (inl e) = rw (e.0, e.1) (sym (append-nil n))
gathered_swap a j n (inr e) = rw (e, append-nil j) refl
