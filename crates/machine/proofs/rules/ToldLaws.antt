-- What a rule's number tells of the parts that the rule looks at, and back. Assumes nothing.
use Prim.Native.Nat.{ℕ, ◌≤◌, ◌<◌}
use mathlib.Core.Path.{◌≡◌, refl}
use mathlib.Core.Logic.{◌⊎◌, inl, inr, ◌≢◌}
use mathlib.Core.Bool.{Bool, true, false}
use mathlib.Core.List.{List}
use native.Mathlib.Omega.{arith}
use borrow.Author.Tests.{eqb-true, eqb-false, ltb-true, leb-false, eq-eqb, ne_eqb, lt-leb, lt-ltb, le-ltb}
use lib.Dec.{eqb}
use lib.ListN.{get_or, take}
use Rattle.cases.specs.declared.case.Location.{Location}
use Rattle.cases.specs.declared.case.Program.{Program}
use Rattle.cases.specs.Choice.{pick, refuse}
use Rattle.cases.specs.Checks.{count_at, instruction_at}
use Rattle.cases.proofs.ChoiceLaws.{pick_true, pick_false, pick_was, refuse_most, refuse_past, refuse_was}
use Rattle.cases.proofs.ChoiceLaws.{refuse_neither}
use Rattle.machine.specs.declared.cells.Waiting.{Waiting}
use Rattle.machine.specs.declared.cells.Entry.{Entry}
use Rattle.machine.specs.declared.cells.Entry.TheVariants.{Store, Flush, FlushOpt, Sfence}
use Rattle.machine.specs.View.{line_of, buffer_in}
use Rattle.machine.specs.Parts.{Parts}
use Rattle.machine.specs.Look.{marked, first_bar}
use Rattle.machine.specs.Rules.{is_barrier, barrier_rule, operation_rule, issue_rule, effect_rule}
use Rattle.machine.specs.Rules.{pass_rule, entry_at, move_rule}

-- Issue: over the parts that its rule looks at
module _ (p : Program) (x : Parts) (t : ℕ) where
  abbrev Ready : Type 0
  Ready =
      (get_or x.issued t 0 < count_at p t)
      × (is_barrier (instruction_at p t (get_or x.issued t 0)).operation ≡ true)

  -- a number that is neither 0 nor 21 is a barrier's
  pub barrier_told : (r : ℕ) → issue_rule p x t ≡ r → 21 ≢ r → 0 ≢ r → Ready × (barrier_rule x t ≡ r)
  unfolding issue_rule operation_rule
  barrier_told r h a b =
      let c = refuse_past _ _ _ _ h a in
      let d = pick_was _ _ _ _ c.1 b in
      ((leb-false _ _ c.0, d.0), d.1)

  pub barrier_is : Ready → issue_rule p x t ≡ barrier_rule x t
  unfolding issue_rule operation_rule refuse
  barrier_is h = rw (lt-leb _ _ h.0) (pick_true _ _ _ h.1)

  pub barrier_22 : 0 < get_or x.waiting t 0 → barrier_rule x t ≡ 22
  unfolding barrier_rule refuse
  barrier_22 h = rw (lt-ltb _ _ h)

  pub barrier_23 : get_or x.waiting t 0 ≤ 0 → marked x.marks x.lengths t ≡ true → barrier_rule x t ≡ 23
  unfolding barrier_rule refuse
  barrier_23 h m = rw (le-ltb _ _ h, m)

-- Move: over the parts that its rule looks at
module _ (p : Program) (x : Parts) (t i : ℕ) where
  abbrev Entered : Entry
  Entered = entry_at (buffer_in x.buffers x.waiting t) i

  -- a number that is neither 0 nor 24 is of an entry that waits: at position 0 its effect's, else of its passing
  pub entry_told_lem : (r : ℕ) → move_rule p x t i ≡ r → 24 ≢ r
      → (i < get_or x.waiting t 0)
      × (((i ≡ 0) × (effect_rule p x t Entered ≡ r))
      ⊎ ((i ≢ 0) × (pass_rule p (buffer_in x.buffers x.waiting t) i Entered ≡ r)))
  unfolding move_rule pick
  entry_told_lem r h a = let c = refuse_past _ _ _ _ h a in (leb-false _ _ c.0, go (eqb i 0) refl c.1)
    where
      go : (b : Bool) → eqb i 0 ≡ b
          → pick b (effect_rule p x t Entered) (pass_rule p (buffer_in x.buffers x.waiting t) i Entered) ≡ r
          → ((i ≡ 0) × (effect_rule p x t Entered ≡ r))
          ⊎ ((i ≢ 0) × (pass_rule p (buffer_in x.buffers x.waiting t) i Entered ≡ r))
      go true e h = inl (eqb-true _ _ e, h)
      go false e h = inr (eqb-false _ _ e, h)

  pub first_is : i < get_or x.waiting t 0 → i ≡ 0 → move_rule p x t i ≡ effect_rule p x t Entered
  unfolding move_rule refuse
  first_is h z = rw (lt-leb _ _ h) (pick_true _ _ _ (eq-eqb _ _ z))

  pub behind_is : i < get_or x.waiting t 0 → i ≢ 0
      → move_rule p x t i ≡ pass_rule p (buffer_in x.buffers x.waiting t) i Entered
  unfolding move_rule refuse
  behind_is h z = rw (lt-leb _ _ h) (pick_false _ _ _ (ne_eqb _ _ z))

  -- an effect's numbers are 0, 27 and 28; those of passing 0, 25 and 26
  pub effect_27 : (e : Entry) → effect_rule p x t e ≡ 27
      → (l : Location) × (e ≡ Flush l) × (0 < get_or x.lengths (line_of p l.0) 0)
  unfolding effect_rule
  effect_27 (Store w) h = absurd (omega arith)
  effect_27 (Flush l) h = (l, refl, ltb-true _ _ (refuse_was _ _ _ _ h (λ z. omega arith)))
  effect_27 (FlushOpt l) h = absurd (omega arith)
  effect_27 Sfence h = absurd (refuse_neither _ _ _ _ (λ z. omega arith) (λ z. omega arith) h)

  pub effect_28 : (e : Entry) → effect_rule p x t e ≡ 28 → (e ≡ Sfence) × (marked x.marks x.lengths t ≡ true)
  unfolding effect_rule
  effect_28 (Store w) h = absurd (omega arith)
  effect_28 (Flush l) h = absurd (refuse_neither _ _ _ _ (λ z. omega arith) (λ z. omega arith) h)
  effect_28 (FlushOpt l) h = absurd (omega arith)
  effect_28 Sfence h = (refl, refuse_was _ _ _ _ h (λ z. omega arith))

  pub sfence_28 : (e : Entry) → e ≡ Sfence → marked x.marks x.lengths t ≡ true → effect_rule p x t e ≡ 28
  unfolding effect_rule refuse
  sfence_28 e z m = rw (z, m)

  pub effect_not_26 : (e : Entry) → effect_rule p x t e ≢ 26
  unfolding effect_rule
  effect_not_26 (Store w) = λ z. omega arith
  effect_not_26 (Flush l) = refuse_neither _ _ _ _ (λ z. omega arith) (λ z. omega arith)
  effect_not_26 (FlushOpt l) = λ z. omega arith
  effect_not_26 Sfence = refuse_neither _ _ _ _ (λ z. omega arith) (λ z. omega arith)

module _ (p : Program) (b : List Waiting) (i : ℕ) where
  pub pass_26 : (e : Entry) → pass_rule p b i e ≡ 26
      → (l : Location) × (e ≡ FlushOpt l) × (first_bar p (line_of p l.0) (take i b) < i)
  unfolding pass_rule
  pass_26 (Store w) h = absurd (omega arith)
  pass_26 (Flush l) h = absurd (omega arith)
  pass_26 (FlushOpt l) h = (l, refl, ltb-true _ _ (refuse_was _ _ _ _ h (λ z. omega arith)))
  pass_26 Sfence h = absurd (omega arith)

  pub pass_most : (e : Entry) → pass_rule p b i e ≤ 26
  unfolding pass_rule
  pass_most (Store w) = omega arith
  pass_most (Flush l) = omega arith
  pass_most (FlushOpt l) = refuse_most _ 26 0 26 (omega arith) (omega arith)
  pass_most Sfence = omega arith
