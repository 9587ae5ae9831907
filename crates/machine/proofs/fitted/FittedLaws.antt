-- What is known of a state that is lent beside its program, of which it is only said that it fits. Assumes nothing.
use Prim.Native.Nat.{ℕ, ◌≤◌, ◌<◌}
use mathlib.Core.Path.{◌≡◌}
use mathlib.Core.Logic.{◌≢◌}
use native.Mathlib.Omega.{arith}
use lib.ListN.{length}
use Rattle.std.specs.Coded.{Unit-prop, le_prop}
use Rattle.std.proofs.Math.Logic.{∥∥₁_elim}
use Rattle.cases.specs.declared.case.Step.{Step}
use Rattle.cases.specs.declared.case.Program.{Program}
use Rattle.cases.specs.Checks.{limits_of, step_fault}
use Rattle.cases.specs.Sizes.{most_threads, most_locations}
use Rattle.machine.specs.declared.cells.State.{State}
use Rattle.machine.specs.declared.cells.Entry.{Entry}
use Rattle.machine.specs.declared.cells.Entry.TheVariants.{Store, Flush, FlushOpt, Sfence}
use Rattle.machine.specs.Sizes.{all_slots}
use Rattle.machine.specs.View.{buffer, line_of}
use Rattle.machine.specs.Rules.{entry_at}
use Rattle.machine.specs.Fit.{Fits, Named, Shallow}
use Rattle.machine.proofs.view.LineOfLaws.{line_low}
use Rattle.machine.proofs.fit.FitLaws.{fits_queue_within}
use Rattle.machine.proofs.rules.ReadyLaws.{head_named, taken_low, persist_low}

named_prop : (n : ℕ) (e : Entry) → IsProp (Named n e)
unfolding Named
named_prop n (Store w) = le_prop
named_prop n (Flush l) = le_prop
named_prop n (FlushOpt l) = le_prop
named_prop n Sfence = Unit-prop

module _ {p : Program} {s : State} (f : ∥ Fits p s ∥₁) where
  -- a queue is within its room, an entry's line is one, a buffer's oldest entry names a location
  pub lent_shallow : Shallow s.lengths
  unfolding Shallow
  lent_shallow q h = ∥∥₁_elim f le_prop (λ g. fits_queue_within p s g q h)

  -- as many marks as their array is long
  pub lent_marks : length s.marks ≡ all_slots
  lent_marks =
      let a : length s.marks ≤ all_slots = ∥∥₁_elim f le_prop (λ g. let e = g.sized.marks_long in omega arith) in
      let b : all_slots ≤ length s.marks = ∥∥₁_elim f le_prop (λ g. let e = g.sized.marks_long in omega arith) in
      omega arith

  pub lent_line : (l : ℕ) → l < most_locations → line_of p l < most_locations
  lent_line l h = ∥∥₁_elim f le_prop (λ g. line_low p g.program l h)

  pub lent_head : (t : ℕ) → t < most_threads → Named most_locations (entry_at (buffer s t) 0)
  lent_head t h = ∥∥₁_elim f (named_prop _ _) (λ g. head_named p s g t h)

  -- of a step that 5 and 8 have nothing against
  module _ (k : Step) (faultless : step_fault (limits_of p) k ≡ 0) where
    pub lent_thread : k.code ≤ 1 → k.thread.0 < most_threads
    lent_thread h = ∥∥₁_elim f le_prop (λ g. taken_low p g.program k faultless h)

    pub lent_location : k.code ≢ 0 → k.code ≢ 1 → k.location.0 < most_locations
    lent_location h n = ∥∥₁_elim f le_prop (λ g. persist_low p g.program k faultless h n)
