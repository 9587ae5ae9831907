-- The blocker as the code finds it: what its function asks for, and that what it answers is the state's. Assumes
-- nothing.
use Prim.Native.Nat.{ℕ, ◌≤◌, ◌<◌}
use mathlib.Core.Path.{◌≡◌}
use mathlib.Core.Logic.{◌⊎◌, inl, inr}
use native.Mathlib.Omega.{arith}
use lib.ListN.{get_or}
use Rattle.cases.specs.declared.case.Step.{Step}
use Rattle.cases.specs.declared.case.Program.{Program}
use Rattle.cases.specs.Checks.{limits_of, step_fault}
use Rattle.cases.specs.Sizes.{most_threads}
use Rattle.cases.proofs.Promises.{thread_low}
use Rattle.machine.specs.declared.cells.State.{State}
use Rattle.machine.specs.declared.blocker.Blocker.{Blocker}
use Rattle.machine.specs.View.{buffer_len}
use Rattle.machine.specs.Parts.{parts_of}
use Rattle.machine.specs.Rules.{rule_of}
use Rattle.machine.specs.Blocker.{blocker_by, blocker_in, blocker_of}
use Rattle.machine.specs.Fit.{Fits}
use Rattle.machine.specs.Next.{persist_step}
use Rattle.machine.proofs.lists.PartLaws.{lt_or_ge}
use Rattle.machine.proofs.steps.StepFaultLaws.{StepKinds, step_kinds, fault_none}
use Rattle.machine.proofs.blocker.BrokenLaws.{issue_numbers, move_waits, persist_numbers}

module _ (p : Program) (s : State) (fit : Fits p s) (k : Step) (faultless : step_fault (limits_of p) k ≡ 0) where
  -- a persist's thread is 0
  pub own_thread : k.thread.0 < most_threads
  own_thread = go (lt_or_ge k.code 2)
    where
      go : (k.code < 2) ⊎ (2 ≤ k.code) → k.thread.0 < most_threads
      go (inl h) = thread_low fit.program ((fault_none p k faultless).low_thread (omega arith))
      go (inr h) = let z = (fault_none p k faultless).no_thread h in omega arith

  -- 26 and 27 are of a move, whose entry waits
  entry_waits : 26 ≤ rule_of p s k → rule_of p s k ≤ 27 → k.position < get_or s.waiting k.thread.0 0
  entry_waits = go (step_kinds p k faultless)
    where
      Waits : Step → Type 0
      Waits j = 26 ≤ rule_of p s j → rule_of p s j ≤ 27 → j.position < get_or s.waiting j.thread.0 0

      persisted : (q : ℕ) → (rule_of p s (persist_step q) ≡ 0) ⊎ (rule_of p s (persist_step q) ≡ 29)
          → Waits (persist_step q)
      persisted q (inl e) a b = absurd (omega arith)
      persisted q (inr e) a b = absurd (omega arith)

      go : StepKinds p k → Waits k
      go (inl (t, low, e)) =
          rw e (λ a b. let n = issue_numbers p s fit t low in absurd (omega arith))
      go (inr (inl (t, i, low, e))) = rw e (λ a b. move_waits p s fit t low i (omega arith))
      go (inr (inr (q, low, e))) = rw e (persisted q (persist_numbers p s q))

  -- what `blocker_by` asks for, once the rule is known
  pub blocker_ready : (r : ℕ) → r ≡ rule_of p s k
      → (k.thread.0 < most_threads)
      × (26 ≤ r → r ≤ 27 → k.position < buffer_len s k.thread.0)
  blocker_ready r e =
      let waits : 26 ≤ r → r ≤ 27 → k.position < buffer_len s k.thread.0 = rw e entry_waits in
      (own_thread, waits)

-- and what it answers is the blocker in that state
pub blocker_is : (p : Program) (s : State) (k : Step) (r : ℕ) → r ≡ rule_of p s k
    → (b : Blocker) → b ≡ blocker_by r p (parts_of s) k
    → b ≡ blocker_of p s k
unfolding blocker_of blocker_in rule_of
blocker_is p s k r e b d = rw e at d
