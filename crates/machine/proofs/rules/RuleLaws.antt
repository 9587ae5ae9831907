-- Every rule a step can break is one of 01's table. Assumes nothing.
use Prim.Native.Nat.{ℕ, ◌≤◌}
use mathlib.Core.Path.{◌≡◌, refl}
use mathlib.Core.Logic.{◌⊎◌, inl, inr, ◌≢◌}
use mathlib.Core.Bool.{Bool, true, false}
use native.Mathlib.Omega.{arith}
use mathlib.Core.List.{List}
use Rattle.cases.specs.declared.case.Step.{Step}
use Rattle.cases.specs.declared.case.Program.{Program}
use Rattle.cases.specs.declared.fault.Fault.{Fault}
use Rattle.cases.specs.declared.fault.Fault.TheVariants.{Cut, UnknownKind, Length, Misplaced, Range, Disorder}
use Rattle.cases.specs.declared.fault.Fault.TheVariants.{TooMany, Unused, TooManySteps, Unset}
use Rattle.cases.specs.Fault.{fault_no}
use Rattle.cases.specs.Choice.{refuse}
use Rattle.cases.proofs.ChoiceLaws.{pick_cases}
use Rattle.machine.specs.declared.cells.State.{State}
use Rattle.machine.specs.declared.cells.Waiting.{Waiting}
use Rattle.machine.specs.declared.cells.Entry.{Entry}
use Rattle.machine.specs.declared.cells.Entry.TheVariants.{Store, Flush, FlushOpt, Sfence}
use Rattle.machine.specs.declared.rule.Rule.{Rule}
use Rattle.machine.specs.declared.rule.Rule.TheVariants.{NothingToIssue, BufferNotEmpty, MarkerQueued, NothingThere}
use Rattle.machine.specs.declared.rule.Rule.TheVariants.{OnlyFlushOpt, HeldBack, LineNotEmpty, MarkerBeforeSfence}
use Rattle.machine.specs.declared.rule.Rule.TheVariants.{NothingQueued}
use Rattle.machine.specs.Parts.{Parts}
use Rattle.machine.specs.Rules.{barrier_rule, operation_rule, issue_rule, effect_rule, pass_rule, move_rule}
use Rattle.machine.specs.Rules.{rule_number, persist_rule, rule_in, rule_of}

-- a rule has a number
pub rule_some : (r : Rule) → rule_number r ≢ 0
rule_some NothingToIssue e = omega arith
rule_some BufferNotEmpty e = omega arith
rule_some MarkerQueued e = omega arith
rule_some NothingThere e = omega arith
rule_some OnlyFlushOpt e = omega arith
rule_some HeldBack e = omega arith
rule_some LineNotEmpty e = omega arith
rule_some MarkerBeforeSfence e = omega arith
rule_some NothingQueued e = omega arith

-- so has a fault of a step
pub fault_some : (f : Fault) → fault_no f ≢ 0
fault_some Cut e = omega arith
fault_some UnknownKind e = omega arith
fault_some Length e = omega arith
fault_some Misplaced e = omega arith
fault_some Range e = omega arith
fault_some Disorder e = omega arith
fault_some TooMany e = omega arith
fault_some Unused e = omega arith
fault_some TooManySteps e = omega arith
fault_some Unset e = omega arith

-- 0, or one of the numbers from a to b
abbrev pub Between : ℕ → ℕ → ℕ → Type 0
Between a b n = (n ≡ 0) ⊎ ((a ≤ n) × (n ≤ b))

-- 0, or a rule of 01
abbrev pub InTable : ℕ → Type 0
InTable = Between 21 29

module _ (a b : ℕ) where
  refuse_between : (t : Bool) (n rest : ℕ) → a ≤ n → n ≤ b → Between a b rest → Between a b (refuse t n rest)
  unfolding refuse
  refuse_between true n rest h k r = inr (h, k)
  refuse_between false n rest h k r = r

  wider : 21 ≤ a → b ≤ 29 → (n : ℕ) → Between a b n → InTable n
  wider low high n (inl e) = inl e
  wider low high n (inr h) = inr (let x = h.0 in omega arith, let y = h.1 in omega arith)

module _ (p : Program) (x : Parts) (t : ℕ) where
  -- an issue's numbers
  pub issue_between : Between 21 23 (issue_rule p x t)
  unfolding issue_rule operation_rule barrier_rule
  issue_between =
      refuse_between 21 23 _ 21 _ (omega arith) (omega arith)
      (pick_cases (Between 21 23) _ _ _
      (λ h. refuse_between 21 23 _ 22 _ (omega arith) (omega arith)
      (refuse_between 21 23 _ 23 0 (omega arith) (omega arith) (inl refl)))
      (λ h. inl refl))

  effect_between : (e : Entry) → Between 24 28 (effect_rule p x t e)
  unfolding effect_rule
  effect_between (Store w) = inl refl
  effect_between (Flush l) = refuse_between 24 28 _ 27 0 (omega arith) (omega arith) (inl refl)
  effect_between (FlushOpt l) = inl refl
  effect_between Sfence = refuse_between 24 28 _ 28 0 (omega arith) (omega arith) (inl refl)

  pass_between : (b : List Waiting) (i : ℕ) (e : Entry) → Between 24 28 (pass_rule p b i e)
  unfolding pass_rule
  pass_between b i (Store w) = inr (omega arith, omega arith)
  pass_between b i (Flush l) = inr (omega arith, omega arith)
  pass_between b i (FlushOpt l) = refuse_between 24 28 _ 26 0 (omega arith) (omega arith) (inl refl)
  pass_between b i Sfence = inr (omega arith, omega arith)

  -- a move's
  pub move_between : (i : ℕ) → Between 24 28 (move_rule p x t i)
  unfolding move_rule
  move_between i =
      refuse_between 24 28 _ 24 _ (omega arith) (omega arith)
      (pick_cases (Between 24 28) _ _ _ (λ h. effect_between _) (λ h. pass_between _ _ _))

-- a persist's
pub persist_between : (x : Parts) (q : ℕ) → Between 29 29 (persist_rule x q)
unfolding persist_rule
persist_between x q = refuse_between 29 29 _ 29 0 (omega arith) (omega arith) (inl refl)

pub rule_table : (p : Program) (s : State) (k : Step) → InTable (rule_of p s k)
unfolding rule_of rule_in
rule_table p s k =
    pick_cases InTable _ _ _
    (λ h. wider 21 23 (omega arith) (omega arith) _ (issue_between p _ _))
    (λ h. pick_cases InTable _ _ _
    (λ h. wider 24 28 (omega arith) (omega arith) _ (move_between p _ _ _))
    (λ h. wider 29 29 (omega arith) (omega arith) _ (persist_between _ _)))
