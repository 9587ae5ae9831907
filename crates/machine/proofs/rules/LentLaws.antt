-- Which parts of a state a rule doesn't look at: the rule over the parts that it is lent, with [] for the others, is the
-- rule over all. Assumes nothing.
use Prim.Native.Nat.{ℕ, ◌<◌}
use mathlib.Core.Path.{◌≡◌, refl, ◌∙◌}
use mathlib.Core.Logic.{◌≢◌}
use mathlib.Core.List.{[]}
use borrow.Author.Tests.{lt-leb, eq-eqb, ne_eqb}
use lib.ListN.{get_or}
use Rattle.cases.specs.declared.case.Step.{Step}
use Rattle.cases.specs.declared.case.Program.{Program}
use Rattle.cases.specs.Operations.{issue, move}
use Rattle.cases.specs.Choice.{refuse}
use Rattle.cases.specs.Checks.{count_at, instruction_at}
use Rattle.cases.proofs.ChoiceLaws.{pick_here, pick_next}
use Rattle.machine.specs.declared.cells.Entry.{Entry}
use Rattle.machine.specs.declared.cells.Entry.TheVariants.{Store, Flush, FlushOpt, Sfence}
use Rattle.machine.specs.Parts.{Parts, lent}
use Rattle.machine.specs.Rules.{barrier_rule, operation_rule, issue_rule, effect_rule, move_rule, persist_rule}
use Rattle.machine.specs.Rules.{rule_in}
use Rattle.machine.specs.Blocker.{blocker_by}

-- an entry's effect, a move; the other rules are so once they are unfolded
pub effect_lent : (p : Program) (x : Parts) (t : ℕ) (e : Entry)
    → effect_rule p (lent [] [] [] x.marks x.lengths) t e ≡ effect_rule p x t e
unfolding effect_rule
effect_lent p x t (Store w) = refl
effect_lent p x t (Flush l) = refl
effect_lent p x t (FlushOpt l) = refl
effect_lent p x t Sfence = refl

pub move_lent : (p : Program) (x : Parts) (t i : ℕ)
    → move_rule p (lent x.buffers [] x.waiting x.marks x.lengths) t i ≡ move_rule p x t i
unfolding move_rule
move_lent p x t i = rw (← effect_lent p x t, ← effect_lent p _ t) refl

-- a step's rule by its code, from what is said of the parts that it is lent
module _ (p : Program) (x : Parts) (k : Step) (r : ℕ) where
  pub rule_issue_lent : k.code ≡ issue
      → r ≡ issue_rule p (lent [] x.issued x.waiting x.marks x.lengths) k.thread.0
      → r ≡ rule_in p x k
  unfolding rule_in issue_rule operation_rule barrier_rule
  rule_issue_lent h e = pick_here _ _ _ _ (eq-eqb _ _ h) e

  module _ (n : k.code ≢ issue) where
    pub rule_move_lent : k.code ≡ move
        → r ≡ move_rule p (lent x.buffers [] x.waiting x.marks x.lengths) k.thread.0
        k.position
        → r ≡ rule_in p x k
    unfolding rule_in
    rule_move_lent h e =
        pick_next _ _ _ _ (ne_eqb _ _ n) (pick_here _ _ _ _ (eq-eqb _ _ h) (e ∙ move_lent p x _ _))

    pub rule_persist_lent : k.code ≢ move
        → r ≡ persist_rule (lent [] [] [] [] x.lengths) k.location.0
        → r ≡ rule_in p x k
    unfolding rule_in persist_rule
    rule_persist_lent h e = pick_next _ _ _ _ (ne_eqb _ _ n) (pick_next _ _ _ _ (ne_eqb _ _ h) e)

-- an issue of an instruction that is left: its operation decides, over what it is lent
pub issue_rule_lent : (p : Program) (x : Parts) (t broken : ℕ) → get_or x.issued t 0 < count_at p t
    → broken
    ≡ operation_rule (instruction_at p t (get_or x.issued t 0)).operation
    (lent [] [] x.waiting x.marks x.lengths) t
    → broken ≡ issue_rule p x t
unfolding issue_rule operation_rule barrier_rule refuse
issue_rule_lent p x t broken h e = rw (lt-leb _ _ h) e

-- nor does the blocker look at what is issued
pub blocker_lent : (r : ℕ) (p : Program) (x : Parts) (k : Step)
    → blocker_by r p (lent x.buffers [] x.waiting x.marks x.lengths) k ≡ blocker_by r p x k
unfolding blocker_by
blocker_lent r p x k = refl
