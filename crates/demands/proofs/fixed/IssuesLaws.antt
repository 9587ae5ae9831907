-- Which step issues an instruction, and what the run then fixes and makes. Assumes nothing.
use Prim.Native.Nat.{ℕ}
use mathlib.Core.Path.{◌≡◌, refl}
use mathlib.Core.Logic.{◌≢◌}
use mathlib.Core.Bool.{true, false}
use mathlib.Core.List.{List, ◌∷◌}
use borrow.Author.Tests.{eq-eqb, ne_eqb}
use Rattle.cases.specs.declared.case.Step.{Step}
use Rattle.cases.specs.declared.case.Program.{Program}
use Rattle.cases.specs.Choice.{both}
use Rattle.cases.proofs.ChoiceLaws.{pick_true, pick_false}
use Rattle.cases.specs.Checks.{instruction_at}
use Rattle.machine.specs.declared.cells.State.{State}
use Rattle.machine.specs.View.{issued_of}
use Rattle.machine.specs.Rules.{next_of}
use Rattle.machine.specs.Next.{issue_step, move_step, persist_step}
use Rattle.demands.specs.Writes.{makes, fixed_by, issues_at, at_issue, fixed_from, made_from}

-- a step tells of its own instruction, and of no other: what it fixes, whether it makes a write
module _ (p : Program) (s : State) (k : Step) (ks : List Step) (t i : ℕ) where
  pub at_here : {A : Type 0} (f : State → A) (d : A) → issues_at s k t i ≡ true
      → at_issue p f d s (k ∷ ks) t i ≡ f s
  unfolding at_issue
  at_here f d h = pick_true _ _ _ h

  pub at_next : {A : Type 0} (f : State → A) (d : A) → issues_at s k t i ≡ false
      → at_issue p f d s (k ∷ ks) t i ≡ at_issue p f d (next_of p s k) ks t i
  unfolding at_issue
  at_next f d h = pick_false _ _ _ h

  pub fixed_here : issues_at s k t i ≡ true
      → fixed_from p s (k ∷ ks) t i ≡ fixed_by s t (instruction_at p t i)
  unfolding fixed_from
  fixed_here = at_here _ _

  pub fixed_next : issues_at s k t i ≡ false → fixed_from p s (k ∷ ks) t i ≡ fixed_from p (next_of p s k) ks t i
  unfolding fixed_from
  fixed_next = at_next _ _

  pub made_here : (l : ℕ) → issues_at s k t i ≡ true
      → made_from p s (k ∷ ks) t l i ≡ makes p s t (instruction_at p t i) l
  unfolding made_from
  made_here l = at_here _ _

  pub made_next : (l : ℕ) → issues_at s k t i ≡ false
      → made_from p s (k ∷ ks) t l i ≡ made_from p (next_of p s k) ks t l i
  unfolding made_from
  made_next l = at_next _ _

pub issues_here : (s : State) (t : ℕ) → issues_at s (issue_step t) t (issued_of s t) ≡ true
unfolding issues_at both
issues_here s t = rw (eq-eqb t t refl, eq-eqb (issued_of s t) (issued_of s t) refl)

pub issues_later : (s : State) (t i : ℕ) → issued_of s t ≢ i → issues_at s (issue_step t) t i ≡ false
unfolding issues_at both
issues_later s t i h = rw (eq-eqb t t refl, ne_eqb _ _ h)

pub issues_other : (s : State) (k t i : ℕ) → k ≢ t → issues_at s (issue_step k) t i ≡ false
unfolding issues_at both
issues_other s k t i h = rw (ne_eqb _ _ h)

pub move_issues : (s : State) (k j t i : ℕ) → issues_at s (move_step k j) t i ≡ false
unfolding issues_at both
move_issues s k j t i = refl

pub persist_issues : (s : State) (l t i : ℕ) → issues_at s (persist_step l) t i ≡ false
unfolding issues_at both
persist_issues s l t i = refl
