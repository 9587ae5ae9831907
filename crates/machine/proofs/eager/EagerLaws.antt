-- The machine in which eager steps come before all others: it is a machine, its next steps are the eager ones where
-- there are any, and its runs are runs of 01's machine. Assumes nothing.
use Prim.Native.Nat.{ℕ}
use mathlib.Core.Path.{◌≡◌, refl, sym, ap, ◌∙◌}
use mathlib.Core.Logic.{◌↔◌}
use mathlib.Core.Bool.{Bool, true, false, not}
use mathlib.Core.List.{List, [], ◌∷◌}
use lib.Dec.{eqb}
use Rattle.cases.specs.declared.case.Step.{Step}
use Rattle.cases.specs.declared.case.Program.{Program}
use Rattle.cases.specs.Choice.{pick, both, either, refuse}
use Rattle.cases.specs.Ranges.{ProgramFits}
use Rattle.cases.specs.Checks.{limits_of, step_fault}
use Rattle.cases.proofs.ChoiceLaws.{refuse_none, refuse_next, true_not, never_both}
use Rattle.machine.specs.declared.cells.State.{State}
use Rattle.machine.specs.Rules.{rule_of}
use Rattle.machine.specs.Fit.{any_of, Fits}
use Rattle.machine.specs.Model.{allowed, legal_steps, Listed, Lawful}
use Rattle.machine.specs.Next.{rank_of, candidates}
use Rattle.machine.specs.Ptso.{ptso}
use Rattle.machine.specs.Eager.{is_eager, has_eager, put_off, eager_rule, eager, those, or_else}
use Rattle.machine.proofs.lists.ListedLaws.{any_listed, listed_none}
use Rattle.machine.proofs.model.ModelLaws.{legal_listed, listed_legal, ruled_lawful}
use Rattle.machine.proofs.model.PtsoLaws.{ptso_lawful}

-- those: of a list with none; of one with some
module _ {A : Type 0} (f : A → Bool) where
  those_none : (xs : List A) → any_of f xs ≡ false → those f xs ≡ []
  unfolding any_of those either pick
  those_none [] h = refl
  those_none (x ∷ xs) h = go (f x) h (those_none xs)
    where
      go : (b : Bool) → either b (any_of f xs) ≡ false → (any_of f xs ≡ false → those f xs ≡ [])
          → pick b (x ∷ those f xs) (those f xs) ≡ []
      go true e rest = absurd (never_both refl e)
      go false e rest = rest e

  those_some : (xs ys : List A) → any_of f xs ≡ true → or_else (those f xs) ys ≡ those f xs
  unfolding any_of those either pick or_else
  those_some [] ys h = absurd (never_both h refl)
  those_some (x ∷ xs) ys h = go (f x) h (those_some xs ys)
    where
      go : (b : Bool) → either b (any_of f xs) ≡ true
          → (any_of f xs ≡ true → or_else (those f xs) ys ≡ those f xs)
          → or_else (pick b (x ∷ those f xs) (those f xs)) ys ≡ pick b (x ∷ those f xs) (those f xs)
      go true e rest = refl
      go false e rest = rest e

-- where all others are put off, the allowed are those of the allowed
put_off_those : (rule : Step → ℕ) (f : Step → Bool) (ks : List Step)
    → allowed (λ k. refuse (not (f k)) put_off (rule k)) ks ≡ those f (allowed rule ks)
unfolding allowed those refuse pick
put_off_those rule f [] = refl
put_off_those rule f (k ∷ ks) = go (f k) (eqb (rule k) 0) refl refl (put_off_those rule f ks)
  where
    go : (b c : Bool) → f k ≡ b → eqb (rule k) 0 ≡ c
        → allowed (λ k. refuse (not (f k)) put_off (rule k)) ks ≡ those f (allowed rule ks)
        → pick (eqb (refuse (not b) put_off (rule k)) 0)
        (k ∷ allowed (λ k. refuse (not (f k)) put_off (rule k)) ks)
        (allowed (λ k. refuse (not (f k)) put_off (rule k)) ks)
        ≡ those f (pick (eqb (rule k) 0) (k ∷ allowed rule ks) (allowed rule ks))
    go true true e d rest = rw (d, e) (ap (λ js. k ∷ js) rest)
    go true false e d rest = rw d rest
    go false true e d rest = rw (d, e) rest
    go false false e d rest = rw d rest

-- a step that is not put off, and back
held : (a b : Bool) → both a (not b) ≡ false → a ≡ true → b ≡ true
unfolding both
held true true e h = refl
held true false e h = absurd (never_both refl e)
held false b e h = absurd (never_both h refl)

free : (a b : Bool) → (a ≡ true → b ≡ true) → both a (not b) ≡ false
unfolding both
free true b h = true_not b (h refl)
free false b h = refl

module _ (p : Program) (s : State) where
  -- in a state with a legal eager step the eager ones are next, in the usual order; else all legal ones
  pub eager_steps : legal_steps (eager p) s
      ≡ or_else (those (is_eager s) (legal_steps (ptso p) s)) (legal_steps (ptso p) s)
  unfolding legal_steps eager_rule has_eager both or_else refuse
  eager_steps = go (any_of (is_eager s) (legal_steps (ptso p) s)) refl
    where
      go : (b : Bool) → any_of (is_eager s) (legal_steps (ptso p) s) ≡ b
          → allowed (λ k. refuse (both b (not (is_eager s k))) put_off (rule_of p s k)) (candidates p)
          ≡ or_else (those (is_eager s) (legal_steps (ptso p) s)) (legal_steps (ptso p) s)
      go true e =
          put_off_those (rule_of p s) (is_eager s) (candidates p)
          ∙ sym (those_some (is_eager s) (legal_steps (ptso p) s) (legal_steps (ptso p) s) e)
      go false e = rw (those_none (is_eager s) (legal_steps (ptso p) s) e)

  -- a step is legal there exactly where it is legal, and eager if any that is legal is
  pub eager_rule_lem : (k : Step)
      → (eager_rule p s k ≡ 0) ↔ ((rule_of p s k ≡ 0) × (has_eager p s ≡ true → is_eager s k ≡ true))
  unfolding eager_rule
  eager_rule_lem k = (
    (λ h.
        let n = refuse_none (both (has_eager p s) (not (is_eager s k))) 29 (rule_of p s k) h in
        (n.1, held (has_eager p s) (is_eager s k) n.0)),
    (λ h. sym (refuse_next (both (has_eager p s) (not (is_eager s k))) (rule_of p s k) put_off (rule_of p s k)
        (free (has_eager p s) (is_eager s k) h.1) refl) ∙ h.0),
  )

-- of a program that the machine can run
module _ (p : Program) (fits : ProgramFits p) where
  stricter : (s : State) (k : Step) → eager_rule p s k ≡ 0 → rule_of p s k ≡ 0
  stricter s k h = ((eager_rule_lem p s k).0 h).0

  pub eager_lawful : Lawful (eager p) (Fits p) rank_of
  eager_lawful = ruled_lawful (ptso p) (eager_rule p) stricter (ptso_lawful p fits)

  -- some eager step is legal, and back
  pub has_eager_lem : (s : State)
      → (has_eager p s ≡ true)
      ↔ ((k : Step) × (step_fault (limits_of p) k ≡ 0) × (rule_of p s k ≡ 0) × (is_eager s k ≡ true))
  unfolding has_eager
  has_eager_lem s = (
    (λ h.
        let a = any_listed (is_eager s) (legal_steps (ptso p) s) h in
        let l = listed_legal (ptso p) (ptso_lawful p fits) s a.0 a.1 in
        (a.0, l.0, l.1, a.2)),
    (λ h. some (any_of (is_eager s) (legal_steps (ptso p) s)) refl h.0 (legal_listed (ptso p) (ptso_lawful p fits) s
        h.0 h.1 h.2) h.3),
  )
    where
      some : (b : Bool) → any_of (is_eager s) (legal_steps (ptso p) s) ≡ b → (k : Step)
          → Listed k (legal_steps (ptso p) s) → is_eager s k ≡ true
          → b ≡ true
      some true e k on is = refl
      some false e k on is =
          absurd (never_both is (listed_none (is_eager s) k (legal_steps (ptso p) s) e on))
