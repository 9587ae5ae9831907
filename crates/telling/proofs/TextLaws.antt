-- Laws of `step_text`: what a step of each code is written as. Assumes nothing.
use mathlib.Core.Path.{◌≡◌, refl}
use mathlib.Core.Logic.{◌≢◌}
use mathlib.Core.List.{[], ◌++◌}
use borrow.Author.Tests.{eq-eqb, ne_eqb}
use Rattle.std.specs.Prelude.{codes, decimal}
use Rattle.cases.specs.declared.case.Step.{Step}
use Rattle.cases.specs.Operations.{issue, move, persist}
use Rattle.cases.proofs.ChoiceLaws.{pick_here, pick_next}
use Rattle.telling.specs.Text.{step_text}

module _ (k : Step) where
  pub issue_text : k.code ≡ issue → codes "I" ++ decimal k.thread.0 ≡ step_text k
  issue_text h = pick_here _ _ _ _ (eq-eqb _ _ h) refl

  module _ (i : k.code ≢ issue) where
    pub move_text : k.code ≡ move
        → codes "M" ++ (decimal k.thread.0 ++ (codes "." ++ decimal k.position)) ≡ step_text k
    move_text h = pick_next _ _ _ _ (ne_eqb _ _ i) (pick_here _ _ _ _ (eq-eqb _ _ h) refl)

    module _ (m : k.code ≢ move) where
      pub persist_text : k.code ≡ persist → codes "P" ++ decimal k.location.0 ≡ step_text k
      persist_text h =
          pick_next _ _ _ _ (ne_eqb _ _ i) (pick_next _ _ _ _ (ne_eqb _ _ m) (pick_here _ _ _ _ (eq-eqb _ _ h) refl))

      pub other_text : k.code ≢ persist → [] ≡ step_text k
      other_text n =
          pick_next _ _ _ _ (ne_eqb _ _ i) (pick_next _ _ _ _ (ne_eqb _ _ m) (pick_next _ _ _ _ (ne_eqb _ _ n) refl))
