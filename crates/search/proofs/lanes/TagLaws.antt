-- Laws of tags: what a choice by an entry's tag comes to, as the code makes it, for each kind of entry.
--   by_tag g a b d e   a for an sfence's tag, b for a flush-opt's, d for a flush's, e for a store's
-- Assumes nothing.
use Prim.Native.Nat.{ℕ, ◌≤◌, ◌<◌}
use mathlib.Core.Path.{◌≡◌, ◌∙◌}
use native.Mathlib.Omega.{arith}
use borrow.Author.Tests.{lt-leb, le-leb}
use lib.Dec.{leb}
use Rattle.cases.specs.Choice.{pick}
use Rattle.cases.proofs.ChoiceLaws.{pick_true, pick_false}
use Rattle.search.specs.Sizes.{flush_tag, flush_opt_tag, sfence_tag}

module _ {A : Type 0} (g : ℕ) (a b d e : A) where
  abbrev pub by_tag : A
  by_tag = pick (leb sfence_tag g) a (pick (leb flush_opt_tag g) b (pick (leb flush_tag g) d e))

  -- by each kind
  pub tag_sfence : sfence_tag ≤ g → by_tag ≡ a
  tag_sfence h = pick_true _ _ _ (le-leb sfence_tag g h)

  pub tag_flush_opt : flush_opt_tag ≤ g → g < sfence_tag → by_tag ≡ b
  tag_flush_opt h k = pick_false _ _ _ (lt-leb sfence_tag g k) ∙ pick_true _ _ _ (le-leb flush_opt_tag g h)

  pub tag_flush : flush_tag ≤ g → g < flush_opt_tag → by_tag ≡ d
  tag_flush h k =
      pick_false _ _ _ (lt-leb sfence_tag g (omega arith))
      ∙ pick_false _ _ _ (lt-leb flush_opt_tag g k)
      ∙ pick_true _ _ _ (le-leb flush_tag g h)

  pub tag_store : g < flush_tag → by_tag ≡ e
  tag_store k =
      pick_false _ _ _ (lt-leb sfence_tag g (omega arith))
      ∙ pick_false _ _ _ (lt-leb flush_opt_tag g (omega arith))
      ∙ pick_false _ _ _ (lt-leb flush_tag g k)
