-- Laws of what `first_bar` answers: the bar stands there, and none before it does. Assumes nothing.
use Prim.Native.Nat.{ℕ, zero, suc, ◌+◌, ◌≤◌, ◌<◌}
use mathlib.Core.Path.{◌≡◌, refl, sym, ◌∙◌}
use mathlib.Core.Bool.{Bool, true, false}
use mathlib.Core.List.{List, [], ◌∷◌}
use native.Mathlib.Omega.{arith}
use lib.ListN.{length, take}
use lib.Dec.{ltb}
use borrow.Author.Tests.{ltb-false}
use Rattle.std.specs.Prelude.{Some, None, cond}
use Rattle.std.specs.List.{position, position_or_len}
use Rattle.std.proofs.lemmas.List.Recursion.{is_position_or_len}
use Rattle.std.proofs.lemmas.Option.{cond_some, none-some}
use Rattle.cases.specs.declared.case.Program.{Program}
use Rattle.cases.specs.Choice.{pick}
use Rattle.machine.specs.declared.cells.Waiting.{Waiting}
use Rattle.machine.specs.Look.{bars, first_bar}
use Rattle.machine.specs.InTheWay.{StandsAt}

-- one turn in the words of the library
bar_cond : (c : Bool) (n : ℕ) → pick c 0 (suc n) ≡ cond c 0 (1 + n)
unfolding pick
bar_cond true n = refl
bar_cond false n = omega arith

-- the first bar of the first i entries: it stands there, and no bar before it does
module _ (p : Program) (q : ℕ) where
  pub bar_stands : (b : List Waiting) (i : ℕ) → i ≤ length b → first_bar p q (take i b) < i
      → (w : Waiting) × StandsAt b (first_bar p q (take i b)) w × (bars p q w.entry ≡ true)
  unfolding first_bar StandsAt pick
  bar_stands [] i few h = absurd (omega arith)
  bar_stands (w ∷ b) zero few h = absurd (omega arith)
  bar_stands (w ∷ b) (suc i) few h =
      go (bars p q w.entry) refl h (bar_stands b i (omega arith))
    where
      go : (c : Bool) → bars p q w.entry ≡ c → pick c 0 (suc (first_bar p q (take i b))) < suc i
          → (first_bar p q (take i b) < i
          → (v : Waiting) × StandsAt b (first_bar p q (take i b)) v × (bars p q v.entry ≡ true))
          → (v : Waiting) × StandsAt (w ∷ b) (pick c 0 (suc (first_bar p q (take i b)))) v
          × (bars p q v.entry ≡ true)
      go true e n later = (w, refl, e)
      go false e n later = later (omega arith)

  pub bar_first : (b : List Waiting) (i j : ℕ) (v : Waiting) → StandsAt b j v → bars p q v.entry ≡ true
      → j < i
      → first_bar p q (take i b) ≤ j
  unfolding first_bar StandsAt pick
  bar_first [] i j v h e low = absurd h
  bar_first (w ∷ b) zero j v h e low = absurd (omega arith)
  bar_first (w ∷ b) (suc i) zero v h e low = rw (h, e) (omega arith)
  bar_first (w ∷ b) (suc i) (suc j) v h e low = go (bars p q w.entry) (bar_first b i j v h e (omega arith))
    where
      go : (c : Bool) → first_bar p q (take i b) ≤ j → pick c 0 (suc (first_bar p q (take i b))) ≤ suc j
      go true n = omega arith
      go false n = omega arith

  -- it is the library's first position
  bar_is : (b : List Waiting) → first_bar p q b ≡ position_or_len (λ w. bars p q w.entry) b
  unfolding first_bar
  bar_is = is_position_or_len (first_bar p q) (λ w. bars p q w.entry) refl next
    where
      next : (w : Waiting) (b : List Waiting) → first_bar p q (w ∷ b) ≡ cond (bars p q w.entry) 0 (1 + first_bar p q b)
      next w b = bar_cond (bars p q w.entry) (first_bar p q b)

  bar_within : (b : List Waiting) → first_bar p q b ≤ length b
  unfolding first_bar pick
  bar_within [] = omega arith
  bar_within (w ∷ b) = go (bars p q w.entry) (bar_within b)
    where
      go : (c : Bool) → first_bar p q b ≤ length b → pick c 0 (suc (first_bar p q b)) ≤ suc (length b)
      go true n = omega arith
      go false n = omega arith

  pub bar_at : (b : List Waiting) (j : ℕ) → position (λ w. bars p q w.entry) b ≡ Some j → j ≡ first_bar p q b
  bar_at b j e = sym (bar_is b ∙ (cond_some _ _ _ e).1)

  pub bar_none : (b : List Waiting) → position (λ w. bars p q w.entry) b ≡ None → length b ≡ first_bar p q b
  bar_none b e = go (ltb (first_bar p q b) (length b)) refl
    where
      go : (c : Bool) → ltb (first_bar p q b) (length b) ≡ c → length b ≡ first_bar p q b
      go true h = absurd (none-some _ (sym (rw (← bar_is b, h) at e)))
      go false h = let m = bar_within b in let n = ltb-false _ _ h in omega arith
