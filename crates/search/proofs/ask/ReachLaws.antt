-- What it is to reach the question: every want is matched, and every passed count is met. Assumes nothing.
use Prim.Native.Nat.{ℕ, ◌<◌, ◌≤◌}
use mathlib.Core.Path.{◌≡◌, refl}
use mathlib.Core.Bool.{Bool, true, false}
use lib.ListN.{get_or}
use lib.Dec.{eqb}
use borrow.Author.Tests.{eqb-true, eq-eqb, ltb-false, le-ltb, not-true, not-false}
use native.Mathlib.Omega.{arith}
use Rattle.cases.specs.declared.case.Ask.{Ask}
use Rattle.cases.specs.Choice.{both}
use Rattle.cases.specs.Sizes.{most_threads, most_locations}
use Rattle.cases.proofs.ChoiceLaws.{never_both, both_true}
use Rattle.machine.specs.declared.cells.State.{State}
use Rattle.machine.specs.View.{word_of, issued_of}
use Rattle.machine.specs.Fit.{any_from}
use Rattle.machine.proofs.lists.AnyLaws.{any_none, none_any}
use Rattle.search.specs.Question.{misses, misses_at, lacks_at, reaches_in, reaches}

-- a location: wanted with the word that it holds, or not wanted
misses_is : (wanted : Bool) (want word : ℕ) → misses wanted want word ≡ false → wanted ≡ true → word ≡ want
unfolding misses both
misses_is true want word h e = eqb-true word want (not-false (eqb word want) h)
misses_is false want word h e = absurd (never_both e refl)

is_misses : (wanted : Bool) (want word : ℕ) → (wanted ≡ true → word ≡ want) → misses wanted want word ≡ false
unfolding misses both
is_misses true want word h = rw (eq-eqb word want (h refl))
is_misses false want word h = refl

module _ (a : Ask) (s : State) where
  abbrev Matches : Type 0
  Matches = (l : ℕ) → l < most_locations → get_or a.wanted l false ≡ true → word_of s l ≡ get_or a.want l 0

  abbrev Passes : Type 0
  Passes = (t : ℕ) → t < most_threads → get_or a.passed t 0 ≤ issued_of s t

  pub reaches_is : reaches a s ≡ true → Matches × Passes
  unfolding reaches reaches_in misses_at lacks_at
  reaches_is h =
      let missed = misses_at a.wanted a.want s.words in
      let lacking = lacks_at a.passed s.issued in
      let tests = both_true _ _ h in
      let matched = not-true (any_from 0 most_locations missed) tests.0 in
      let met = not-true (any_from 0 most_threads lacking) tests.1 in (
        (λ l b e. misses_is _ _ _ (any_none missed 0 most_locations l matched (omega arith) (omega arith)) e),
        (λ t b. ltb-false _ _ (any_none lacking 0 most_threads t met (omega arith) (omega arith))),
      )

  pub is_reaches : Matches → Passes → reaches a s ≡ true
  unfolding reaches reaches_in misses_at lacks_at both
  is_reaches m p =
      let missed = none_any (misses_at a.wanted a.want s.words) 0 most_locations
      (λ k x y. is_misses _ _ _ (m k (omega arith))) in
      let lacking = none_any (lacks_at a.passed s.issued) 0 most_threads
      (λ k x y. le-ltb _ _ (p k (omega arith))) in
      rw (missed, lacking)
