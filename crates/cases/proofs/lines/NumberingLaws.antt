-- Laws of `unordered` and `lines_in`: line numbers in order of first appearance. Assumes nothing.
use Prim.Native.Nat.{ℕ, zero, suc, ◌+◌, ◌<◌, ◌≤◌}
use mathlib.Core.Path.{◌≡◌, refl, ◌∙◌}
use mathlib.Core.List.{List, [], ◌∷◌}
use mathlib.Core.Bool.{true, false}
use lib.ListN.{length, get_or, take, drop, drop_of_length-le}
use lib.Seq.{length-take-le, get_or-take, drop-cons}
use lib.Dec.{eqb, ltb}
use borrow.Author.Tests.{lt-ltb, le-ltb, ltb-false, eq-eqb, eqb-true, eqb-false}
use native.Mathlib.Numerals.{add-one}
use native.Mathlib.Omega.{arith}
use Rattle.cases.specs.Sizes.{most_locations}
use Rattle.cases.specs.Choice.{either}
use Rattle.cases.specs.Lines.{own_lines, new_after, unordered, lines_in}
use Rattle.cases.proofs.ChoiceLaws.{either_false, pick_true, pick_cases}
use Rattle.cases.proofs.lines.LineTableLaws.{table_long, table_below}

-- new_after: it is one more at most; it is above a number in order
new_from_lem : (next x : ℕ) → next ≤ new_after next x
unfolding new_after
new_from_lem next x = pick_cases (λ (n : ℕ). next ≤ n) (eqb x next) _ _ (λ e. omega arith) (λ e. omega arith)

new_few : (next x : ℕ) → new_after next x ≤ next + 1
unfolding new_after
new_few next x = pick_cases (λ (n : ℕ). n ≤ next + 1) (eqb x next) _ _ (λ e. omega arith) (λ e. omega arith)

new_above : (next x : ℕ) → x ≤ next → x < new_after next x
unfolding new_after
new_above next x h =
    pick_cases (λ (n : ℕ). x < n) (eqb x next) _ _
    (λ e. omega (arith, eqb-true x next e))
    (λ e. let other = eqb-false x next e in omega arith)

-- lines_in: no fewer than before, and no more than one for each number; each number in order is below it
lines_from : (xs : List ℕ) (next : ℕ) → next ≤ lines_in next xs
unfolding lines_in
lines_from [] next = omega arith
lines_from (x ∷ xs) next = omega (arith, new_from_lem next x, lines_from xs (new_after next x))

pub lines_few : (xs : List ℕ) (next : ℕ) → lines_in next xs ≤ next + length xs
unfolding lines_in
lines_few [] next = omega arith
lines_few (x ∷ xs) next = omega (arith, new_few next x, lines_few xs (new_after next x))

pub lines_low : (xs : List ℕ) (next : ℕ) → unordered next xs ≡ false
    → (i : ℕ) → i < length xs
    → get_or xs i 0 < lines_in next xs
unfolding unordered lines_in
lines_low [] next e i h = absurd (omega arith)
lines_low (x ∷ xs) next e zero h =
    let low = ltb-false next x (either_false (ltb next x) _ e).0 in
    omega (arith, new_above next x low, lines_from xs (new_after next x))
lines_low (x ∷ xs) next e (suc i) h =
    lines_low xs (new_after next x) (either_false (ltb next x) _ e).1 i (omega arith)

-- A loop over the numbers of a list, of which i are seen: it has seen i lines at most
pub new_within : (next x new i : ℕ) → new ≡ new_after next x → next ≤ i → new ≤ i + 1
new_within next x new i is h = omega (arith, new_few next x)

-- the number here is out of order; it is in order; every number is
module _ (line : List ℕ) (i next : ℕ) where
  seen : i < length line → drop i line ≡ get_or line i 0 ∷ drop (i + 1) line
  seen h = drop-cons line i 0 h ∙ rw (add-one i)

  all_seen : length line ≤ i → drop i line ≡ []
  all_seen h = drop_of_length-le line {i = i} h

  pub unordered_here : i < length line → next < get_or line i 0 → true ≡ unordered next (drop i line)
  unfolding unordered either
  unordered_here h out = rw (seen h, lt-ltb next (get_or line i 0) out)

  pub unordered_next : (new : ℕ) → new ≡ new_after next (get_or line i 0) → i < length line → get_or line i 0 ≤ next
      → unordered new (drop (i + 1) line) ≡ unordered next (drop i line)
  unfolding unordered either
  unordered_next new is h in_order = rw (is, seen h, le-ltb next (get_or line i 0) in_order)

  pub unordered_end : length line ≤ i → false ≡ unordered next (drop i line)
  unfolding unordered
  unordered_end h = rw (all_seen h)

  pub lines_next : (new : ℕ) → new ≡ new_after next (get_or line i 0) → i < length line
      → lines_in new (drop (i + 1) line) ≡ lines_in next (drop i line)
  unfolding lines_in
  lines_next new is h = rw (is, seen h)

  pub lines_end : length line ≤ i → next ≡ lines_in next (drop i line)
  unfolding lines_in
  lines_end h = rw (all_seen h)

-- numbers that rise by one from the next new one on: in order, and a line each
rising : (xs : List ℕ) (next : ℕ) → ((i : ℕ) → i < length xs → get_or xs i 0 ≡ next + i)
    → (lines_in next xs ≡ next + length xs) × (unordered next xs ≡ false)
unfolding lines_in unordered either new_after
rising [] next h = (omega arith, refl)
rising (x ∷ xs) next h =
    let is : x ≡ next = omega (arith, h 0 (omega arith)) in
    let new = pick_true (eqb x next) (next + 1) next (eq-eqb x next is) in
    let rest = rising xs (next + 1) (λ i m. omega (arith, h (suc i) (omega arith))) in
    (rw new (rest.0 ∙ omega arith), rw (new, le-ltb next x (omega arith)) rest.1)

-- a line each is as many lines as locations, in order
module _ (n : ℕ) (few : n ≤ most_locations) where
  own_rising : (i : ℕ) → i < length (take n (own_lines n)) → get_or (take n (own_lines n)) i 0 ≡ 0 + i
  unfolding own_lines
  own_rising i h =
      let k = length-take-le n (own_lines n) (omega (arith, table_long (λ l. l) n)) in
      let low : i < n = omega arith in
      get_or-take n (own_lines n) i 0 low ∙ table_below (λ l. l) n i few low ∙ omega arith

  pub own_lines_counted : lines_in 0 (take n (own_lines n)) ≡ n
  unfolding own_lines
  own_lines_counted =
      let k = length-take-le n (own_lines n) (omega (arith, table_long (λ l. l) n)) in
      (rising (take n (own_lines n)) 0 own_rising).0 ∙ omega arith

  pub own_lines_ordered : unordered 0 (take n (own_lines n)) ≡ false
  own_lines_ordered = (rising (take n (own_lines n)) 0 own_rising).1
