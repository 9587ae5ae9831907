-- Laws of lanes as lists: with zeros behind them (padded), amid others, and moved in place (inserted, carried).
-- Assumes nothing.
use Prim.Native.Nat.{ℕ, suc, ◌+◌, ◌-◌, ◌<◌}
use mathlib.Core.Path.{◌≡◌, ap, ◌∙◌}
use mathlib.Core.List.{List, [], ◌∷◌, ◌++◌, append_assoc}
use native.Mathlib.Nat.{zero-add, suc-add}
use native.Mathlib.Numerals.{add-one, add-two}
use native.Mathlib.Omega.{arith}
use lib.ListN.{length, get_or, set, take, drop, replicate, length-append, length-set, get_or-append}
use lib.Seq.{get_or-append-add, set-append_left, sets-eq, take_at, drop_at, drop-cons, split_at}
use Rattle.machine.specs.View.{part}
use Rattle.search.specs.Sizes.{most_lanes}
use Rattle.search.specs.Taken.{padded, inserted, carried}

-- padded: read within; changed within
get_padded : (x : List ℕ) (i : ℕ) → i < length x → get_or (padded x) i 0 ≡ get_or x i 0
unfolding padded
get_padded x i h = get_or-append x _ 0 i h

set_padded : (x : List ℕ) (i a : ℕ) → i < length x → set (padded x) i a ≡ padded (set x i a)
unfolding padded
set_padded x i a h = rw (length-set x i a) (set-append_left x _ i a h)

-- padded, with the number of zeros said
pub padded_by : (x : List ℕ) (k : ℕ) → length x + k ≡ most_lanes → padded x ≡ x ++ replicate k 0
unfolding padded
padded_by x k e = let d : most_lanes - length x ≡ k = omega arith in rw d

-- one behind others changed
set_behind : (xs ys : List ℕ) (i a : ℕ) → set (xs ++ ys) (length xs + i) a ≡ xs ++ set ys i a
set_behind [] ys i a = rw zero-add
set_behind (x ∷ xs) ys i a = rw (suc-add, set_behind xs ys i a)

-- amid others: there is such a place; what stands there; what stands there changed
module _ (before here after : List ℕ) (base i : ℕ) (e : length before ≡ base) (h : i < length here) where
  within_amid : base + i < length (before ++ here ++ after)
  within_amid = simp length-append (omega arith)

  pub get_amid : get_or (padded (before ++ here ++ after)) (base + i) 0 ≡ get_or here i 0
  get_amid =
      get_padded (before ++ here ++ after) (base + i) within_amid
      ∙ rw (append_assoc before here after, ← e, get_or-append-add before (here ++ after) i 0)
      (get_or-append here after 0 i h)

  pub set_amid : (a : ℕ)
      → set (padded (before ++ here ++ after)) (base + i) a ≡ padded (before ++ set here i a ++ after)
  set_amid a =
      set_padded (before ++ here ++ after) (base + i) a within_amid
      ∙ rw (
        append_assoc before here after,
        ← e,
        set_behind before (here ++ after) i a,
        set-append_left here after i a h,
        append_assoc,
      )

-- inserted: an entry before what stands from `at` to `end`, which goes two further, over y and z
pub inserted_at : (before here after : List ℕ) (y z tag word at end : ℕ)
    → length before ≡ at
    → at + length here ≡ end
    → inserted (before ++ here ++ y ∷ z ∷ after) at end tag word ≡ before ++ tag ∷ word ∷ here ++ after
unfolding inserted part
inserted_at before here after y z tag word at end e d =
    let x : List ℕ = before ++ here ++ y ∷ z ∷ after in
    let all : x ≡ before ++ (here ++ y ∷ z ∷ after) = append_assoc before here (y ∷ z ∷ after) in
    let apart : x ≡ before ++ here ++ (y ∷ z ∷ []) ++ after = simp append_assoc in
    let h : part at (end - at) x ≡ here =
    rw (all, drop_at before (here ++ y ∷ z ∷ after) at e)
    (take_at here (y ∷ z ∷ after) (end - at) (omega arith)) in
    let b : take at x ≡ before = rw all (take_at before (here ++ y ∷ z ∷ after) at e) in
    let r : drop (at + length (tag ∷ word ∷ here)) x ≡ after =
    rw apart
    (drop_at (before ++ here ++ (y ∷ z ∷ [])) after (at + length (tag ∷ word ∷ here))
    (simp length-append (omega arith))) in
    rw h (sets-eq (tag ∷ word ∷ here) x at (simp length-append (omega arith)) ∙ rw (b, r))

-- carried: the entry (g, w) goes, as another, behind what stands between, which comes two nearer
pub carried_at : (before between after : List ℕ) (g w tag word at to : ℕ)
    → length before ≡ at
    → at + 2 + length between ≡ to
    → carried (before ++ g ∷ w ∷ between ++ after) at to tag word ≡ before ++ between ++ tag ∷ word ∷ after
unfolding carried part
carried_at before between after g w tag word at to e d =
    let x : List ℕ = before ++ g ∷ w ∷ between ++ after in
    let apart : x ≡ before ++ (g ∷ w ∷ []) ++ (between ++ after) = simp append_assoc in
    let all : x ≡ before ++ (g ∷ w ∷ between ++ after) = append_assoc before (g ∷ w ∷ between) after in
    let h : part (at + 2) (to - (at + 2)) x ≡ between =
    rw (apart, drop_at (before ++ (g ∷ w ∷ [])) (between ++ after) (at + 2) (simp length-append (omega arith)))
    (take_at between after (to - (at + 2)) (omega arith)) in
    let b : take at x ≡ before = rw all (take_at before (g ∷ w ∷ between ++ after) at e) in
    let r : drop (at + length (between ++ (tag ∷ word ∷ []))) x ≡ after =
    drop_at (before ++ g ∷ w ∷ between) after (at + length (between ++ (tag ∷ word ∷ [])))
    (simp length-append (omega arith)) in
    rw h
    (sets-eq (between ++ (tag ∷ word ∷ [])) x at (simp length-append (omega arith))
    ∙ rw (b, r) (simp append_assoc))

-- an entry of a row, and what stands on either side
pub entry_split : (l : List ℕ) (i : ℕ) → i + 1 < length l
    → l ≡ take i l ++ get_or l i 0 ∷ get_or l (i + 1) 0 ∷ drop (i + 2) l
entry_split l i h =
    rw (add-one, add-two)
    (split_at l i 0 (omega arith)
    ∙ ap (λ (k : List ℕ). take i l ++ get_or l i 0 ∷ k) (drop-cons l (suc i) 0 (omega arith)))
