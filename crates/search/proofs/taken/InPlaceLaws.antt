-- Laws of lanes changed in place: room made for an entry, the gap behind one closed up, and the lanes that such a
-- change leaves as they are. Assumes nothing.
use Prim.Native.Nat.{ℕ, suc, ◌+◌, ◌-◌, ◌≤◌, ◌<◌}
use mathlib.Core.Path.{◌≡◌, refl, sym, ◌∙◌}
use mathlib.Core.List.{List, [], ◌∷◌, ◌++◌}
use native.Mathlib.Omega.{arith}
use lib.ListN.{length, get_or, set, take, drop, length-drop}
use lib.Seq.{sets, sets-eq, set_comm, get_or-set_other, length-take-le}
use Rattle.std.specs.List.{copy_within}
use Rattle.cases.proofs.ArrayLaws.{sets_append}
use Rattle.machine.specs.View.{part}
use Rattle.machine.proofs.lists.PartLaws.{length_part}
use Rattle.search.specs.Taken.{inserted, carried}

-- what stands before values put into a list stays, and can be written before or after them
pub get_or_sets_before : (xs : List ℕ) (i : ℕ) (vs : List ℕ) (j : ℕ) → j < i → get_or (sets xs i vs) j 0 ≡ get_or xs j 0
get_or_sets_before xs i [] j h = refl
get_or_sets_before xs i (v ∷ vs) j h =
    get_or_sets_before (set xs i v) (suc i) vs j (omega arith) ∙ get_or-set_other xs i j v 0 (λ e. omega arith)

pub set_sets : (xs : List ℕ) (i : ℕ) (vs : List ℕ) (j v : ℕ) → j < i
    → set (sets xs i vs) j v ≡ sets (set xs j v) i vs
set_sets xs i [] j v h = refl
set_sets xs i (w ∷ vs) j v h =
    set_sets (set xs i w) (suc i) vs j v (omega arith) ∙ rw (set_comm xs i j w v (λ e. omega arith))

-- a part moved within its list is put there
moved : (x : List ℕ) (i j to : ℕ) → j ≤ length x → to + (j - i) ≤ length x
    → copy_within x i j to ≡ sets x to (part i (j - i) x)
unfolding part
moved x i j to h k =
    let l : length (take (j - i) (drop i x)) ≡ j - i = length-take-le (j - i) (drop i x) (rw length-drop (omega arith)) in
    sym (sets-eq (take (j - i) (drop i x)) x to (rw l k) ∙ rw l refl)

-- what stood from there on is moved up by two, and the entry goes into the gap
pub inserted_made : (x : List ℕ) (at end tag word : ℕ) → end + 2 ≤ length x → at ≤ end
    → set (set (copy_within x at end (at + 2)) at tag) (at + 1) word ≡ inserted x at end tag word
unfolding inserted
inserted_made x at end tag word h k =
    let f : at + 1 ≡ suc at = omega arith in
    let g : at + 2 ≡ suc (suc at) = omega arith in
    let p : List ℕ = part at (end - at) x in
    rw (moved x at end (at + 2) (omega arith) (omega arith), f, g, set_sets x (suc (suc at)) p at tag (omega arith))
    (set_sets (set x at tag) (suc (suc at)) p (suc at) word (omega arith))

-- what stood between is moved down by two, and the entry goes behind it
pub carried_made : (x : List ℕ) (at to tag word : ℕ) → at + 2 ≤ to → to ≤ length x
    → set (set (copy_within x (at + 2) to at) (to - 2) tag) (to - 1) word ≡ carried x at to tag word
unfolding carried
carried_made x at to tag word h k =
    let m : ℕ = to - (at + 2) in
    let p : List ℕ = part (at + 2) m x in
    let g : at + m ≡ to - 2 = omega arith in
    let n : suc (to - 2) ≡ to - 1 = omega arith in
    let l : length p ≡ m = length_part (at + 2) m x (omega arith) in
    rw (moved x (at + 2) to at k (omega arith), sets_append x at p, l, g, n)

-- lanes before the place of the change are as they were
pub inserted_before : (x : List ℕ) (at end tag word i : ℕ) → i < at
    → get_or (inserted x at end tag word) i 0 ≡ get_or x i 0
unfolding inserted
inserted_before x at end tag word i h = get_or_sets_before x at (tag ∷ word ∷ part at (end - at) x) i h

pub carried_before : (x : List ℕ) (at to tag word i : ℕ) → i < at
    → get_or (carried x at to tag word) i 0 ≡ get_or x i 0
unfolding carried
carried_before x at to tag word i h =
    get_or_sets_before x at (part (at + 2) (to - (at + 2)) x ++ (tag ∷ word ∷ [])) i h
