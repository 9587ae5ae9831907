-- Laws of `part`, over lists of any type: what it holds, how loops go through it, and which parts lie apart.
-- Assumes nothing.
use Prim.Native.Nat.{ℕ, suc, ◌+◌, ◌*◌, ◌-◌, ◌≤◌, ◌<◌}
use mathlib.Core.Path.{◌≡◌, refl, sym, ◌∙◌}
use mathlib.Core.Logic.{◌⊎◌, inl, inr, ◌≢◌}
use mathlib.Core.Bool.{Bool, true, false}
use mathlib.Core.List.{List, [], ◌∷◌, ◌++◌}
use native.Mathlib.Omega.{arith}
use native.Mathlib.Nat.{suc-mul, mul-le-mul_right}
use native.Mathlib.Numerals.{add-one}
use borrow.Author.Tests.{ltb-true, ltb-false}
use lib.Dec.{ltb}
use lib.ListN.{length, get_or, take, drop, length-take, length-drop, drop_of_length-le}
use lib.Seq.{drop-cons, take-suc, get_or-drop, get_or-take, drop-drop, take-take}
use Rattle.cases.proofs.ArrayLaws.{drop_take}
use borrow.Rule.Slice.PartMut.{mid_of}
use Rattle.machine.specs.View.{part}

-- what the library says of the slice `xs[base..end]`
pub part_is : {A : Type 0} (base end n : ℕ) (xs : List A) → end - base ≡ n
    → mid_of base (end - base) xs ≡ part base n xs
unfolding part
part_is base end n xs e = rw e

-- of two numbers the first is smaller, or it is not
pub lt_or_ge : (a b : ℕ) → (a < b) ⊎ (b ≤ a)
lt_or_ge a b = go (ltb a b) refl
  where
    go : (k : Bool) → ltb a b ≡ k → (a < b) ⊎ (b ≤ a)
    go true e = inl (ltb-true a b e)
    go false e = inr (ltb-false a b e)

-- of rows as wide as w, row k, of which n are in use, lies before row l or behind it
pub part_apart : (w k l n : ℕ) → k ≢ l → n ≤ w → (k * w + n ≤ l * w) ⊎ (l * w + w ≤ k * w)
part_apart w k l n h m = go (lt_or_ge k l)
  where
    go : (k < l) ⊎ (l ≤ k) → (k * w + n ≤ l * w) ⊎ (l * w + w ≤ k * w)
    go (inl b) = inl (let r = mul-le-mul_right {m = suc k} {n = l} w b in omega (arith, suc-mul k w))
    go (inr b) =
        let v : (l ≡ k → ⊥) = λ y. h (sym y) in
        let r = mul-le-mul_right {m = suc l} {n = k} w (omega arith) in
        inr (omega (arith, suc-mul l w))

module _ {ℓ} {A : Type ℓ} where
  -- part: how long it is, its rest, its front
  pub length_part : (base n : ℕ) (xs : List A) → base + n ≤ length xs → length (part base n xs) ≡ n
  unfolding part
  length_part base n xs h = simp (length-take, length-drop) (omega arith)

  pub drop_part : (k base n : ℕ) (xs : List A) → drop k (part base n xs) ≡ part (base + k) (n - k) xs
  unfolding part
  drop_part k base n xs = drop_take k n (drop base xs) ∙ rw drop-drop

  pub take_part : (k base n : ℕ) (xs : List A) → k ≤ n → take k (part base n xs) ≡ part base k xs
  unfolding part
  take_part k base n xs h = take-take k n (drop base xs) h

  pub get_or_part : (base n i : ℕ) (xs : List A) (d : A) → i < n
      → get_or (part base n xs) i d ≡ get_or xs (base + i) d
  unfolding part
  get_or_part base n i xs d h = rw (get_or-take n (drop base xs) i d h, get_or-drop)

  -- a turn of a loop that goes through a part; its end
  pub part_next : (base n i : ℕ) (xs : List A) (d : A) → i < n → base + n ≤ length xs
      → drop i (part base n xs) ≡ get_or xs (base + i) d ∷ drop (i + 1) (part base n xs)
  unfolding part
  part_next base n i xs d h k =
      let m : i < length (take n (drop base xs)) = simp (length-take, length-drop) (omega arith) in
      drop-cons (take n (drop base xs)) i d m ∙ rw (get_or-take n (drop base xs) i d h, get_or-drop, add-one)

  pub part_end : (base n i : ℕ) (xs : List A) → n ≤ i → drop i (part base n xs) ≡ []
  unfolding part
  part_end base n i xs h =
      drop_of_length-le (take n (drop base xs)) {i = i} (simp (length-take, length-drop) (omega arith))

  pub part_none : (base n : ℕ) (xs : List A) → n ≡ 0 → part base n xs ≡ []
  part_none base n xs e = part_end base n 0 xs (omega arith)

  -- the same of a front
  pub take_next : (n i : ℕ) (xs : List A) (d : A) → i < n → n ≤ length xs
      → drop i (take n xs) ≡ get_or xs i d ∷ drop (i + 1) (take n xs)
  take_next n i xs d h k =
      let m : i < length (take n xs) = simp length-take (omega arith) in
      drop-cons (take n xs) i d m ∙ rw (get_or-take n xs i d h, add-one)

  pub take_end : (n i : ℕ) (xs : List A) → n ≤ i → drop i (take n xs) ≡ []
  take_end n i xs h = drop_of_length-le (take n xs) {i = i} (simp length-take (omega arith))

  pub part_more : (base n : ℕ) (xs : List A) (d : A) → base + n < length xs
      → part base (suc n) xs ≡ part base n xs ++ (get_or xs (base + n) d ∷ [])
  unfolding part
  part_more base n xs d h =
      let k : n < length (drop base xs) = simp length-drop (omega arith) in
      take-suc (drop base xs) n d k ∙ rw get_or-drop

  pub part_front : (b k : ℕ) (xs : List A) → part b k xs ≡ drop b (take (b + k) xs)
  unfolding part
  part_front b k xs = let e : (b + k) - b ≡ k = omega arith in rw (drop_take b (b + k) xs, e)
