-- Laws of entries as lanes: each has two, and `spread` puts those of a list one behind the other. Assumes nothing.
use Prim.Native.Nat.{ℕ, zero, suc, ◌+◌, ◌*◌, ◌<◌}
use mathlib.Core.Path.{◌≡◌, refl, sym, ap, ◌∙◌}
use mathlib.Core.List.{List, [], ◌∷◌, ◌++◌, append_assoc}
use native.Mathlib.Omega.{arith}
use lib.ListN.{length, get_or, take, drop, length-append, get_or-append}
use lib.Seq.{get_or-append-add, take-nil, drop-nil, take-append-add, drop-append-add}
use Rattle.machine.specs.declared.cells.Waiting.{Waiting}
use Rattle.machine.specs.declared.cells.Entry.{Entry}
use Rattle.machine.specs.declared.cells.Entry.TheVariants.{Store, Flush, FlushOpt, Sfence}
use Rattle.machine.specs.View.{Slot, without}
use Rattle.search.specs.Lanes.{spread, entry_lanes, waiting_lanes, slot_lanes}

-- an entry's two lanes; as many of one that waits, and of a slot
pub entry_pair : (e : Entry) → entry_lanes e ≡ get_or (entry_lanes e) 0 0 ∷ get_or (entry_lanes e) 1 0 ∷ []
unfolding entry_lanes
entry_pair (Store w) = refl
entry_pair (Flush l) = refl
entry_pair (FlushOpt l) = refl
entry_pair Sfence = refl

pub waiting_two : (w : Waiting) → length (waiting_lanes w) ≡ 2
unfolding waiting_lanes
waiting_two w = ap length (entry_pair w.entry)

pub slot_two : (h : Slot) → length (slot_lanes h) ≡ 2
unfolding slot_lanes
slot_two h = refl

-- of one list behind another
pub spread_append : {A : Type 0} (f : A → List ℕ) (xs ys : List A)
    → spread f (xs ++ ys) ≡ spread f xs ++ spread f ys
unfolding spread
spread_append f [] ys = refl
spread_append f (x ∷ xs) ys = rw (spread_append f xs ys) (sym (append_assoc (f x) (spread f xs) (spread f ys)))

-- entries of two lanes each
module _ {A : Type 0} (f : A → List ℕ) (two : (a : A) → length (f a) ≡ 2) where
  -- how many; lane j of entry i
  pub length_spread : (xs : List A) → length (spread f xs) ≡ 2 * length xs
  unfolding spread
  length_spread [] = refl
  length_spread (x ∷ xs) =
      let a = length-append (f x) (spread f xs) in
      let b = length_spread xs in
      let c = two x in
      omega arith

  pub get_spread : (xs : List A) (i j : ℕ) (d : A) → i < length xs → j < 2
      → get_or (spread f xs) (2 * i + j) 0 ≡ get_or (f (get_or xs i d)) j 0
  unfolding spread
  get_spread [] i j d h l = absurd (omega arith)
  get_spread (x ∷ xs) zero j d h l =
      let c = two x in
      let e : 2 * 0 + j ≡ j = omega arith in
      ap (λ n. get_or (f x ++ spread f xs) n 0) e ∙ get_or-append (f x) (spread f xs) 0 j (omega arith)
  get_spread (x ∷ xs) (suc i) j d h l =
      let c = two x in
      let e : 2 * suc i + j ≡ length (f x) + (2 * i + j) = omega arith in
      ap (λ n. get_or (f x ++ spread f xs) n 0) e
      ∙ get_or-append-add (f x) (spread f xs) (2 * i + j) 0
      ∙ get_spread xs i j d (omega arith) l

  -- the first n; those behind; all but one
  spread_take : (n : ℕ) (xs : List A) → take (2 * n) (spread f xs) ≡ spread f (take n xs)
  unfolding spread
  spread_take zero xs = refl
  spread_take (suc n) [] = take-nil (2 * suc n)
  spread_take (suc n) (x ∷ xs) =
      let e : 2 * suc n ≡ length (f x) + 2 * n = (let c = two x in omega arith) in
      ap (λ m. take m (f x ++ spread f xs)) e ∙ take-append-add (f x) (spread f xs) (2 * n) ∙ rw (spread_take n xs)

  spread_drop : (n : ℕ) (xs : List A) → drop (2 * n) (spread f xs) ≡ spread f (drop n xs)
  unfolding spread
  spread_drop zero xs = refl
  spread_drop (suc n) [] = drop-nil (2 * suc n)
  spread_drop (suc n) (x ∷ xs) =
      let e : 2 * suc n ≡ length (f x) + 2 * n = (let c = two x in omega arith) in
      ap (λ m. drop m (f x ++ spread f xs)) e ∙ drop-append-add (f x) (spread f xs) (2 * n) ∙ spread_drop n xs

  pub spread_without : (i : ℕ) (xs : List A)
      → take (2 * i) (spread f xs) ++ drop (2 * i + 2) (spread f xs) ≡ spread f (without i xs)
  unfolding without
  spread_without i xs =
      let e : 2 * i + 2 ≡ 2 * (i + 1) = omega arith in
      rw (e, spread_take i xs, spread_drop (i + 1) xs) (sym (spread_append f (take i xs) (drop (i + 1) xs)))
