-- Laws of `put`, `shift` and `without`, over lists of any type. Assumes nothing.
use Prim.Native.Nat.{ℕ, suc, ◌+◌, ◌-◌, ◌≤◌, ◌<◌}
use mathlib.Core.Path.{◌≡◌, refl, ◌∙◌}
use mathlib.Core.Logic.{◌⊎◌, inl, inr}
use mathlib.Core.List.{List, [], ◌∷◌, ◌++◌, append-nil, append_assoc}
use native.Mathlib.Omega.{arith}
use lib.ListN.{length, get_or, set, take, drop, replicate, length-append, length-take, length-drop}
use lib.ListN.{length-replicate, take-append-drop}
use lib.Seq.{sets, sets-eq, take_at, drop_at, drop-drop, take-set-le, drop-set-lt, get_or-set_other}
use lib.Seq.{paste, length-take-le}
use Rattle.cases.proofs.ArrayLaws.{sets_append}
use Rattle.machine.specs.View.{part, put, shift, close_gap, without}
use Rattle.machine.proofs.lists.PartLaws.{length_part, drop_part, take_part, part_more, part_front}

module _ {ℓ} {A : Type ℓ} where
  -- sets: what stands there already; what it leaves alone
  sets_same : (xs : List A) (base n : ℕ) → base + n ≤ length xs → sets xs base (part base n xs) ≡ xs
  unfolding part
  sets_same xs base n h =
      let k : length (take n (drop base xs)) ≡ n = simp (length-take, length-drop) (omega arith) in
      sets-eq (take n (drop base xs)) xs base (rw k h)
      ∙ rw (k, append_assoc, ← drop-drop n base xs, take-append-drop n (drop base xs))
      (take-append-drop base xs)

  pub get_or_sets_after : (xs : List A) (i : ℕ) (vs : List A) (j : ℕ) (d : A) → i + length vs ≤ j
      → get_or (sets xs i vs) j d ≡ get_or xs j d
  get_or_sets_after xs i [] j d h = refl
  get_or_sets_after xs i (v ∷ vs) j d h =
      get_or_sets_after (set xs i v) (suc i) vs j d (omega arith) ∙ get_or-set_other xs i j v d (λ e. omega arith)

  take_sets : (k : ℕ) (xs : List A) (i : ℕ) (vs : List A) → k ≤ i → take k (sets xs i vs) ≡ take k xs
  take_sets k xs i [] h = refl
  take_sets k xs i (v ∷ vs) h = take_sets k (set xs i v) (suc i) vs (omega arith) ∙ take-set-le k xs i v h

  drop_sets : (k : ℕ) (xs : List A) (i : ℕ) (vs : List A) → i + length vs ≤ k
      → drop k (sets xs i vs) ≡ drop k xs
  drop_sets k xs i [] h = refl
  drop_sets k xs i (v ∷ vs) h =
      drop_sets k (set xs i v) (suc i) vs (omega arith) ∙ drop-set-lt k xs i v (omega arith)

  -- put: one more at the end
  sets_put : (blank : A) (xs : List A) (base n : ℕ) (q : List A) → n ≤ length q
      → put blank base n q xs ≡ sets xs base q
  unfolding put
  sets_put blank xs base n q h = let z : n - length q ≡ 0 = omega arith in rw (z, append-nil)

  pub put_push : (blank : A) (xs : List A) (base n : ℕ) (x : A) → base + n < length xs
      → put blank base n (part base n xs ++ (x ∷ [])) xs ≡ set xs (base + n) x
  put_push blank xs base n x h =
      let k : length (part base n xs) ≡ n = length_part base n xs (omega arith) in
      sets_put blank xs base n (part base n xs ++ (x ∷ [])) (simp (length-append, k) (omega arith))
      ∙ sets_append xs base (part base n xs) (x ∷ [])
      ∙ rw (sets_same xs base n (omega arith), k)

  -- put: one less, the one at position p; those behind it move down
  pub put_without : (blank : A) (xs : List A) (base n p : ℕ) → p < n → base + n ≤ length xs
      → put blank base n (without p (part base n xs)) xs ≡ close_gap blank (base + p) (base + n) xs
  unfolding put without close_gap shift
  put_without blank xs base n p h k =
      let m : ℕ = n - (p + 1) in
      let lp : length (part base p xs) ≡ p = length_part base p xs (omega arith) in
      let lm : length (part (base + (p + 1)) m xs) ≡ m = length_part (base + (p + 1)) m xs (omega arith) in
      let one : n - (p + m) ≡ 1 = omega arith in
      let e : base + p + m ≡ base + n - 1 = omega arith in
      let f : base + n - (base + p + 1) ≡ m = omega arith in
      let g : base + p + 1 ≡ base + (p + 1) = omega arith in
      rw (
        take_part p base n xs (omega arith),
        drop_part (p + 1) base n xs,
        length-append (part base p xs),
        lp,
        lm,
        one,
        append_assoc (part base p xs),
        sets_append xs base (part base p xs),
        sets_same xs base p (omega arith),
        lp,
        sets_append xs (base + p) (part (base + (p + 1)) m xs),
        lm,
        e,
        f,
        g,
      )
      refl

  -- put: what is there afterwards; what stood before it and behind it
  put_length : (blank : A) (n : ℕ) (q : List A) (m : ℕ) → n ≤ m → length q ≤ m
      → length (q ++ replicate (n - length q) blank) ≤ m
  put_length blank n q m h k = simp (length-append, length-replicate) (omega arith)

  pub part_put_same : (blank : A) (base n : ℕ) (q xs : List A) (m : ℕ) → n ≤ m → length q ≤ m
      → base + m ≤ length xs
      → part base (length q) (put blank base n q xs) ≡ q
  unfolding part put
  part_put_same blank base n q xs m h k r =
      let pad : List A = replicate (n - length q) blank in
      let w : length (q ++ pad) ≤ m = put_length blank n q m h k in
      let e : sets xs base (q ++ pad) ≡ take base xs ++ (q ++ pad) ++ drop (base + length (q ++ pad)) xs
      = sets-eq (q ++ pad) xs base (omega arith) in
      rw (
        e,
        append_assoc (take base xs),
        drop_at (take base xs) ((q ++ pad) ++ drop (base + length (q ++ pad)) xs) base
            (length-take-le base xs (omega arith)),
        append_assoc q pad,
      )
      (take_at q (pad ++ drop (base + length (q ++ pad)) xs) (length q) refl)

  part_put_before : (blank : A) (base n : ℕ) (q xs : List A) (b k : ℕ) → b + k ≤ base
      → part b k (put blank base n q xs) ≡ part b k xs
  unfolding put
  part_put_before blank base n q xs b k h =
      rw (part_front b k xs, part_front b k, take_sets (b + k) xs base (q ++ replicate (n - length q) blank) h)

  part_put_after : (blank : A) (base n : ℕ) (q xs : List A) (b k m : ℕ) → n ≤ m → length q ≤ m → base + m ≤ b
      → part b k (put blank base n q xs) ≡ part b k xs
  unfolding part put
  part_put_after blank base n q xs b k m h r w =
      let y : length (q ++ replicate (n - length q) blank) ≤ m = put_length blank n q m h r in
      rw (drop_sets b xs base (q ++ replicate (n - length q) blank) (omega arith))

  -- the other of two parts that lie apart
  pub part_put_other : (blank : A) (base n : ℕ) (q xs : List A) (b k m : ℕ) → n ≤ m → length q ≤ m
      → (b + k ≤ base) ⊎ (base + m ≤ b)
      → part b k (put blank base n q xs) ≡ part b k xs
  part_put_other blank base n q xs b k m h r (inl w) = part_put_before blank base n q xs b k w
  part_put_other blank base n q xs b k m h r (inr w) = part_put_after blank base n q xs b k m h r w

  -- shift: nothing moved yet; a turn of the loop that moves one more
  pub shift_none : (from : ℕ) (xs : List A) → shift from (from + 1) xs ≡ xs
  unfolding shift part
  shift_none from xs = let z : (from + 1) - (from + 1) ≡ 0 = omega arith in rw z

  pub shift_next : (from i : ℕ) (xs : List A) (d : A) → from < i → i < length xs
      → set (shift from i xs) (i - 1) (get_or (shift from i xs) i d) ≡ shift from (i + 1) xs
  unfolding shift
  shift_next from i xs d h k =
      let n : ℕ = i - (from + 1) in
      let e : (i + 1) - (from + 1) ≡ suc n = omega arith in
      let l : length (part (from + 1) n xs) ≡ n = length_part (from + 1) n xs (omega arith) in
      let w : from + n ≡ i - 1 = omega arith in
      let v : (from + 1) + n ≡ i = omega arith in
      rw (
        get_or_sets_after xs from (part (from + 1) n xs) i d (rw l (omega arith)),
        e,
        part_more (from + 1) n xs d (omega arith),
        sets_append xs from (part (from + 1) n xs),
        l,
        w,
        v,
      )

  -- shift: what the library's `copy_within` leaves
  pub shift_is : (from end : ℕ) (xs : List A) → from < end → end ≤ length xs
      → shift from end xs ≡ paste xs from (drop (from + 1) xs) (end - (from + 1))
  unfolding shift part
  shift_is from end xs h k =
      let n : ℕ = end - (from + 1) in
      let l : length (take n (drop (from + 1) xs)) ≡ n = simp (length-take, length-drop) (omega arith) in
      sets-eq (take n (drop (from + 1) xs)) xs from (rw l (omega arith)) ∙ rw (l, append_assoc)

  -- without: one shorter
  pub length_without : (i : ℕ) (q : List A) → i < length q → suc (length (without i q)) ≡ length q
  unfolding without
  length_without i q h = simp (length-append, length-take, length-drop) (omega arith)
