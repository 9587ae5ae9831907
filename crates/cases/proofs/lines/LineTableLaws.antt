-- Laws of `table` and `own_lines`: a number for each location that there may be. Assumes nothing.
use Prim.Native.Nat.{ℕ, zero, suc, ◌+◌, ◌<◌, ◌≤◌}
use mathlib.Core.Path.{◌≡◌, refl, sym, ap, ◌∙◌}
use mathlib.Core.List.{List, ◌++◌}
use mathlib.Core.Bool.{Bool, true, false}
use lib.ListN.{length, get_or, set, take, drop, replicate, length-set, length-take, length-replicate, take-append-drop}
use Rattle.std.proofs.lemmas.List.{set-append_left}
use lib.Seq.{length-take-le, get_or-set_same, get_or-set_other, get_or-take, set_out, ext_get_or}
use lib.Dec.{eqb, ltb}
use borrow.Author.Tests.{eqb-true, eqb-false, ltb-true, ltb-false}
use native.Mathlib.Numerals.{add-one}
use native.Mathlib.Omega.{arith}
use Rattle.cases.specs.Sizes.{most_locations}
use Rattle.cases.specs.Lines.{table, own_lines}
use Rattle.cases.proofs.ArrayLaws.{get_or_blank}

abbrev zeros : List ℕ
zeros = replicate most_locations 0

-- table: how long it is; what stands below n, and behind
module _ (f : ℕ → ℕ) where
  pub table_long : (n : ℕ) → length (table f n) ≡ most_locations
  unfolding table
  table_long zero = refl
  table_long (suc n) = simp length-set (table_long n)

  pub table_below : (n l : ℕ) → n ≤ most_locations → l < n → get_or (table f n) l 0 ≡ f l
  unfolding table
  table_below zero l m h = absurd (omega arith)
  table_below (suc n) l m h = go (eqb l n) refl (table_below n l (omega arith))
    where
      go : (b : Bool) → eqb l n ≡ b → (l < n → get_or (table f n) l 0 ≡ f l) → get_or (set (table f n) n (f n)) l 0 ≡ f l
      go true e below =
          rw (eqb-true l n e) (get_or-set_same (table f n) n (f n) 0 (omega (arith, table_long n)))
      go false e below =
          let other = eqb-false l n e in
          get_or-set_other (table f n) n l (f n) 0 other ∙ below (omega arith)

  pub table_behind : (n l : ℕ) → n ≤ l → get_or (table f n) l 0 ≡ 0
  unfolding table
  table_behind zero l h = get_or_blank {A = ℕ} most_locations l 0
  table_behind (suc n) l h =
      get_or-set_other (table f n) n l (f n) 0 (λ e. omega arith) ∙ table_behind n l (omega arith)

  -- a loop that makes it: one more
  pub table_next : (line : List ℕ) (l x : ℕ) → line ≡ table f l → x ≡ f l → set line l x ≡ table f (l + 1)
  unfolding table
  table_next line l x e h = rw (e, h, add-one l)

  -- a loop over the first n elements of an array of zeros: nothing yet; one more; all
  pub table_start : (n : ℕ) → take n zeros ++ drop n zeros ≡ table f 0
  unfolding table
  table_start n = take-append-drop n zeros

  pub table_front_next : (items rest : List ℕ) (l x : ℕ) → items ++ rest ≡ table f l → l < length items → x ≡ f l
      → set items l x ++ rest ≡ table f (l + 1)
  table_front_next items rest l x e low h =
      sym (set-append_left items rest l x low) ∙ table_next (items ++ rest) l x e h

  pub table_all : (items rest : List ℕ) (l n : ℕ) → items ++ rest ≡ table f l → l ≤ length items → n ≤ most_locations
      → length items ≡ length (take n zeros)
      → length (take n zeros) ≤ l
      → items ++ rest ≡ table f n
  table_all items rest l n e low few long past =
      let whole = length-take n zeros in
      let size = length-replicate {A = ℕ} most_locations 0 in
      let same : l ≡ n = omega arith in
      e ∙ ap (table f) same

  -- its front, where a list has the same elements there
  pub table_front : (n : ℕ) (xs : List ℕ) → n ≤ most_locations → n ≤ length xs
      → ((i : ℕ) → i < n → get_or xs i 0 ≡ f i)
      → take n (table f n) ≡ take n xs
  table_front n xs few long same =
      let a = length-take-le n (table f n) (omega (arith, table_long n)) in
      let b = length-take-le n xs long in
      ext_get_or 0 (take n (table f n)) (take n xs) (omega arith) (λ i h.
      let low : i < n = omega arith in
      get_or-take n (table f n) i 0 low ∙ table_below n i few low ∙ sym (get_or-take n xs i 0 low ∙ same i low))

-- it is made of what f says of the locations that there may be
pub table_same : (f g : ℕ → ℕ) (n : ℕ) → ((l : ℕ) → l < most_locations → l < n → f l ≡ g l) → table f n ≡ table g n
unfolding table
table_same f g zero h = refl
table_same f g (suc n) h = go (ltb n most_locations) refl (table_same f g n (λ l a b. h l a (omega arith)))
  where
    go : (b : Bool) → ltb n most_locations ≡ b → table f n ≡ table g n → set (table f n) n (f n) ≡ set (table g n) n (g n)
    go true e r = rw (r, h n (ltb-true n most_locations e) (omega arith))
    go false e r =
        let out = ltb-false n most_locations e in
        set_out (table f n) n (f n) (omega (arith, table_long f n))
        ∙ r
        ∙ sym (set_out (table g n) n (g n) (omega (arith, table_long g n)))

-- one that is 0 everywhere is blank
pub table_blank : (xs : List ℕ) → length xs ≡ most_locations → ((l : ℕ) → get_or xs l 0 ≡ 0)
    → xs ≡ replicate most_locations 0
table_blank xs long none =
    ext_get_or 0 xs (replicate most_locations 0) (long ∙ sym (length-replicate {A = ℕ} most_locations 0))
    (λ i h. none i ∙ sym (get_or_blank {A = ℕ} most_locations i 0))

-- a line each: every location lies on a line that there is
pub own_low : (n l : ℕ) → 1 ≤ n → n ≤ most_locations → get_or (own_lines n) l 0 < n
unfolding own_lines
own_low n l some few = go (ltb l n) refl
  where
    go : (b : Bool) → ltb l n ≡ b → get_or (table (λ i. i) n) l 0 < n
    go true e = omega (arith, table_below (λ i. i) n l few (ltb-true l n e), ltb-true l n e)
    go false e = omega (arith, table_behind (λ i. i) n l (ltb-false l n e))
