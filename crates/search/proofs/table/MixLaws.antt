-- Laws of the bucket of a key: the loop that mixes its lanes, and that the bucket is one of those there are.
-- Assumes nothing.
use Prim.Native.Nat.{ℕ, ◌+◌, ◌%◌, ◌≤◌, ◌<◌}
use mathlib.Core.Path.{◌≡◌, refl, sym, ap, ◌∙◌}
use mathlib.Core.List.{List}
use native.Mathlib.Nat.{mod-lt}
use native.Mathlib.Numerals.{add-one}
use lib.ListN.{length, get_or, drop, drop_of_length-le}
use lib.Seq.{drop-cons}
use Rattle.search.specs.Table.{folded, half, mixed, mix_from, bucket_of}

-- a loop has mixed in the first i lanes of a key
pub record MixedSoFar (key : List ℕ) (a b c d i : ℕ) : Type 0 where
  pub rest : mix_from a b c d (drop i key) ≡ mix_from 0 1 2 3 key

-- one lane more; all of them
module _ {key : List ℕ} {a b c d i : ℕ} (o : MixedSoFar key a b c d i) where
  pub mixed_next : i < length key → (more : ℕ) → more ≡ mixed a (get_or key i 0)
      → MixedSoFar key b c d more (i + 1)
  unfolding mix_from
  mixed_next l more e =
      record {
        rest =
            ap (λ y. mix_from b c d y (drop (i + 1) key)) e
            ∙ sym (rw (drop-cons key i 0 l, add-one) refl)
            ∙ o.rest;
      }

  -- x, y and z are what b, c and d fold to; f, g and h what a is with each of them mixed in
  pub mixed_end : length key ≤ i → (x y z f g h last : ℕ) → x ≡ folded b % half → f ≡ mixed a x
      → y ≡ folded c % half → g ≡ mixed f y
      → z ≡ folded d % half → h ≡ mixed g z
      → last ≡ folded h % half
      → (limit : ℕ) → 0 < limit
      → (last % limit ≡ bucket_of limit key) × (last % limit < limit)
  unfolding mix_from bucket_of
  mixed_end l x y z f g h last x_is f_is y_is g_is z_is h_is last_is limit some =
      let e : mixed (mixed (mixed a (folded b % half)) (folded c % half)) (folded d % half)
      ≡ mix_from 0 1 2 3 key = rw (drop_of_length-le key {i = i} l) at o.rest in
      let w : h ≡ mix_from 0 1 2 3 key =
      h_is ∙ (λ j. mixed ((g_is ∙ (λ k. mixed ((f_is ∙ ap (mixed a) x_is) k) (y_is k))) j) (z_is j)) ∙ e in
      (ap (λ u. u % limit) (last_is ∙ ap (λ u. folded u % half) w), mod-lt last some)
