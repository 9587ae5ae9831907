-- Laws of the way along a chain: every record with the key that is sought is still to be met; and what that
-- says of the keys that are kept. Assumes nothing.
use Prim.Native.Nat.{ℕ, zero, suc, ◌-◌, ◌≤◌, ◌<◌}
use mathlib.Core.Path.{◌≡◌, refl, sym, ap, subst, ◌∙◌}
use mathlib.Core.Logic.{◌⊎◌, inl, inr, ◌≢◌}
use mathlib.Core.Bool.{true, false}
use mathlib.Core.List.{List}
use native.Mathlib.Omega.{arith}
use native.Mathlib.Nat.{eq-or-lt_of_le, le_of_suc-le-suc}
use lib.ListN.{get_or}
use Rattle.cases.proofs.ChoiceLaws.{either_here, either_next, never_both}
use Rattle.search.specs.Remember.{eq_lanes, among}
use Rattle.search.specs.Table.{key_at, place_of, link_of, key_of, keys_in, bucket_of, On, Chained}
use Rattle.search.proofs.recall.AmongLaws.{lanes_equal, equal_lanes, differ_lanes, either_right}

-- among: one of the records has the key; none has
module _ (m : List ℕ) (limit : ℕ) (key : List ℕ) where
  among_some : (count j : ℕ) → j < count → key_of m limit j ≡ key → true ≡ among key (keys_in m limit count)
  unfolding among keys_in
  among_some zero j h e = absurd (omega arith)
  among_some (suc n) j h e = go (eq-or-lt_of_le (le_of_suc-le-suc h)) (among_some n j)
    where
      go : (j ≡ n) ⊎ (j < n) → (j < n → key_of m limit j ≡ key → true ≡ among key (keys_in m limit n))
          → true ≡ among key (keys_in m limit (suc n))
      go (inl q) ih =
          let w : key_of m limit n ≡ key = subst (λ y. key_of m limit y ≡ key) q e in
          either_here _ _ (rw w (equal_lanes key))
      go (inr l) ih = sym (either_right _ _ (sym (ih l e)))

  among_none : (count : ℕ) → ((j : ℕ) → j < count → key_of m limit j ≢ key)
      → false ≡ among key (keys_in m limit count)
  unfolding among keys_in
  among_none zero h = refl
  among_none (suc n) h =
      either_next _ _ _ (differ_lanes key (key_of m limit n) (λ e. h n (omega arith) (sym e)))
      (among_none n (λ j l. h j (omega arith)))

-- x is followed next; every record that holds the key is still to be met
pub record Seeking (m : List ℕ) (limit count : ℕ) (key : List ℕ) (x : ℕ) : Type 0 where
  pub low : x ≤ count
  pub ahead : (j : ℕ) → j < count → key_of m limit j ≡ key → (f : ℕ) × On m limit f x j

module _ {m : List ℕ} {limit count : ℕ} (c : Chained m limit count) where
  -- at the head of the key's bucket every record that holds it is still to be met
  pub seek_start : (key : List ℕ) (b : ℕ) → b < limit → b ≡ bucket_of limit key
      → Seeking m limit count key (get_or m b 0)
  seek_start key b h e =
      record {
        low = c.heads b h;
        ahead =
            λ j l q. subst (λ y. (f : ℕ) × On m limit f (get_or m y 0) j) (ap (bucket_of limit) q ∙ sym e)
            (c.on j l);
      }

  module _ {key : List ℕ} {x : ℕ} (s : Seeking m limit count key x) where
    -- the chain ends: no record holds it
    pub seek_end : x ≡ 0 → false ≡ among key (keys_in m limit count)
    unfolding On
    seek_end e = among_none m limit key count (λ j l q. go j (s.ahead j l q).0 (s.ahead j l q).1)
      where
        go : (j f : ℕ) → On m limit f x j → ⊥
        go j zero o = o
        go j (suc f) o = let z = o.0 in omega arith

    -- at a record: its link is lower
    module _ (h : 0 < x) where
      below : x - 1 < count
      below = let a = s.low in omega arith

      pub seek_falls : get_or m (place_of limit (x - 1)) 0 < x
      unfolding link_of
      seek_falls = let a = c.links (x - 1) below in omega arith

      -- it holds the key; it does not, and the next is followed
      pub seek_here : eq_lanes key (key_at m (place_of limit (x - 1))) ≡ true
          → true ≡ among key (keys_in m limit count)
      unfolding key_of
      seek_here e = among_some m limit key count (x - 1) below (sym (lanes_equal key _ e))

      seek_past : (j : ℕ) → key_of m limit j ≡ key → key_of m limit (x - 1) ≢ key → (f : ℕ) → On m limit f x j
          → (g : ℕ) × On m limit g (link_of m limit (x - 1)) j
      unfolding On
      seek_past j q other zero o = absurd o
      seek_past j q other (suc f) o = pass o.1
        where
          pass : (x ≡ suc j) ⊎ On m limit f (link_of m limit (x - 1)) j
              → (g : ℕ) × On m limit g (link_of m limit (x - 1)) j
          pass (inl e) =
              let z : j ≡ x - 1 = omega arith in
              absurd (other (subst (λ y. key_of m limit y ≡ key) z q))
          pass (inr p) = (f, p)

      pub seek_next : eq_lanes key (key_at m (place_of limit (x - 1))) ≡ false
          → Seeking m limit count key (get_or m (place_of limit (x - 1)) 0)
      unfolding key_of link_of
      seek_next e =
          record {
            low = let a = s.low in let l = seek_falls in omega arith;
            ahead =
                λ j l q. seek_past j q (λ w. never_both (rw w (equal_lanes key)) e) (s.ahead j l q).0
                (s.ahead j l q).1;
          }
