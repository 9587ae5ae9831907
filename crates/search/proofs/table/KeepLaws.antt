-- Laws of a record written behind the others: the chains stand, and the keys are one more. Assumes nothing.
use Prim.Native.Nat.{ℕ, zero, suc, ◌+◌, ◌-◌, ◌≤◌, ◌<◌}
use mathlib.Core.Path.{◌≡◌, refl, sym, ap, subst, ◌∙◌}
use mathlib.Core.Logic.{◌⊎◌, inl, inr, ◌≢◌}
use mathlib.Core.Bool.{Bool, true, false}
use mathlib.Core.List.{List, ◌∷◌}
use native.Mathlib.Omega.{arith}
use native.Mathlib.Nat.{eq-or-lt_of_le, le_of_suc-le-suc}
use borrow.Author.Tests.{eqb-true, eqb-false}
use lib.Dec.{eqb}
use lib.ListN.{length, get_or, set, length-set}
use lib.Seq.{ext_get_or, sets, length-sets}
use Rattle.machine.specs.View.{part}
use Rattle.machine.proofs.lists.PartLaws.{length_part, get_or_part}
use Rattle.search.specs.Sizes.{most_lanes}
use Rattle.search.specs.Table.{key_at, place_of, link_of, key_of, keys_in, bucket_of, On, Chained}
use Rattle.search.proofs.table.CopyLaws.{Written, written}

-- part: of a list that holds n there; of two that hold the same there
part_is : (base n : ℕ) (xs ys : List ℕ) → base + n ≤ length xs → length ys ≡ n
    → ((i : ℕ) → i < n → get_or xs (base + i) 0 ≡ get_or ys i 0)
    → part base n xs ≡ ys
part_is base n xs ys h k e =
    let w = length_part base n xs h in
    ext_get_or 0 (part base n xs) ys (w ∙ sym k)
    (λ i l. let q : i < n = subst (λ y. i < y) w l in get_or_part base n i xs 0 q ∙ e i q)

part_agrees : (base n : ℕ) (xs ys : List ℕ) → base + n ≤ length xs → base + n ≤ length ys
    → ((i : ℕ) → i < n → get_or xs (base + i) 0 ≡ get_or ys (base + i) 0)
    → part base n xs ≡ part base n ys
part_agrees base n xs ys h k e =
    part_is base n xs (part base n ys) h (length_part base n ys k)
    (λ i q. e i q ∙ sym (get_or_part base n i ys 0 q))

-- of two numbers: they are the same, or they are not
same_or : (i b : ℕ) → (i ≡ b) ⊎ (i ≢ b)
same_or i b = go (eqb i b) refl
  where
    go : (t : Bool) → eqb i b ≡ t → (i ≡ b) ⊎ (i ≢ b)
    go true e = inl (eqb-true i b e)
    go false e = inr (eqb-false i b e)

module _ {m last : List ℕ} {limit count b : ℕ} {key : List ℕ} (c : Chained m limit count)
    (w : Written m last limit count b key) (room : count < limit) (low : b < limit)
    (small : length key ≤ most_lanes) where
  apart : (i : ℕ) → limit ≤ i → i ≢ b
  apart i h e = omega arith

  -- an old record: its link, its size, its key; the new record's link and key
  link_old : (j : ℕ) → j < count → link_of last limit j ≡ link_of m limit j
  unfolding link_of
  link_old j h = w.others (place_of limit j) (apart (place_of limit j) (omega arith)) (omega arith)

  size_old : (j : ℕ) → j < count → get_or last (place_of limit j + 1) 0 ≡ get_or m (place_of limit j + 1) 0
  size_old j h = w.others (place_of limit j + 1) (apart (place_of limit j + 1) (omega arith)) (omega arith)

  key_old : (j : ℕ) → j < count → key_of last limit j ≡ key_of m limit j
  unfolding key_of key_at
  key_old j h =
      let s = c.sizes j h in
      let l = c.long in
      let n = w.long in
      let at : ℕ = place_of limit j + 2 in
      let size : ℕ = get_or m (place_of limit j + 1) 0 in
      ap (λ y. part at y last) (size_old j h)
      ∙ part_agrees at size last m (omega arith) (omega arith)
      (λ i q. w.others (at + i) (apart (at + i) (omega arith)) (omega arith))

  link_new : link_of last limit count ≡ get_or m b 0
  unfolding link_of
  link_new = w.link

  key_new : key_of last limit count ≡ key
  unfolding key_of key_at
  key_new =
      let l = c.long in
      let n = w.long in
      let at : ℕ = place_of limit count + 2 in
      ap (λ y. part at y last) w.size ∙ part_is at (length key) last key (omega arith) refl w.lanes

  -- the keys are one more
  keys_old : (n : ℕ) → n ≤ count → keys_in last limit n ≡ keys_in m limit n
  unfolding keys_in
  keys_old zero h = refl
  keys_old (suc n) h = rw (key_old n h, keys_old n (omega arith))

  pub kept_keys : keys_in last limit (suc count) ≡ key ∷ keys_in m limit count
  unfolding keys_in
  kept_keys = rw (key_new, keys_old count (omega arith))

  -- On: what was on a chain is on it still, from a link or from a head
  on_old : (f x j : ℕ) → x ≤ count → On m limit f x j → On last limit f x j
  unfolding On
  on_old zero x j h o = o
  on_old (suc f) x j h o = (o.0, go o.1 (on_old f (link_of m limit (x - 1)) j))
    where
      go : (x ≡ suc j) ⊎ On m limit f (link_of m limit (x - 1)) j
          → (link_of m limit (x - 1) ≤ count → On m limit f (link_of m limit (x - 1)) j
          → On last limit f (link_of m limit (x - 1)) j)
          → (x ≡ suc j) ⊎ On last limit f (link_of last limit (x - 1)) j
      go (inl e) ih = inl e
      go (inr p) ih =
          let z = o.0 in
          let k : x - 1 < count = omega arith in
          let a = c.links (x - 1) k in
          inr (subst (λ y. On last limit f y j) (sym (link_old (x - 1) k)) (ih (omega arith) p))

  -- On: behind the new record, which is now first on the chain
  on_behind : (f j : ℕ) → On last limit f (get_or m b 0) j → On last limit (suc f) (get_or last b 0) j
  unfolding On link_of
  on_behind f j o =
      let back : count ≡ suc count - 1 = omega arith in
      let behind = subst (λ y. On last limit f y j) (sym w.link) o in
      subst (λ y. On last limit (suc f) y j) (sym w.head)
      (omega arith, inr (subst (λ y. On last limit f (link_of last limit y) j) back behind))

  on_head : (h j : ℕ) → h < limit → ((f : ℕ) × On m limit f (get_or m h 0) j)
      → (f : ℕ) × On last limit f (get_or last h 0) j
  on_head h j k o = go (same_or h b)
    where
      kept : On last limit o.0 (get_or m h 0) j
      kept = on_old o.0 (get_or m h 0) j (c.heads h k) o.1

      go : (h ≡ b) ⊎ (h ≢ b) → (f : ℕ) × On last limit f (get_or last h 0) j
      go (inl e) = (
        suc o.0,
        subst (λ y. On last limit (suc o.0) (get_or last y 0) j) (sym e)
            (on_behind o.0 j (subst (λ y. On last limit o.0 (get_or m y 0) j) e kept)),
      )
      go (inr e) =
          let same = w.others h e (let z = k in omega (arith, z)) in
          (o.0, subst (λ y. On last limit o.0 y j) (sym same) kept)

  on_new : On last limit 1 (get_or last b 0) count
  unfolding On
  on_new = subst (λ y. On last limit 1 y count) (sym w.head) (omega arith, inl refl)

  -- what holds of each old record and of the new one holds of all
  each : {P : ℕ → Type 0} → ((j : ℕ) → j < count → P j) → P count → (j : ℕ) → j < suc count → P j
  each {P} old new j h = go (eq-or-lt_of_le (le_of_suc-le-suc h))
    where
      go : (j ≡ count) ⊎ (j < count) → P j
      go (inl e) = subst P (sym e) new
      go (inr l) = old j l

  pub kept_chained : b ≡ bucket_of limit key → Chained last limit (suc count)
  kept_chained e =
      record {
        few = room;
        long = let n = w.long in let l = c.long in omega arith;
        links = each links_old links_new;
        sizes = each sizes_old sizes_new;
        heads = λ i h. heads_new i h (same_or i b);
        low = each low_old low_new;
        on = each on_kept on_added;
      }
    where
      links_old : (j : ℕ) → j < count → link_of last limit j ≤ j
      links_old j h = let a = c.links j h in let q = link_old j h in omega arith

      links_new : link_of last limit count ≤ count
      links_new = subst (λ y. y ≤ count) (sym link_new) (c.heads b low)

      sizes_old : (j : ℕ) → j < count → get_or last (place_of limit j + 1) 0 ≤ most_lanes
      sizes_old j h = let a = c.sizes j h in let q = size_old j h in omega arith

      sizes_new : get_or last (place_of limit count + 1) 0 ≤ most_lanes
      sizes_new = let s = w.size in omega arith

      heads_new : (i : ℕ) → i < limit → (i ≡ b) ⊎ (i ≢ b) → get_or last i 0 ≤ suc count
      heads_new i h (inl q) =
          subst (λ y. get_or last y 0 ≤ suc count) (sym q) (let s = w.head in omega arith)
      heads_new i h (inr q) = let a = c.heads i h in let s = w.others i q (omega arith) in omega arith

      low_old : (j : ℕ) → j < count → bucket_of limit (key_of last limit j) < limit
      low_old j h = subst (λ y. bucket_of limit y < limit) (sym (key_old j h)) (c.low j h)

      low_new : bucket_of limit (key_of last limit count) < limit
      low_new = subst (λ y. y < limit) (e ∙ ap (bucket_of limit) (sym key_new)) low

      on_kept : (j : ℕ) → j < count
          → (f : ℕ) × On last limit f (get_or last (bucket_of limit (key_of last limit j)) 0) j
      on_kept j h =
          subst (λ y. (f : ℕ) × On last limit f (get_or last (bucket_of limit y) 0) j) (sym (key_old j h))
          (on_head (bucket_of limit (key_of m limit j)) j (c.low j h) (c.on j h))

      on_added : (f : ℕ) × On last limit f (get_or last (bucket_of limit (key_of last limit count)) 0) count
      on_added =
          (1, subst (λ y. On last limit 1 (get_or last y 0) count) (e ∙ ap (bucket_of limit) (sym key_new)) on_new)

-- the stores of `keep`, whose lanes are copied by `copy`
module _ (m key : List ℕ) (limit count b : ℕ) (c : Chained m limit count) (room : count < limit)
    (low : b < limit) (e : b ≡ bucket_of limit key) (few : length key ≤ most_lanes) (copied : List ℕ)
    (k : copied
    ≡ sets (set (set m (place_of limit count) (get_or m b 0)) (place_of limit count + 1) (length key))
    (place_of limit count + 2) key) where
  stored : Written m (set copied b (count + 1)) limit count b key
  stored = rw k (written m key limit count b c.long room low few)

  pub kept_length : length (set copied b (count + 1)) ≡ length m
  kept_length = stored.long

  pub kept_within : b < length copied
  kept_within =
      let l = c.long in
      rw k (simp (length-sets, length-set) (omega arith))

  pub kept : Chained (set copied b (count + 1)) limit (suc count)
      × (keys_in (set copied b (count + 1)) limit (suc count) ≡ key ∷ keys_in m limit count)
  kept = (kept_chained c stored room low few e, kept_keys c stored room low few)
