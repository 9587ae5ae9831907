-- The walk over any machine that can be walked stands in the stated order, each run once. Assumes nothing.
use Prim.Native.Nat.{ℕ, zero, suc}
use mathlib.Core.Path.{◌≡◌, refl, sym, ap, subst, ◌∙◌}
use mathlib.Core.Logic.{◌⊎◌, inl, inr, ◌≢◌}
use mathlib.Core.List.{List, [], ◌∷◌, ◌++◌, map}
use native.Mathlib.Omega.{arith}
use Rattle.machine.specs.Model.{Listed, Ascending}
use Rattle.search.specs.Walk.{Machine, Visit, under, starting, walk, Walkable, Before, InOrder}
use Rattle.machine.proofs.lists.ListedLaws.{listed_right, listed_either}
use Rattle.search.proofs.walk.WalkLaws.{on_under, on_starting}

module _ {S K : Type 0} (rank : K → ℕ) where
  -- one list behind another, each run of the first before each of the second
  order_append : (xs ys : List (Visit S K)) → InOrder rank xs → InOrder rank ys
      → ((v w : Visit S K) → Listed v xs → Listed w ys → Before rank v.run w.run)
      → InOrder rank (xs ++ ys)
  unfolding InOrder Listed
  order_append [] ys a b f = b
  order_append (v ∷ xs) ys a b f = (
    (λ w h. go w (listed_either w xs ys h)),
    order_append xs ys a.1 b (λ x y h k. f x y (inr h) k),
  )
    where
      go : (w : Visit S K) → Listed w xs ⊎ Listed w ys → Before rank v.run w.run
      go w (inl h) = a.0 w h
      go w (inr h) = f v w (inl refl) h

  -- a step before each
  order_under : (k : K) (vs : List (Visit S K)) → InOrder rank vs → InOrder rank (map (under k) vs)
  unfolding InOrder Before
  order_under k [] a = tt
  order_under k (v ∷ vs) a = (
    (λ w h. let r = on_under k w vs h in
        subst (λ x. Before rank (k ∷ v.run) x.run) (sym r.2) (inr (refl, a.0 r.0 r.1))),
    order_under k vs a.1,
  )

  module _ (m : Machine S K) (below : S → List (Visit S K)) (s : S) where
    order_starting : (ks : List K) → Ascending rank ks
        → ((k : K) → Listed k ks → InOrder rank (below (m.after s k)))
        → InOrder rank (starting m below s ks)
    unfolding starting Listed Ascending Before
    order_starting [] a f = unfold InOrder in tt
    order_starting (k ∷ ks) a f =
        order_append (map (under k) (below (m.after s k))) (starting m below s ks)
        (order_under k (below (m.after s k)) (f k (inl refl)))
        (order_starting ks a.1 (λ j h. f j (inr h)))
        (λ v w h g.
        let x = on_under k v (below (m.after s k)) h in
        let y = on_starting m below s w ks g in
        subst (λ z. Before rank z.run w.run) (sym x.2)
        (subst (λ z. Before rank (k ∷ x.0.run) z.run) (sym y.4) (inl (a.0 y.0 y.2))))

  pub walk_in_order : (m : Machine S K) {Fit : S → Type 0} {left : S → ℕ} → Walkable m Fit left rank
      → (n : ℕ) (s : S) → Fit s → InOrder rank (walk m n s)
  unfolding walk InOrder Before
  walk_in_order m laws zero s f = tt
  walk_in_order m laws (suc n) s f = (
    (λ w h. let r = on_starting m (walk m n) s w (m.nexts s) h in
        subst (λ x. Before rank [] x.run) (sym r.4) tt),
    order_starting m (walk m n) s (m.nexts s) (laws.rises s f)
        (λ k h. walk_in_order m laws n (m.after s k) (laws.keeps s f k h)),
  )

-- a run does not come before itself: so a list in order has each run once
pub before_other : {K : Type 0} (rank : K → ℕ) (ks : List K) → Before rank ks ks → ⊥
unfolding Before
before_other rank [] h = h
before_other rank (k ∷ ks) (inl h) = omega arith
before_other rank (k ∷ ks) (inr h) = before_other rank ks h.1

-- of two parts of such a list, no run of the one is a run of the other
pub order_once : {S K : Type 0} (rank : K → ℕ) (xs ys : List (Visit S K)) → InOrder rank (xs ++ ys)
    → (v w : Visit S K) → Listed v xs → Listed w ys → v.run ≢ w.run
unfolding InOrder Listed
order_once rank [] ys a v w h k e = absurd h
order_once rank (x ∷ xs) ys a v w (inl h) k e =
    let b = a.0 w (listed_right w xs ys k) in
    before_other rank w.run
    (subst (λ r. Before rank r w.run) (sym (ap (λ (y : Visit _ _). y.run) h) ∙ e) b)
order_once rank (x ∷ xs) ys a v w (inr h) k e = order_once rank xs ys a.1 v w h k e

-- of two runs not each comes before the other: so a list in order is known by what is on it
before_one : {K : Type 0} (rank : K → ℕ) (js ks : List K) → Before rank js ks → Before rank ks js → ⊥
unfolding Before
before_one rank [] [] h g = h
before_one rank [] (k ∷ ks) h g = g
before_one rank (j ∷ js) [] h g = h
before_one rank (j ∷ js) (k ∷ ks) (inl h) (inl g) = omega arith
before_one rank (j ∷ js) (k ∷ ks) (inl h) (inr g) = let e = ap rank g.0 in omega arith
before_one rank (j ∷ js) (k ∷ ks) (inr h) (inl g) = let e = ap rank h.0 in omega arith
before_one rank (j ∷ js) (k ∷ ks) (inr h) (inr g) = before_one rank js ks h.1 g.1

module _ {S K : Type 0} (rank : K → ℕ) where
  -- what is on one list is on the other, but for their first, which is the same
  only_rest : (v w : Visit S K) (xs ys : List (Visit S K)) → InOrder rank (v ∷ xs) → v ≡ w
      → ((u : Visit S K) → Listed u (v ∷ xs) → Listed u (w ∷ ys))
      → (u : Visit S K) → Listed u xs → Listed u ys
  unfolding InOrder Listed
  only_rest v w xs ys a same f u h = go (f u (inr h))
    where
      go : (u ≡ w) ⊎ Listed u ys → Listed u ys
      go (inl e) =
          absurd (before_other rank v.run
          (subst (λ (x : Visit S K). Before rank v.run x.run) (e ∙ sym same) (a.0 u h)))
      go (inr k) = k

  pub order_only : (xs ys : List (Visit S K)) → InOrder rank xs → InOrder rank ys
      → ((u : Visit S K) → Listed u xs → Listed u ys)
      → ((u : Visit S K) → Listed u ys → Listed u xs)
      → xs ≡ ys
  unfolding InOrder Listed
  order_only [] [] a b f g = refl
  order_only [] (w ∷ ys) a b f g = absurd (g w (inl refl))
  order_only (v ∷ xs) [] a b f g = absurd (f v (inl refl))
  order_only (v ∷ xs) (w ∷ ys) a b f g =
      let same = go (f v (inl refl)) (g w (inl refl)) in
      let rest = order_only xs ys a.1 b.1 (only_rest v w xs ys a same f)
      (only_rest w v ys xs b (sym same) g) in
      λ i. same i ∷ rest i
    where
      go : (v ≡ w) ⊎ Listed v ys → (w ≡ v) ⊎ Listed w xs → v ≡ w
      go (inl e) k = e
      go (inr h) (inl e) = sym e
      go (inr h) (inr k) = absurd (before_one rank w.run v.run (b.0 v h) (a.0 w k))
