-- The walk over any machine lists exactly the runs of its next steps, of fewer steps than it counts down from;
-- from above the work left on it is one list. Assumes nothing.
use Prim.Native.Nat.{ℕ, zero, suc, ◌+◌, ◌<◌, ◌≤◌}
use mathlib.Core.Path.{◌≡◌, refl, sym, ap, subst}
use mathlib.Core.Logic.{◌⊎◌, inl, inr}
use mathlib.Core.List.{List, [], ◌∷◌, ◌++◌, map}
use lib.ListN.{length}
use native.Mathlib.Omega.{arith}
use Rattle.machine.specs.Model.{Listed}
use Rattle.search.specs.Walk.{Machine, Visit, here, under, starting, walk, Runs, Walkable}
use Rattle.machine.proofs.lists.ListedLaws.{listed_left, listed_right, listed_either}

module _ {S K : Type 0} where
  -- a step before each of some runs
  pub under_on : (k : K) (v : Visit S K) (vs : List (Visit S K)) → Listed v vs
      → Listed (under k v) (map (under k) vs)
  unfolding Listed
  under_on k v [] h = absurd h
  under_on k v (w ∷ vs) (inl e) = inl (ap (under k) e)
  under_on k v (w ∷ vs) (inr h) = inr (under_on k v vs h)

  pub on_under : (k : K) (w : Visit S K) (vs : List (Visit S K)) → Listed w (map (under k) vs)
      → (v : Visit S K) × Listed v vs × (w ≡ under k v)
  unfolding Listed
  on_under k w [] h = absurd h
  on_under k w (v ∷ vs) (inl e) = (v, inl refl, e)
  on_under k w (v ∷ vs) (inr h) = let r = on_under k w vs h in (r.0, inr r.1, r.2)

module _ {S K : Type 0} (m : Machine S K) where
  module _ (below : S → List (Visit S K)) (s : S) where
    -- what starts with one of the steps: a step of them, and a run that follows it
    pub starting_on : (k : K) (v : Visit S K) (ks : List K) → Listed k ks → Listed v (below (m.after s k))
        → Listed (under k v) (starting m below s ks)
    unfolding Listed starting
    starting_on k v [] h r = absurd h
    starting_on k v (j ∷ ks) (inl e) r =
        subst (λ i. Listed (under k v) (map (under i) (below (m.after s i)) ++ starting m below s ks)) e
        (listed_left (under k v) (map (under k) (below (m.after s k))) (starting m below s ks)
        (under_on k v (below (m.after s k)) r))
    starting_on k v (j ∷ ks) (inr h) r =
        listed_right (under k v) (map (under j) (below (m.after s j))) (starting m below s ks)
        (starting_on k v ks h r)

    pub on_starting : (w : Visit S K) (ks : List K) → Listed w (starting m below s ks)
        → (k : K) × (v : Visit S K) × Listed k ks × Listed v (below (m.after s k)) × (w ≡ under k v)
    unfolding Listed starting
    on_starting w [] h = absurd h
    on_starting w (k ∷ ks) h =
        go (listed_either w (map (under k) (below (m.after s k))) (starting m below s ks) h) (on_starting w ks)
      where
        Of : List K → Type 0
        Of js = (j : K) × (v : Visit S K) × Listed j js × Listed v (below (m.after s j)) × (w ≡ under j v)

        go : Listed w (map (under k) (below (m.after s k))) ⊎ Listed w (starting m below s ks)
            → (Listed w (starting m below s ks) → Of ks)
            → Of (k ∷ ks)
        go (inl a) ih = let r = on_under k w (below (m.after s k)) a in (k, r.0, inl refl, r.1, r.2)
        go (inr a) ih = let r = ih a in (r.0, r.1, inr r.2, r.3, r.4)

  -- every run on the walk is one of next steps
  pub walk_runs : (n : ℕ) (s : S) (v : Visit S K) → Listed v (walk m n s) → Runs m s v.run v.end
  unfolding walk Listed Runs
  walk_runs zero s v h = absurd h
  walk_runs (suc n) s v (inl e) = subst (λ w. Runs m s w.run w.end) (sym e) refl
  walk_runs (suc n) s v (inr h) =
      let r = on_starting (walk m n) s v (m.nexts s) h in
      let d = walk_runs n (m.after s r.0) r.1 r.3 in
      subst (λ w. Runs m s w.run w.end) (sym r.4) (r.2, d)

  -- and every such run is on it, where it counts from above the run's length
  pub runs_walk : (n : ℕ) (s : S) (ks : List K) (u : S) → Runs m s ks u → length ks < n
      → Listed (record { run = ks; end = u }) (walk m n s)
  unfolding walk Listed Runs
  runs_walk zero s ks u r h = absurd (omega arith)
  runs_walk (suc n) s [] u r h = inl (ap here (sym r))
  runs_walk (suc n) s (k ∷ ks) u r h =
      inr (starting_on (walk m n) s k _ (m.nexts s) r.0
      (runs_walk n (m.after s k) ks u r.1 (omega arith)))

  -- what starts with one of some steps depends on what follows those alone
  starting_same : (f g : S → List (Visit S K)) (s : S) (ks : List K)
      → ((k : K) → Listed k ks → f (m.after s k) ≡ g (m.after s k))
      → starting m f s ks ≡ starting m g s ks
  unfolding starting Listed
  starting_same f g s [] h = refl
  starting_same f g s (k ∷ ks) h =
      let here = h k (inl refl) in
      let rest = starting_same f g s ks (λ j l. h j (inr l)) in
      λ i. map (under k) (here i) ++ rest i

  -- of a machine that can be walked: a run stays among the states that fit, and has no more steps than it uses
  -- up of the work
  module _ {Fit : S → Type 0} {left : S → ℕ} {rank : K → ℕ} (laws : Walkable m Fit left rank) where
    pub runs_fit : (s : S) (ks : List K) (u : S) → Fit s → Runs m s ks u → Fit u
    unfolding Runs
    runs_fit s [] u f r = subst Fit r f
    runs_fit s (k ∷ ks) u f r = runs_fit (m.after s k) ks u (laws.keeps s f k r.0) r.1

    pub runs_work : (s : S) (ks : List K) (u : S) → Fit s → Runs m s ks u → left u + length ks ≤ left s
    unfolding Runs
    runs_work s [] u f r = let e = ap left r in omega arith
    runs_work s (k ∷ ks) u f r =
        let a = runs_work (m.after s k) ks u (laws.keeps s f k r.0) r.1 in
        let b = laws.lowers s f k r.0 in
        omega arith

    -- "It never goes deeper than the full length, a number that falls at each step down": above the work left
    -- the walk is the same list, whatever depth it is given
    pub walk_enough : (n j : ℕ) (s : S) → Fit s → left s < n → left s < j → walk m n s ≡ walk m j s
    unfolding walk
    walk_enough zero j s f a b = absurd (omega arith)
    walk_enough (suc n) zero s f a b = absurd (omega arith)
    walk_enough (suc n) (suc j) s f a b =
        ap (λ vs. here s ∷ vs) (starting_same (walk m n) (walk m j) s (m.nexts s)
        (λ k h. let less = laws.lowers s f k h in
        walk_enough n j (m.after s k) (laws.keeps s f k h) (omega arith) (omega arith)))
