-- The distinct states of a model, each at the end of the walk's first run that leads there: legal runs; for
-- every legal run one with its end's key; no two with one key; in the walk's order, each the first with its key.
-- Assumes nothing.
use Prim.Native.Nat.{ℕ, ◌≤◌}
use mathlib.Core.Path.{◌≡◌, refl}
use mathlib.Core.Logic.{◌≢◌}
use mathlib.Core.List.{List, [], ◌∷◌, ◌++◌}
use lib.ListN.{length}
use Rattle.machine.specs.Model.{Model, Leads, Faultless, Lawful, Listed}
use Rattle.machine.proofs.Promises.{leads_fits}
use Rattle.search.specs.Walk.{Visit, Sublist, walk_from}
use Rattle.search.specs.Remember.{among, distinct_of}
use Rattle.search.proofs.walk.WalkModelLaws.{walk_leads, leads_walk}
use Rattle.search.proofs.recall.FirstsOnceLaws.{firsts_sub, firsts_on, firsts_few, firsts_once}
use Rattle.search.proofs.recall.FirstsOnceLaws.{firsts_all, firsts_first}

-- of any model: some of the walk's runs, in its order; no more than those; of two parts no end of the one has
-- the key of an end of the other; each is the walk's first whose end has its key
module _ {S K : Type 0} (m : Model S K) (key : S → List ℕ) where
  pub distinct_sub : Sublist (distinct_of m key) (walk_from m)
  unfolding distinct_of
  distinct_sub = firsts_sub key [] (walk_from m)

  pub distinct_on : (v : Visit S K) → Listed v (distinct_of m key) → Listed v (walk_from m)
  unfolding distinct_of
  distinct_on = firsts_on key [] (walk_from m)

  pub distinct_few : length (distinct_of m key) ≤ length (walk_from m)
  unfolding distinct_of
  distinct_few = firsts_few key [] (walk_from m)

  pub distinct_once : (xs ys : List (Visit S K)) → distinct_of m key ≡ xs ++ ys
      → (v w : Visit S K) → Listed v xs → Listed w ys → key v.end ≢ key w.end
  unfolding distinct_of
  distinct_once = firsts_once key [] (walk_from m)

  pub distinct_first : (v : Visit S K) → Listed v (distinct_of m key)
      → (before : List (Visit S K)) × (after : List (Visit S K)) × (walk_from m ≡ before ++ v ∷ after)
      × ((w : Visit S K) → Listed w before → key w.end ≢ key v.end)
  unfolding distinct_of
  distinct_first = firsts_first key [] (walk_from m)

-- of one that has its laws: a legal run each; for every legal run one whose end has the key of its end
module _ {S K : Type 0} (m : Model S K) {Fit : S → Type 0} {rank : K → ℕ} (laws : Lawful m Fit rank)
    (key : S → List ℕ) where
  pub distinct_legal : (v : Visit S K) → Listed v (distinct_of m key)
      → Faultless m v.run × Leads m m.start v.run v.end
  unfolding walk_from
  distinct_legal v l = walk_leads m laws m.start laws.starts v.run v.end (distinct_on m key v l)

  pub distinct_fits : (v : Visit S K) → Listed v (distinct_of m key) → Fit v.end
  distinct_fits v l =
      let r = distinct_legal v l in
      leads_fits m laws m.start v.run v.end laws.starts r.0 r.1

  pub distinct_all : (ks : List K) (u : S) → Faultless m ks → Leads m m.start ks u
      → (v : Visit S K) × Listed v (distinct_of m key) × (key v.end ≡ key u)
  unfolding distinct_of walk_from among
  distinct_all ks u faultless leads =
      firsts_all key [] (walk_from m) (record { run = ks; end = u })
      (leads_walk m laws m.start laws.starts ks u faultless leads) refl
