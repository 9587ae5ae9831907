-- Document 01, "Work left and the walk": the walk, over any machine.
--   Machine         which steps a state has next, in order, and where each leads
--   Visit           a run, and the state where it ends; here s: one of no steps; under k v: k, then those of v
--   walk m n s      all runs from s of fewer than n steps: the empty run first, "each run is followed by
--                   everything that starts with it, next steps in the order" of the machine
--   Runs m s ks u   the steps ks, each a next one where it is taken, lead from s to u
--   Walkable        a machine whose next steps stand in order and lower the work left
--   Before, InOrder how the theorems say "in the stated order, once"
--   thinned m f     of a model: the steps that f lists are next
--   machine_of m    of a model: its legal steps are next
--   Sublist, Thinned   how the theorems say "some of the legal steps, in their order"
--   walk_of m s     the walk of a model from the state s; walk_from m: from its start
-- Assumes nothing.
use Rattle.std.specs.Prelude.{ℕ, zero, suc, ◌<◌, ◌≡◌, ◌⊎◌, List, [], ◌∷◌, ◌++◌, map}
use Rattle.machine.specs.Model.{Model, legal_steps, Listed, Ascending}

pub record Machine (S K : Type 0) : Type 0 where
  pub nexts : S → List K
  pub after : S → K → S

pub record Visit (S K : Type 0) : Type 0 where
  pub run : List K
  pub end : S

abbrev pub here : {S K : Type 0} → S → Visit S K
here s = record { run = []; end = s }

abbrev pub under : {S K : Type 0} → K → Visit S K → Visit S K
under k v = record { run = k ∷ v.run; end = v.end }

-- everything that starts with one of the steps ks, in turn; `below` lists what follows a state
unfoldable pub starting : {S K : Type 0} → Machine S K → (S → List (Visit S K)) → S → List K → List (Visit S K)
starting m below s [] = []
starting m below s (k ∷ ks) = map (under k) (below (m.after s k)) ++ starting m below s ks

unfoldable pub walk : {S K : Type 0} → Machine S K → ℕ → S → List (Visit S K)
walk m zero s = []
walk m (suc n) s = here s ∷ starting m (walk m n) s (m.nexts s)

unfoldable pub Runs : {S K : Type 0} → Machine S K → S → List K → S → Type 0
Runs m s [] u = s ≡ u
Runs m s (k ∷ ks) u = Listed k (m.nexts s) × Runs m (m.after s k) ks u

-- the states that Fit speaks of are never left, each step lowers the work left, and next steps stand in order
pub record Walkable {S K : Type 0} (m : Machine S K) (Fit : S → Type 0) (left : S → ℕ) (rank : K → ℕ)
    : Type 0 where
  pub keeps : (s : S) → Fit s → (k : K) → Listed k (m.nexts s) → Fit (m.after s k)
  pub lowers : (s : S) → Fit s → (k : K) → Listed k (m.nexts s) → left (m.after s k) < left s
  pub rises : (s : S) → Fit s → Ascending rank (m.nexts s)

-- a run comes before those that start with it, and, where two first differ, by the rank of the step
unfoldable pub Before : {K : Type 0} → (K → ℕ) → List K → List K → Type 0
Before rank [] [] = ⊥
Before rank [] (k ∷ ks) = Unit {0}
Before rank (j ∷ js) [] = ⊥
Before rank (j ∷ js) (k ∷ ks) = (rank j < rank k) ⊎ ((j ≡ k) × Before rank js ks)

unfoldable pub InOrder : {S K : Type 0} → (K → ℕ) → List (Visit S K) → Type 0
InOrder rank [] = Unit {0}
InOrder {S} {K} rank (v ∷ vs) =
    ((w : Visit S K) → Listed w vs → Before rank v.run w.run) × InOrder rank vs

abbrev pub thinned : {S K : Type 0} → Model S K → (S → List K) → Machine S K
thinned m nexts = record { nexts = nexts; after = m.after }

abbrev pub machine_of : {S K : Type 0} → Model S K → Machine S K
machine_of m = thinned m (legal_steps m)

unfoldable pub Sublist : {A : Type 0} → List A → List A → Type 0
Sublist [] ys = Unit {0}
Sublist (x ∷ xs) [] = ⊥
Sublist (x ∷ xs) (y ∷ ys) = ((x ≡ y) × Sublist xs ys) ⊎ Sublist (x ∷ xs) ys

unfoldable pub Thinned : {S K : Type 0} → Model S K → (S → List K) → Type 0
Thinned {S} {K} m nexts = (s : S) → Sublist (nexts s) (legal_steps m s)

-- "It never goes deeper than the full length, a number that falls at each step down"
abbrev pub walk_of : {S K : Type 0} → Model S K → S → List (Visit S K)
walk_of m s = walk (machine_of m) (suc (m.left s)) s

unfoldable pub walk_from : {S K : Type 0} → Model S K → List (Visit S K)
walk_from m = walk_of m m.start
