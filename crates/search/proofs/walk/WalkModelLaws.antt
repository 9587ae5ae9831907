-- The walk of a model: with some of its legal steps next, or all, it is a machine that can be walked; with all
-- it lists exactly the legal runs. Assumes nothing.
use Prim.Native.Nat.{ℕ, suc, ◌+◌, ◌≤◌}
use mathlib.Core.Path.{◌≡◌, refl, ap, ◌∙◌}
use mathlib.Core.Logic.{inl, inr}
use mathlib.Core.List.{List, [], ◌∷◌}
use native.Mathlib.Omega.{arith}
use lib.ListN.{length}
use Rattle.machine.specs.Model.{Model, Leads, Faultless, legal_steps, Lawful, Listed, Ascending}
use Rattle.machine.proofs.Promises.{next_legal, next_rising, step_lowers}
use Rattle.search.specs.Walk.{Runs, Walkable, InOrder, thinned, machine_of, Sublist, Thinned, walk_of}
use Rattle.search.proofs.walk.WalkLaws.{walk_runs, runs_walk, runs_work}
use Rattle.search.proofs.walk.WalkOrderLaws.{walk_in_order}

-- what is on a part of a list is on the list; a part of a list in order is in order
module _ {K : Type 0} where
  sub_listed : (k : K) (xs ys : List K) → Sublist xs ys → Listed k xs → Listed k ys
  unfolding Sublist Listed
  sub_listed k [] ys a h = absurd h
  sub_listed k (x ∷ xs) [] a h = absurd a
  sub_listed k (x ∷ xs) (y ∷ ys) (inl a) (inl e) = inl (e ∙ a.0)
  sub_listed k (x ∷ xs) (y ∷ ys) (inl a) (inr h) = inr (sub_listed k xs ys a.1 h)
  sub_listed k (x ∷ xs) (y ∷ ys) (inr a) h = inr (sub_listed k (x ∷ xs) ys a h)

  sub_rises : (rank : K → ℕ) (xs ys : List K) → Sublist xs ys → Ascending rank ys → Ascending rank xs
  unfolding Sublist Ascending
  sub_rises rank [] ys a r = tt
  sub_rises rank (x ∷ xs) [] a r = absurd a
  sub_rises rank (x ∷ xs) (y ∷ ys) (inl a) r = (
    (λ j h. let less = r.0 j (sub_listed j xs ys a.1 h) in let same = ap rank a.0 in omega arith),
    sub_rises rank xs ys a.1 r.1,
  )
  sub_rises rank (x ∷ xs) (y ∷ ys) (inr a) r = sub_rises rank (x ∷ xs) ys a r.1

  sub_all : (xs : List K) → Sublist xs xs
  unfolding Sublist
  sub_all [] = tt
  sub_all (x ∷ xs) = inl (refl, sub_all xs)

module _ {S K : Type 0} (m : Model S K) {Fit : S → Type 0} {rank : K → ℕ} (laws : Lawful m Fit rank) where
  -- with some of the legal steps next
  module _ (nexts : S → List K) (thin : Thinned m nexts) where
    thin_legal : (s : S) (k : K) → Listed k (nexts s) → (m.fault k ≡ 0) × (m.rule s k ≡ 0)
    unfolding Thinned
    thin_legal s k h = (next_legal m laws s k).0 (sub_listed k (nexts s) (legal_steps m s) (thin s) h)

    pub thinned_walkable : Walkable (thinned m nexts) Fit m.left rank
    unfolding Thinned
    thinned_walkable =
        record {
          keeps = λ s f k h. let n = thin_legal s k h in laws.keeps s f k n.0 n.1;
          lowers = λ s f k h. let n = thin_legal s k h in step_lowers m laws s f k n.0 n.1;
          rises = λ s f. sub_rises rank (nexts s) (legal_steps m s) (thin s) (next_rising m laws s);
        }

    -- a run of such steps is a legal run of steps that pass the checks 5 and 8
    pub thinned_leads : (s : S) (ks : List K) (u : S) → Runs (thinned m nexts) s ks u
        → Faultless m ks × Leads m s ks u
    unfolding Runs Faultless Leads
    thinned_leads s [] u r = (tt, r)
    thinned_leads s (k ∷ ks) u r =
        let n = thin_legal s k r.0 in
        let rest = thinned_leads (m.after s k) ks u r.1 in
        ((n.0, rest.0), (n.1, rest.1))

  -- with all of them
  all_thin : Thinned m (legal_steps m)
  unfolding Thinned
  all_thin s = sub_all (legal_steps m s)

  pub walkable : Walkable (machine_of m) Fit m.left rank
  walkable = thinned_walkable (legal_steps m) all_thin

  leads_runs : (s : S) (ks : List K) (u : S) → Faultless m ks → Leads m s ks u → Runs (machine_of m) s ks u
  unfolding Runs Faultless Leads
  leads_runs s [] u c l = l
  leads_runs s (k ∷ ks) u c l =
      ((next_legal m laws s k).1 (c.0, l.0), leads_runs (m.after s k) ks u c.1 l.1)

  -- the walk from a state that fits
  module _ (s : S) (f : Fit s) (ks : List K) (u : S) where
    pub walk_leads : Listed (record { run = ks; end = u }) (walk_of m s) → Faultless m ks × Leads m s ks u
    walk_leads h = thinned_leads (legal_steps m) all_thin s ks u
        (walk_runs (machine_of m) (suc (m.left s)) s _ h)

    pub leads_walk : Faultless m ks → Leads m s ks u → Listed (record { run = ks; end = u }) (walk_of m s)
    leads_walk c l =
        let r = leads_runs s ks u c l in
        let e = runs_work (machine_of m) walkable s ks u f r in
        runs_walk (machine_of m) (suc (m.left s)) s ks u r (omega arith)

    pub walk_short : Listed (record { run = ks; end = u }) (walk_of m s) → m.left u + length ks ≤ m.left s
    walk_short h = runs_work (machine_of m) walkable s ks u f (walk_runs (machine_of m) (suc (m.left s)) s _ h)

  pub walk_ordered : (s : S) → Fit s → InOrder rank (walk_of m s)
  walk_ordered s f = walk_in_order rank (machine_of m) walkable (suc (m.left s)) s f
