-- A machine that goes along with another, state for state, has the same walk: the same runs, each ending in the
-- state that goes along with the other's end.
--   ends_along f v   the run of v, ending in what f makes of its end
--   Along           f leads from the states of one machine to those of the other
-- Assumes nothing.
use Prim.Native.Nat.{ℕ, zero, suc}
use mathlib.Core.Path.{◌≡◌, refl, sym, ap, subst, ◌∙◌}
use mathlib.Core.Logic.{inl, inr}
use mathlib.Core.Bool.{Bool, true, false}
use mathlib.Core.List.{List, [], ◌∷◌, ◌++◌, map, map-append}
use Rattle.machine.specs.Model.{Listed}
use Rattle.search.specs.Walk.{Machine, Visit, here, under, starting, walk, Runs}
use Rattle.search.specs.Seek.{seek}
use Rattle.search.proofs.walk.WalkLaws.{walk_runs}

-- from states that are good, which are never left
pub record Along {S T K : Type 0} (m : Machine S K) (w : Machine T K) (f : S → T) (Good : S → Type 0)
    : Type 0 where
  pub keeps : (s : S) → Good s → (k : K) → Listed k (m.nexts s) → Good (m.after s k)
  pub nexts : (s : S) → Good s → w.nexts (f s) ≡ m.nexts s
  pub after : (s : S) → Good s → (k : K) → Listed k (m.nexts s) → w.after (f s) k ≡ f (m.after s k)

abbrev pub ends_along : {S T K : Type 0} → (S → T) → Visit S K → Visit T K
ends_along f v = record { run = v.run; end = f v.end }

-- behind a step, too, each ends along
pub map_under : {S T K : Type 0} (f : S → T) (k : K) (vs : List (Visit S K))
    → map (under k) (map (ends_along f) vs) ≡ map (ends_along f) (map (under k) vs)
map_under f k [] = refl
map_under f k (v ∷ vs) = ap (λ l. under k (ends_along f v) ∷ l) (map_under f k vs)

module _ {S T K : Type 0} {m : Machine S K} {w : Machine T K} {f : S → T} {Good : S → Type 0}
    (along : Along m w f Good) where
  -- what starts with some of the next steps
  starting_along : (n : ℕ) (s : S) → Good s
      → ((u : S) → Good u → walk w n (f u) ≡ map (ends_along f) (walk m n u))
      → (ks : List K) → ((k : K) → Listed k ks → Listed k (m.nexts s))
      → starting w (walk w n) (f s) ks ≡ map (ends_along f) (starting m (walk m n) s ks)
  unfolding starting Listed
  starting_along n s g below [] on = refl
  starting_along n s g below (k ∷ ks) on =
      let next = on k (inl refl) in
      ap (λ u. map (under k) (walk w n u) ++ starting w (walk w n) (f s) ks) (along.after s g k next)
      ∙ ap (λ vs. map (under k) vs ++ starting w (walk w n) (f s) ks)
      (below (m.after s k) (along.keeps s g k next))
      ∙ ap (λ vs. vs ++ starting w (walk w n) (f s) ks) (map_under f k (walk m n (m.after s k)))
      ∙ ap (λ vs. map (ends_along f) (map (under k) (walk m n (m.after s k))) ++ vs)
      (starting_along n s g below ks (λ j h. on j (inr h)))
      ∙ sym (map-append (ends_along f) (map (under k) (walk m n (m.after s k))) (starting m (walk m n) s ks))

  -- the whole walk
  pub walk_along : (n : ℕ) (s : S) → Good s → walk w n (f s) ≡ map (ends_along f) (walk m n s)
  unfolding walk
  walk_along zero s g = refl
  walk_along (suc n) s g =
      ap (λ ks. here (f s) ∷ starting w (walk w n) (f s) ks) (along.nexts s g)
      ∙ ap (λ vs. here (f s) ∷ vs) (starting_along n s g (walk_along n) (m.nexts s) (λ k h. h))

  -- a run from a good state ends in one
  runs_good : (s : S) (ks : List K) (u : S) → Good s → Runs m s ks u → Good u
  unfolding Runs
  runs_good s [] u g r = subst Good r g
  runs_good s (k ∷ ks) u g r = runs_good (m.after s k) ks u (along.keeps s g k r.0) r.1

  -- tests that agree on good states find the same
  module _ (test : S → Bool) (other : T → Bool) (same : (s : S) → Good s → other (f s) ≡ test s) where
    pub seek_listed : (b : ℕ) (vs : List (Visit S K)) → ((v : Visit S K) → Listed v vs → Good v.end)
        → seek other b (map (ends_along f) vs) ≡ seek test b vs
    unfolding seek Listed
    seek_listed b [] on = refl
    seek_listed zero (v ∷ vs) on = refl
    seek_listed (suc b) (v ∷ vs) on =
        go (test v.end) refl (same v.end (on v (inl refl))) (seek_listed b vs (λ u h. on u (inr h)))
      where
        go : (a : Bool) → test v.end ≡ a → other (f v.end) ≡ test v.end
            → seek other b (map (ends_along f) vs) ≡ seek test b vs
            → seek other (suc b) (ends_along f v ∷ map (ends_along f) vs) ≡ seek test (suc b) (v ∷ vs)
        go true e d rest = rw (d ∙ e, e, seek)
        go false e d rest = rw (d ∙ e, e, seek) rest

    pub seek_along : (b n : ℕ) (s : S) → Good s → seek other b (walk w n (f s)) ≡ seek test b (walk m n s)
    seek_along b n s g =
        ap (seek other b) (walk_along n s g)
        ∙ seek_listed b (walk m n s) (λ v h. runs_good s v.run v.end g (walk_runs m n s v h))
