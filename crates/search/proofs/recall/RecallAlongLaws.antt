-- A machine that goes along with another, state for state and key for key, remembers the same: the same runs, each
-- ending in the state that goes along with the other's end. Assumes nothing.
use Prim.Native.Nat.{ℕ, zero, suc}
use mathlib.Core.Path.{◌≡◌, refl, sym, ap, ◌∙◌}
use mathlib.Core.Bool.{Bool}
use mathlib.Core.Logic.{inl, inr}
use mathlib.Core.List.{List, [], ◌∷◌, map, map-append}
use Rattle.machine.specs.Model.{Listed}
use Rattle.search.specs.Walk.{Machine, Visit, here, under}
use Rattle.search.specs.Seek.{seek}
use Rattle.search.specs.Remember.{among}
use Rattle.search.specs.Recall.{met_by, starting_new, remembering}
use Rattle.search.proofs.walk.AlongLaws.{Along, ends_along, map_under, seek_listed}
use Rattle.search.proofs.recall.FirstsLaws.{cases, met_met, met_new}
use Rattle.search.proofs.recall.RecallLaws.{remembering_met, remembering_new, remembering_good}

module _ {S T K : Type 0} {m : Machine S K} {w : Machine T K} {f : S → T} {Good : S → Type 0}
    (along : Along m w f Good) (key : S → List ℕ) (other : T → List ℕ)
    (same : (s : S) → Good s → other (f s) ≡ key s) where
  -- the keys that are met
  met_along : (met : List (List ℕ)) (vs : List (Visit S K)) → ((v : Visit S K) → Listed v vs → Good v.end)
      → met_by other met (map (ends_along f) vs) ≡ met_by key met vs
  unfolding met_by Listed
  met_along met [] on = refl
  met_along met (v ∷ vs) on =
      let e = same v.end (on v (inl refl)) in
      cases (among (key v.end) met)
      (λ h. met_met other met (ends_along f v) (map (ends_along f) vs) (rw e h)
      ∙ met_along met vs (λ u l. on u (inr l))
      ∙ sym (met_met key met v vs h))
      (λ h. met_new other met (ends_along f v) (map (ends_along f) vs) (rw e h)
      ∙ ap (λ x. met_by other (x ∷ met) (map (ends_along f) vs)) e
      ∙ met_along (key v.end ∷ met) vs (λ u l. on u (inr l))
      ∙ sym (met_new key met v vs h))

  -- what starts with some of the next steps
  starting_along : (n : ℕ) (s : S) → Good s
      → ((met : List (List ℕ)) (u : S) → Good u
      → remembering w other n met (f u) ≡ map (ends_along f) (remembering m key n met u))
      → (ks : List K) → ((k : K) → Listed k ks → Listed k (m.nexts s))
      → (met : List (List ℕ))
      → starting_new w other (remembering w other n) met (f s) ks
      ≡ map (ends_along f) (starting_new m key (remembering m key n) met s ks)
  unfolding starting_new Listed
  starting_along n s g below [] on met = refl
  starting_along n s g below (k ∷ ks) on met =
      let next = on k (inl refl) in
      let good = along.keeps s g k next in
      let u = m.after s k in
      let vs = remembering m key n met u in
      let seen = met_by key met vs in
      let met_same = met_along met vs (remembering_good m key Good along.keeps n met u good) in
      rw (
        along.after s g k next,
        below met u good,
        map_under f k vs,
        met_same,
        starting_along n s g below ks (λ j l. on j (inr l)) seen,
      )
      (sym (map-append (ends_along f) (map (under k) vs) (starting_new m key (remembering m key n) seen s ks)))

  -- the whole walk
  pub remembering_along : (n : ℕ) (met : List (List ℕ)) (s : S) → Good s
      → remembering w other n met (f s) ≡ map (ends_along f) (remembering m key n met s)
  unfolding remembering
  remembering_along zero met s g = refl
  remembering_along (suc n) met s g =
      cases (among (key s) met)
      (λ h. rw (remembering_met m key n met s h) (remembering_met w other n met (f s) (rw (same s g) h)))
      (λ h. rw (remembering_new m key n met s h)
      (remembering_new w other n met (f s) (rw (same s g) h)
      ∙ ap (λ ks. here (f s) ∷ starting_new w other (remembering w other n) (other (f s) ∷ met) (f s) ks)
      (along.nexts s g)
      ∙ ap (λ x. here (f s) ∷ starting_new w other (remembering w other n) (x ∷ met) (f s) (m.nexts s)) (same s g)
      ∙ ap (λ vs. here (f s) ∷ vs)
      (starting_along n s g (remembering_along n) (m.nexts s) (λ k l. l) (key s ∷ met))))

  -- tests that agree on good states find the same
  pub seek_new_along : (test : S → Bool) (ask : T → Bool) → ((s : S) → Good s → ask (f s) ≡ test s)
      → (b n : ℕ) (met : List (List ℕ)) (s : S) → Good s
      → seek ask b (remembering w other n met (f s)) ≡ seek test b (remembering m key n met s)
  seek_new_along test ask agree b n met s g =
      ap (seek ask b) (remembering_along n met s g)
      ∙ seek_listed along test ask agree b (remembering m key n met s)
      (remembering_good m key Good along.keeps n met s g)
