-- First meetings, one behind the other: of two lists of runs, and under a first step; and the keys that are met by
-- them. Assumes nothing.
use Prim.Native.Nat.{ℕ}
use mathlib.Core.Path.{◌≡◌, refl, sym, ap, subst, ◌∙◌}
use mathlib.Core.Bool.{Bool, true, false}
use mathlib.Core.Logic.{◌⊎◌, inl, inr}
use mathlib.Core.List.{List, [], ◌∷◌, ◌++◌, map}
use Rattle.machine.specs.Model.{Listed}
use Rattle.search.specs.Walk.{Visit, under}
use Rattle.search.specs.Remember.{among, firsts}
use Rattle.search.specs.Recall.{met_by}
use Rattle.search.proofs.recall.AmongLaws.{among_here, among_next, among_either}

-- a test is true or false
pub cases : {P : Type 0} (t : Bool) → (t ≡ true → P) → (t ≡ false → P) → P
cases true f g = f refl
cases false f g = g refl

module _ {S K : Type 0} (key : S → List ℕ) where
  -- firsts, met_by: a run whose end was met; one whose end is new
  module _ (met : List (List ℕ)) (v : Visit S K) (vs : List (Visit S K)) where
    pub firsts_met : among (key v.end) met ≡ true → firsts key met (v ∷ vs) ≡ firsts key met vs
    unfolding firsts
    firsts_met h = rw (h, firsts)

    pub firsts_new : among (key v.end) met ≡ false
        → firsts key met (v ∷ vs) ≡ v ∷ firsts key (key v.end ∷ met) vs
    unfolding firsts
    firsts_new h = rw (h, firsts)

    pub met_met : among (key v.end) met ≡ true → met_by key met (v ∷ vs) ≡ met_by key met vs
    unfolding met_by
    met_met h = rw (h, met_by)

    pub met_new : among (key v.end) met ≡ false
        → met_by key met (v ∷ vs) ≡ met_by key (key v.end ∷ met) vs
    unfolding met_by
    met_new h = rw (h, met_by)

  -- of two lists
  pub firsts_append : (met : List (List ℕ)) (xs ys : List (Visit S K))
      → firsts key met (xs ++ ys) ≡ firsts key met xs ++ firsts key (met_by key met xs) ys
  unfolding firsts met_by
  firsts_append met [] ys = refl
  firsts_append met (x ∷ xs) ys =
      cases (among (key x.end) met)
      (λ h. rw (firsts_met met x (xs ++ ys) h, firsts_met met x xs h, met_met met x xs h)
      (firsts_append met xs ys))
      (λ h. rw (firsts_new met x (xs ++ ys) h, firsts_new met x xs h, met_new met x xs h)
      (ap (λ zs. x ∷ zs) (firsts_append (key x.end ∷ met) xs ys)))

  pub met_append : (met : List (List ℕ)) (xs ys : List (Visit S K))
      → met_by key met (xs ++ ys) ≡ met_by key (met_by key met xs) ys
  unfolding met_by
  met_append met [] ys = refl
  met_append met (x ∷ xs) ys =
      cases (among (key x.end) met)
      (λ h. rw (met_met met x (xs ++ ys) h, met_met met x xs h) (met_append met xs ys))
      (λ h. rw (met_new met x (xs ++ ys) h, met_new met x xs h) (met_append (key x.end ∷ met) xs ys))

  -- under a first step
  pub firsts_under : (met : List (List ℕ)) (k : K) (vs : List (Visit S K))
      → firsts key met (map (under k) vs) ≡ map (under k) (firsts key met vs)
  unfolding firsts
  firsts_under met k [] = refl
  firsts_under met k (v ∷ vs) =
      cases (among (key v.end) met)
      (λ h. rw (firsts_met met (under k v) (map (under k) vs) h, firsts_met met v vs h) (firsts_under met k vs))
      (λ h. rw (firsts_new met (under k v) (map (under k) vs) h, firsts_new met v vs h)
      (ap (λ zs. under k v ∷ zs) (firsts_under (key v.end ∷ met) k vs)))

  pub met_under : (met : List (List ℕ)) (k : K) (vs : List (Visit S K))
      → met_by key met (map (under k) vs) ≡ met_by key met vs
  unfolding met_by
  met_under met k [] = refl
  met_under met k (v ∷ vs) =
      cases (among (key v.end) met)
      (λ h. rw (met_met met (under k v) (map (under k) vs) h, met_met met v vs h) (met_under met k vs))
      (λ h. rw (met_new met (under k v) (map (under k) vs) h, met_new met v vs h)
      (met_under (key v.end ∷ met) k vs))

  -- what is met is met by the first meetings alone
  pub met_firsts : (met : List (List ℕ)) (vs : List (Visit S K))
      → met_by key met (firsts key met vs) ≡ met_by key met vs
  unfolding firsts met_by
  met_firsts met [] = refl
  met_firsts met (v ∷ vs) =
      cases (among (key v.end) met)
      (λ h. rw (firsts_met met v vs h, met_met met v vs h) (met_firsts met vs))
      (λ h. rw (
        firsts_new met v vs h,
        met_new met v vs h,
        met_new met v (firsts key (key v.end ∷ met) vs) h,
      ) (met_firsts (key v.end ∷ met) vs))

  -- where every end was met there is nothing new
  pub firsts_none : (met : List (List ℕ)) (vs : List (Visit S K))
      → ((v : Visit S K) → Listed v vs → among (key v.end) met ≡ true) → firsts key met vs ≡ []
  unfolding firsts Listed
  firsts_none met [] h = refl
  firsts_none met (v ∷ vs) h =
      firsts_met met v vs (h v (inl refl)) ∙ firsts_none met vs (λ w l. h w (inr l))

  -- what is met stays met; every end is met; and what is met was met before, or is some end's key
  pub met_grows : (x : List ℕ) (met : List (List ℕ)) (vs : List (Visit S K)) → among x met ≡ true
      → among x (met_by key met vs) ≡ true
  unfolding met_by
  met_grows x met [] a = a
  met_grows x met (v ∷ vs) a =
      cases (among (key v.end) met)
      (λ h. rw (met_met met v vs h) (met_grows x met vs a))
      (λ h. rw (met_new met v vs h)
      (met_grows x (key v.end ∷ met) vs (among_next x (key v.end) met a)))

  pub met_all : (met : List (List ℕ)) (vs : List (Visit S K)) (v : Visit S K) → Listed v vs
      → among (key v.end) (met_by key met vs) ≡ true
  unfolding met_by Listed
  met_all met [] v l = absurd l
  met_all met (x ∷ vs) v (inl e) =
      subst (λ (y : Visit S K). among (key y.end) (met_by key met (x ∷ vs)) ≡ true) (sym e)
      (cases (among (key x.end) met)
      (λ h. rw (met_met met x vs h) (met_grows (key x.end) met vs h))
      (λ h. rw (met_new met x vs h)
      (met_grows (key x.end) (key x.end ∷ met) vs (among_here (key x.end) met))))
  met_all met (x ∷ vs) v (inr l) =
      cases (among (key x.end) met)
      (λ h. rw (met_met met x vs h) (met_all met vs v l))
      (λ h. rw (met_new met x vs h) (met_all (key x.end ∷ met) vs v l))

  pub met_from : (met : List (List ℕ)) (vs : List (Visit S K)) (x : List ℕ)
      → among x (met_by key met vs) ≡ true
      → (among x met ≡ true) ⊎ ((v : Visit S K) × Listed v vs × (x ≡ key v.end))
  unfolding met_by Listed
  met_from met [] x a = inl a
  met_from met (v ∷ vs) x a =
      cases (among (key v.end) met)
      (λ h. later (met_from met vs x (rw (met_met met v vs h) at a)))
      (λ h. new (met_from (key v.end ∷ met) vs x (rw (met_new met v vs h) at a)))
    where
      Of : List (List ℕ) → List (Visit S K) → Type 0
      Of ms ws = (among x ms ≡ true) ⊎ ((w : Visit S K) × Listed w ws × (x ≡ key w.end))

      later : Of met vs → Of met (v ∷ vs)
      later (inl b) = inl b
      later (inr r) = inr (r.0, inr r.1, r.2)

      old : (x ≡ key v.end) ⊎ (among x met ≡ true) → Of met (v ∷ vs)
      old (inl e) = inr (v, inl refl, e)
      old (inr b) = inl b

      new : Of (key v.end ∷ met) vs → Of met (v ∷ vs)
      new (inl b) = old (among_either x (key v.end) met b)
      new (inr r) = inr (r.0, inr r.1, r.2)
