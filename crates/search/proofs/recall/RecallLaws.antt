-- The walk that remembers, taken apart: nothing from a state that was met; from a new one itself, and what is new below
-- it; and each run that it lists ends in a state as good as the first. Assumes nothing.
use Prim.Native.Nat.{ℕ, zero, suc}
use mathlib.Core.Path.{◌≡◌, refl, sym, subst}
use mathlib.Core.Bool.{true, false}
use mathlib.Core.Logic.{◌⊎◌, inl, inr}
use mathlib.Core.List.{List, [], ◌∷◌, map}
use Rattle.machine.specs.Model.{Listed}
use Rattle.machine.proofs.lists.ListedLaws.{listed_either}
use Rattle.search.specs.Walk.{Machine, Visit, here, under}
use Rattle.search.specs.Remember.{among}
use Rattle.search.specs.Recall.{met_by, starting_new, remembering}
use Rattle.search.proofs.walk.WalkLaws.{on_under}
use Rattle.search.proofs.recall.FirstsLaws.{cases}

module _ {S K : Type 0} (m : Machine S K) (key : S → List ℕ) where
  -- from a state that was met; from a new one
  pub remembering_met : (n : ℕ) (met : List (List ℕ)) (s : S) → among (key s) met ≡ true
      → remembering m key (suc n) met s ≡ []
  unfolding remembering
  remembering_met n met s h = rw (h, remembering)

  pub remembering_new : (n : ℕ) (met : List (List ℕ)) (s : S) → among (key s) met ≡ false
      → remembering m key (suc n) met s
      ≡ here s ∷ starting_new m key (remembering m key n) (key s ∷ met) s (m.nexts s)
  unfolding remembering
  remembering_new n met s h = rw (h, remembering)

  -- where what is good is never left, every run ends in something good
  module _ (Good : S → Type 0)
      (keeps : (s : S) → Good s → (k : K) → Listed k (m.nexts s) → Good (m.after s k)) where
    starting_good : (below : List (List ℕ) → S → List (Visit S K)) (s : S)
        → (ks : List K)
        → ((k : K) → Listed k ks → (met : List (List ℕ)) (v : Visit S K)
        → Listed v (below met (m.after s k)) → Good v.end)
        → (met : List (List ℕ)) (v : Visit S K) → Listed v (starting_new m key below met s ks) → Good v.end
    unfolding starting_new Listed
    starting_good below s [] h met v l = absurd l
    starting_good below s (k ∷ ks) h met v l =
        go (listed_either v (map (under k) (below met (m.after s k)))
        (starting_new m key below (met_by key met (below met (m.after s k))) s ks) l)
        (starting_good below s ks (λ j i. h j (inr i)) (met_by key met (below met (m.after s k))) v)
      where
        go : Listed v (map (under k) (below met (m.after s k)))
            ⊎ Listed v (starting_new m key below (met_by key met (below met (m.after s k))) s ks)
            → (Listed v (starting_new m key below (met_by key met (below met (m.after s k))) s ks) → Good v.end)
            → Good v.end
        go (inl a) ih =
            let r = on_under k v (below met (m.after s k)) a in
            subst (λ (y : Visit S K). Good y.end) (sym r.2) (h k (inl refl) met r.0 r.1)
        go (inr a) ih = ih a

    pub remembering_good : (n : ℕ) (met : List (List ℕ)) (s : S) → Good s
        → (v : Visit S K) → Listed v (remembering m key n met s) → Good v.end
    unfolding remembering Listed
    remembering_good zero met s g v l = absurd l
    remembering_good (suc n) met s g v l =
        cases (among (key s) met)
        (λ h. absurd (rw (remembering_met n met s h) at l))
        (λ h. go (rw (remembering_new n met s h) at l)
        (starting_good (remembering m key n) s (m.nexts s)
        (λ k i seen w o. remembering_good n seen (m.after s k) (keeps s g k i) w o) (key s ∷ met) v))
      where
        go : (v ≡ here s) ⊎ Listed v (starting_new m key (remembering m key n) (key s ∷ met) s (m.nexts s))
            → (Listed v (starting_new m key (remembering m key n) (key s ∷ met) s (m.nexts s)) → Good v.end)
            → Good v.end
        go (inl e) ih = subst (λ (y : Visit S K). Good y.end) (sym e) g
        go (inr a) ih = ih a
