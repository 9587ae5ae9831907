-- A key is among those met exactly where it is one of them, lane for lane. Assumes nothing.
use Prim.Native.Nat.{ℕ}
use mathlib.Core.Path.{◌≡◌, refl, sym, subst}
use mathlib.Core.Bool.{Bool, true, false}
use mathlib.Core.Logic.{◌⊎◌, inl, inr, ◌≢◌}
use mathlib.Core.List.{List, [], ◌∷◌}
use lib.Dec.{eqb}
use borrow.Author.Tests.{eqb-true, eq-eqb}
use Rattle.cases.specs.Choice.{both, either}
use Rattle.cases.proofs.ChoiceLaws.{never_both, both_true}
use Rattle.machine.specs.Model.{Listed}
use Rattle.search.specs.Remember.{eq_lanes, among}

-- eq_lanes: true exactly where two lists are equal, false exactly where they differ
pub lanes_equal : (x y : List ℕ) → eq_lanes x y ≡ true → x ≡ y
unfolding eq_lanes
lanes_equal [] [] h = refl
lanes_equal [] (b ∷ y) h = absurd (never_both h refl)
lanes_equal (a ∷ x) [] h = absurd (never_both h refl)
lanes_equal (a ∷ x) (b ∷ y) h =
    let e = both_true (eqb a b) (eq_lanes x y) h in
    let first = eqb-true a b e.0 in
    let rest = lanes_equal x y e.1 in
    λ i. first i ∷ rest i

pub equal_lanes : (x : List ℕ) → eq_lanes x x ≡ true
unfolding eq_lanes
equal_lanes [] = refl
equal_lanes (a ∷ x) = rw (eq-eqb a a refl, equal_lanes x) (unfold both in refl)

pub lanes_differ : (x y : List ℕ) → eq_lanes x y ≡ false → x ≢ y
lanes_differ x y h e = never_both (subst (λ z. eq_lanes x z ≡ true) e (equal_lanes x)) h

pub differ_lanes : (x y : List ℕ) → x ≢ y → eq_lanes x y ≡ false
differ_lanes x y h = go (eq_lanes x y) refl
  where
    go : (t : Bool) → eq_lanes x y ≡ t → t ≡ false
    go true e = absurd (h (lanes_equal x y e))
    go false e = refl

-- either: one of two tests is true, and back
pub either_true : (a b : Bool) → either a b ≡ true → (a ≡ true) ⊎ (b ≡ true)
unfolding either
either_true true b h = inl refl
either_true false b h = inr h

pub either_left : (a b : Bool) → a ≡ true → either a b ≡ true
unfolding either
either_left a b h = rw h

pub either_right : (a b : Bool) → b ≡ true → either a b ≡ true
unfolding either
either_right true b h = refl
either_right false b h = h

-- among: what is found is on the list, and back; of a list with a key more
pub among_found : (x : List ℕ) (met : List (List ℕ)) → among x met ≡ true → Listed x met
unfolding among Listed
among_found x [] h = absurd (never_both h refl)
among_found x (y ∷ met) h = go (either_true (eq_lanes x y) (among x met) h) (among_found x met)
  where
    go : (eq_lanes x y ≡ true) ⊎ (among x met ≡ true) → (among x met ≡ true → Listed x met)
        → (x ≡ y) ⊎ Listed x met
    go (inl e) ih = inl (lanes_equal x y e)
    go (inr e) ih = inr (ih e)

pub among_put : (x : List ℕ) (met : List (List ℕ)) → Listed x met → among x met ≡ true
unfolding among Listed
among_put x [] h = absurd h
among_put x (y ∷ met) (inl e) =
    either_left (eq_lanes x y) (among x met) (subst (λ z. eq_lanes x z ≡ true) e (equal_lanes x))
among_put x (y ∷ met) (inr h) = either_right (eq_lanes x y) (among x met) (among_put x met h)

pub among_here : (x : List ℕ) (met : List (List ℕ)) → among x (x ∷ met) ≡ true
unfolding Listed
among_here x met = among_put x (x ∷ met) (inl refl)

pub among_next : (x y : List ℕ) (met : List (List ℕ)) → among x met ≡ true → among x (y ∷ met) ≡ true
unfolding among
among_next x y met h = either_right (eq_lanes x y) (among x met) h

pub among_either : (x y : List ℕ) (met : List (List ℕ)) → among x (y ∷ met) ≡ true
    → (x ≡ y) ⊎ (among x met ≡ true)
unfolding Listed
among_either x y met h = go (among_found x (y ∷ met) h)
  where
    go : (x ≡ y) ⊎ Listed x met → (x ≡ y) ⊎ (among x met ≡ true)
    go (inl e) = inl e
    go (inr l) = inr (among_put x met l)

-- what is not among them is none of them, and back
pub among_not : (x : List ℕ) (met : List (List ℕ)) → among x met ≡ false → Listed x met → ⊥
among_not x met h l = never_both (among_put x met l) h

pub among_none : (x : List ℕ) (met : List (List ℕ)) → (Listed x met → ⊥) → among x met ≡ false
among_none x met h = go (among x met) refl
  where
    go : (t : Bool) → among x met ≡ t → t ≡ false
    go true e = absurd (h (among_found x met e))
    go false e = refl

-- it differs from one that is; from the newest of them
pub among_other : (x y : List ℕ) (met : List (List ℕ)) → among x met ≡ false → among y met ≡ true → x ≢ y
among_other x y met h k e = never_both (subst (λ z. among z met ≡ true) (sym e) k) h

pub among_newest : (x y : List ℕ) (met : List (List ℕ)) → among x (y ∷ met) ≡ false → x ≢ y
among_newest x y met h = among_other x y (y ∷ met) h (among_here y met)

pub among_older : (x y : List ℕ) (met : List (List ℕ)) → among x (y ∷ met) ≡ false → among x met ≡ false
unfolding Listed
among_older x y met h = among_none x met (λ l. among_not x (y ∷ met) h (inr l))
