-- The answer by budget, over any list of runs: each of the three exactly when 01 says so. Assumes nothing.
use Prim.Native.Nat.{ℕ, suc, ◌+◌, ◌-◌, ◌<◌, ◌≤◌}
use mathlib.Core.Path.{◌≡◌, refl, sym, ap, subst, ◌∙◌}
use mathlib.Core.Logic.{inl, inr}
use mathlib.Core.Bool.{Bool, true, false}
use mathlib.Core.List.{List, [], ◌∷◌, ◌++◌, append_assoc}
use lib.ListN.{length, take, drop, length-append, length-take, take-append-drop}
use lib.Seq.{take_at, take_all, take-append-add}
use lib.Dec.{leb}
use borrow.Author.Tests.{leb-true, leb-false, le-leb, lt-leb}
use native.Mathlib.Omega.{arith}
use Rattle.machine.specs.Model.{Listed}
use Rattle.search.specs.Walk.{Visit}
use Rattle.search.specs.Question.{First, found, missing, first_of, reached, unreachable, undecided}
use Rattle.search.specs.Question.{decided_by, decided, None, FirstThat}

module _ {S K : Type 0} (test : S → Bool) where
  -- the first of some runs that passes, by itself: it stands there, or none does
  abbrev Found : List (Visit S K) → List K → Type 0
  Found vs run = (before : List (Visit S K)) × (v : Visit S K) × FirstThat test vs before v × (v.run ≡ run)

  first_here : (v : Visit S K) (vs : List (Visit S K)) → test v.end ≡ true → Found (v ∷ vs) v.run
  unfolding None Listed
  first_here v vs t =
      ([], v, record { after = vs; stands = refl; passes = t; none = λ w h. absurd h }, refl)

  none_next : (v : Visit S K) (vs : List (Visit S K)) → test v.end ≡ false → None test vs
      → None test (v ∷ vs)
  unfolding None Listed
  none_next v vs t f x (inl e) = ap (λ y. test y.end) e ∙ t
  none_next v vs t f x (inr h) = f x h

  first_next : (v : Visit S K) (vs : List (Visit S K)) (run : List K) → test v.end ≡ false → Found vs run
      → Found (v ∷ vs) run
  first_next v vs run t (before, w, f, e) = (
    v ∷ before,
    w,
    record {
      after = f.after;
      stands = ap (λ xs. v ∷ xs) f.stands;
      passes = f.passes;
      none = none_next v before t f.none;
    },
    e,
  )

  -- both at once
  abbrev Says : List (Visit S K) → First K → Type 0
  Says vs (found run) = Found vs run
  Says vs missing = None test vs

  first_says : (vs : List (Visit S K)) → Says vs (first_of test vs)
  unfolding first_of None Listed
  first_says [] = λ v h. absurd h
  first_says (v ∷ vs) = go (test v.end) refl (first_of test vs) (first_says vs)
    where
      later : (x : First K) → test v.end ≡ false → Says vs x → Says (v ∷ vs) x
      later (found run) t f = first_next v vs run t f
      later missing t f = none_next v vs t f

      go : (t : Bool) → test v.end ≡ t → (x : First K) → Says vs x
          → Says (v ∷ vs) (elim t as (λ _. First K) [ true ↦ found v.run | false ↦ x ])
      go true e x f = first_here v vs e
      go false e x f = later x e f

  -- and back
  none_missing : (vs : List (Visit S K)) → None test vs → first_of test vs ≡ missing
  unfolding first_of None Listed
  none_missing [] f = refl
  none_missing (v ∷ vs) f = rw (f v (inl refl), first_of) (none_missing vs (λ w h. f w (inr h)))

  found_first : (before : List (Visit S K)) (v : Visit S K) (after : List (Visit S K))
      → None test before
      → test v.end ≡ true
      → first_of test (before ++ v ∷ after) ≡ found v.run
  unfolding first_of None Listed
  found_first [] v after f t = rw (t, first_of)
  found_first (w ∷ before) v after f t =
      rw (f w (inl refl), first_of) (found_first before v after (λ x h. f x (inr h)) t)

  -- among the first b: it stands there as in the whole list, at a position below b
  take_found : (b : ℕ) (vs : List (Visit S K)) (run : List K) → Found (take b vs) run
      → (before : List (Visit S K))
      × (v : Visit S K)
      × FirstThat test vs before v
      × (length before < b)
      × (v.run ≡ run)
  take_found b vs run (before, v, f, e) =
      let whole = sym (take-append-drop b vs) ∙ ap (λ xs. xs ++ drop b vs) f.stands
      ∙ append_assoc before (v ∷ f.after) (drop b vs) in
      let n = ap length f.stands ∙ length-append before (v ∷ f.after) in (
        before,
        v,
        record { after = f.after ++ drop b vs; stands = whole; passes = f.passes; none = f.none },
        omega (arith, n, length-take b vs),
        e,
      )

  found_take : (b : ℕ) (vs before : List (Visit S K)) (v : Visit S K) → FirstThat test vs before v
      → length before < b
      → first_of test (take b vs) ≡ found v.run
  found_take b vs before v f h =
      let n = b - suc (length before) in
      let e : b ≡ length before + suc n = omega arith in
      ap (λ xs. first_of test (take b xs)) f.stands
      ∙ ap (λ c. first_of test (take c (before ++ v ∷ f.after))) e
      ∙ ap (first_of test) (take-append-add before (v ∷ f.after) (suc n))
      ∙ found_first before v (take n f.after) f.none f.passes

  module _ (b : ℕ) (vs : List (Visit S K)) where
    -- "100 reached (the first such run ..)": it stands among those that the budget covers
    pub budget_reached_is : (run : List K) → decided test b vs ≡ reached run
        → (before : List (Visit S K))
        × (v : Visit S K)
        × FirstThat test vs before v
        × (length before < b)
        × (v.run ≡ run)
    unfolding decided decided_by
    budget_reached_is run = go (first_of test (take b vs)) (first_says (take b vs)) (leb (length vs) b)
      where
        go : (x : First K) → Says (take b vs) x → (t : Bool) → decided_by x t ≡ reached run
            → (before : List (Visit S K))
            × (v : Visit S K)
            × FirstThat test vs before v
            × (length before < b)
            × (v.run ≡ run)
        go (found r) f t e = let same : r ≡ run = cc in take_found b vs run (subst (Found (take b vs)) same f)
        go missing f true e = absurd (let z : ◌≡◌ {A = ℕ} 0 1 = cc in omega arith)
        go missing f false e = absurd (let z : ◌≡◌ {A = ℕ} 0 1 = cc in omega arith)

    pub budget_is_reached : (before : List (Visit S K)) (v : Visit S K) → FirstThat test vs before v
        → length before < b
        → decided test b vs ≡ reached v.run
    unfolding decided decided_by
    budget_is_reached before v f h =
        ap (λ x. decided_by x (leb (length vs) b)) (found_take b vs before v f h)

    -- "101 unreachable": the budget covers all, and none reaches
    pub budget_unreachable_is : decided test b vs ≡ unreachable → (length vs ≤ b) × None test vs
    unfolding decided decided_by
    budget_unreachable_is = go (first_of test (take b vs)) (first_says (take b vs)) (leb (length vs) b) refl
      where
        go : (x : First K) → Says (take b vs) x → (t : Bool) → leb (length vs) b ≡ t
            → decided_by x t ≡ unreachable → (length vs ≤ b) × None test vs
        go (found r) f t l e = absurd (let z : ◌≡◌ {A = ℕ} 0 1 = cc in omega arith)
        go missing f true l e =
            let h = leb-true (length vs) b l in
            (h, subst (None test) (take_all b vs h) f)
        go missing f false l e = absurd (let z : ◌≡◌ {A = ℕ} 0 1 = cc in omega arith)

    pub budget_is_unreachable : length vs ≤ b → None test vs → decided test b vs ≡ unreachable
    unfolding decided decided_by
    budget_is_unreachable h f =
        ap (λ xs. decided_by (first_of test xs) (leb (length vs) b)) (take_all b vs h)
        ∙ ap (λ x. decided_by x (leb (length vs) b)) (none_missing vs f)
        ∙ ap (decided_by missing) (le-leb (length vs) b h)

    -- "102 undecided": the budget does not cover all, and none that it covers reaches
    pub budget_undecided_is : decided test b vs ≡ undecided → (b < length vs) × None test (take b vs)
    unfolding decided decided_by
    budget_undecided_is = go (first_of test (take b vs)) (first_says (take b vs)) (leb (length vs) b) refl
      where
        go : (x : First K) → Says (take b vs) x → (t : Bool) → leb (length vs) b ≡ t
            → decided_by x t ≡ undecided → (b < length vs) × None test (take b vs)
        go (found r) f t l e = absurd (let z : ◌≡◌ {A = ℕ} 0 1 = cc in omega arith)
        go missing f true l e = absurd (let z : ◌≡◌ {A = ℕ} 0 1 = cc in omega arith)
        go missing f false l e = (leb-false (length vs) b l, f)

    pub budget_is_undecided : b < length vs → None test (take b vs) → decided test b vs ≡ undecided
    unfolding decided decided_by
    budget_is_undecided h f =
        ap (λ x. decided_by x (leb (length vs) b)) (none_missing (take b vs) f)
        ∙ ap (decided_by missing) (lt-leb (length vs) b h)

  -- a budget that covers all before the first that reaches, and not that run, decides nothing
  pub budget_one_less : (vs before : List (Visit S K)) (v : Visit S K) → FirstThat test vs before v
      → decided test (length before) vs ≡ undecided
  budget_one_less vs before v f =
      let n = ap length f.stands ∙ length-append before (v ∷ f.after) in
      let e = ap (take (length before)) f.stands ∙ take_at before (v ∷ f.after) (length before) refl in
      budget_is_undecided (length before) vs (omega arith) (subst (None test) (sym e) f.none)
