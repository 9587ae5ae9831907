-- The walk that remembers lists the plain walk's first meetings: below a state that was met there is nothing new.
--   Keyed m key Fit left   states of one key have the same work left and the same next steps, which lead to states of
--                          one key; each step lowers the work left, and the states that Fit speaks of are never left
--   Closed w met           a state whose key was met, and that has no more work left than w, is followed by such states
-- Assumes nothing.
use Prim.Native.Nat.{ℕ, zero, suc, ◌<◌, ◌≤◌}
use mathlib.Core.Path.{◌≡◌, refl, sym, ap, subst, ◌∙◌}
use mathlib.Core.Bool.{true}
use mathlib.Core.Logic.{◌⊎◌, inl, inr}
use mathlib.Core.List.{List, [], ◌∷◌, map}
use native.Mathlib.Omega.{arith}
use Rattle.cases.proofs.ChoiceLaws.{never_both}
use Rattle.machine.specs.Model.{Listed}
use Rattle.search.specs.Walk.{Machine, Visit, here, under, starting, walk}
use Rattle.search.specs.Remember.{among, firsts}
use Rattle.search.specs.Recall.{met_by, starting_new, remembering}
use Rattle.search.proofs.walk.WalkLaws.{starting_on, on_starting}
use Rattle.search.proofs.recall.AmongLaws.{among_next, among_either}
use Rattle.search.proofs.recall.FirstsLaws.{cases, firsts_new, firsts_append, firsts_under}
use Rattle.search.proofs.recall.FirstsLaws.{met_under, met_firsts, firsts_none, met_grows, met_all, met_from}
use Rattle.search.proofs.recall.RecallLaws.{remembering_met, remembering_new}

pub record Keyed {S K : Type 0} (m : Machine S K) (key : S → List ℕ) (Fit : S → Type 0) (left : S → ℕ)
    : Type 0 where
  pub keeps : (s : S) → Fit s → (k : K) → Listed k (m.nexts s) → Fit (m.after s k)
  pub falls : (s : S) → Fit s → (k : K) → Listed k (m.nexts s) → left (m.after s k) < left s
  pub same_left : (s u : S) → Fit s → Fit u → key s ≡ key u → left s ≡ left u
  pub same_nexts : (s u : S) → Fit s → Fit u → key s ≡ key u → m.nexts s ≡ m.nexts u
  pub same_after : (s u : S) → Fit s → Fit u → key s ≡ key u → (k : K) → Listed k (m.nexts s)
      → key (m.after s k) ≡ key (m.after u k)

module _ {S K : Type 0} {m : Machine S K} {key : S → List ℕ} {Fit : S → Type 0} {left : S → ℕ}
    (laws : Keyed m key Fit left) where
  unfoldable pub Closed : ℕ → List (List ℕ) → Type 0
  Closed w met =
      (u : S) → Fit u → left u ≤ w → among (key u) met ≡ true
      → (k : K) → Listed k (m.nexts u) → among (key (m.after u k)) met ≡ true

  -- all that follows a state that was met is met
  covered : (w : ℕ) (met : List (List ℕ)) → Closed w met
      → (n : ℕ) (s : S) → Fit s → left s ≤ w → among (key s) met ≡ true
      → (v : Visit S K) → Listed v (walk m n s) → among (key v.end) met ≡ true
  unfolding walk Listed Closed
  covered w met c zero s f h a v l = absurd l
  covered w met c (suc n) s f h a v (inl e) =
      subst (λ (y : Visit S K). among (key y.end) met ≡ true) (sym e) a
  covered w met c (suc n) s f h a v (inr l) =
      let r = on_starting m (walk m n) s v (m.nexts s) l in
      let less = laws.falls s f r.0 r.2 in
      subst (λ (y : Visit S K). among (key y.end) met ≡ true) (sym r.4)
      (covered w met c n (m.after s r.0) (laws.keeps s f r.0 r.2) (omega arith)
      (c s f h a r.0 r.2) r.1 r.3)

  -- the walk goes on below each of its runs
  walk_here : (n : ℕ) (s : S) → left s < n → Listed (here s) (walk m n s)
  unfolding walk Listed
  walk_here zero s h = absurd (omega arith)
  walk_here (suc n) s h = inl refl

  abbrev GoesOn : ℕ → S → Visit S K → Type 0
  GoesOn n s v =
      Fit v.end
      × ((k : K) → Listed k (m.nexts v.end)
      → (x : Visit S K) × Listed x (walk m n s) × (x.end ≡ m.after v.end k))

  walk_on : (n : ℕ) (s : S) → Fit s → left s < n → (v : Visit S K) → Listed v (walk m n s) → GoesOn n s v
  unfolding walk Listed
  walk_on zero s f h v l = absurd l
  walk_on (suc n) s f h v (inl e) = subst (GoesOn (suc n) s) (sym e) (f, next)
    where
      next : (k : K) → Listed k (m.nexts s)
          → (x : Visit S K) × Listed x (walk m (suc n) s) × (x.end ≡ m.after s k)
      next k l =
          let less = laws.falls s f k l in
          let new = walk_here n (m.after s k) (omega arith) in
          (under k (here (m.after s k)), inr (starting_on m (walk m n) s k _ (m.nexts s) l new), refl)
  walk_on (suc n) s f h v (inr l) =
      let r = on_starting m (walk m n) s v (m.nexts s) l in
      let less = laws.falls s f r.0 r.2 in
      let below = walk_on n (m.after s r.0) (laws.keeps s f r.0 r.2) (omega arith) r.1 r.3 in
      subst (GoesOn (suc n) s) (sym r.4) (
        below.0,
        (λ k i. let x = below.1 k i in
            (under r.0 x.0, inr (starting_on m (walk m n) s r.0 x.0 (m.nexts s) r.2 x.1), x.2)),
      )

  -- Closed: nothing was met; with less work left; where a state with more work left is met too; after a walk
  pub closed_none : (w : ℕ) → Closed w []
  unfolding Closed among
  closed_none w u f h a k l = absurd (never_both a refl)

  closed_less : (w x : ℕ) (met : List (List ℕ)) → x ≤ w → Closed w met → Closed x met
  unfolding Closed
  closed_less w x met h c u f less = c u f (omega arith)

  closed_here : (w : ℕ) (met : List (List ℕ)) (s : S) → Fit s → w < left s → Closed w met
      → Closed w (key s ∷ met)
  unfolding Closed
  closed_here w met s f h c u g less a k l = go (among_either (key u) (key s) met a)
    where
      go : (key u ≡ key s) ⊎ (among (key u) met ≡ true) → among (key (m.after u k)) (key s ∷ met) ≡ true
      go (inl e) = let same = laws.same_left u s g f e in absurd (omega arith)
      go (inr b) = among_next (key (m.after u k)) (key s) met (c u g less b k l)

  closed_walk : (w : ℕ) (met : List (List ℕ)) (n : ℕ) (s : S) → Closed w met → Fit s → left s < n
      → Closed w (met_by key met (walk m n s))
  unfolding Closed
  closed_walk w met n s c f h u g less a k l = go (met_from key met (walk m n s) (key u) a)
    where
      go : (among (key u) met ≡ true) ⊎ ((v : Visit S K) × Listed v (walk m n s) × (key u ≡ key v.end))
          → among (key (m.after u k)) (met_by key met (walk m n s)) ≡ true
      go (inl b) = met_grows key (key (m.after u k)) met (walk m n s) (c u g less b k l)
      go (inr r) =
          let o = walk_on n s f h r.0 r.1 in
          let there = subst (Listed k) (laws.same_nexts u r.0.end g o.0 r.2) l in
          let x = o.1 k there in
          let e = laws.same_after u r.0.end g o.0 r.2 k l ∙ ap key (sym x.2) in
          subst (λ y. among y (met_by key met (walk m n s)) ≡ true) (sym e)
          (met_all key met (walk m n s) x.0 x.1)

  -- the steps of one state in turn, where what is listed below it is known to be first meetings
  starting_firsts : (n : ℕ) (s : S) → Fit s → left s ≤ n
      → ((k : K) (seen : List (List ℕ)) → Listed k (m.nexts s) → Closed (left (m.after s k)) seen
      → remembering m key n seen (m.after s k) ≡ firsts key seen (walk m n (m.after s k)))
      → (ks : List K) → ((k : K) → Listed k ks → Listed k (m.nexts s))
      → (seen : List (List ℕ)) → ((w : ℕ) → w < left s → Closed w seen)
      → starting_new m key (remembering m key n) seen s ks ≡ firsts key seen (starting m (walk m n) s ks)
  unfolding starting_new starting Listed firsts
  starting_firsts n s f h below [] on seen c = refl
  starting_firsts n s f h below (k ∷ ks) on seen c =
      let l = on k (inl refl) in
      let less = laws.falls s f k l in
      let new = walk m n (m.after s k) in
      let rest = starting_firsts n s f h below ks (λ j i. on j (inr i)) (met_by key seen new)
      (λ w q. closed_walk w seen n (m.after s k) (c w q) (laws.keeps s f k l) (omega arith)) in
      rw (
        firsts_append key seen (map (under k) new) (starting m (walk m n) s ks),
        firsts_under key seen k new,
        met_under key seen k new,
        below k seen l (c (left (m.after s k)) less),
        met_firsts key seen new,
        rest,
      )
      refl

  -- the walk that remembers: the plain walk's first meetings
  pub remembering_firsts : (n : ℕ) (met : List (List ℕ)) (s : S) → Fit s → left s < n → Closed (left s) met
      → remembering m key n met s ≡ firsts key met (walk m n s)
  unfolding remembering walk firsts Listed
  remembering_firsts zero met s f h c = refl
  remembering_firsts (suc n) met s f h c =
      cases (among (key s) met)
      (λ a. remembering_met m key n met s a
      ∙ sym (firsts_none key met (walk m (suc n) s) (covered (left s) met c (suc n) s f (omega arith) a)))
      (λ a. remembering_new m key n met s a
      ∙ ap (λ vs. here s ∷ vs)
      (starting_firsts n s f (omega arith)
      (λ k seen l d. let less = laws.falls s f k l in
      remembering_firsts n seen (m.after s k) (laws.keeps s f k l) (omega arith) d)
      (m.nexts s) (λ k l. l) (key s ∷ met)
      (λ w q. closed_here w met s f q (closed_less (left s) w met (omega arith) c)))
      ∙ sym (firsts_new key met (here s) (starting m (walk m n) s (m.nexts s)) a))
