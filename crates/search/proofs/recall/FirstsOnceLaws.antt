-- Which of some runs are first meetings: some of them, in their order, no two with one key, for each key the first; and
-- the first that passes a test is among them.
--   Apart key vs   no two of the runs vs end with the same key
-- Assumes nothing.
use Prim.Native.Nat.{ℕ, ◌≤◌}
use mathlib.Core.Path.{◌≡◌, refl, sym, ap, subst, ◌∙◌}
use mathlib.Core.Bool.{Bool, true, false}
use mathlib.Core.Logic.{◌⊎◌, inl, inr, ◌≢◌}
use mathlib.Core.List.{List, [], ◌∷◌, ◌++◌}
use native.Mathlib.Omega.{arith}
use lib.ListN.{length}
use Rattle.cases.proofs.ChoiceLaws.{never_both}
use Rattle.machine.specs.Model.{Listed}
use Rattle.machine.proofs.lists.ListedLaws.{listed_right}
use Rattle.search.specs.Walk.{Visit, Sublist}
use Rattle.search.specs.Question.{first_of}
use Rattle.search.specs.Remember.{among, firsts}
use Rattle.search.proofs.recall.AmongLaws.{among_either, among_other, among_newest, among_older}
use Rattle.search.proofs.recall.FirstsLaws.{cases, firsts_met, firsts_new}

unfoldable pub Apart : {S K : Type 0} → (S → List ℕ) → List (Visit S K) → Type 0
Apart key [] = Unit {0}
Apart {S} {K} key (v ∷ vs) = ((w : Visit S K) → Listed w vs → key v.end ≢ key w.end) × Apart key vs

-- a part of a list is a part of one that has one more in front
sub_next : {A : Type 0} (xs : List A) (y : A) (ys : List A) → Sublist xs ys → Sublist xs (y ∷ ys)
unfolding Sublist
sub_next [] y ys h = tt
sub_next (x ∷ xs) y ys h = inr h

module _ {S K : Type 0} (key : S → List ℕ) where
  -- they are some of the runs, in their order; each is one of them; they are no more
  pub firsts_sub : (met : List (List ℕ)) (vs : List (Visit S K)) → Sublist (firsts key met vs) vs
  unfolding firsts Sublist
  firsts_sub met [] = tt
  firsts_sub met (v ∷ vs) =
      cases (among (key v.end) met)
      (λ h. rw (firsts_met key met v vs h) (sub_next (firsts key met vs) v vs (firsts_sub met vs)))
      (λ h. rw (firsts_new key met v vs h) (inl (refl, firsts_sub (key v.end ∷ met) vs)))

  pub firsts_on : (met : List (List ℕ)) (vs : List (Visit S K)) (v : Visit S K)
      → Listed v (firsts key met vs) → Listed v vs
  unfolding firsts Listed
  firsts_on met [] v l = l
  firsts_on met (x ∷ vs) v l =
      cases (among (key x.end) met)
      (λ h. inr (firsts_on met vs v (rw (firsts_met key met x vs h) at l)))
      (λ h. go (rw (firsts_new key met x vs h) at l) (firsts_on (key x.end ∷ met) vs v))
    where
      go : (v ≡ x) ⊎ Listed v (firsts key (key x.end ∷ met) vs)
          → (Listed v (firsts key (key x.end ∷ met) vs) → Listed v vs)
          → (v ≡ x) ⊎ Listed v vs
      go (inl e) ih = inl e
      go (inr k) ih = inr (ih k)

  pub firsts_few : (met : List (List ℕ)) (vs : List (Visit S K)) → length (firsts key met vs) ≤ length vs
  unfolding firsts
  firsts_few met [] = omega arith
  firsts_few met (v ∷ vs) =
      cases (among (key v.end) met)
      (λ h. rw (firsts_met key met v vs h) (let n = firsts_few met vs in omega arith))
      (λ h. rw (firsts_new key met v vs h) (let n = firsts_few (key v.end ∷ met) vs in omega arith))

  -- none has a key that was met; no two have the same
  pub firsts_fresh : (met : List (List ℕ)) (vs : List (Visit S K)) (v : Visit S K)
      → Listed v (firsts key met vs) → among (key v.end) met ≡ false
  unfolding firsts Listed
  firsts_fresh met [] v l = absurd l
  firsts_fresh met (x ∷ vs) v l =
      cases (among (key x.end) met)
      (λ h. firsts_fresh met vs v (rw (firsts_met key met x vs h) at l))
      (λ h. go h (rw (firsts_new key met x vs h) at l) (firsts_fresh (key x.end ∷ met) vs v))
    where
      go : among (key x.end) met ≡ false
          → (v ≡ x) ⊎ Listed v (firsts key (key x.end ∷ met) vs)
          → (Listed v (firsts key (key x.end ∷ met) vs) → among (key v.end) (key x.end ∷ met) ≡ false)
          → among (key v.end) met ≡ false
      go h (inl e) ih = subst (λ (y : Visit S K). among (key y.end) met ≡ false) (sym e) h
      go h (inr k) ih = among_older (key v.end) (key x.end) met (ih k)

  pub firsts_apart : (met : List (List ℕ)) (vs : List (Visit S K)) → Apart key (firsts key met vs)
  unfolding firsts Apart
  firsts_apart met [] = tt
  firsts_apart met (v ∷ vs) =
      cases (among (key v.end) met)
      (λ h. rw (firsts_met key met v vs h) (firsts_apart met vs))
      (λ h. rw (firsts_new key met v vs h) (
        (λ w l e. among_newest (key w.end) (key v.end) met (firsts_fresh (key v.end ∷ met) vs w l) (sym e)),
        firsts_apart (key v.end ∷ met) vs,
      ))

  -- so of two parts no end of the one has the key of an end of the other
  apart_once : (xs ys : List (Visit S K)) → Apart key (xs ++ ys)
      → (v w : Visit S K) → Listed v xs → Listed w ys → key v.end ≢ key w.end
  unfolding Apart Listed
  apart_once [] ys a v w h k = absurd h
  apart_once (x ∷ xs) ys a v w (inl e) k =
      subst (λ (y : Visit S K). key y.end ≢ key w.end) (sym e) (a.0 w (listed_right w xs ys k))
  apart_once (x ∷ xs) ys a v w (inr h) k = apart_once xs ys a.1 v w h k

  pub firsts_once : (met : List (List ℕ)) (vs xs ys : List (Visit S K)) → firsts key met vs ≡ xs ++ ys
      → (v w : Visit S K) → Listed v xs → Listed w ys → key v.end ≢ key w.end
  firsts_once met vs xs ys e = apart_once xs ys (subst (Apart key) e (firsts_apart met vs))

  -- every run's key was met or is that of one of them
  pub firsts_all : (met : List (List ℕ)) (vs : List (Visit S K)) (v : Visit S K) → Listed v vs
      → among (key v.end) met ≡ false
      → (w : Visit S K) × Listed w (firsts key met vs) × (key w.end ≡ key v.end)
  unfolding firsts Listed
  firsts_all met [] v l a = absurd l
  firsts_all met (x ∷ vs) v (inl e) a =
      let h = subst (λ (y : Visit S K). among (key y.end) met ≡ false) e a in
      rw (firsts_new key met x vs h) (x, inl refl, ap (λ (y : Visit S K). key y.end) (sym e))
  firsts_all met (x ∷ vs) v (inr l) a =
      cases (among (key x.end) met)
      (λ h. rw (firsts_met key met x vs h) (firsts_all met vs v l a))
      (λ h. rw (firsts_new key met x vs h)
      (cases (among (key v.end) (key x.end ∷ met))
      (λ o. (x, inl refl, here (among_either (key v.end) (key x.end) met o)))
      (λ n. let r = firsts_all (key x.end ∷ met) vs v l n in (r.0, inr r.1, r.2))))
    where
      here : (key v.end ≡ key x.end) ⊎ (among (key v.end) met ≡ true) → key x.end ≡ key v.end
      here (inl e) = sym e
      here (inr t) = absurd (never_both t a)

  -- each stands where its key is met first
  pub firsts_first : (met : List (List ℕ)) (vs : List (Visit S K)) (v : Visit S K)
      → Listed v (firsts key met vs)
      → (before : List (Visit S K)) × (after : List (Visit S K)) × (vs ≡ before ++ v ∷ after)
      × ((w : Visit S K) → Listed w before → key w.end ≢ key v.end)
  unfolding firsts Listed
  firsts_first met [] v l = absurd l
  firsts_first met (x ∷ vs) v l =
      cases (among (key x.end) met)
      (λ h. let k = rw (firsts_met key met x vs h) at l in
      later (λ e. among_other (key v.end) (key x.end) met (firsts_fresh met vs v k) h (sym e))
      (firsts_first met vs v k))
      (λ h. go (rw (firsts_new key met x vs h) at l) (firsts_first (key x.end ∷ met) vs v))
    where
      First : List (Visit S K) → Type 0
      First ws =
          (before : List (Visit S K)) × (after : List (Visit S K)) × (ws ≡ before ++ v ∷ after)
          × ((w : Visit S K) → Listed w before → key w.end ≢ key v.end)

      more : (before : List (Visit S K)) → key x.end ≢ key v.end
          → ((w : Visit S K) → Listed w before → key w.end ≢ key v.end)
          → (w : Visit S K) → (w ≡ x) ⊎ Listed w before → key w.end ≢ key v.end
      more before n f w (inl e) = subst (λ (y : Visit S K). key y.end ≢ key v.end) (sym e) n
      more before n f w (inr k) = f w k

      later : key x.end ≢ key v.end → First vs → First (x ∷ vs)
      later n r = (x ∷ r.0, r.1, ap (λ zs. x ∷ zs) r.2, more r.0 n r.3)

      go : (v ≡ x) ⊎ Listed v (firsts key (key x.end ∷ met) vs)
          → (Listed v (firsts key (key x.end ∷ met) vs) → First vs)
          → First (x ∷ vs)
      go (inl e) ih = ([], vs, ap (λ y. y ∷ vs) (sym e), (λ w k. absurd k))
      go (inr k) ih =
          later (λ e. among_newest (key v.end) (key x.end) met
          (firsts_fresh (key x.end ∷ met) vs v k) (sym e)) (ih k)

  -- "Wherever both engines decide, they agree, the run shown included": where states of one key pass a test alike, and
  -- none of a key that was met passes, the first run that passes is a first meeting
  pub first_agrees : (test : S → Bool) (Fit : S → Type 0)
      → ((s u : S) → Fit s → Fit u → key s ≡ key u → test s ≡ test u)
      → (met : List (List ℕ)) → ((s : S) → Fit s → among (key s) met ≡ true → test s ≡ false)
      → (vs : List (Visit S K)) → ((v : Visit S K) → Listed v vs → Fit v.end)
      → first_of test (firsts key met vs) ≡ first_of test vs
  unfolding firsts first_of Listed
  first_agrees test Fit like met fail [] on = refl
  first_agrees test Fit like met fail (v ∷ vs) on =
      cases (among (key v.end) met)
      (λ h. rw (firsts_met key met v vs h, fail v.end (on v (inl refl)) h, first_of)
      (first_agrees test Fit like met fail vs (λ w l. on w (inr l))))
      (λ h. rw (firsts_new key met v vs h)
      (cases (test v.end)
      (λ t. rw (t, first_of))
      (λ t. rw (t, first_of)
      (first_agrees test Fit like (key v.end ∷ met) (more t) vs (λ w l. on w (inr l))))))
    where
      more : test v.end ≡ false → (s : S) → Fit s → among (key s) (key v.end ∷ met) ≡ true → test s ≡ false
      more t s f a = go (among_either (key s) (key v.end) met a)
        where
          go : (key s ≡ key v.end) ⊎ (among (key s) met ≡ true) → test s ≡ false
          go (inl e) = like s v.end f (on v (inl refl)) e ∙ t
          go (inr b) = fail s f b
