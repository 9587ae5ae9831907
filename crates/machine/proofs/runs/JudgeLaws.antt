-- The judge and legality: a run is legal to its end, or to its first illegal step, and the judge says which;
-- and a single step. Assumes nothing.
use Prim.Native.Nat.{ℕ, zero, suc, ◌+◌}
use mathlib.Core.Path.{◌≡◌, refl, sym, ap, ◌∙◌, subst}
use mathlib.Core.Logic.{◌⊎◌, inl, inr, ◌≢◌}
use mathlib.Core.Bool.{Bool, true, false}
use mathlib.Core.List.{List, [], ◌∷◌}
use native.Mathlib.Omega.{arith}
use native.Mathlib.Nat.{zero-add, add-zero, add-suc, suc-add}
use borrow.Author.Tests.{eqb-true, eqb-false, eq-eqb, ne_eqb}
use lib.Dec.{eqb}
use lib.ListN.{length, get_or, take}
use Rattle.cases.specs.declared.case.Step.{Step}
use Rattle.cases.specs.Draft.{no_step}
use Rattle.cases.proofs.ChoiceLaws.{pick_true, pick_false, true_not, false_not}
use Rattle.machine.specs.declared.cells.State.{State}
use Rattle.machine.specs.declared.blocker.Blocker.{Blocker}
use Rattle.machine.specs.declared.steps.Ruling.TheVariants.{Allowed, Broken, Declined}
use Rattle.machine.specs.declared.runs.Verdict.{Verdict}
use Rattle.machine.specs.declared.runs.Verdict.TheVariants.{Legal, Illegal}
use Rattle.machine.specs.declared.runs.Judged.{Judged}
use Rattle.machine.specs.Judge.{told, stepped_of, judged, judge_from}
use Rattle.machine.specs.Model.{Model, Leads, StopsAt}

module _ (m : Model State Step) where
  -- a turn of the judge: a legal step; an illegal one; none is left
  module _ (i : ℕ) (s : State) (k : Step) (ks : List Step) where
    pub judge_next : m.rule s k ≡ 0 → judge_from m i s (k ∷ ks) ≡ judge_from m (suc i) (m.after s k) ks
    unfolding judge_from
    judge_next h = pick_true _ _ _ (eq-eqb _ _ h)

    pub judge_here : m.rule s k ≢ 0 → judge_from m i s (k ∷ ks) ≡ judged (Illegal (m.rule s k) i (m.blocker s k)) s
    unfolding judge_from
    judge_here h = pick_false _ _ _ (ne_eqb _ _ h)

  -- every step is legal: the judge says so, with their number and the end state
  pub leads_judged : (i : ℕ) (s : State) (ks : List Step) (u : State) → Leads m s ks u
      → judge_from m i s ks ≡ judged (Legal (i + length ks)) u
  unfolding Leads judge_from
  leads_judged i s [] u h = rw (h, add-zero)
  leads_judged i s (k ∷ ks) u h =
      judge_next i s k ks h.0 ∙ leads_judged (suc i) (m.after s k) ks u h.1 ∙ rw (add-suc, suc-add)

  -- one is not: the judge names the first, its rule there, the first entry in its way, and the state before it
  pub stops_judged : (i : ℕ) (s : State) (ks : List Step) (n : ℕ) (u : State) → StopsAt m s ks n u
      → judge_from m i s ks
      ≡ judged (Illegal (m.rule u (get_or ks n no_step)) (i + n) (m.blocker u (get_or ks n no_step))) u
  stops_judged i s [] n u h = absurd (let w = h.within in omega arith)
  stops_judged i s (k ∷ ks) zero u h =
      let e : s ≡ u = unfold Leads in h.before in
      let b : m.rule s k ≢ 0 = rw (sym e) at h.broken in
      judge_here i s k ks b ∙ rw (e, add-zero)
  stops_judged i s (k ∷ ks) (suc n) u h =
      let e : (m.rule s k ≡ 0) × Leads m (m.after s k) (take n ks) u = unfold Leads in h.before in
      let w = h.within in
      let rest : StopsAt m (m.after s k) ks n u
      = record { within = omega arith; before = e.1; broken = h.broken } in
      judge_next i s k ks e.0 ∙ stops_judged (suc i) (m.after s k) ks n u rest ∙ rw (add-suc, suc-add)

  -- one of the two it is
  pub leads_or_stops : (s : State) (ks : List Step)
      → ((u : State) × Leads m s ks u) ⊎ ((n : ℕ) × (u : State) × StopsAt m s ks n u)
  unfolding Leads
  leads_or_stops s [] = inl (s, refl)
  leads_or_stops s (k ∷ ks) = go (eqb (m.rule s k) 0) refl (leads_or_stops (m.after s k) ks)
    where
      go : (b : Bool) → eqb (m.rule s k) 0 ≡ b
          → ((u : State) × Leads m (m.after s k) ks u) ⊎
          ((n : ℕ) × (u : State) × StopsAt m (m.after s k) ks n u)
          → ((u : State) × ((m.rule s k ≡ 0) × Leads m (m.after s k) ks u))
          ⊎ ((n : ℕ) × (u : State) × StopsAt m s (k ∷ ks) n u)
      go true e (inl r) = inl (r.0, (eqb-true _ _ e, r.1))
      go true e (inr r) =
          inr (
            suc r.0,
            r.1,
            record {
              within = let w = r.2.within in omega arith;
              before = (eqb-true _ _ e, r.2.before);
              broken = r.2.broken;
            },
          )
      go false e r =
          inr (zero, s, record { within = omega arith; before = refl; broken = eqb-false _ _ e })

-- From the start: what the judge says of a run, and what its saying so tells
module _ (m : Model State Step) (s : State) (ks : List Step) where
  pub judge_says_legal : (u : State) → Leads m s ks u → judge_from m 0 s ks ≡ judged (Legal (length ks)) u
  judge_says_legal u h = leads_judged m 0 s ks u h ∙ rw zero-add

  pub judge_says_illegal : (n : ℕ) (u : State) → StopsAt m s ks n u
      → judge_from m 0 s ks
      ≡ judged (Illegal (m.rule u (get_or ks n no_step)) n (m.blocker u (get_or ks n no_step))) u
  judge_says_illegal n u h = stops_judged m 0 s ks n u h ∙ rw zero-add

  verdict_is : (v : Verdict) (u : State) → judge_from m 0 s ks ≡ judged v u → (judge_from m 0 s ks).verdict ≡ v
  unfolding judged
  verdict_is v u e = ap (λ (j : Judged). j.verdict) e

  pub judge_state_is : (v : Verdict) (u : State) → judge_from m 0 s ks ≡ judged v u
      → (judge_from m 0 s ks).state ≡ u
  unfolding judged
  judge_state_is v u e = ap (λ (j : Judged). j.state) e

  pub judge_legal_says : (u : State) → Leads m s ks u → (judge_from m 0 s ks).verdict ≡ Legal (length ks)
  judge_legal_says u h = verdict_is _ u (judge_says_legal u h)

  pub judge_illegal_says : (n : ℕ) (u : State) (r : ℕ) (b : Blocker) → StopsAt m s ks n u
      → m.rule u (get_or ks n no_step) ≡ r
      → m.blocker u (get_or ks n no_step) ≡ b
      → (judge_from m 0 s ks).verdict ≡ Illegal r n b
  judge_illegal_says n u r b h e d =
      verdict_is _ u (judge_says_illegal n u h)
      ∙ ap (λ x. Illegal x n (m.blocker u (get_or ks n no_step))) e
      ∙ ap (Illegal r n) d

  -- a verdict of one kind is none of the other
  legal_illegal : (n r i : ℕ) (b : Blocker) → Legal n ≡ Illegal r i b → ⊥
  legal_illegal n r i b e = let z : ◌≡◌ {A = ℕ} 0 1 = cc in omega arith

  index_is : (r i : ℕ) (b : Blocker) (q j : ℕ) (d : Blocker) → Illegal r i b ≡ Illegal q j d
      → (r ≡ q) × (i ≡ j) × (b ≡ d)
  index_is r i b q j d e = (cc, cc, cc)

  pub judge_says_leads : (n : ℕ) → (judge_from m 0 s ks).verdict ≡ Legal n → (u : State) × Leads m s ks u
  judge_says_leads n h = go (leads_or_stops m s ks)
    where
      go : ((u : State) × Leads m s ks u) ⊎ ((n : ℕ) × (u : State) × StopsAt m s ks n u)
          → (u : State) × Leads m s ks u
      go (inl e) = e
      go (inr e) =
          absurd (legal_illegal n _ e.0 _ (sym h ∙ judge_illegal_says e.0 e.1 _ _ e.2 refl refl))

  pub judge_says_stops : (r i : ℕ) (b : Blocker) → (judge_from m 0 s ks).verdict ≡ Illegal r i b
      → (u : State) × StopsAt m s ks i u × (m.rule u (get_or ks i no_step) ≡ r)
      × (m.blocker u (get_or ks i no_step) ≡ b)
  judge_says_stops r i b h = go (leads_or_stops m s ks)
    where
      go : ((u : State) × Leads m s ks u) ⊎ ((n : ℕ) × (u : State) × StopsAt m s ks n u)
          → (u : State) × StopsAt m s ks i u × (m.rule u (get_or ks i no_step) ≡ r)
          × (m.blocker u (get_or ks i no_step) ≡ b)
      go (inl e) = absurd (legal_illegal (length ks) r i b (sym (judge_legal_says e.0 e.1) ∙ h))
      go (inr e) =
          let told = judge_illegal_says e.0 e.1 _ _ e.2 refl refl in
          let w = index_is _ e.0 _ r i b (sym told ∙ h) in (
            e.1,
            subst (λ n. StopsAt m s ks n e.1) w.1 e.2,
            subst (λ n. m.rule e.1 (get_or ks n no_step) ≡ r) w.1 w.0,
            subst (λ n. m.blocker e.1 (get_or ks n no_step) ≡ b) w.1 w.2,
          )

-- A single step that 5 or 8 declines
pub stepped_declined : (m : Model State Step) (s : State) (k : Step) (n : ℕ) → n ≡ m.fault k → n ≢ 0
    → told (Declined n) s ≡ stepped_of m s k
unfolding stepped_of
stepped_declined m s k n e d =
    ap (λ x. told (Declined x) s) e ∙ sym (pick_true _ _ _ (false_not _ (ne_eqb _ 0 (λ z. d (e ∙ z)))))

-- A single step that passes the checks 5 and 8: it breaks a rule; it breaks none
module _ (m : Model State Step) (s : State) (k : Step) (f : m.fault k ≡ 0) where
  pub stepped_broken : (r : ℕ) → r ≡ m.rule s k → r ≢ 0 → (b : Blocker) → b ≡ m.blocker s k
      → told (Broken r b) s ≡ stepped_of m s k
  unfolding stepped_of
  stepped_broken r e n b d =
      let broken = false_not _ (ne_eqb _ 0 (λ z. n (e ∙ z))) in
      ap (λ x. told (Broken x b) s) e
      ∙ ap (λ x. told (Broken (m.rule s k) x) s) d
      ∙ sym (pick_false _ _ _ (true_not _ (eq-eqb _ _ f)) ∙ pick_true _ _ _ broken)

  pub stepped_legal : (u : State) → m.rule s k ≡ 0 → u ≡ m.after s k → told Allowed u ≡ stepped_of m s k
  unfolding stepped_of
  stepped_legal u r e =
      ap (told Allowed) e
      ∙ sym (pick_false _ _ _ (true_not _ (eq-eqb _ _ f)) ∙ pick_false _ _ _ (true_not _ (eq-eqb _ _ r)))
