-- Laws of any machine (Model): which steps are next, runs behind runs, and, where it has its laws (Lawful),
-- what a legal run keeps and uses up. Assumes nothing.
use Prim.Native.Nat.{ℕ, zero, suc, ◌+◌, ◌<◌, ◌≤◌}
use mathlib.Core.Path.{◌≡◌, refl, sym, ap, ◌∙◌}
use mathlib.Core.Logic.{◌⊎◌, inl, inr}
use mathlib.Core.Bool.{Bool, true, false}
use mathlib.Core.List.{List, [], ◌∷◌, ◌++◌}
use native.Mathlib.Omega.{arith}
use borrow.Author.Tests.{eqb-true, eqb-false}
use lib.Dec.{eqb}
use lib.ListN.{length, get_or, take}
use Rattle.cases.specs.declared.case.Step.{Step}
use Rattle.cases.specs.Draft.{no_step}
use Rattle.cases.specs.Choice.{pick}
use Rattle.machine.specs.Model.{Model, ruled, Leads, Faultless, allowed, legal_steps, spent, Listed, Ascending}
use Rattle.machine.specs.Model.{Lawful, StopsAt}

module _ {K : Type 0} (rule : K → ℕ) where
  -- among the allowed are exactly the listed ones that break no rule
  pub allowed_listed : (k : K) (ks : List K) → Listed k ks → rule k ≡ 0 → Listed k (allowed rule ks)
  unfolding allowed Listed pick
  allowed_listed k [] h e = h
  allowed_listed k (j ∷ ks) h e = go (eqb (rule j) 0) refl h (allowed_listed k ks)
    where
      go : (b : Bool) → eqb (rule j) 0 ≡ b → (k ≡ j) ⊎ Listed k ks
          → (Listed k ks → rule k ≡ 0 → Listed k (allowed rule ks))
          → Listed k (pick b (j ∷ allowed rule ks) (allowed rule ks))
      go true q (inl d) ih = inl d
      go true q (inr d) ih = inr (ih d e)
      go false q (inl d) ih = absurd (eqb-false _ _ q (sym (ap rule d) ∙ e))
      go false q (inr d) ih = ih d e

  pub listed_allowed : (k : K) (ks : List K) → Listed k (allowed rule ks) → Listed k ks × (rule k ≡ 0)
  unfolding allowed Listed pick
  listed_allowed k [] h = absurd h
  listed_allowed k (j ∷ ks) h = go (eqb (rule j) 0) refl h (listed_allowed k ks)
    where
      go : (b : Bool) → eqb (rule j) 0 ≡ b → Listed k (pick b (j ∷ allowed rule ks) (allowed rule ks))
          → (Listed k (allowed rule ks) → Listed k ks × (rule k ≡ 0))
          → ((k ≡ j) ⊎ Listed k ks) × (rule k ≡ 0)
      go true q (inl d) ih = (inl d, ap rule d ∙ eqb-true _ _ q)
      go true q (inr d) ih = let r = ih d in (inr r.0, r.1)
      go false q d ih = let r = ih d in (inr r.0, r.1)

  -- and they stand in the order of the others
  pub allowed_rises : (rank : K → ℕ) (ks : List K) → Ascending rank ks → Ascending rank (allowed rule ks)
  unfolding allowed Ascending pick
  allowed_rises rank [] a = tt
  allowed_rises rank (k ∷ ks) a = go (eqb (rule k) 0) (allowed_rises rank ks a.1)
    where
      go : (b : Bool) → Ascending rank (allowed rule ks)
          → Ascending rank (pick b (k ∷ allowed rule ks) (allowed rule ks))
      go true ih = ((λ j h. a.0 j (listed_allowed j ks h).0), ih)
      go false ih = ih

module _ {S K : Type 0} (m : Model S K) where
  -- a run behind a run
  pub leads_append : (s : S) (ks : List K) (u : S) (js : List K) (v : S) → Leads m s ks u → Leads m u js v
      → Leads m s (ks ++ js) v
  unfolding Leads
  leads_append s [] u js v a b = rw a b
  leads_append s (k ∷ ks) u js v a b = (a.0, leads_append (m.after s k) ks u js v a.1 b)

  pub faultless_append : (ks js : List K) → Faultless m ks → Faultless m js → Faultless m (ks ++ js)
  unfolding Faultless
  faultless_append [] js a b = b
  faultless_append (k ∷ ks) js a b = (a.0, faultless_append ks js a.1 b)

  -- the first n of some steps; the one at a position
  faultless_take : (n : ℕ) (ks : List K) → Faultless m ks → Faultless m (take n ks)
  unfolding Faultless
  faultless_take zero ks h = tt
  faultless_take (suc n) [] h = tt
  faultless_take (suc n) (k ∷ ks) h = (h.0, faultless_take n ks h.1)

  faultless_at : (n : ℕ) (ks : List K) (d : K) → n < length ks → Faultless m ks → m.fault (get_or ks n d) ≡ 0
  unfolding Faultless
  faultless_at n [] d low h = absurd (omega arith)
  faultless_at zero (k ∷ ks) d low h = h.0
  faultless_at (suc n) (k ∷ ks) d low h = faultless_at n ks d (omega arith) h.1

  module _ {Fit : S → Type 0} {rank : K → ℕ} (laws : Lawful m Fit rank) where
    -- the list of next steps holds the legal ones, exactly, in order, each once
    module _ (s : S) (k : K) where
      pub legal_listed : m.fault k ≡ 0 → m.rule s k ≡ 0 → Listed k (legal_steps m s)
      unfolding legal_steps
      legal_listed h e = allowed_listed (m.rule s) k m.candidates ((laws.complete k).1 h) e

      pub listed_legal : Listed k (legal_steps m s) → (m.fault k ≡ 0) × (m.rule s k ≡ 0)
      unfolding legal_steps
      listed_legal h =
          let a = listed_allowed (m.rule s) k m.candidates h in
          ((laws.complete k).0 a.0, a.1)

    pub legal_rises : (s : S) → Ascending rank (legal_steps m s)
    unfolding legal_steps
    legal_rises s = allowed_rises (m.rule s) rank m.candidates laws.rises

    -- a legal step lowers the work left
    pub step_lowers : (s : S) → Fit s → (k : K) → m.fault k ≡ 0 → m.rule s k ≡ 0
        → m.left (m.after s k) < m.left s
    step_lowers s f k h e =
        let a = laws.lowers s f k h e in
        let b = laws.costs s f k h e in
        omega arith

    -- a legal run keeps the fit, and lowers the work left by what its steps cost together, which is at least
    -- their number
    pub leads_fits : (s : S) (ks : List K) (u : S) → Fit s → Faultless m ks → Leads m s ks u → Fit u
    unfolding Leads Faultless
    leads_fits s [] u f r h = rw (sym h) f
    leads_fits s (k ∷ ks) u f r h =
        leads_fits (m.after s k) ks u (laws.keeps s f k r.0 h.0) r.1 h.1

    pub leads_work : (s : S) (ks : List K) (u : S) → Fit s → Faultless m ks → Leads m s ks u
        → m.left u + spent m s ks ≡ m.left s
    unfolding Leads Faultless spent
    leads_work s [] u f r h = rw (sym h) (omega arith)
    leads_work s (k ∷ ks) u f r h =
        let rest = leads_work (m.after s k) ks u (laws.keeps s f k r.0 h.0) r.1 h.1 in
        let one = laws.lowers s f k r.0 h.0 in
        omega arith

    pub spent_least : (s : S) (ks : List K) (u : S) → Fit s → Faultless m ks → Leads m s ks u
        → length ks ≤ spent m s ks
    unfolding Leads Faultless spent
    spent_least s [] u f r h = omega arith
    spent_least s (k ∷ ks) u f r h =
        let rest = spent_least (m.after s k) ks u (laws.keeps s f k r.0 h.0) r.1 h.1 in
        let one = laws.costs s f k r.0 h.0 in
        omega arith

-- where a run stops: the state there fits, and the step there passes the checks 5 and 8
pub stops_fits : {S : Type 0} (m : Model S Step) {Fit : S → Type 0} {rank : Step → ℕ} → Lawful m Fit rank
    → (s : S) (ks : List Step) (n : ℕ) (u : S) → Fit s → Faultless m ks → StopsAt m s ks n u
    → Fit u × (m.fault (get_or ks n no_step) ≡ 0)
stops_fits m laws s ks n u fit faultless stops = (
  leads_fits m laws s (take n ks) u fit (faultless_take m n ks faultless) stops.before,
  faultless_at m n ks no_step stops.within faultless,
)

-- with rules that leave no step legal that was not, a machine keeps its laws, and its runs are legal runs
module _ {S K : Type 0} (m : Model S K) (rule : S → K → ℕ)
    (stricter : (s : S) (k : K) → rule s k ≡ 0 → m.rule s k ≡ 0) where
  pub ruled_lawful : {Fit : S → Type 0} {rank : K → ℕ} → Lawful m Fit rank → Lawful (ruled rule m) Fit rank
  ruled_lawful laws =
      record {
        starts = laws.starts;
        keeps = λ s f k h e. laws.keeps s f k h (stricter s k e);
        passes = laws.passes;
        lowers = λ s f k h e. laws.lowers s f k h (stricter s k e);
        costs = λ s f k h e. laws.costs s f k h (stricter s k e);
        complete = laws.complete;
        rises = laws.rises;
      }

  pub ruled_leads : (s : S) (ks : List K) (u : S) → Leads (ruled rule m) s ks u → Leads m s ks u
  unfolding Leads
  ruled_leads s [] u h = h
  ruled_leads s (k ∷ ks) u h = (stricter s k h.0, ruled_leads (m.after s k) ks u h.1)

  pub ruled_faultless : (ks : List K) → Faultless (ruled rule m) ks → Faultless m ks
  unfolding Faultless
  ruled_faultless [] h = tt
  ruled_faultless (k ∷ ks) h = (h.0, ruled_faultless ks h.1)

  pub faultless_ruled : (ks : List K) → Faultless m ks → Faultless (ruled rule m) ks
  unfolding Faultless
  faultless_ruled [] h = tt
  faultless_ruled (k ∷ ks) h = (h.0, faultless_ruled ks h.1)
