-- A legal run goes on while there is something to do, and ends where there is nothing: of any machine, and of
-- the one of document 01. Assumes nothing.
use Prim.Native.Nat.{ℕ, zero, suc, ◌+◌, ◌-◌, ◌≤◌, ◌<◌}
use mathlib.Core.Path.{◌≡◌, refl}
use mathlib.Core.Logic.{◌⊎◌, inl, inr, ◌≢◌}
use mathlib.Core.List.{List, [], ◌∷◌, ◌++◌}
use native.Mathlib.Omega.{arith}
use native.Mathlib.Nat.{eq-zero-or-pos}
use lib.ListN.{length}
use Rattle.cases.specs.declared.case.Step.{Step}
use Rattle.cases.specs.declared.case.Program.{Program}
use Rattle.cases.specs.Checks.{limits_of, lines_of, step_fault, count_at}
use Rattle.machine.specs.declared.cells.State.{State}
use Rattle.machine.specs.Model.{Model, Lawful, Leads, Faultless, LegalRun, CannotGoOn}
use Rattle.machine.specs.Model.{FinishedRun, spent, full_length}
use Rattle.machine.specs.View.{queue, buffer, issued_of}
use Rattle.machine.specs.Rules.{rule_of}
use Rattle.machine.specs.Fit.{Fits}
use Rattle.machine.specs.Work.{work, Unfinished}
use Rattle.machine.specs.Ptso.{ptso}
use Rattle.machine.proofs.Promises.{leads_append, faultless_append, leads_fits, leads_work, spent_least}
use Rattle.machine.proofs.Promises.{step_lowers, progress, work_some}
use Rattle.demands.proofs.writes.LastLaws.{cons_some}
use Rattle.demands.proofs.writes.SettleLaws.{Done}

-- Any machine that has its laws
module _ {S K : Type 0} (m : Model S K) {Fit : S → Type 0} {rank : K → ℕ} (laws : Lawful m Fit rank) where
  pub work_stuck : (u : S) → Fit u → m.left u ≡ 0 → CannotGoOn m u
  unfolding CannotGoOn
  work_stuck u f e k faultless legal = let w = step_lowers m laws u f k faultless legal in absurd (omega arith)

  module _ (ks : List K) (u : S) (run : LegalRun m ks u) where
    pub run_fits : Fit u
    run_fits = leads_fits m laws m.start ks u laws.starts run.faultless run.leads

    -- it lowers the work left by what its steps use up together
    pub run_work : m.left u + spent m m.start ks ≡ full_length m
    unfolding full_length
    run_work = leads_work m laws m.start ks u laws.starts run.faultless run.leads

    pub none_longer : length ks ≤ full_length m
    none_longer =
        let w = run_work in
        let n = spent_least m laws m.start ks u laws.starts run.faultless run.leads in
        omega arith

    -- where it has used up the full length it cannot go on
    pub spent_ends : spent m m.start ks ≡ full_length m → CannotGoOn m u
    spent_ends e = let w = run_work in work_stuck u run_fits (omega arith)

  -- where some step is legal while work is left
  module _ (going : (s : S) → Fit s → 0 < m.left s → (k : K) × (m.fault k ≡ 0) × (m.rule s k ≡ 0)) where
    stuck_none : (u : S) → Fit u → CannotGoOn m u → m.left u ≡ 0
    unfolding CannotGoOn
    stuck_none u f stuck = go (eq-zero-or-pos (m.left u))
      where
        go : (m.left u ≡ 0) ⊎ (0 < m.left u) → m.left u ≡ 0
        go (inl e) = e
        go (inr e) = let k = going u f e in absurd (stuck k.0 k.1 k.2)

    -- a run that cannot go on uses up the full length
    pub finished_spends : (ks : List K) (u : S) → LegalRun m ks u → CannotGoOn m u
        → spent m m.start ks ≡ full_length m
    finished_spends ks u run stuck =
        let w = run_work ks u run in
        let z = stuck_none u (run_fits ks u run) stuck in
        omega arith

    -- from any state that fits, a run to where no work is left
    goes_on : (n : ℕ) (u : S) → Fit u → m.left u ≤ n
        → (js : List K) × (v : S) × Faultless m js × Leads m u js v × Fit v × (m.left v ≡ 0)
    unfolding Faultless Leads
    goes_on zero u f e = ([], u, tt, refl, f, (omega arith))
    goes_on (suc n) u f e = go (eq-zero-or-pos (m.left u)) (goes_on n)
      where
        go : (m.left u ≡ 0) ⊎ (0 < m.left u)
            → ((x : S) → Fit x → m.left x ≤ n
            → (js : List K) × (v : S) × Faultless m js × Leads m x js v × Fit v × (m.left v ≡ 0))
            → (js : List K) × (v : S) × Faultless m js × Leads m u js v × Fit v × (m.left v ≡ 0)
        go (inl z) more = ([], u, tt, refl, f, z)
        go (inr z) more =
            let k = going u f z in
            let w = step_lowers m laws u f k.0 k.1 k.2 in
            let r = more (m.after u k.0) (laws.keeps u f k.0 k.1 k.2) (omega arith) in
            (k.0 ∷ r.0, r.1, (k.1, r.2), (k.2, r.3), r.4, r.5)

    -- every legal run can be made one that cannot go on
    pub run_ends : (ks : List K) (u : S) → LegalRun m ks u
        → (js : List K) × (v : S) × FinishedRun m (ks ++ js) v
    run_ends ks u run =
        let r = goes_on (m.left u) u (run_fits ks u run) (omega arith) in (
          r.0,
          r.1,
          record {
            legal = record {
              faultless = faultless_append m ks r.0 run.faultless r.2;
              leads = leads_append m m.start ks u r.0 r.1 run.leads r.3;
            };
            over = work_stuck r.1 r.4 r.5;
          },
        )

-- is a list empty?
empty_or : {A : Type 0} (xs : List A) → (xs ≡ []) ⊎ (xs ≢ [])
empty_or [] = inl refl
empty_or (x ∷ xs) = inr (cons_some x xs)

-- The machine of document 01
module _ (p : Program) (u : State) (f : Fits p u) where
  -- while work is left some step is legal
  pub working : 0 < work p u → (k : Step) × (step_fault (limits_of p) k ≡ 0) × (rule_of p u k ≡ 0)
  working left = progress p u f (work_some p u f left)

  pub stuck_not : CannotGoOn (ptso p) u → Unfinished p u → ⊥
  unfolding CannotGoOn
  stuck_not stuck left = let k = progress p u f left in stuck k.0 k.1 k.2

  pub stuck_done : CannotGoOn (ptso p) u → Done p u
  stuck_done stuck =
      record {
        buffers = λ t h. buffers t h (empty_or (buffer u t));
        queues = λ q h. queues q h (empty_or (queue u q));
        issued = λ t h. issued t h (eq-zero-or-pos (count_at p t - issued_of u t));
      }
    where
      buffers : (t : ℕ) → t < p.threads → (buffer u t ≡ []) ⊎ (buffer u t ≢ []) → buffer u t ≡ []
      buffers t h (inl e) = e
      buffers t h (inr e) = absurd (stuck_not stuck (unfold Unfinished in inr (inl (t, h, e))))

      queues : (q : ℕ) → q < lines_of p → (queue u q ≡ []) ⊎ (queue u q ≢ []) → queue u q ≡ []
      queues q h (inl e) = e
      queues q h (inr e) = absurd (stuck_not stuck (unfold Unfinished in inr (inr (q, h, e))))

      issued : (t : ℕ) → t < p.threads → (count_at p t - issued_of u t ≡ 0) ⊎ (0 < count_at p t - issued_of u t)
          → count_at p t ≤ issued_of u t
      issued t h (inl e) = omega arith
      issued t h (inr e) =
          let left : issued_of u t < count_at p t = omega arith in
          absurd (stuck_not stuck (unfold Unfinished in inl (t, h, left)))

  pub done_work : Done p u → work p u ≡ 0
  unfolding Unfinished
  done_work d = go (eq-zero-or-pos (work p u))
    where
      none : Unfinished p u → ⊥
      none (inl x) = let c = d.issued x.0 x.1 in let n = x.2 in absurd (omega arith)
      none (inr (inl x)) = x.2 (d.buffers x.0 x.1)
      none (inr (inr x)) = x.2 (d.queues x.0 x.1)

      go : (work p u ≡ 0) ⊎ (0 < work p u) → work p u ≡ 0
      go (inl e) = e
      go (inr e) = absurd (none (work_some p u f e))
