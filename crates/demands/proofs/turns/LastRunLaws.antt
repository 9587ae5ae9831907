-- The run in which a thread comes last: the other threads, one after the other. Assumes nothing.
use Prim.Native.Nat.{ℕ, zero, suc, ◌+◌, ◌≤◌, ◌<◌}
use mathlib.Core.Path.{◌≡◌, refl, sym, ◌∙◌}
use mathlib.Core.Logic.{◌≢◌}
use mathlib.Core.Bool.{Bool, true, false}
use mathlib.Core.List.{[], ◌++◌}
use native.Mathlib.Omega.{arith}
use native.Mathlib.Decide.{ℕ_discrete}
use borrow.Author.Tests.{eqb-true, eqb-false}
use lib.Dec.{eqb}
use Rattle.cases.specs.declared.case.Program.{Program}
use Rattle.cases.specs.Choice.{pick}
use Rattle.cases.specs.Checks.{count_at}
use Rattle.machine.specs.declared.cells.State.{State}
use Rattle.machine.specs.View.{issued_of}
use Rattle.machine.specs.Model.{Leads, Faultless}
use Rattle.machine.specs.Work.{Uncompared}
use Rattle.machine.specs.Ptso.{ptso}
use Rattle.demands.specs.Carried.{carried_all, others_from}
use Rattle.machine.proofs.Promises.{leads_append, faultless_append}
use Rattle.demands.proofs.turns.ThroughLaws.{Quiet}
use Rattle.demands.proofs.turns.CarryLaws.{Carries, carries_all}

-- it is thread u's turn: nothing waits; the threads below u have issued all, the others and t nothing
pub record Turn (p : Program) (t u : ℕ) (s : State) : Type 0 where
  pub quiet : Quiet p s
  pub mine : issued_of s t ≡ 0
  pub past : (k : ℕ) → k < u → k ≢ t → issued_of s k ≡ count_at p k
  pub ahead : (k : ℕ) → u ≤ k → issued_of s k ≡ 0

module _ (p : Program) (plain : Uncompared p) (t : ℕ) where
  -- the other threads, one after the other
  turn_same : (u : ℕ) (s : State) → u ≡ t → Turn p t u s → Turn p t (suc u) s
  turn_same u s e o =
      record {
        quiet = o.quiet;
        mine = o.mine;
        past = λ k h n. let d : k ≢ u = (λ z. n (z ∙ e)) in o.past k (omega arith) n;
        ahead = λ k h. o.ahead k (omega arith);
      }

  turn_more : (u : ℕ) (s : State) → u < p.threads → u ≢ t → Turn p t u s
      → (v : State) × Faultless (ptso p) (carried_all p u) × Leads (ptso p) s (carried_all p u) v
      × Turn p t (suc u) v
  turn_more u s low e o =
      let c = carries_all p plain u low s o.quiet (o.ahead u (omega arith)) in (
        c.end,
        c.faultless,
        c.leads,
        record {
          quiet = c.quiet;
          mine = c.others t (λ z. e (sym z)) ∙ o.mine;
          past = λ k h n. past c k h n (ℕ_discrete k u);
          ahead = λ k h. c.others k (λ z. omega arith) ∙ o.ahead k (omega arith);
        },
      )
    where
      past : (c : Carries p s (carried_all p u) u (count_at p u)) (k : ℕ) → k < suc u → k ≢ t → Dec (k ≡ u)
          → issued_of c.end k ≡ count_at p k
      past c k h n (yes d) = rw d c.mine
      past c k h n (no d) = c.others k d ∙ o.past k (omega arith) n

  pub others_lead : (n u : ℕ) (s : State) → u + n ≡ p.threads → Turn p t u s
      → (v : State)
      × Faultless (ptso p) (others_from p t u n)
      × Leads (ptso p) s (others_from p t u n) v
      × Turn p t p.threads v
  unfolding others_from Faultless Leads pick
  others_lead zero u s e o =
      let d : u ≡ p.threads = omega arith in
      (s, tt, refl, rw d at o)
  others_lead (suc n) u s e o = go (eqb u t) refl (others_lead n (suc u))
    where
      go : (b : Bool) → eqb u t ≡ b
          → ((s : State) → suc u + n ≡ p.threads → Turn p t (suc u) s
          → (v : State)
          × Faultless (ptso p) (others_from p t (suc u) n)
          × Leads (ptso p) s (others_from p t (suc u) n) v
          × Turn p t p.threads v)
          → (v : State)
          × Faultless (ptso p) (pick b [] (carried_all p u) ++ others_from p t (suc u) n)
          × Leads (ptso p) s (pick b [] (carried_all p u) ++ others_from p t (suc u) n) v
          × Turn p t p.threads v
      go true d more = more s (omega arith) (turn_same u s (eqb-true _ _ d) o)
      go false d more =
          let one = turn_more u s (omega arith) (eqb-false _ _ d) o in
          let rest = more one.0 (omega arith) one.3 in (
            rest.0,
            faultless_append (ptso p) (carried_all p u) (others_from p t (suc u) n) one.1 rest.1,
            leads_append (ptso p) s (carried_all p u) one.0 (others_from p t (suc u) n) rest.0 one.2
                rest.2,
            rest.3,
          )
