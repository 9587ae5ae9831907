-- A line's queue is what entered it without its first ones: as many as have persisted. Assumes nothing.
use Prim.Native.Nat.{ℕ, suc, ◌+◌, ◌<◌}
use mathlib.Core.Path.{◌≡◌, refl, sym, ap, ◌∙◌}
use mathlib.Core.Logic.{◌⊎◌, inl, inr, ◌≢◌}
use mathlib.Core.List.{List, [], ◌∷◌, ◌++◌, append-nil}
use native.Mathlib.Omega.{arith}
use native.Mathlib.Nat.{zero-add}
use native.Mathlib.Decide.{ℕ_discrete}
use borrow.Author.Tests.{eq-eqb, ne_eqb}
use lib.ListN.{length, length-append}
use Rattle.cases.specs.declared.case.Step.{Step}
use Rattle.cases.specs.declared.case.Program.{Program}
use Rattle.cases.specs.Choice.{pick, both}
use Rattle.cases.proofs.ChoiceLaws.{pick_true, pick_false}
use Rattle.cases.specs.Sizes.{most_locations}
use Rattle.cases.specs.Checks.{limits_of, lines_of, step_fault}
use Rattle.machine.specs.declared.cells.State.{State}
use Rattle.machine.specs.View.{Slot, queue}
use Rattle.machine.specs.Rules.{rule_of, next_of}
use Rattle.machine.specs.Fit.{Fits}
use Rattle.machine.specs.Model.{Leads, Faultless}
use Rattle.machine.specs.Next.{issue_step, move_step, persist_step}
use Rattle.machine.specs.Ptso.{ptso}
use Rattle.machine.proofs.Promises.{step_fits}
use Rattle.machine.proofs.Effects.{step_kinds, issue_queue, move_queue, persist_queue, persist_queue_other}
use Rattle.demands.specs.Entered.{entries_of, arrives, entered_from, persists}
use Rattle.demands.proofs.entered.ArrivalLaws.{joined, entries_brought, entries_append}

-- persists: a step that persists of this queue; one of another
module _ (m : ℕ) (ks : List Step) (q : ℕ) where
  count_here : m ≡ q → persists (persist_step m ∷ ks) q ≡ suc (persists ks q)
  unfolding persists both
  count_here e = pick_true _ _ _ (eq-eqb m q e)

  count_other : m ≢ q → persists (persist_step m ∷ ks) q ≡ persists ks q
  unfolding persists both
  count_other e = pick_false _ _ _ (ne_eqb m q e)

one-add : (n : ℕ) → 1 + n ≡ suc n
one-add n = omega arith

-- a step persists n of queue q, none or one: what stood there and what it brings, without the first n
record Queues (p : Program) (s : State) (k : Step) (q : ℕ) : Type 0 where
  taken : List Slot
  counts : (ks : List Step) → length taken + persists ks q ≡ persists (k ∷ ks) q
  queues : queue s q ++ entries_of (arrives p s k q) ≡ taken ++ queue (next_of p s k) q

module _ (p : Program) (s : State) (f : Fits p s) (q : ℕ) (low : q < most_locations) where
  issue_queues : (t : ℕ) → t < p.threads → rule_of p s (issue_step t) ≡ 0 → Queues p s (issue_step t) q
  issue_queues t there legal =
      record {
        taken = [];
        counts = λ ks. unfold persists both pick in zero-add (persists ks q);
        queues = unfold arrives pick in
            (rw (entries_brought t _) (sym (issue_queue p s f t there legal q low)));
      }

  move_queues : (t i : ℕ) → t < p.threads → rule_of p s (move_step t i) ≡ 0 → Queues p s (move_step t i) q
  move_queues t i there legal =
      record {
        taken = [];
        counts = λ ks. unfold persists both pick in zero-add (persists ks q);
        queues = unfold arrives pick in
            (rw (entries_brought t _) (sym (move_queue p s f t i there legal q low)));
      }

  persist_queues : (m : ℕ) → m < lines_of p → rule_of p s (persist_step m) ≡ 0 → Queues p s (persist_step m) q
  persist_queues m there legal = go (ℕ_discrete q m)
    where
      none : entries_of (arrives p s (persist_step m) q) ≡ []
      none = unfold arrives pick entries_of in refl

      go : Dec (q ≡ m) → Queues p s (persist_step m) q
      go (yes e) =
          let x = persist_queue p s f m there legal in
          record {
            taken = x.0 ∷ [];
            counts = λ ks. one-add (persists ks q) ∙ sym (count_here m ks q (sym e));
            queues = rw none (append-nil (queue s q) ∙ rw e x.1);
          }
      go (no e) =
          record {
            taken = [];
            counts = λ ks. zero-add (persists ks q) ∙ sym (count_other m ks q (λ z. e (sym z)));
            queues =
                rw none (append-nil (queue s q) ∙ sym (persist_queue_other p s f m there legal q low e));
          }

  step_queues : (k : Step) → step_fault (limits_of p) k ≡ 0 → rule_of p s k ≡ 0 → Queues p s k q
  step_queues k faultless legal = go (step_kinds p k faultless)
    where
      go : ((t : ℕ) × (t < p.threads) × (k ≡ issue_step t))
          ⊎ ((t : ℕ) × (i : ℕ) × (t < p.threads) × (k ≡ move_step t i))
          ⊎ ((m : ℕ) × (m < lines_of p) × (k ≡ persist_step m)) → Queues p s k q
      go (inl x) = rw x.2 (issue_queues x.0 x.1 (rw x.2 at legal))
      go (inr (inl x)) = rw x.3 (move_queues x.0 x.1 x.2 (rw x.3 at legal))
      go (inr (inr x)) = rw x.2 (persist_queues x.0 x.1 (rw x.2 at legal))

-- along a run: what is taken comes first, and is as much as the run persists
pub run_queued : (p : Program) (q : ℕ) → q < most_locations → (s : State) (ks : List Step) (u : State) → Fits p s
    → Faultless (ptso p) ks
    → Leads (ptso p) s ks u
    → (taken : List Slot) × (length taken ≡ persists ks q)
    × (queue s q ++ entries_of (entered_from p s ks q) ≡ taken ++ queue u q)
unfolding Faultless Leads entered_from
run_queued p q low s [] u f r h =
    ([], (unfold persists in refl), unfold entries_of in (append-nil (queue s q) ∙ ap (λ x. queue x q) h))
run_queued p q low s (k ∷ ks) u f r h =
    let o = step_queues p s f q low k r.0 h.0 in
    let rest = run_queued p q low (next_of p s k) ks u (step_fits p s f k r.0 h.0) r.1 h.1 in (
      o.taken ++ rest.0,
      length-append o.taken rest.0 ∙ rw rest.1 (o.counts ks),
      ap (λ x. queue s q ++ x) (entries_append (arrives p s k q) _)
          ∙ joined (queue s q) _ _ o.taken _ rest.0 _ o.queues rest.2,
    )
