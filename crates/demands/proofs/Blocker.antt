-- Request P4, "Name the blocker", in theorems to quote: of a run of a case that can be read, which the judge says
-- stops at step i, breaking rule r, with the entry at b in the way. The step is k, and u is the state before it.
-- Assumes nothing.
use Prim.Native.Nat.{ℕ, suc, ◌<◌}
use mathlib.Core.Path.{◌≡◌, sym, ap, ◌∙◌, subst}
use mathlib.Core.Logic.{◌⊎◌, inl, inr, ◌≢◌, ◌↔◌, ⊎_elim}
use mathlib.Core.Bool.{true}
use mathlib.Core.List.{List}
use native.Mathlib.Omega.{arith}
use lib.ListN.{get_or, replicate}
use Rattle.cases.specs.declared.case.Line.{Line}
use Rattle.cases.specs.declared.case.Thread.{Thread}
use Rattle.cases.specs.declared.case.Step.{Step}
use Rattle.cases.specs.declared.case.Case.{Case}
use Rattle.cases.specs.Checks.{limits_of, step_fault}
use Rattle.cases.specs.Draft.{no_step}
use Rattle.cases.specs.Sizes.{most_threads, most_locations}
use Rattle.cases.specs.Writing.{reads_back}
use Rattle.machine.specs.declared.cells.State.{State}
use Rattle.machine.specs.declared.cells.Waiting.{Waiting}
use Rattle.machine.specs.declared.blocker.Blocker.{Blocker}
use Rattle.machine.specs.declared.blocker.Blocker.TheVariants.{InBuffer, InQueue, NoEntry}
use Rattle.machine.specs.declared.runs.Verdict.TheVariants.{Illegal}
use Rattle.machine.specs.View.{Slot, queue, buffer}
use Rattle.machine.specs.Rules.{rule_of, start_of}
use Rattle.machine.specs.Blocker.{blocker_which, blocker_of}
use Rattle.machine.specs.InTheWay.{StandsAt, InTheWay, Names, Before, left_at}
use Rattle.machine.specs.Fit.{Fits}
use Rattle.machine.specs.Judge.{run_of, judge_of}
use Rattle.machine.specs.Model.{Leads, Faultless, StopsAt}
use Rattle.machine.specs.Next.{move_step, persist_step}
use Rattle.machine.specs.Ptso.{ptso}
use Rattle.machine.proofs.Promises.{judge_illegal, judge_illegal_state, case_lawful, program_fits, start_fits}
use Rattle.machine.proofs.Promises.{run_faultless, stops_fits}
use Rattle.machine.proofs.Blockers as Blockers

module _ (c : Case) (readable : reads_back c ≡ true) (r i : ℕ) (b : Blocker)
    (says : (judge_of c).verdict ≡ Illegal r i b) where
  -- the step, and the state before it, which the judge gives back
  abbrev k : Step
  k = get_or (run_of c) i no_step

  abbrev u : State
  u = (judge_of c).state

  stopped : (StopsAt (ptso c.program) (start_of c.program) (run_of c) i u)
      × (rule_of c.program u k ≡ r) × (blocker_of c.program u k ≡ b)
  stopped =
      let e = (judge_illegal c readable r i b).0 says in
      rw (judge_illegal_state c readable i e.0 e.1) (e.1, e.2, e.3)

  stands : Fits c.program u × (step_fault (limits_of c.program) k ≡ 0)
  stands =
      stops_fits (ptso c.program) (case_lawful c readable) _ (run_of c) i u
      (start_fits c.program (program_fits c readable)) (run_faultless c readable) stopped.0

  -- the entry at a place is in the way, and every other that is comes behind it
  abbrev First : Blocker → Type 0
  First e =
      InTheWay c.program u k e
      × ((d : Blocker) → InTheWay c.program u k d → (d ≡ e) ⊎ Before e d)

  abbrev Told : ℕ → Blocker → Type 0
  Told n e = (Names n × First e) ⊎ ((Names n → ⊥) × (e ≡ NoEntry))

  told : Told r b
  told =
      subst (λ n. Told n b) stopped.1
      (subst (Told (rule_of c.program u k)) stopped.2
      (Blockers.first_or_none c.program u stands.0 k stands.1))

  -- "the place of the first entry that stands in the way": that entry is in the way, and every other that is comes
  -- behind it
  pub names_the_first_in_the_way : Names r
      → InTheWay c.program u k b
      × ((d : Blocker) → InTheWay c.program u k d → (d ≡ b) ⊎ Before b d)
  names_the_first_in_the_way named = ⊎_elim (λ x. x.1) (λ x. absurd (x.0 named)) told

  -- rules 21, 24, 25 and 29 name none, and only they
  pub names_none_exactly : (b ≡ NoEntry) ↔ (Names r → ⊥)
  unfolding InTheWay
  names_none_exactly =
      (none, (λ n. ⊎_elim (λ (x : Names r × First b). absurd (n x.0)) (λ x. x.1) told))
    where
      none : b ≡ NoEntry → Names r → ⊥
      none e named =
          let way : InTheWay c.program u k NoEntry
          = subst (InTheWay c.program u k) e (names_the_first_in_the_way named).0 in
          way

  -- Later: a legal run from there to a state v
  module _ (named : Names r) (ks : List Step) (v : State) (faultless : Faultless (ptso c.program) ks)
      (leads : Leads (ptso c.program) u ks v) where
    -- of 22, 23, 27 and 28: in every later state in which that entry has not left the buffer or persisted, the same step
    -- is illegal by the same rule
    pub has_to_go : r ≢ 26 → left_at ks b ≢ NoEntry → rule_of c.program v k ≡ r
    has_to_go other stays =
        (Blockers.held c.program u stands.0 k stands.1 b (names_the_first_in_the_way named).0
        (λ z. other (sym stopped.1 ∙ z)) ks v faultless leads stays).0
        ∙ stopped.1

    -- while an entry stands in the buffer that a flush-opt may not pass, so does the flush-opt, and its move, at its
    -- position then, is 26
    pub has_to_go_before : r ≡ 26 → left_at ks b ≢ NoEntry
        → (n : ℕ) × (left_at ks (InBuffer k.thread k.position) ≡ InBuffer k.thread n)
        × (rule_of c.program v (move_step k.thread.0 n) ≡ 26)
    has_to_go_before rule stays =
        let h = Blockers.held_passing c.program u stands.0 k stands.1 b
        (names_the_first_in_the_way named).0 (stopped.1 ∙ rule) ks v faultless leads stays in
        (h.0, h.1, h.2)

  -- what stands where an entry was left is that entry
  module _ (ks : List Step) (v : State) (faultless : Faultless (ptso c.program) ks)
      (leads : Leads (ptso c.program) u ks v) where
    pub left_in_its_buffer : (t : Thread) (m n : ℕ) (w : Waiting) → t.0 < most_threads
        → StandsAt (buffer u t.0) m w
        → left_at ks (InBuffer t m) ≡ InBuffer t n
        → StandsAt (buffer v t.0) n w
    left_in_its_buffer = Blockers.left_buffer_run c.program u stands.0 ks v faultless leads

    pub left_in_its_queue : (q : Line) (m n : ℕ) (h : Slot) → q.0 < most_locations
        → StandsAt (queue u q.0) m h
        → left_at ks (InQueue q m) ≡ InQueue q n
        → StandsAt (queue v q.0) n h
    left_in_its_queue = Blockers.left_queue_run c.program u stands.0 ks v faultless leads

  -- what can be done next: where the entry stands in a queue, persists of that line, one for each that stands before it
  -- and one for itself, are a legal run from there, and take it away
  pub persists_take_it_away : (q : Line) (n : ℕ) → b ≡ InQueue q n
      → (v : State) × Faultless (ptso c.program) (replicate (suc n) (persist_step q.0))
      × Leads (ptso c.program) u (replicate (suc n) (persist_step q.0)) v
      × (left_at (replicate (suc n) (persist_step q.0)) (InQueue q n) ≡ NoEntry)
  unfolding InTheWay
  persists_take_it_away q n e = go told
    where
      go : Told r b
          → (v : State) × Faultless (ptso c.program) (replicate (suc n) (persist_step q.0))
          × Leads (ptso c.program) u (replicate (suc n) (persist_step q.0)) v
          × (left_at (replicate (suc n) (persist_step q.0)) (InQueue q n) ≡ NoEntry)
      go (inl x) =
          let way : InTheWay c.program u k (InQueue q n) = subst (InTheWay c.program u k) e x.1.0 in
          Blockers.away_persisted c.program u stands.0 q way.0 n way.1
      go (inr x) =
          let z : ◌≡◌ {A = ℕ} 0 2 = ap blocker_which (sym x.1 ∙ e) in
          absurd (omega arith)
