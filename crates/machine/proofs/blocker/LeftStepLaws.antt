-- What stands where a legal step, or a run, leaves an entry is that entry. Assumes nothing.
use Prim.Native.Nat.{ℕ, ◌<◌}
use mathlib.Core.Path.{◌≡◌, refl, sym, ap, ◌∙◌}
use mathlib.Core.Logic.{inl, inr, ◌≢◌}
use mathlib.Core.List.{List, [], ◌∷◌}
use native.Mathlib.Omega.{arith}
use native.Mathlib.Decide.{ℕ_discrete}
use Rattle.cases.specs.declared.case.Line.{Line}
use Rattle.cases.specs.declared.case.Thread.{Thread}
use Rattle.cases.specs.declared.case.Step.{Step}
use Rattle.cases.specs.declared.case.Program.{Program}
use Rattle.cases.specs.Sizes.{most_threads, most_locations}
use Rattle.cases.specs.Checks.{limits_of, lines_of, step_fault}
use Rattle.cases.proofs.ChoiceLaws.{otherwise}
use Rattle.machine.specs.declared.cells.State.{State}
use Rattle.machine.specs.declared.cells.Waiting.{Waiting}
use Rattle.machine.specs.declared.blocker.Blocker.{Blocker}
use Rattle.machine.specs.declared.blocker.Blocker.TheVariants.{InBuffer, InQueue, NoEntry}
use Rattle.machine.specs.View.{Slot, queue, buffer}
use Rattle.machine.specs.Rules.{rule_of, next_of}
use Rattle.machine.specs.Fit.{Fits}
use Rattle.machine.specs.Model.{Leads, Faultless}
use Rattle.machine.specs.Next.{issue_step, move_step, persist_step}
use Rattle.machine.specs.Ptso.{ptso}
use Rattle.machine.specs.Blocker.{blocker_position}
use Rattle.machine.specs.InTheWay.{StandsAt, left_by, left_at}
use Rattle.machine.proofs.lists.StandsLaws.{stands_append, stands_behind, stands_before, stands_tail}
use Rattle.machine.proofs.steps.StepFaultLaws.{StepKinds, step_kinds, fault_none}
use Rattle.machine.proofs.steps.StepLaws.{step_fits}
use Rattle.machine.proofs.steps.IssueEffectLaws.{issue_buffer, issue_buffer_other, issue_queue}
use Rattle.machine.proofs.steps.MoveEffectLaws.{move_buffer, move_buffer_other, move_queue}
use Rattle.machine.proofs.steps.PersistEffectLaws.{persist_buffer, persist_queue, persist_queue_other}
use Rattle.machine.proofs.blocker.LeftLaws.{LeftIn, left_taken, left_buffer, left_queue, taken_not_buffer}
use Rattle.machine.proofs.blocker.LeftLaws.{taken_not_queue, Moved, moved_is, moved_none, Persisted}
use Rattle.machine.proofs.blocker.LeftLaws.{persisted_is, persisted_none}

-- Each kind of step leaves the same entry there
module _ (p : Program) (s : State) (fit : Fits p s) where
  -- in a buffer
  module _ (t : ℕ) (low : t < most_threads) (w : Waiting) where
    issue_left_buffer : (m i : ℕ) → m < p.threads → rule_of p s (issue_step m) ≡ 0 → StandsAt (buffer s t) i w
        → StandsAt (buffer (next_of p s (issue_step m)) t) i w
    issue_left_buffer m i there legal h = go (ℕ_discrete t m)
      where
        go : Dec (t ≡ m) → StandsAt (buffer (next_of p s (issue_step m)) t) i w
        go (yes e) = rw (e, issue_buffer p s fit m there legal) (stands_append _ _ i w (rw e at h))
        go (no e) = rw (issue_buffer_other p s fit m there legal t low e) h

    move_left_buffer : (m j i n : ℕ) → m < p.threads → rule_of p s (move_step m j) ≡ 0 → StandsAt (buffer s t) i w
        → Moved (move_step m j) (record { 0 = t }) i n
        → StandsAt (buffer (next_of p s (move_step m j)) t) n w
    move_left_buffer m j i n there legal h (inl (e, d)) =
        rw (move_buffer_other p s fit m j there legal t low (λ z. e refl (sym z)), d) h
    move_left_buffer m j i n there legal h (inr (c, e, inl (before, d))) =
        rw (← e, move_buffer p s fit m j there legal)
        (stands_before (buffer s m) n j w (omega arith) (rw (e, d) h))
    move_left_buffer m j i n there legal h (inr (c, e, inr (behind, d))) =
        rw (← e, move_buffer p s fit m j there legal, d) (stands_behind (buffer s m) i j w behind (rw e h))

    persist_left_buffer : (m i : ℕ) → m < lines_of p → rule_of p s (persist_step m) ≡ 0 → StandsAt (buffer s t) i w
        → StandsAt (buffer (next_of p s (persist_step m)) t) i w
    persist_left_buffer m i there legal h = rw (persist_buffer p s fit m there legal t) h

  -- in a queue
  module _ (q : ℕ) (low : q < most_locations) (h : Slot) where
    issue_left_queue : (m i : ℕ) → m < p.threads → rule_of p s (issue_step m) ≡ 0 → StandsAt (queue s q) i h
        → StandsAt (queue (next_of p s (issue_step m)) q) i h
    issue_left_queue m i there legal x = rw (issue_queue p s fit m there legal q low) (stands_append _ _ i h x)

    move_left_queue : (m j i : ℕ) → m < p.threads → rule_of p s (move_step m j) ≡ 0 → StandsAt (queue s q) i h
        → StandsAt (queue (next_of p s (move_step m j)) q) i h
    move_left_queue m j i there legal x = rw (move_queue p s fit m j there legal q low) (stands_append _ _ i h x)

    persist_left_queue : (m i n : ℕ) → m < lines_of p → rule_of p s (persist_step m) ≡ 0 → StandsAt (queue s q) i h
        → Persisted (persist_step m) (record { 0 = q }) i n
        → StandsAt (queue (next_of p s (persist_step m)) q) n h
    persist_left_queue m i n there legal x (inl (e, d)) =
        rw (persist_queue_other p s fit m there legal q low (λ z. e refl (sym z)), d) x
    persist_left_queue m i n there legal x (inr (c, e, d)) =
        let taken = persist_queue p s fit m there legal in
        rw (← e) (stands_tail (queue s m) taken.0 _ n h taken.1 (rw (e, d) x))

  -- and so does a step
  module _ (k : Step) (faultless : step_fault (limits_of p) k ≡ 0) (legal : rule_of p s k ≡ 0) where
    pub left_buffer_step : (t : Thread) (i n : ℕ) (w : Waiting) → t.0 < most_threads
        → StandsAt (buffer s t.0) i w
        → left_by k (InBuffer t i) ≡ InBuffer t n
        → StandsAt (buffer (next_of p s k) t.0) n w
    left_buffer_step t i n w low h e = go (step_kinds p k faultless) (moved_is k t i n e)
      where
        go : StepKinds p k → Moved k t i n → StandsAt (buffer (next_of p s k) t.0) n w
        go (inl (m, there, z)) d =
            rw (z, moved_none (issue_step m) t i n (λ c. omega arith) (rw z at d))
            (issue_left_buffer t.0 low w m i there (rw z at legal) h)
        go (inr (inl (m, j, there, z))) d =
            rw z (move_left_buffer t.0 low w m j i n there (rw z at legal) h (rw z at d))
        go (inr (inr (m, there, z))) d =
            rw (z, moved_none (persist_step m) t i n (λ c. omega arith) (rw z at d))
            (persist_left_buffer t.0 low w m i there (rw z at legal) h)

    pub left_queue_step : (q : Line) (i n : ℕ) (h : Slot) → q.0 < most_locations
        → StandsAt (queue s q.0) i h
        → left_by k (InQueue q i) ≡ InQueue q n
        → StandsAt (queue (next_of p s k) q.0) n h
    left_queue_step q i n h low x e = go (step_kinds p k faultless) (persisted_is k q i n e)
      where
        go : StepKinds p k → Persisted k q i n → StandsAt (queue (next_of p s k) q.0) n h
        go (inl (m, there, z)) d =
            rw (z, persisted_none (issue_step m) q i n (λ c. omega arith) (rw z at d))
            (issue_left_queue q.0 low h m i there (rw z at legal) x)
        go (inr (inl (m, j, there, z))) d =
            rw (z, persisted_none (move_step m j) q i n (λ c. omega arith) (rw z at d))
            (move_left_queue q.0 low h m j i there (rw z at legal) x)
        go (inr (inr (m, there, z))) d =
            rw z (persist_left_queue q.0 low h m i n there (rw z at legal) x (rw z at d))

-- What each step keeps of two places a run keeps, as long as the entry of the first is not taken
pub left_keeps : (p : Program) (Q : State → Blocker → Blocker → Type 0)
    → ((s : State) → Fits p s → (b c : Blocker) → Q s b c → (k : Step) → step_fault (limits_of p) k ≡ 0
    → rule_of p s k ≡ 0 → left_by k b ≢ NoEntry → Q (next_of p s k) (left_by k b) (left_by k c))
    → (s : State) → Fits p s → (ks : List Step) (u : State) → Faultless (ptso p) ks → Leads (ptso p) s ks u
    → (b c : Blocker) → left_at ks b ≢ NoEntry → Q s b c → Q u (left_at ks b) (left_at ks c)
unfolding Faultless Leads left_at
left_keeps p Q each s f [] u r h b c n x = rw (sym h) x
left_keeps p Q each s f (k ∷ ks) u r h b c n x =
    left_keeps p Q each (next_of p s k) (step_fits p s f k (fault_none p k r.0) h.0) ks u r.1 h.1
    (left_by k b) (left_by k c) n
    (each s f b c x k r.0 h.0 (λ e. n (rw e (left_taken ks))))

-- The same entry stands there after a run
module _ (p : Program) (s : State) (fit : Fits p s) (ks : List Step) (u : State) (faultless : Faultless (ptso p) ks)
    (leads : Leads (ptso p) s ks u) where
  left_stands : (place : ℕ → Blocker) (Stands : State → ℕ → Type 0)
      → ((i n : ℕ) → place i ≡ place n → i ≡ n)
      → ((n : ℕ) → NoEntry ≢ place n)
      → ((k : Step) (i : ℕ) → LeftIn place (left_by k (place i)))
      → ((v : State) → Fits p v → (k : Step) → step_fault (limits_of p) k ≡ 0 → rule_of p v k ≡ 0
      → (i n : ℕ) → Stands v i → left_by k (place i) ≡ place n → Stands (next_of p v k) n)
      → (i n : ℕ) → Stands s i → left_at ks (place i) ≡ place n → Stands u n
  left_stands place Stands one some left each i n h e =
      let end = left_keeps p Q keeps s fit ks u faultless leads (place i) NoEntry (λ z. some n (sym z ∙ e))
      (i, refl, h) in
      rw (one n end.0 (sym e ∙ end.1)) end.2
    where
      Q : State → Blocker → Blocker → Type 0
      Q v b c = (j : ℕ) × (b ≡ place j) × Stands v j

      keeps : (v : State) → Fits p v → (b c : Blocker) → Q v b c → (k : Step) → step_fault (limits_of p) k ≡ 0
          → rule_of p v k ≡ 0 → left_by k b ≢ NoEntry → Q (next_of p v k) (left_by k b) (left_by k c)
      keeps v f b c (j, d, x) k good legal =
          rw d (λ o. let m = otherwise (left k j) o in (m.0, m.1, each v f k good legal j m.0 x m.1))

  pub left_buffer_run : (t : Thread) (i n : ℕ) (w : Waiting) → t.0 < most_threads → StandsAt (buffer s t.0) i w
      → left_at ks (InBuffer t i) ≡ InBuffer t n
      → StandsAt (buffer u t.0) n w
  left_buffer_run t i n w low =
      left_stands (InBuffer t) (λ v j. StandsAt (buffer v t.0) j w) (λ j m e. ap blocker_position e)
      (λ m. taken_not_buffer) (λ k j. left_buffer k j t)
      (λ v f k good legal j m. left_buffer_step p v f k good legal t j m w low) i n

  pub left_queue_run : (q : Line) (i n : ℕ) (h : Slot) → q.0 < most_locations → StandsAt (queue s q.0) i h
      → left_at ks (InQueue q i) ≡ InQueue q n
      → StandsAt (queue u q.0) n h
  left_queue_run q i n h low =
      left_stands (InQueue q) (λ v j. StandsAt (queue v q.0) j h) (λ j m e. ap blocker_position e)
      (λ m. taken_not_queue) (λ k j. left_queue k j q)
      (λ v f k good legal j m. left_queue_step p v f k good legal q j m h low) i n
