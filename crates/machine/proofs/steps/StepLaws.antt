-- A legal step keeps the fit and lowers the work left by its cost. Assumes nothing.
use Prim.Native.Nat.{ℕ, suc, ◌+◌, ◌<◌}
use mathlib.Core.Path.{◌≡◌, refl, ap, ◌∙◌}
use mathlib.Core.Logic.{◌≢◌, inl, inr}
use mathlib.Core.Bool.{Bool, true, false}
use mathlib.Core.List.{List, [], ◌∷◌}
use native.Mathlib.Omega.{arith}
use borrow.Author.Tests.{leb-false, eqb-true, eqb-false}
use lib.Dec.{eqb}
use lib.ListN.{length}
use Rattle.cases.specs.declared.case.Step.{Step}
use Rattle.cases.specs.declared.case.Program.{Program}
use Rattle.cases.specs.Choice.{pick}
use Rattle.cases.specs.Operations.{issue, move, persist}
use Rattle.cases.specs.Sizes.{most_locations}
use Rattle.cases.specs.Checks.{lines_of}
use Rattle.cases.proofs.ChoiceLaws.{refuse_none, pick_cases}
use Rattle.cases.proofs.Promises.{thread_low}
use Rattle.machine.specs.declared.cells.State.{State}
use Rattle.machine.specs.declared.cells.Entry.{Entry}
use Rattle.machine.specs.declared.cells.Entry.TheVariants.{Store, Flush, FlushOpt, Sfence}
use Rattle.machine.specs.View.{Slot, line_of, write_slot, marker_slot, queue, queue_len, with_queue}
use Rattle.machine.specs.View.{buffer, buffer_len, blank_waiting, with_word}
use Rattle.machine.specs.Parts.{parts_of}
use Rattle.machine.specs.Rules.{enqueue, issue_rule, issue_of, effect_of, entry_at, move_rule, move_of}
use Rattle.machine.specs.Rules.{persist_rule, settled, persist_first, persist_of, rule_in, rule_of, next_of}
use Rattle.machine.specs.Fit.{Fits, Named, due, unissued, NamedBy}
use Rattle.machine.specs.Work.{waiting_weight, work, cost}
use Rattle.machine.proofs.view.LineOfLaws.{few_lines, line_there}
use Rattle.machine.proofs.fit.FitLaws.{fits_queue_within, fits_queue_long, fits_buffer_long, fits_queue}
use Rattle.machine.proofs.fit.FitLaws.{fits_word}
use Rattle.machine.proofs.fit.SpareLaws.{Spare, marks_borne, taken_spare, enqueue_fits}
use Rattle.machine.proofs.work.CostLaws.{cost_issue, cost_other}
use Rattle.machine.proofs.work.WorkLaws.{work_queue, work_enqueue, work_without, work_word}
use Rattle.machine.proofs.steps.StepFaultLaws.{InRange}
use Rattle.machine.proofs.steps.IssueLaws.{issue_fits, issue_work}
use Rattle.machine.proofs.lists.AllLaws.{all_get}

-- Move
module _ (p : Program) (s : State) (t : ℕ) (o : Spare p s t) (low : t < p.threads) where
  to : (l : ℕ) → l < p.locations → line_of p l < lines_of p
  to = line_there p o.fit.program

  effect_fits : (e : Entry) → Named p.locations e → Fits p (effect_of p s t e)
  unfolding effect_of Named
  effect_fits (Store w) h =
      enqueue_fits p s t o _ (to w.location.0 h) (write_slot w.location.0 w.word) (inl (h, refl))
  effect_fits (Flush l) h = o.fit
  effect_fits (FlushOpt l) h =
      enqueue_fits p s t o _ (to l.0 h) (marker_slot t) (inr (omega arith, omega arith))
  effect_fits Sfence h = o.fit

  -- an entry more in a location's queue
  work_to : (l : ℕ) → l < p.locations → (h : Slot) → work p (enqueue s (line_of p l) h) ≡ suc (work p s)
  work_to l low h =
      let y = few_lines p o.fit.program in
      let z = to l low in
      let q = o.queues (line_of p l) (omega arith) in
      work_enqueue p s o.fit (line_of p l) (omega arith) (omega arith) h

  effect_work : (e : Entry) → Named p.locations e
      → work p (effect_of p s t e) + 1 ≡ work p s + waiting_weight e
  unfolding effect_of Named waiting_weight
  effect_work (Store w) h = rw (work_to w.location.0 h) (omega arith)
  effect_work (Flush l) h = refl
  effect_work (FlushOpt l) h = rw (work_to l.0 h) (omega arith)
  effect_work Sfence h = refl

module _ (p : Program) (s : State) (f : Fits p s) (t i : ℕ) (low : t < p.threads)
    (legal : move_rule p (parts_of s) t i ≡ 0) where
  pub move_there : i < buffer_len s t
  unfolding move_rule
  move_there = leb-false _ _ (refuse_none _ 23 _ legal).0

  pub move_named : Named p.locations (entry_at (buffer s t) i)
  move_named =
      let z = thread_low f.program low in
      let n = fits_buffer_long p s f t (omega arith) in
      let h = move_there in
      all_get (NamedBy p.locations) (buffer s t) i blank_waiting (f.named t (omega arith)) (omega arith)

  pub move_fits : Fits p (move_of p s t i)
  unfolding move_of
  move_fits = effect_fits p _ t (taken_spare p s f t i low move_there) low _ move_named

  pub move_work : work p (move_of p s t i) + 1 ≡ work p s
  unfolding move_of
  move_work =
      let z = thread_low f.program low in
      effect_work p _ t (taken_spare p s f t i low move_there) low _ move_named
      ∙ work_without p s f t i blank_waiting (omega arith) move_there

-- Persist
module _ (p : Program) (s : State) (f : Fits p s) (q : ℕ) (low : q < lines_of p)
    (legal : persist_rule (parts_of s) q ≡ 0) where
  range : q < most_locations
  range = let w = few_lines p f.program in omega arith

  pub persist_there : 0 < queue_len s q
  unfolding persist_rule
  persist_there = let e : queue_len s q ≢ 0 = eqb-false _ _ (refuse_none _ 28 _ legal).0 in omega arith

  -- the oldest entry, the rest, and what becomes of them
  first_fits : (r : List Slot) → queue s q ≡ r → Fits p (persist_first s q r)
  unfolding persist_first settled
  first_fits [] e = f
  first_fits (h ∷ r) e =
      let k : length (queue s q) ≡ suc (length r) = ap length e in
      let n = fits_queue_long p s f q range in
      let w = f.few_queued q range in
      let b = marks_borne p s f q range h r e in
      pick_cases (λ u. Fits p (with_queue u q r)) _ _ s
      (λ c.
      let d : due p (with_word s h.mark h.word) ≡ due p s = unfold with_word due unissued in refl in
      fits_queue p _ (fits_word p s f h.mark h.word) q low r (omega arith) b.1)
      (λ c. fits_queue p s f q low r (omega arith) b.1)

  first_work : (r : List Slot) → queue s q ≡ r → work p (persist_first s q r) + 1 ≡ work p s
  unfolding persist_first settled
  first_work [] e =
      let k : length (queue s q) ≡ 0 = ap length e in
      let n = fits_queue_long p s f q range in
      let h = persist_there in
      absurd (omega arith)
  first_work (h ∷ r) e =
      let k : length (queue s q) ≡ suc (length r) = ap length e in
      let n = fits_queue_long p s f q range in
      let m = fits_queue_within p s f q range in
      pick_cases (λ u. work p (with_queue u q r) + 1 ≡ work p s) _ _ s
      (λ c.
      let l = h.mark in
      let x = h.word in
      let v = work_word p s f l x in
      let u : queue_len (with_word s l x) q ≡ queue_len s q = unfold with_word in refl in
      let w = work_queue p (with_word s l x) (fits_word p s f l x) q range r (omega arith) in
      omega arith)
      (λ c. let w = work_queue p s f q range r (omega arith) in omega arith)

  pub persist_fits : Fits p (persist_of s q)
  unfolding persist_of
  persist_fits = first_fits (queue s q) refl

  pub persist_work : work p (persist_of s q) + 1 ≡ work p s
  unfolding persist_of
  persist_work = first_work (queue s q) refl

-- A legal step is one of three, by its code: what holds of each of them holds of it
pub step_cases {ℓ} : (p : Program) (s : State) (k : Step) (Q : State → Type ℓ)
    → (k.code ≡ issue → issue_rule p (parts_of s) k.thread.0 ≡ 0 → Q (issue_of p s k.thread.0))
    → (k.code ≡ move → k.thread.0 < p.threads → move_rule p (parts_of s) k.thread.0 k.position ≡ 0
    → Q (move_of p s k.thread.0 k.position))
    → (k.code ≡ persist → k.location.0 < lines_of p → persist_rule (parts_of s) k.location.0 ≡ 0
    → Q (persist_of s k.location.0))
    → InRange p k → rule_of p s k ≡ 0 → Q (next_of p s k)
unfolding rule_of rule_in next_of pick
step_cases p s k Q issued moved persisted r legal = go (eqb k.code issue) refl (eqb k.code move) refl
    legal
  where
    go : (a : Bool) → eqb k.code issue ≡ a → (b : Bool) → eqb k.code move ≡ b
        → pick a (issue_rule p (parts_of s) k.thread.0)
        (pick b (move_rule p (parts_of s) k.thread.0 k.position)
        (persist_rule (parts_of s) k.location.0)) ≡ 0
        → Q (pick a (issue_of p s k.thread.0)
        (pick b (move_of p s k.thread.0 k.position) (persist_of s k.location.0)))
    go true e b g h = issued (eqb-true _ _ e) h
    go false e true g h =
        let c : k.code ≡ move = eqb-true _ _ g in
        moved c (r.low_thread (omega arith)) h
    go false e false g h =
        let c : k.code ≢ issue = eqb-false _ _ e in
        let d : k.code ≢ move = eqb-false _ _ g in
        let m = r.low_code in
        persisted (omega arith) (r.low_location (omega arith)) h

module _ (p : Program) (s : State) (f : Fits p s) (k : Step) where
  pub step_fits : InRange p k → rule_of p s k ≡ 0 → Fits p (next_of p s k)
  step_fits =
      step_cases p s k (Fits p)
      (λ c. issue_fits p s f k.thread.0)
      (λ c. move_fits p s f k.thread.0 k.position)
      (λ c. persist_fits p s f k.location.0)

  pub step_work : InRange p k → rule_of p s k ≡ 0 → work p (next_of p s k) + cost p s k ≡ work p s
  step_work =
      step_cases p s k (λ u. work p u + cost p s k ≡ work p s)
      (λ c legal. rw (cost_issue p s k c) (issue_work p s f k.thread.0 legal))
      (λ c low legal.
      rw (cost_other p s k (λ e. omega arith)) (move_work p s f k.thread.0 k.position low legal))
      (λ c low legal.
      rw (cost_other p s k (λ e. omega arith)) (persist_work p s f k.location.0 low legal))
