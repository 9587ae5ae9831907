-- The blocker is the first entry in the way, and none is named exactly where the rule names none. Assumes nothing.
use Prim.Native.Nat.{ℕ, ◌≤◌, ◌<◌}
use mathlib.Core.Path.{◌≡◌, refl, ap, ◌∙◌}
use mathlib.Core.Logic.{◌⊎◌, inl, inr, ◌≢◌, ⊎_elim}
use mathlib.Core.List.{[]}
use native.Mathlib.Omega.{arith}
use lib.ListN.{length, take}
use Rattle.cases.specs.declared.case.Step.{Step}
use Rattle.cases.specs.declared.case.Program.{Program}
use Rattle.cases.specs.Checks.{limits_of, lines_of, step_fault}
use Rattle.cases.specs.Sizes.{most_threads, most_locations}
use Rattle.cases.proofs.ChoiceLaws.{pick_cases}
use borrow.Author.Tests.{eqb-true, eqb-false}
use Rattle.machine.specs.declared.cells.State.{State}
use Rattle.machine.specs.declared.blocker.Blocker.{Blocker}
use Rattle.machine.specs.declared.blocker.Blocker.TheVariants.{InBuffer, InQueue, NoEntry}
use Rattle.machine.specs.Sizes.{room}
use Rattle.machine.specs.View.{Slot, line_of, queue, buffer}
use Rattle.machine.specs.Parts.{parts_of}
use Rattle.machine.specs.Look.{marker_of, first_bar}
use Rattle.machine.specs.Rules.{rule_of, entry_at}
use Rattle.machine.specs.Blocker.{blocker_number, blocker_position, marker_place, entry_line, taken, blocker_by}
use Rattle.machine.specs.Blocker.{blocker_in, blocker_of}
use Rattle.machine.specs.Fit.{Fits}
use Rattle.machine.specs.Next.{move_step, persist_step}
use Rattle.machine.specs.InTheWay.{StandsAt, InTheWay, Names}
use Rattle.machine.proofs.lists.PartLaws.{lt_or_ge}
use Rattle.machine.proofs.steps.ProgressLaws.{persist_legal}
use Rattle.machine.proofs.blocker.BrokenLaws.{broken_22, broken_23, broken_26, broken_27, broken_28}
use Rattle.machine.proofs.blocker.BrokenLaws.{entry_is, queue_low, issue_told, move_told}
use Rattle.machine.proofs.lists.StandsLaws.{stands_within, stands_some}
use Rattle.machine.proofs.fit.FitLaws.{fits_queue_within, fits_queue_long, fits_buffer_within}
use Rattle.machine.proofs.fit.FitLaws.{fits_buffer_long}
use Rattle.machine.proofs.look.BarLaws.{bar_first}
use Rattle.machine.proofs.blocker.BlockerLaws.{own_thread}
use Rattle.machine.proofs.blocker.MarkedLaws.{HasMarker}
use Rattle.machine.proofs.blocker.FirstLaws.{IsFirst, found_place, first_22, first_26, first_27, is_found}
use Rattle.machine.proofs.blocker.FirstLaws.{first_marker_lem}

-- A state that fits, and a step that passes the checks 5 and 8
module _ (p : Program) (s : State) (fit : Fits p s) (k : Step) (faultless : step_fault (limits_of p) k ≡ 0) where
  -- what each rule tells of the step
  some_22 : rule_of p s k ≡ 22 → buffer s k.thread.0 ≢ []
  some_22 e =
      let is = issue_told p s fit k faultless (λ z. omega arith) (omega arith) in
      rw is.2 ((broken_22 p s fit is.0 is.1).0 (rw is.2 at e)).1

  marker_23 : rule_of p s k ≡ 23 → HasMarker s k.thread.0
  marker_23 e =
      let is = issue_told p s fit k faultless (λ z. omega arith) (omega arith) in
      rw is.2 ((broken_23 p s fit is.0 is.1).0 (rw is.2 at e)).2

  bars_26 : rule_of p s k ≡ 26
      → (k.position ≤ length (buffer s k.thread.0))
      × (first_bar p (entry_line p (taken (parts_of s) k)) (take k.position (buffer s k.thread.0)) < k.position)
  bars_26 e =
      let is = move_told p s fit k faultless (omega arith) (omega arith) in
      rw is.3 (passing is.0 is.1 is.2 (rw is.3 at e))
    where
      passing : (t i : ℕ) → t < p.threads → rule_of p s (move_step t i) ≡ 26
          → (i ≤ length (buffer s t))
          × (first_bar p (entry_line p (entry_at (buffer s t) i)) (take i (buffer s t)) < i)
      passing t i low z =
          let f = (broken_26 p s fit t low i).0 z in
          let there = stands_within (buffer s t) i f.0 f.1 in
          let line : entry_line p (entry_at (buffer s t) i) ≡ line_of p f.2.0
          = ap (entry_line p) (entry_is p s fit t i f.0 f.1 ∙ f.3) ∙ (unfold entry_line in refl) in
          let first = bar_first p (line_of p f.2.0) (buffer s t) i f.4 f.5 f.7 f.8 f.6 in
          let before = f.6 in
          (omega arith, rw line (omega arith))

  some_27 : rule_of p s k ≡ 27 → queue s (entry_line p (taken (parts_of s) k)) ≢ []
  some_27 e =
      let is = move_told p s fit k faultless (omega arith) (omega arith) in
      rw is.3 (flushing is.0 is.1 is.2 (rw is.3 at e))
    where
      flushing : (t i : ℕ) → t < p.threads → rule_of p s (move_step t i) ≡ 27
          → queue s (entry_line p (entry_at (buffer s t) i)) ≢ []
      flushing t i low z =
          let f = (broken_27 p s fit t low i).0 z in
          let line : entry_line p (entry_at (buffer s t) i) ≡ line_of p f.3.0
          = ap (λ n. entry_line p (entry_at (buffer s t) n)) f.0
          ∙ ap (entry_line p) (entry_is p s fit t 0 f.1 f.2 ∙ f.4)
          ∙ (unfold entry_line in refl) in
          rw line f.5

  marker_28 : rule_of p s k ≡ 28 → HasMarker s k.thread.0
  marker_28 e =
      let is = move_told p s fit k faultless (omega arith) (omega arith) in
      rw is.3 ((broken_28 p s fit is.0 is.2 is.1).0 (rw is.3 at e)).4

  -- a marker's place is its first one's
  first_found : (which : (rule_of p s k ≡ 23) ⊎ (rule_of p s k ≡ 28)) → HasMarker s k.thread.0
      → IsFirst p s fit k (marker_place (marker_of s.marks s.lengths k.thread.0))
  first_found which has = rw (found_place _ (is_found p s fit k which has)) (first_marker_lem p s fit k which has)

  -- the entry that is named is the first in the way; where none is named, the rule is none that names one
  pub first_or_none :
      (Names (rule_of p s k) × IsFirst p s fit k (blocker_of p s k))
      ⊎ ((Names (rule_of p s k) → ⊥) × (blocker_of p s k ≡ NoEntry))
  unfolding blocker_of blocker_in blocker_by rule_of
  first_or_none =
      pick_cases Told _ _ _
      (λ h. let e = eqb-true _ _ h in inl (inl e, first_22 p s fit k e (some_22 e))) (λ not_22.
      pick_cases Told _ _ _
      (λ h. let e = eqb-true _ _ h in inl (inr (inl e), first_found (inl e) (marker_23 e))) (λ not_23.
      pick_cases Told _ _ _
      (λ h.
      let e = eqb-true _ _ h in
      let f = bars_26 e in
      inl (inr (inr (inl e)), first_26 p s fit k e f.0 f.1)) (λ not_26.
      pick_cases Told _ _ _
      (λ h. let e = eqb-true _ _ h in inl (inr (inr (inr (inl e))), first_27 p s fit k e (some_27 e))) (λ not_27.
      pick_cases Told _ _ _
      (λ h. let e = eqb-true _ _ h in inl (inr (inr (inr (inr e))), first_found (inr e) (marker_28 e))) (λ not_28.
      inr (
        none (eqb-false _ _ not_22) (eqb-false _ _ not_23) (eqb-false _ _ not_26) (eqb-false _ _ not_27)
            (eqb-false _ _ not_28),
        refl,
      ))))))
    where
      Told : Blocker → Type 0
      Told b = (Names (rule_of p s k) × IsFirst p s fit k b) ⊎ ((Names (rule_of p s k) → ⊥) × (b ≡ NoEntry))

      none : rule_of p s k ≢ 22 → rule_of p s k ≢ 23 → rule_of p s k ≢ 26 → rule_of p s k ≢ 27 → rule_of p s k ≢ 28
          → Names (rule_of p s k) → ⊥
      none a b c d e (inl r) = a r
      none a b c d e (inr (inl r)) = b r
      none a b c d e (inr (inr (inl r))) = c r
      none a b c d e (inr (inr (inr (inl r)))) = d r
      none a b c d e (inr (inr (inr (inr r)))) = e r

  -- its numbers are low: a thread or a line, and a position in its buffer or its queue
  pub blocker_low : (blocker_number (blocker_of p s k) < most_locations) × (blocker_position (blocker_of p s k) < room)
  unfolding InTheWay
  blocker_low =
      ⊎_elim (λ f. stands_low (blocker_of p s k) f.1.0) (λ n. rw n.1 (omega arith, omega arith))
      first_or_none
    where
      stands_low : (b : Blocker) → InTheWay p s k b → (blocker_number b < most_locations) × (blocker_position b < room)
      stands_low (InBuffer t i) (e, w, st, way) =
          let low = own_thread p s fit k faultless in
          let here : t.0 < most_threads = omega arith in
          let few = fits_buffer_within p s fit t.0 here in
          let long = fits_buffer_long p s fit t.0 here in
          let within = stands_within (buffer s t.0) i w st in
          (omega arith, omega arith)
      stands_low (InQueue q i) (h, st, way) =
          let low = queue_low p s fit q.0 i h st in
          let few = fits_queue_within p s fit q.0 low in
          let long = fits_queue_long p s fit q.0 low in
          let within = stands_within (queue s q.0) i h st in
          (low, omega arith)
      stands_low NoEntry h = absurd h

-- a queue that something stands in is one of the program's, and its oldest may persist
pub queued_persists : (p : Program) (s : State) → Fits p s → (q i : ℕ) (h : Slot) → StandsAt (queue s q) i h
    → (q < lines_of p) × (step_fault (limits_of p) (persist_step q) ≡ 0) × (rule_of p s (persist_step q) ≡ 0)
queued_persists p s fit q i h st =
    let legal = persist_legal p s fit q there (stands_some (queue s q) i h st) in
    (there, legal.0, legal.1)
  where
    there : q < lines_of p
    there =
        ⊎_elim (λ l. l)
        (λ g.
        let low = queue_low p s fit q i h st in
        let none = fit.no_queue q low g in
        let long = fits_queue_long p s fit q low in
        let within = stands_within (queue s q) i h st in
        absurd (omega arith)) (lt_or_ge q (lines_of p))
