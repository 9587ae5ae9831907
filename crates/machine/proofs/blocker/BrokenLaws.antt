-- What a broken rule tells of buffers and queues, and back: each of the five that name an entry, exactly. Assumes
-- nothing.
use Prim.Native.Nat.{ℕ, ◌*◌, ◌≤◌, ◌<◌}
use mathlib.Core.Path.{◌≡◌, refl, sym, ap, ◌∙◌}
use mathlib.Core.Logic.{◌⊎◌, inl, inr, ◌≢◌, ◌↔◌, ⊎_elim}
use mathlib.Core.Bool.{true}
use mathlib.Core.List.{[]}
use native.Mathlib.Omega.{arith}
use borrow.Author.Tests.{ltb-true, ltb-false, lt-ltb}
use lib.ListN.{length, get_or, take, get_or-eq_default}
use Rattle.cases.specs.declared.case.Location.{Location}
use Rattle.cases.specs.declared.case.Step.{Step}
use Rattle.cases.specs.declared.case.Program.{Program}
use Rattle.cases.specs.Choice.{pick, refuse}
use Rattle.cases.specs.Checks.{limits_of, step_fault, count_at, instruction_at}
use Rattle.cases.specs.Sizes.{most_locations}
use Rattle.cases.proofs.ArrayLaws.{length_none}
use Rattle.cases.proofs.ChoiceLaws.{otherwise, refuse_past, refuse_was, refuse_neither}
use Rattle.cases.proofs.Promises.{thread_low}
use Rattle.machine.specs.declared.cells.State.{State}
use Rattle.machine.specs.declared.cells.Waiting.{Waiting}
use Rattle.machine.specs.declared.cells.Entry.TheVariants.{Flush, FlushOpt, Sfence}
use Rattle.machine.specs.Sizes.{room}
use Rattle.machine.specs.View.{Slot, line_of, slots, queue_in, queue, queue_len, blank_waiting, buffer, buffer_len}
use Rattle.machine.specs.View.{issued_of}
use Rattle.machine.specs.Parts.{parts_of}
use Rattle.machine.specs.Look.{bars, first_bar}
use Rattle.machine.specs.Rules.{is_barrier, barrier_rule, issue_rule, effect_rule, pass_rule}
use Rattle.machine.specs.Rules.{entry_at, move_rule, persist_rule, rule_in, rule_of}
use Rattle.machine.specs.Fit.{Fits}
use Rattle.machine.specs.Next.{issue_step, move_step, persist_step}
use Rattle.machine.specs.InTheWay.{StandsAt}
use Rattle.machine.proofs.lists.PartLaws.{lt_or_ge, part_none}
use Rattle.machine.proofs.lists.StandsLaws.{stands_within, within_stands, stands_get, stands_some}
use Rattle.machine.proofs.lists.StandsLaws.{some_stands}
use Rattle.machine.proofs.look.BarLaws.{bar_stands, bar_first}
use Rattle.machine.proofs.fit.FitLaws.{fits_queue_long, fits_buffer_long}
use Rattle.machine.proofs.moves.MoveLaws.{move_flush_low, move_flush_held}
use Rattle.machine.proofs.steps.StepFaultLaws.{StepKinds, step_kinds}
use Rattle.machine.proofs.rules.ReadyLaws.{head_named}
use Rattle.machine.proofs.rules.RuleLaws.{Between, issue_between, move_between, persist_between}
use Rattle.machine.proofs.rules.ToldLaws.{barrier_told, barrier_is, barrier_22, barrier_23, entry_told_lem}
use Rattle.machine.proofs.rules.ToldLaws.{first_is, behind_is, effect_27, effect_28, sfence_28}
use Rattle.machine.proofs.rules.ToldLaws.{effect_not_26, pass_26, pass_most}
use Rattle.machine.proofs.blocker.MarkedLaws.{HasMarker, marked_has, has_marked}

-- the thread's next instruction is an exchange, a compare or an mfence
abbrev pub Barrier : Program → State → ℕ → Type 0
Barrier p s t =
    (issued_of s t < count_at p t) × (is_barrier (instruction_at p t (issued_of s t)).operation ≡ true)

-- A state that fits its program
module _ (p : Program) (s : State) (fit : Fits p s) where
  -- an entry of a buffer by its position
  pub entry_is : (t i : ℕ) (w : Waiting) → StandsAt (buffer s t) i w → entry_at (buffer s t) i ≡ w.entry
  entry_is t i w stands = ap (λ (v : Waiting). v.entry) (stands_get (buffer s t) i blank_waiting w stands)

  -- a queue that something stands in is one that there is
  pub queue_low : (q i : ℕ) (h : Slot) → StandsAt (queue s q) i h → q < most_locations
  unfolding queue_in slots
  queue_low q i h stands = ⊎_elim (λ l. l) (λ g. absurd (none g)) (lt_or_ge q most_locations)
    where
      none : most_locations ≤ q → ⊥
      none g =
          let long = fit.sized.lengths_long in
          let len : queue_len s q ≡ 0 = get_or-eq_default s.lengths 0 (omega arith) in
          let empty : queue s q ≡ [] = rw (part_none (q * room) _ s.held len) in
          stands_some (queue s q) i h stands empty

  module _ (t : ℕ) (low : t < p.threads) where
    long : length (buffer s t) ≡ buffer_len s t
    long = fits_buffer_long p s fit t (thread_low fit.program low)

    -- the queue of a flush that waits is empty exactly where its length is 0
    queued : (w : Waiting) → StandsAt (buffer s t) 0 w → (l : Location) → w.entry ≡ Flush l
        → (queue s (line_of p l.0) ≢ []) ↔ (0 < queue_len s (line_of p l.0))
    queued w stands l e =
        let named = head_named p s fit t (thread_low fit.program low) in
        let there = move_flush_low p fit.program named l (entry_is t 0 w stands ∙ e) _ refl in
        let many = fits_queue_long p s fit (line_of p l.0) there in (
          (λ some.
              let h = some_stands _ some in
              let n = stands_within (queue s (line_of p l.0)) 0 h.0 h.1 in
              omega arith),
          (λ n z. let e = ap length z in omega arith),
        )

    -- "Exchange and mfence need the own buffer empty (else 22)", a compare too
    pub broken_22 : (rule_of p s (issue_step t) ≡ 22) ↔ (Barrier p s t × (buffer s t ≢ []))
    unfolding rule_of rule_in pick barrier_rule
    broken_22 = (told, is)
      where
        told : issue_rule p (parts_of s) t ≡ 22 → Barrier p s t × (buffer s t ≢ [])
        told h =
            let b = barrier_told p (parts_of s) t 22 h (λ z. omega arith) (λ z. omega arith) in
            let some = refuse_was _ _ _ _ b.1 (refuse_neither _ _ _ _ (λ z. omega arith) (λ z. omega arith)) in
            let n : 0 < buffer_len s t = ltb-true _ _ some in
            (b.0, stands_some _ 0 _ (within_stands (buffer s t) 0 blank_waiting (omega (arith, long))))

        is : Barrier p s t × (buffer s t ≢ []) → issue_rule p (parts_of s) t ≡ 22
        is (b, some) =
            let first = some_stands _ some in
            let n = stands_within (buffer s t) 0 first.0 first.1 in
            barrier_is p (parts_of s) t b ∙ barrier_22 p (parts_of s) t (omega (arith, long))

    -- "then no marker of that thread in any queue (else 23)"
    pub broken_23 : (rule_of p s (issue_step t) ≡ 23) ↔ (Barrier p s t × (buffer s t ≡ []) × HasMarker s t)
    unfolding rule_of rule_in pick barrier_rule
    broken_23 = (told, is)
      where
        told : issue_rule p (parts_of s) t ≡ 23 → Barrier p s t × (buffer s t ≡ []) × HasMarker s t
        told h =
            let b = barrier_told p (parts_of s) t 23 h (λ z. omega arith) (λ z. omega arith) in
            let c = refuse_past _ _ _ _ b.1 (λ z. omega arith) in
            let none : buffer_len s t ≤ 0 = ltb-false _ _ c.0 in
            let marked = refuse_was _ _ _ _ c.1 (λ z. omega arith) in
            (b.0, length_none _ (omega (arith, long)), marked_has p s fit t marked)

        is : Barrier p s t × (buffer s t ≡ []) × HasMarker s t → issue_rule p (parts_of s) t ≡ 23
        is (b, none, marker) =
            let n = ap length none in
            barrier_is p (parts_of s) t b
            ∙ barrier_23 p (parts_of s) t (omega (arith, long)) (has_marked p s fit t marker)

    pub issue_numbers : rule_of p s (issue_step t) ≤ 23
    unfolding rule_of rule_in pick
    issue_numbers = go (issue_between p (parts_of s) t)
      where
        go : Between 21 23 (issue_rule p (parts_of s) t) → issue_rule p (parts_of s) t ≤ 23
        go (inl e) = omega arith
        go (inr h) = h.1

    module _ (i : ℕ) where
      -- "only if no entry before it is a store or flush of its location or an sfence (else 26)"
      pub broken_26 : (rule_of p s (move_step t i) ≡ 26)
          ↔ ((w : Waiting) × StandsAt (buffer s t) i w × (l : Location) × (w.entry ≡ FlushOpt l)
          × (j : ℕ) × (v : Waiting) × (j < i) × StandsAt (buffer s t) j v
          × (bars p (line_of p l.0) v.entry ≡ true))
      unfolding rule_of rule_in pick
      broken_26 = (told, is)
        where
          Bars : Type 0
          Bars =
              (w : Waiting) × StandsAt (buffer s t) i w × (l : Location) × (w.entry ≡ FlushOpt l)
              × (j : ℕ) × (v : Waiting) × (j < i) × StandsAt (buffer s t) j v
              × (bars p (line_of p l.0) v.entry ≡ true)

          go : i < buffer_len s t
              → ((i ≡ 0) × (effect_rule p (parts_of s) t (entry_at (buffer s t) i) ≡ 26))
              ⊎ ((i ≢ 0) × (pass_rule p (buffer s t) i (entry_at (buffer s t) i) ≡ 26))
              → Bars
          go h (inl (z, e)) = absurd (effect_not_26 p (parts_of s) t i _ e)
          go h (inr (z, e)) =
              let w = within_stands (buffer s t) i blank_waiting (omega (arith, long)) in
              let l = pass_26 p (buffer s t) i _ e in
              let v = bar_stands p (line_of p l.0.0) (buffer s t) i (omega (arith, long)) l.2 in
              (_, w, l.0, l.1, _, v.0, l.2, v.1, v.2)

          told : move_rule p (parts_of s) t i ≡ 26 → Bars
          told h = let e = entry_told_lem p (parts_of s) t i 26 h (λ z. omega arith) in go e.0 e.1

          is : Bars → move_rule p (parts_of s) t i ≡ 26
          is (w, stands, l, entry, j, v, before, bar, e) =
              let at = entry_is t i w stands in
              let there = stands_within (buffer s t) i w stands in
              let first = bar_first p (line_of p l.0) (buffer s t) i j v bar e before in
              behind_is p (parts_of s) t i (omega (arith, long)) (λ z. omega arith)
              ∙ (unfold pass_rule refuse in
              rw (at, entry, lt-ltb (first_bar p (line_of p l.0) (take i (buffer s t))) i (omega arith)))

      -- 27 and 28 are of the entry at position 0
      first_told : (r : ℕ) → 27 ≤ r → move_rule p (parts_of s) t i ≡ r
          → (i ≡ 0) × StandsAt (buffer s t) 0 (get_or (buffer s t) 0 blank_waiting)
          × (effect_rule p (parts_of s) t (entry_at (buffer s t) 0) ≡ r)
      first_told r high h = let e = entry_told_lem p (parts_of s) t i r h (λ z. omega arith) in go e.0 e.1
        where
          go : i < buffer_len s t
              → ((i ≡ 0) × (effect_rule p (parts_of s) t (entry_at (buffer s t) i) ≡ r))
              ⊎ ((i ≢ 0) × (pass_rule p (buffer s t) i (entry_at (buffer s t) i) ≡ r))
              → (i ≡ 0) × StandsAt (buffer s t) 0 (get_or (buffer s t) 0 blank_waiting)
              × (effect_rule p (parts_of s) t (entry_at (buffer s t) 0) ≡ r)
          go n (inl (z, e)) = (z, within_stands (buffer s t) 0 blank_waiting (omega (arith, long)), rw z at e)
          go n (inr (z, e)) =
              let m = pass_most p (buffer s t) i (entry_at (buffer s t) i) in
              absurd (omega arith)

      -- "A flush leaves only if its location's queue is empty, markers counted (else 27)"
      pub broken_27 : (rule_of p s (move_step t i) ≡ 27)
          ↔ ((i ≡ 0) × (w : Waiting) × StandsAt (buffer s t) 0 w × (l : Location) × (w.entry ≡ Flush l)
          × (queue s (line_of p l.0) ≢ []))
      unfolding rule_of rule_in pick
      broken_27 = (told, is)
        where
          Held : Type 0
          Held =
              (i ≡ 0) × (w : Waiting) × StandsAt (buffer s t) 0 w × (l : Location) × (w.entry ≡ Flush l)
              × (queue s (line_of p l.0) ≢ [])

          told : move_rule p (parts_of s) t i ≡ 27 → Held
          told h =
              let f = first_told 27 (omega arith) h in
              let l = effect_27 p (parts_of s) t 0 _ f.2 in
              (f.0, _, f.1, l.0, l.1, (queued _ f.1 l.0 l.1).1 l.2)

          is : Held → move_rule p (parts_of s) t i ≡ 27
          is (z, w, stands, l, entry, some) =
              let at = entry_is t 0 w stands in
              let there = stands_within (buffer s t) 0 w stands in
              let e : entry_at (buffer s t) i ≡ Flush l = rw z (at ∙ entry) in
              first_is p (parts_of s) t i (omega (arith, long)) z
              ∙ sym (move_flush_held p (parts_of s) t l _ e _ refl ((queued w stands l entry).0 some))

      -- "An sfence leaves only if no queue holds a marker of that thread (else 28)"
      pub broken_28 : (rule_of p s (move_step t i) ≡ 28)
          ↔ ((i ≡ 0) × (w : Waiting) × StandsAt (buffer s t) 0 w × (w.entry ≡ Sfence) × HasMarker s t)
      unfolding rule_of rule_in pick
      broken_28 = (told, is)
        where
          Held : Type 0
          Held = (i ≡ 0) × (w : Waiting) × StandsAt (buffer s t) 0 w × (w.entry ≡ Sfence) × HasMarker s t

          told : move_rule p (parts_of s) t i ≡ 28 → Held
          told h =
              let f = first_told 28 (omega arith) h in
              let l = effect_28 p (parts_of s) t 0 _ f.2 in
              (f.0, _, f.1, l.0, marked_has p s fit t l.1)

          is : Held → move_rule p (parts_of s) t i ≡ 28
          is (z, w, stands, entry, marker) =
              let at = entry_is t 0 w stands in
              let there = stands_within (buffer s t) 0 w stands in
              let e : entry_at (buffer s t) i ≡ Sfence = rw z (at ∙ entry) in
              first_is p (parts_of s) t i (omega (arith, long)) z
              ∙ sfence_28 p (parts_of s) t i _ e (has_marked p s fit t marker)

      -- any rule of a move but 24 is of an entry that waits
      pub move_waits : 25 ≤ rule_of p s (move_step t i) → i < buffer_len s t
      unfolding rule_of rule_in pick
      move_waits h = (entry_told_lem p (parts_of s) t i _ refl (λ z. omega arith)).0

      move_numbers : (rule_of p s (move_step t i) ≡ 0)
          ⊎ ((24 ≤ rule_of p s (move_step t i)) × (rule_of p s (move_step t i) ≤ 28))
      unfolding rule_of rule_in pick
      move_numbers = move_between p (parts_of s) t i

-- a persist's
pub persist_numbers : (p : Program) (s : State) (q : ℕ)
    → (rule_of p s (persist_step q) ≡ 0) ⊎ (rule_of p s (persist_step q) ≡ 29)
unfolding rule_of rule_in pick
persist_numbers p s q = go (persist_between (parts_of s) q)
  where
    go : Between 29 29 (persist_rule (parts_of s) q)
        → (persist_rule (parts_of s) q ≡ 0) ⊎ (persist_rule (parts_of s) q ≡ 29)
    go (inl e) = inl e
    go (inr h) = inr (omega (arith, h.0, h.1))

-- a step that breaks a rule up to 23 is an issue, one that breaks one of 24 to 28 a move
module _ (p : Program) (s : State) (fit : Fits p s) (k : Step) (faultless : step_fault (limits_of p) k ≡ 0) where
  pub issue_told : rule_of p s k ≢ 0 → rule_of p s k ≤ 23 → (t : ℕ) × (t < p.threads) × (k ≡ issue_step t)
  issue_told some low = go (step_kinds p k faultless)
    where
      go : StepKinds p k → (t : ℕ) × (t < p.threads) × (k ≡ issue_step t)
      go (inl x) = x
      go (inr (inl (t, i, there, e))) =
          let same = ap (rule_of p s) e in
          let is = otherwise (move_numbers p s fit t there i) (λ z. some (same ∙ z)) in
          absurd (omega arith)
      go (inr (inr (q, there, e))) =
          let same = ap (rule_of p s) e in
          let is = otherwise (persist_numbers p s q) (λ z. some (same ∙ z)) in
          absurd (omega arith)

  pub move_told : 24 ≤ rule_of p s k → rule_of p s k ≤ 28
      → (t : ℕ) × (i : ℕ) × (t < p.threads) × (k ≡ move_step t i)
  move_told high low = go (step_kinds p k faultless)
    where
      go : StepKinds p k → (t : ℕ) × (i : ℕ) × (t < p.threads) × (k ≡ move_step t i)
      go (inl (t, there, e)) =
          let same = ap (rule_of p s) e in
          let is = issue_numbers p s fit t there in
          absurd (omega arith)
      go (inr (inl x)) = x
      go (inr (inr (q, there, e))) =
          let same = ap (rule_of p s) e in
          let is = otherwise (persist_numbers p s q) (λ z. omega arith) in
          absurd (omega arith)
