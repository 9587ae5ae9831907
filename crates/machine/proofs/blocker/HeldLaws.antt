-- Taking an entry away that is in the way of a step is needed: as long as it is not taken the step breaks the same
-- rule, and the entry is in its way. Assumes nothing.
use Prim.Native.Nat.{ℕ, ◌<◌}
use mathlib.Core.Path.{◌≡◌, refl, sym, ap, ◌∙◌}
use mathlib.Core.Logic.{inl, inr, ◌≢◌}
use mathlib.Core.Bool.{true}
use mathlib.Core.List.{List}
use native.Mathlib.Omega.{arith}
use Rattle.cases.specs.declared.case.Line.{Line}
use Rattle.cases.specs.declared.case.Thread.{Thread}
use Rattle.cases.specs.declared.case.Step.{Step}
use Rattle.cases.specs.declared.case.Program.{Program}
use Rattle.cases.specs.Checks.{limits_of, step_fault}
use Rattle.cases.proofs.Promises.{thread_low}
use Rattle.machine.specs.declared.cells.State.{State}
use Rattle.machine.specs.declared.cells.Waiting.{Waiting}
use Rattle.machine.specs.declared.blocker.Blocker.{Blocker}
use Rattle.machine.specs.declared.blocker.Blocker.TheVariants.{InBuffer, InQueue, NoEntry}
use Rattle.machine.specs.View.{Slot, mark_of, queue, buffer}
use Rattle.machine.specs.Parts.{parts_of}
use Rattle.machine.specs.Look.{bars}
use Rattle.machine.specs.Rules.{rule_of, next_of}
use Rattle.machine.specs.Fit.{Fits}
use Rattle.machine.specs.Model.{Leads, Faultless}
use Rattle.machine.specs.Next.{issue_step, move_step}
use Rattle.machine.specs.Ptso.{ptso}
use Rattle.machine.specs.Blocker.{entry_line, taken}
use Rattle.machine.specs.InTheWay.{StandsAt, InTheWay, left_by, left_at}
use Rattle.machine.proofs.lists.StandsLaws.{stands_some}
use Rattle.machine.proofs.blocker.MarkedLaws.{HasMarker}
use Rattle.machine.proofs.blocker.BrokenLaws.{broken_22, broken_23, broken_26, broken_27, broken_28}
use Rattle.machine.proofs.blocker.BrokenLaws.{queue_low, issue_told, move_told}
use Rattle.machine.proofs.blocker.LeftLaws.{left_order}
use Rattle.machine.proofs.blocker.LeftStepLaws.{left_keeps}
use Rattle.machine.proofs.blocker.KeptLaws.{line_is, fits_next, waiting_kept, queued_kept, not_taken}
use Rattle.machine.proofs.blocker.KeptLaws.{first_kept, barrier_kept, empty_kept}

-- A legal step, in a state that fits
module _ (p : Program) (s : State) (fit : Fits p s) (j : Step) (good : step_fault (limits_of p) j ≡ 0)
    (legal : rule_of p s j ≡ 0) where
  abbrev next : State
  next = next_of p s j

  -- after it the step k breaks the rule r, and the entry at the place b is in its way
  abbrev Held : Step → ℕ → Blocker → Type 0
  Held k r b = (rule_of p next k ≡ r) × InTheWay p next k b

  -- Where that was so before it, of each of the rules, and the entry is not taken
  module _ (t : Thread) (low : t.0 < p.threads) where
    -- 22
    held_buffer : (i : ℕ) (w : Waiting) → StandsAt (buffer s t.0) i w → rule_of p s (issue_step t.0) ≡ 22
        → left_by j (InBuffer t i) ≢ NoEntry
        → Held (issue_step t.0) 22 (left_by j (InBuffer t i))
    unfolding InTheWay
    held_buffer i w x e o =
        let told = (broken_22 p s fit t.0 low).0 e in
        let n = waiting_kept p s fit j good legal t i w (thread_low fit.program low) x o in
        let again = (broken_22 p next (fits_next p s fit j good legal) t.0 low).1
        (barrier_kept p s fit j good legal t low (λ z. omega arith) told.0, stands_some _ n.0 w n.2) in
        (again, rw n.1 (refl, w, n.2, inl again))

    -- 23
    held_marker : (q : Line) (i : ℕ) (h : Slot) → StandsAt (queue s q.0) i h → h.mark ≡ mark_of t.0
        → rule_of p s (issue_step t.0) ≡ 23
        → left_by j (InQueue q i) ≢ NoEntry
        → Held (issue_step t.0) 23 (left_by j (InQueue q i))
    unfolding InTheWay
    held_marker q i h x mark e o =
        let told = (broken_23 p s fit t.0 low).0 e in
        let n = queued_kept p s fit j good legal q i h x o in
        let marker : HasMarker next t.0 = (q.0, n.0, h, queue_low p s fit q.0 i h x, n.2, mark) in
        let barrier = barrier_kept p s fit j good legal t low (λ z. omega arith) told.0 in
        let empty = empty_kept p s fit j good legal t low (λ z. omega arith) told.1 in
        let again = (broken_23 p next (fits_next p s fit j good legal) t.0 low).1 (barrier, empty, marker) in
        (again, rw n.1 (h, n.2, inr (inl again, mark)))

    -- 27
    held_flush : (q : Line) (i : ℕ) (h : Slot) → StandsAt (queue s q.0) i h
        → q.0 ≡ entry_line p (taken (parts_of s) (move_step t.0 0))
        → rule_of p s (move_step t.0 0) ≡ 27
        → left_by j (InQueue q i) ≢ NoEntry
        → Held (move_step t.0 0) 27 (left_by j (InQueue q i))
    unfolding InTheWay entry_line
    held_flush q i h x line e o =
        let told = (broken_27 p s fit t.0 low 0).0 e in
        let n = queued_kept p s fit j good legal q i h x o in
        let first = first_kept p s fit j good legal t low told.1 (λ z. omega arith) told.2 in
        let own = line ∙ line_is p s fit t.0 0 told.1 _ told.2 told.4 in
        let again = (broken_27 p next (fits_next p s fit j good legal) t.0 low 0).1
        (refl, told.1, first, told.3, told.4, (λ z. stands_some _ n.0 h n.2 (ap (queue next) own ∙ z))) in
        let there = own ∙ sym (line_is p next (fits_next p s fit j good legal) t.0 0 told.1 _ first told.4) in
        (again, rw n.1 (h, n.2, inl (again, there)))

    -- 28
    held_sfence : (q : Line) (i : ℕ) (h : Slot) → StandsAt (queue s q.0) i h → h.mark ≡ mark_of t.0
        → rule_of p s (move_step t.0 0) ≡ 28
        → left_by j (InQueue q i) ≢ NoEntry
        → Held (move_step t.0 0) 28 (left_by j (InQueue q i))
    unfolding InTheWay
    held_sfence q i h x mark e o =
        let told = (broken_28 p s fit t.0 low 0).0 e in
        let n = queued_kept p s fit j good legal q i h x o in
        let first = first_kept p s fit j good legal t low told.1 (λ z. omega arith) told.2 in
        let marker : HasMarker next t.0 = (q.0, n.0, h, queue_low p s fit q.0 i h x, n.2, mark) in
        let again = (broken_28 p next (fits_next p s fit j good legal) t.0 low 0).1
        (refl, told.1, first, told.3, marker) in
        (again, rw n.1 (h, n.2, inr (inr again, mark)))

    -- 26: the flush-opt that may not pass it is not taken either, and stands behind it
    held_flush_opt : (i n : ℕ) (v : Waiting) → StandsAt (buffer s t.0) n v → n < i
        → bars p (entry_line p (taken (parts_of s) (move_step t.0 i))) v.entry ≡ true
        → rule_of p s (move_step t.0 i) ≡ 26
        → left_by j (InBuffer t n) ≢ NoEntry
        → (m : ℕ) × (left_by j (InBuffer t i) ≡ InBuffer t m) × (rule_of p next (move_step t.0 m) ≡ 26)
        × InTheWay p next (move_step t.0 m) (left_by j (InBuffer t n))
    unfolding InTheWay entry_line
    held_flush_opt i n v x before bar e o =
        let within = thread_low fit.program low in
        let told = (broken_26 p s fit t.0 low i).0 e in
        let stays = not_taken p s fit j good legal t low i (λ z. omega arith) in
        let m = waiting_kept p s fit j good legal t i told.0 within told.1 stays in
        let d = waiting_kept p s fit j good legal t n v within x o in
        let ahead = left_order j t n i d.0 m.0 before d.1 m.1 in
        let line = line_is p s fit t.0 i told.0 _ told.1 told.3 in
        let again = (broken_26 p next (fits_next p s fit j good legal) t.0 low m.0).1
        (told.0, m.2, told.2, told.3, d.0, v, ahead, d.2, rw line at bar) in
        let there = line_is p next (fits_next p s fit j good legal) t.0 m.0 told.0 _ m.2 told.3 in
        (m.0, m.1, again, rw d.1 (refl, v, d.2, inr (again, ahead, rw there (rw line at bar))))

  -- of any step, by the rule
  held_of : (k m : Step) (r : ℕ) (b : Blocker) → k ≡ m → rule_of p s k ≡ r
      → (rule_of p s m ≡ r → Held m r b)
      → (rule_of p next k ≡ rule_of p s k) × InTheWay p next k b
  held_of k m r b z e held = let x = held (rw z at e) in (rw z x.0 ∙ sym e, rw z x.1)

  held_step : (k : Step) → step_fault (limits_of p) k ≡ 0 → (b : Blocker) → InTheWay p s k b → rule_of p s k ≢ 26
      → left_by j b ≢ NoEntry
      → (rule_of p next k ≡ rule_of p s k) × InTheWay p next k (left_by j b)
  unfolding InTheWay
  held_step k faultless (InBuffer t i) (own, w, x, inl e) n o =
      let is = issue_told p s fit k faultless (λ z. omega arith) (omega arith) in
      let there = is.1 in
      let same : is.0 ≡ t.0 = sym (ap (λ (y : Step). y.thread.0) is.2) ∙ sym own in
      held_of k (issue_step t.0) 22 (left_by j (InBuffer t i)) (is.2 ∙ ap issue_step same) e
      (λ r. held_buffer t (omega arith) i w x r o)
  held_step k faultless (InBuffer t i) (own, w, x, inr e) n o = absurd (n e.0)
  held_step k faultless (InQueue q i) (h, x, inl (e, line)) n o =
      let is = move_told p s fit k faultless (omega arith) (omega arith) in
      let first = ((broken_27 p s fit is.0 is.2 is.1).0 (rw is.3 at e)).0 in
      let z = is.3 ∙ ap (move_step is.0) first in
      held_of k (move_step is.0 0) 27 (left_by j (InQueue q i)) z e
      (λ r. held_flush (record { 0 = is.0 }) is.2 q i h x (rw z at line) r o)
  held_step k faultless (InQueue q i) (h, x, inr (inl e, mark)) n o =
      let is = issue_told p s fit k faultless (λ z. omega arith) (omega arith) in
      held_of k (issue_step is.0) 23 (left_by j (InQueue q i)) is.2 e
      (λ r. held_marker (record { 0 = is.0 }) is.1 q i h x (rw is.2 at mark) r o)
  held_step k faultless (InQueue q i) (h, x, inr (inr e, mark)) n o =
      let is = move_told p s fit k faultless (omega arith) (omega arith) in
      let first = ((broken_28 p s fit is.0 is.2 is.1).0 (rw is.3 at e)).0 in
      let z = is.3 ∙ ap (move_step is.0) first in
      held_of k (move_step is.0 0) 28 (left_by j (InQueue q i)) z e
      (λ r. held_sfence (record { 0 = is.0 }) is.2 q i h x (rw z at mark) r o)
  held_step k faultless NoEntry way n o = absurd way

  held_passing_step : (t i : ℕ) (b : Blocker) → t < p.threads → rule_of p s (move_step t i) ≡ 26
      → InTheWay p s (move_step t i) b
      → left_by j b ≢ NoEntry
      → (n : ℕ) × (left_by j (InBuffer (record { 0 = t }) i) ≡ InBuffer (record { 0 = t }) n)
      × (rule_of p next (move_step t n) ≡ 26) × InTheWay p next (move_step t n) (left_by j b)
  unfolding InTheWay
  held_passing_step t i (InBuffer d n) low e (own, w, x, inl z) o = absurd (omega arith)
  held_passing_step t i (InBuffer d n) low e (own, w, x, inr (z, before, bar)) o =
      rw (← own) (held_flush_opt d (omega arith) i n w x before (rw (← own) at bar) (rw (← own) at e) o)
  held_passing_step t i (InQueue q n) low e (h, x, inl (z, line)) o = absurd (omega arith)
  held_passing_step t i (InQueue q n) low e (h, x, inr (inl z, mark)) o = absurd (omega arith)
  held_passing_step t i (InQueue q n) low e (h, x, inr (inr z, mark)) o = absurd (omega arith)
  held_passing_step t i NoEntry low e way o = absurd way

-- After a run
module _ (p : Program) (s : State) (fit : Fits p s) where
  -- the step breaks the rule that it broke, and the entry, where it stands then, is in its way
  pub held : (k : Step) → step_fault (limits_of p) k ≡ 0 → (b : Blocker) → InTheWay p s k b → rule_of p s k ≢ 26
      → (ks : List Step) (u : State) → Faultless (ptso p) ks → Leads (ptso p) s ks u
      → left_at ks b ≢ NoEntry
      → (rule_of p u k ≡ rule_of p s k) × InTheWay p u k (left_at ks b)
  held k faultless b way other ks u good leads o =
      left_keeps p Q keeps s fit ks u good leads b NoEntry o (refl, way)
    where
      Q : State → Blocker → Blocker → Type 0
      Q v d c = (rule_of p v k ≡ rule_of p s k) × InTheWay p v k d

      keeps : (v : State) → Fits p v → (d c : Blocker) → Q v d c → (j : Step) → step_fault (limits_of p) j ≡ 0
          → rule_of p v j ≡ 0 → left_by j d ≢ NoEntry → Q (next_of p v j) (left_by j d) (left_by j c)
      keeps v f d c x j clean legal n =
          let y = held_step p v f j clean legal k faultless d x.1 (λ z. other (sym x.0 ∙ z)) n in
          (y.0 ∙ x.0, y.1)

  -- a flush-opt that it keeps behind it still waits, and its move, from where it stands then, still breaks 26
  held_move : (t i : ℕ) (b : Blocker) → t < p.threads → rule_of p s (move_step t i) ≡ 26
      → InTheWay p s (move_step t i) b
      → (ks : List Step) (u : State) → Faultless (ptso p) ks → Leads (ptso p) s ks u
      → left_at ks b ≢ NoEntry
      → (n : ℕ) × (left_at ks (InBuffer (record { 0 = t }) i) ≡ InBuffer (record { 0 = t }) n)
      × (rule_of p u (move_step t n) ≡ 26) × InTheWay p u (move_step t n) (left_at ks b)
  held_move t i b low e way ks u good leads o =
      left_keeps p Q keeps s fit ks u good leads b (InBuffer (record { 0 = t }) i) o (i, refl, e, way)
    where
      Q : State → Blocker → Blocker → Type 0
      Q v d c =
          (n : ℕ) × (c ≡ InBuffer (record { 0 = t }) n) × (rule_of p v (move_step t n) ≡ 26)
          × InTheWay p v (move_step t n) d

      keeps : (v : State) → Fits p v → (d c : Blocker) → Q v d c → (j : Step) → step_fault (limits_of p) j ≡ 0
          → rule_of p v j ≡ 0 → left_by j d ≢ NoEntry → Q (next_of p v j) (left_by j d) (left_by j c)
      keeps v f d c (n, at, rule, x) j clean legal m =
          rw at (held_passing_step p v f j clean legal t n d low rule x m)

  pub held_passing : (k : Step) → step_fault (limits_of p) k ≡ 0 → (b : Blocker) → InTheWay p s k b
      → rule_of p s k ≡ 26
      → (ks : List Step) (u : State) → Faultless (ptso p) ks → Leads (ptso p) s ks u
      → left_at ks b ≢ NoEntry
      → (n : ℕ) × (left_at ks (InBuffer k.thread k.position) ≡ InBuffer k.thread n)
      × (rule_of p u (move_step k.thread.0 n) ≡ 26) × InTheWay p u (move_step k.thread.0 n) (left_at ks b)
  held_passing k faultless b way e ks u good leads o =
      let is = move_told p s fit k faultless (omega arith) (omega arith) in
      rw is.3 (held_move is.0 is.1 b is.2 (rw is.3 at e) (rw is.3 at way) ks u good leads o)
