-- The look for a thread's marker, over queues as lists: it finds one exactly where there is one, and says where.
-- Assumes nothing.
use Prim.Native.Nat.{ℕ, zero, suc, ◌<◌}
use mathlib.Core.Path.{◌≡◌, refl, sym, ap, ◌∙◌}
use mathlib.Core.Bool.{Bool, true, false}
use mathlib.Core.List.{List, [], ◌∷◌}
use native.Mathlib.Omega.{arith}
use lib.ListN.{length, get_or}
use Rattle.cases.specs.declared.case.Program.{Program}
use Rattle.cases.specs.Sizes.{most_locations}
use Rattle.machine.specs.declared.cells.State.{State}
use Rattle.machine.specs.View.{Slot, mark_of, marks_of, marks_in, queue}
use Rattle.machine.specs.Look.{marker_of, is_at, found_queue, found_position, marked}
use Rattle.machine.specs.Fit.{Fits}
use Rattle.machine.specs.InTheWay.{StandsAt}
use Rattle.machine.proofs.view.SlotLaws.{length_marks}
use Rattle.machine.proofs.look.MarkerLaws.{marker_stands, marker_none}
use Rattle.machine.proofs.fit.SpareLaws.{marks_fit}

-- A slot of a queue, and its mark
mark_stands : (q : List Slot) (i m : ℕ) → i < length q → get_or (marks_of q) i 0 ≡ m
    → (h : Slot) × StandsAt q i h × (h.mark ≡ m)
unfolding marks_of StandsAt
mark_stands [] i m low e = absurd (omega arith)
mark_stands (h ∷ q) zero m low e = (h, refl, e)
mark_stands (h ∷ q) (suc i) m low e = mark_stands q i m (omega arith) e

pub stands_mark : (q : List Slot) (i : ℕ) (h : Slot) → StandsAt q i h → get_or (marks_of q) i 0 ≡ h.mark
unfolding marks_of StandsAt
stands_mark [] i h e = absurd e
stands_mark (g ∷ q) zero h e = ap (λ (x : Slot). x.mark) e
stands_mark (g ∷ q) (suc i) h e = stands_mark q i h e

-- a marker of the thread stands in some queue
abbrev pub HasMarker : State → ℕ → Type 0
HasMarker s t =
    (q : ℕ) × (i : ℕ) × (h : Slot) × (q < most_locations) × StandsAt (queue s q) i h × (h.mark ≡ mark_of t)

-- A state that fits its program
module _ (p : Program) (s : State) (fit : Fits p s) where
  -- the look for a marker finds one exactly where there is one, and says where
  module _ (t : ℕ) where
    abbrev found_queue_lem : ℕ
    found_queue_lem = found_queue (marker_of s.marks s.lengths t)

    abbrev found_position_lem : ℕ
    found_position_lem = found_position (marker_of s.marks s.lengths t)

    pub marked_stands : marked s.marks s.lengths t ≡ true
        → (h : Slot) × (found_queue_lem < most_locations) × StandsAt (queue s found_queue_lem) found_position_lem h
        × (h.mark ≡ mark_of t)
    unfolding marked
    marked_stands h =
        let found = marker_stands s.marks s.lengths t h in
        let marks = marks_fit p s fit found_queue_lem found.0 in
        let long : length (marks_in s.marks s.lengths found_queue_lem) ≡ length (queue s found_queue_lem)
        = sym (ap length marks) ∙ length_marks _ in
        let low = found.1 in
        let at = mark_stands (queue s found_queue_lem) found_position_lem (mark_of t) (omega arith)
        (ap (λ ms. get_or ms found_position_lem 0) marks ∙ found.2) in
        (at.0, found.0, at.1, at.2)

  pub marked_has : (t : ℕ) → marked s.marks s.lengths t ≡ true → HasMarker s t
  marked_has t h = let m = marked_stands t h in (_, _, m.0, m.1, m.2, m.3)

  pub has_marked : (t : ℕ) → HasMarker s t → marked s.marks s.lengths t ≡ true
  unfolding marked
  has_marked t (q, i, h, low, stands, mark) = go (is_at (marker_of s.marks s.lengths t)) refl
    where
      go : (b : Bool) → is_at (marker_of s.marks s.lengths t) ≡ b → b ≡ true
      go true e = refl
      go false e =
          absurd (marker_none s.marks s.lengths t e q i low
          (ap (λ ms. get_or ms i 0) (sym (marks_fit p s fit q low)) ∙ stands_mark (queue s q) i h stands ∙ mark))
