-- The code's search for a thread's marker among the lanes of a state finds what the machine's finds in its
-- queues.
--   is_mark mark m, holds_mark   the mark sought; a queue holds one
-- Assumes nothing.
use Prim.Native.Nat.{ℕ, zero, suc, ◌+◌, ◌*◌, ◌≤◌, ◌<◌}
use mathlib.Core.Path.{◌≡◌, refl, sym, ap, ◌∙◌}
use mathlib.Core.Bool.{Bool, true, false}
use mathlib.Core.List.{List, [], ◌∷◌}
use native.Mathlib.Omega.{arith}
use native.Mathlib.Nat.{add-zero}
use lib.Dec.{eqb}
use lib.ListN.{length, get_or}
use Rattle.cases.specs.declared.case.Program.{Program}
use Rattle.cases.specs.Choice.{pick, either}
use Rattle.cases.specs.Sizes.{most_locations}
use Rattle.cases.specs.Checks.{lines_of}
use Rattle.machine.specs.declared.cells.State.{State}
use Rattle.std.specs.Prelude.{Option, Some}
use Rattle.machine.specs.declared.look.Place.{Place}
use Rattle.machine.specs.View.{Slot, mark_of, marks_of, marks_in, queue}
use Rattle.machine.specs.Look.{place_at, marker_among, marker_from, marker_of, is_at, marked}
use Rattle.machine.specs.Fit.{any_from, any_of, Fits}
use Rattle.machine.proofs.lists.PartLaws.{part_none}
use Rattle.machine.proofs.Promises.{queue_long, queue_marks, few_lines}
use Rattle.search.specs.Lanes.{slot_lanes}
use Rattle.search.specs.Listing.{threads_in, lines_in, listing_of}
use Rattle.search.specs.Rows.{queue_row, row_len, row_start, marked_among, marked_from, marked_lanes}
use Rattle.search.proofs.listing.ListingLaws.{listing_lines}
use Rattle.search.proofs.rows.RowLoopLaws.{row_next}
use Rattle.search.proofs.lanes.GeneralLaws.{any_below}
use Rattle.search.proofs.lanes.LookLanesLaws.{blank_slot, laid_of, see_queue_long, see_slot}

unfoldable is_mark : ℕ → ℕ → Bool
is_mark mark m = eqb m mark

unfoldable holds_mark : List ℕ → List ℕ → ℕ → ℕ → Bool
holds_mark marks lengths t q = any_of (is_mark (mark_of t)) (marks_in marks lengths q)

-- the machine's search: one queue, so many of them
marker_among_lem : (t q i : ℕ) (ms : List ℕ) (after : Option Place)
    → is_at (marker_among t q i ms after) ≡ either (any_of (is_mark (mark_of t)) ms) (is_at after)
unfolding marker_among any_of either is_mark
marker_among_lem t q i [] after = refl
marker_among_lem t q i (m ∷ ms) after = go (eqb m (mark_of t)) (marker_among_lem t q (suc i) ms after)
  where
    go : (b : Bool)
        → is_at (marker_among t q (suc i) ms after) ≡ either (any_of (is_mark (mark_of t)) ms) (is_at after)
        → is_at (pick b (Some (place_at q i)) (marker_among t q (suc i) ms after))
        ≡ either (either b (any_of (is_mark (mark_of t)) ms)) (is_at after)
    go true e = unfold pick either in refl
    go false e = unfold pick either in e

marker_from_lem : (marks lengths : List ℕ) (t k q : ℕ)
    → is_at (marker_from marks lengths t k q) ≡ any_from q k (holds_mark marks lengths t)
unfolding marker_from any_from holds_mark
marker_from_lem marks lengths t zero q = refl
marker_from_lem marks lengths t (suc k) q =
    marker_among_lem t q 0 (marks_in marks lengths q) (marker_from marks lengths t k (suc q))
    ∙ rw (marker_from_lem marks lengths t k (suc q))

-- the code's: the entries of one queue
marked_among_lem : (x : List ℕ) (mark : ℕ) (q : List Slot) (at : ℕ) (after : Bool)
    → ((i : ℕ) → i < length q → get_or x (at + 2 * i) 0 ≡ (get_or q i blank_slot).mark)
    → marked_among x mark at (length q) after ≡ either (any_of (is_mark mark) (marks_of q)) after
unfolding marked_among any_of either is_mark marks_of
marked_among_lem x mark [] at after stand = refl
marked_among_lem x mark (h ∷ q) at after stand =
    let first : get_or x at 0 ≡ h.mark = ap (λ n. get_or x n 0) (omega arith) ∙ stand 0 (omega arith) in
    rw first (go (eqb h.mark mark) (marked_among_lem x mark q (at + 2) after next))
  where
    next : (i : ℕ) → i < length q → get_or x (at + 2 + 2 * i) 0 ≡ (get_or q i blank_slot).mark
    next i low = ap (λ n. get_or x n 0) (omega arith) ∙ stand (suc i) (omega arith)

    go : (b : Bool)
        → marked_among x mark (at + 2) (length q) after ≡ either (any_of (is_mark mark) (marks_of q)) after
        → pick b true (marked_among x mark (at + 2) (length q) after)
        ≡ either (either b (any_of (is_mark mark) (marks_of q))) after
    go true e = unfold pick either in refl
    go false e = unfold pick either in e

-- A state that fits its program
module _ (p : Program) (s : State) (fit : Fits p s) (t : ℕ) where
  abbrev c : List ℕ
  c = listing_of p

  abbrev x : List ℕ
  x = laid_of p s

  -- one queue, and what comes behind it
  marked_queue : (q : ℕ) → q < lines_of p → (after : Bool)
      → marked_among x (mark_of t) (row_start c x (queue_row c q)) (row_len c x (queue_row c q)) after
      ≡ either (holds_mark s.marks s.lengths t q) after
  unfolding holds_mark slot_lanes
  marked_queue q low after =
      let m = few_lines p fit.program in
      ap (λ n. marked_among x (mark_of t) (row_start c x (queue_row c q)) n after)
      (see_queue_long p s fit q low ∙ sym (queue_long p s fit q (omega arith)))
      ∙ marked_among_lem x (mark_of t) (queue s q) (row_start c x (queue_row c q)) after
      (λ i h. ap (λ n. get_or x n 0) (omega arith) ∙ see_slot p s fit q low i 0 h (omega arith))
      ∙ ap (λ ms. either (any_of (is_mark (mark_of t)) ms) after) (queue_marks p s fit q (omega arith))

  -- k queues from q on
  marked_from_lem : (k q : ℕ) → q + k ≤ lines_of p
      → marked_from c x (mark_of t) (row_start c x (queue_row c q)) (queue_row c q) k
      ≡ any_from q k (holds_mark s.marks s.lengths t)
  unfolding marked_from any_from
  marked_from_lem zero q low = refl
  marked_from_lem (suc k) q low =
      let to : suc (queue_row c q) ≡ queue_row c (suc q) = omega arith in
      let start : row_start c x (queue_row c q) + 2 * row_len c x (queue_row c q) ≡ row_start c x (queue_row c (suc q))
      = row_next c x (queue_row c q) ∙ ap (λ r. row_start c x r) (omega arith) in
      marked_queue q (omega arith) _
      ∙ ap (either (holds_mark s.marks s.lengths t q))
      ((λ i. marked_from c x (mark_of t) (start i) (to i) k) ∙ marked_from_lem k (suc q) (omega arith))

  -- no queue behind the program's holds any
  empty : (q : ℕ) → lines_of p ≤ q → q < most_locations → holds_mark s.marks s.lengths t q ≡ false
  unfolding holds_mark marks_in any_of
  empty q far low = rw (part_none _ _ s.marks (fit.no_queue q low far)) refl

  -- all queues
  pub marked_is : marked_lanes c x t ≡ marked s.marks s.lengths t
  unfolding marked_lanes marked marker_of
  marked_is =
      let m = few_lines p fit.program in
      ap (λ r. marked_from c x (mark_of t) (row_start c x r) r (lines_in c)) (sym (add-zero (threads_in c)))
      ∙ ap (marked_from c x (mark_of t) (row_start c x (queue_row c 0)) (queue_row c 0)) (listing_lines p)
      ∙ marked_from_lem (lines_of p) 0 (omega arith)
      ∙ any_below (holds_mark s.marks s.lengths t) (holds_mark s.marks s.lengths t) (lines_of p)
      most_locations m (λ k low. refl) empty
      ∙ sym (marker_from_lem s.marks s.lengths t most_locations 0)
