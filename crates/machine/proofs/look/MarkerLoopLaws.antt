-- Laws of `marker_of`, the look for a thread's first marker, queue by queue: for each of its two loops a record
-- of what it has found so far, made where the loop begins (start), and one law for each point of the loop that
-- uses it (next, here, end). Assumes nothing.
use Prim.Native.Nat.{ℕ, suc, ◌+◌, ◌*◌, ◌-◌, ◌≤◌, ◌<◌}
use mathlib.Core.Path.{◌≡◌, refl, sym, ◌∙◌}
use mathlib.Core.Bool.{false}
use mathlib.Core.List.{List, ◌∷◌}
use native.Mathlib.Omega.{arith}
use native.Mathlib.Numerals.{add-one}
use borrow.Author.Tests.{eq-eqb, ne_eqb}
use lib.Dec.{eqb}
use lib.ListN.{length, get_or, drop}
use Rattle.cases.specs.Choice.{pick}
use Rattle.cases.specs.Sizes.{most_locations}
use Rattle.machine.specs.declared.look.Place.{Place}
use Rattle.std.specs.Prelude.{Option, Some, None}
use Rattle.machine.specs.Sizes.{room, all_slots}
use Rattle.machine.specs.View.{mark_of, marks_in}
use Rattle.machine.specs.Fit.{Shallow}
use Rattle.machine.specs.Look.{place_at, marker_among, marker_from, marker_of}
use Rattle.machine.proofs.lists.PartLaws.{part_next, part_end}

-- marker_of, from queue to queue: the queues from q on say what all of them say
pub record MarkerQueuesSoFar (marks lengths : List ℕ) (mark q : ℕ) : Type 0 where
  pub long : length marks ≡ all_slots
  pub shallow : Shallow lengths
  pub within : q ≤ most_locations
  pub rest : (t : ℕ) → mark ≡ mark_of t
      → marker_from marks lengths t (most_locations - q) q ≡ marker_of marks lengths t

-- and within queue q: its marks from position i on, and the queues behind it, say what all queues say
pub record MarkerMarksSoFar (marks lengths : List ℕ) (mark q n i : ℕ) : Type 0 where
  pub long : length marks ≡ all_slots
  pub shallow : Shallow lengths
  pub low : q < most_locations
  pub few : n ≤ room
  pub counted : n ≡ get_or lengths q 0
  pub rest : (t : ℕ) → mark ≡ mark_of t
      → marker_among t q i (drop i (marks_in marks lengths q))
      (marker_from marks lengths t (most_locations - (q + 1)) (q + 1))
      ≡ marker_of marks lengths t

pub marker_queues_start : (marks lengths : List ℕ) (mark : ℕ) → length marks ≡ all_slots → Shallow lengths
    → MarkerQueuesSoFar marks lengths mark 0
unfolding marker_of
marker_queues_start marks lengths mark h k =
    record { long = h; shallow = k; within = omega arith; rest = λ t e. refl }

marker_from_next : (marks lengths : List ℕ) (t n q : ℕ) → q < n
    → marker_among t q 0 (marks_in marks lengths q) (marker_from marks lengths t (n - (q + 1)) (q + 1))
    ≡ marker_from marks lengths t (n - q) q
unfolding marker_from
marker_from_next marks lengths t n q h =
    let e : n - q ≡ suc (n - (q + 1)) = omega arith in
    rw (e, add-one)

module _ {marks lengths : List ℕ} {mark q : ℕ}
    (o : MarkerQueuesSoFar marks lengths mark q) where
  pub marker_marks_start : q < most_locations → MarkerMarksSoFar marks lengths mark q (get_or lengths q 0) 0
  unfolding Shallow
  marker_marks_start h =
      record {
        long = o.long;
        shallow = o.shallow;
        low = h;
        few = o.shallow q h;
        counted = refl;
        rest = λ t k. marker_from_next marks lengths t most_locations q h ∙ o.rest t k;
      }

  pub marker_end : (t : ℕ) → mark ≡ mark_of t → most_locations ≤ q → None ≡ marker_of marks lengths t
  unfolding marker_from
  marker_end t k h =
      let e : most_locations - q ≡ 0 = omega arith in
      rw e at (o.rest t k)

module _ {marks lengths : List ℕ} {mark q n i : ℕ}
    (o : MarkerMarksSoFar marks lengths mark q n i) where
  module _ (h : i < n) where
    marks_at : drop i (marks_in marks lengths q)
        ≡ get_or marks (q * room + i) 0 ∷ drop (i + 1) (marks_in marks lengths q)
    unfolding marks_in
    marks_at = part_next (q * room) (get_or lengths q 0) i marks 0 (omega arith) (omega arith)

    marker_among_next : (t : ℕ) (after : Option Place) → eqb (get_or marks (q * room + i) 0) (mark_of t) ≡ false
        → marker_among t q (i + 1) (drop (i + 1) (marks_in marks lengths q)) after
        ≡ marker_among t q i (drop i (marks_in marks lengths q)) after
    unfolding marker_among pick
    marker_among_next t after e = rw (marks_at, e, add-one)

    pub marker_marks_next : (get_or marks (q * room + i) 0 ≡ mark → ⊥)
        → MarkerMarksSoFar marks lengths mark q n (i + 1)
    marker_marks_next f =
        record {
          long = o.long;
          shallow = o.shallow;
          low = o.low;
          few = o.few;
          counted = o.counted;
          rest = λ t e. marker_among_next t _ (ne_eqb _ _ (λ p. f (p ∙ sym e))) ∙ o.rest t e;
        }

    pub marker_here : (t : ℕ) → mark ≡ mark_of t → get_or marks (q * room + i) 0 ≡ mark
        → Some (place_at q i) ≡ marker_of marks lengths t
    unfolding marker_among pick
    marker_here t e p = rw (marks_at, eq-eqb _ _ (p ∙ e)) at (o.rest t e)

  pub marker_queues_next : n ≤ i → MarkerQueuesSoFar marks lengths mark (q + 1)
  unfolding marker_among marks_in
  marker_queues_next h =
      record {
        long = o.long;
        shallow = o.shallow;
        within = omega arith;
        rest = λ t e. rw (part_end (q * room) (get_or lengths q 0) i marks (omega arith)) at (o.rest t e);
      }
