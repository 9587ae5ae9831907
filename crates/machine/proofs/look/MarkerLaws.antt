-- Laws of what `marker_of` answers: where it says a marker stands there is one of that thread, and none before
-- it; where it says nothing no queue holds one. Assumes nothing.
use Prim.Native.Nat.{ℕ, zero, suc, ◌+◌, ◌≤◌, ◌<◌}
use mathlib.Core.Path.{◌≡◌, refl, ap, ◌∙◌}
use mathlib.Core.Logic.{◌⊎◌, inl, inr, ◌≢◌}
use mathlib.Core.Bool.{Bool, true, false}
use mathlib.Core.List.{List, [], ◌∷◌}
use native.Mathlib.Omega.{arith}
use native.Mathlib.Nat.{zero-add}
use native.Mathlib.Decide.{ℕ_discrete}
use borrow.Author.Tests.{eqb-true, eqb-false}
use lib.Dec.{eqb}
use lib.ListN.{length, get_or}
use Rattle.cases.specs.Choice.{pick}
use Rattle.cases.specs.Sizes.{most_locations}
use Rattle.cases.proofs.ChoiceLaws.{never_both}
use Rattle.machine.specs.declared.look.Place.{Place}
use Rattle.std.specs.Prelude.{Option, Some, None}
use Rattle.machine.specs.View.{mark_of, marks_in}
use Rattle.machine.specs.Look.{place_at, marker_among, marker_from, marker_of, is_at, found_queue, found_position}

module _ (t : ℕ) where
  -- no mark of a list is one of thread t
  abbrev Unmarked : List ℕ → Type 0
  Unmarked ms = (i : ℕ) → get_or ms i 0 ≢ mark_of t

  -- the first is at position i
  record FirstMark (ms : List ℕ) (i : ℕ) : Type 0 where
    within : i < length ms
    mark : get_or ms i 0 ≡ mark_of t
    none : (k : ℕ) → k < i → get_or ms k 0 ≢ mark_of t

  -- one queue's marks: there is a first one, or none and what comes after is the answer
  abbrev InQueue : ℕ → ℕ → List ℕ → Option Place → Option Place → Type 0
  InQueue q i ms after x =
      ((j : ℕ) × FirstMark ms j × (x ≡ Some (place_at q (i + j)))) ⊎ (Unmarked ms × (x ≡ after))

  unmarked_next : (m : ℕ) (ms : List ℕ) → m ≢ mark_of t → Unmarked ms → Unmarked (m ∷ ms)
  unmarked_next m ms e h zero = e
  unmarked_next m ms e h (suc i) = h i

  first_next : (m : ℕ) (ms : List ℕ) (j : ℕ) → m ≢ mark_of t → FirstMark ms j → FirstMark (m ∷ ms) (suc j)
  first_next m ms j e f = record { within = let h = f.within in omega arith; mark = f.mark; none = before }
    where
      before : (k : ℕ) → k < suc j → get_or (m ∷ ms) k 0 ≢ mark_of t
      before zero h = e
      before (suc k) h = f.none k (omega arith)

  in_queue_lem : (q i : ℕ) (ms : List ℕ) (after : Option Place) → InQueue q i ms after (marker_among t q i ms after)
  unfolding marker_among pick
  in_queue_lem q i [] after = inr ((λ k e. omega arith), refl)
  in_queue_lem q i (m ∷ ms) after = go (eqb m (mark_of t)) refl (in_queue_lem q (suc i) ms after)
    where
      later : m ≢ mark_of t → InQueue q (suc i) ms after (marker_among t q (suc i) ms after)
          → InQueue q i (m ∷ ms) after (marker_among t q (suc i) ms after)
      later n (inl (j, f, e)) =
          let same : suc i + j ≡ i + suc j = omega arith in
          inl (suc j, first_next m ms j n f, e ∙ ap (λ k. Some (place_at q k)) same)
      later n (inr (h, e)) = inr (unmarked_next m ms n h, e)

      go : (b : Bool) → eqb m (mark_of t) ≡ b → InQueue q (suc i) ms after (marker_among t q (suc i) ms after)
          → InQueue q i (m ∷ ms) after (pick b (Some (place_at q i)) (marker_among t q (suc i) ms after))
      go true e r =
          let same : i ≡ i + 0 = omega arith in
          inl (
            0,
            record { within = omega arith; mark = eqb-true _ _ e; none = λ k h. absurd (omega arith) },
            ap (λ k. Some (place_at q k)) same,
          )
      go false e r = later (eqb-false _ _ e) r

  -- the n queues from q on
  module _ (marks lengths : List ℕ) where
    -- x is the first marker of the queues `from` to `end`, `end` left out
    record FirstFrom (from end : ℕ) (x : Option Place) : Type 0 where
      queue : ℕ
      position : ℕ
      not_before : from ≤ queue
      low : queue < end
      first : FirstMark (marks_in marks lengths queue) position
      none : (q : ℕ) → from ≤ q → q < queue → Unmarked (marks_in marks lengths q)
      is : x ≡ Some (place_at queue position)

    abbrev InQueues : ℕ → ℕ → Option Place → Type 0
    InQueues from end x =
        FirstFrom from end x
        ⊎ (((q : ℕ) → from ≤ q → q < end → Unmarked (marks_in marks lengths q)) × (x ≡ None))

    in_queues : (n q end : ℕ) → end ≡ q + n → InQueues q end (marker_from marks lengths t n q)
    unfolding marker_from
    in_queues zero q end e = inr ((λ k a b. absurd (omega arith)), refl)
    in_queues (suc n) q end e =
        go (in_queue_lem q 0 (marks_in marks lengths q) (marker_from marks lengths t n (suc q)))
        (in_queues n (suc q) end (omega arith))
      where
        x : Option Place
        x = marker_among t q 0 (marks_in marks lengths q) (marker_from marks lengths t n (suc q))

        beyond : Unmarked (marks_in marks lengths q) → (end : ℕ)
            → ((k : ℕ) → suc q ≤ k → k < end → Unmarked (marks_in marks lengths k))
            → (k : ℕ) → q ≤ k → k < end → Unmarked (marks_in marks lengths k)
        beyond h top f k a b = at (ℕ_discrete k q)
          where
            at : Dec (k ≡ q) → Unmarked (marks_in marks lengths k)
            at (yes d) = rw d h
            at (no d) = f k (omega arith) b

        later : Unmarked (marks_in marks lengths q) → x ≡ marker_from marks lengths t n (suc q)
            → InQueues (suc q) end (marker_from marks lengths t n (suc q)) → InQueues q end x
        later h d (inl f) =
            inl record {
              queue = f.queue;
              position = f.position;
              not_before = let a = f.not_before in omega arith;
              low = f.low;
              first = f.first;
              none = beyond h f.queue f.none;
              is = d ∙ f.is;
            }
        later h d (inr f) = inr (beyond h end f.0, d ∙ f.1)

        go : InQueue q 0 (marks_in marks lengths q) (marker_from marks lengths t n (suc q)) x
            → InQueues (suc q) end (marker_from marks lengths t n (suc q))
            → InQueues q end x
        go (inl (j, f, d)) r =
            inl record {
              queue = q;
              position = j;
              not_before = omega arith;
              low = omega arith;
              first = f;
              none = λ k a b. absurd (omega arith);
              is = d ∙ ap (λ k. Some (place_at q k)) (zero-add j);
            }
        go (inr (h, d)) r = later h d r

-- what is found, and what that tells of the marks
module _ (marks lengths : List ℕ) (t : ℕ) where
  looked : InQueues t marks lengths 0 most_locations (marker_of marks lengths t)
  unfolding marker_of
  looked = in_queues t marks lengths most_locations 0 most_locations (omega arith)

  stood : is_at (marker_of marks lengths t) ≡ true
      → FirstFrom t marks lengths 0 most_locations (marker_of marks lengths t)
  stood h = go looked
    where
      go : InQueues t marks lengths 0 most_locations (marker_of marks lengths t)
          → FirstFrom t marks lengths 0 most_locations (marker_of marks lengths t)
      go (inl f) = f
      go (inr f) = absurd (never_both h (ap is_at f.1))

  pub marker_stands : is_at (marker_of marks lengths t) ≡ true
      → (found_queue (marker_of marks lengths t) < most_locations)
      × (found_position (marker_of marks lengths t)
      < length (marks_in marks lengths (found_queue (marker_of marks lengths t))))
      × (get_or (marks_in marks lengths (found_queue (marker_of marks lengths t)))
      (found_position (marker_of marks lengths t)) 0 ≡ mark_of t)
  marker_stands h =
      let f = stood h in
      rw f.is (f.low, f.first.within, f.first.mark)

  pub marker_first : is_at (marker_of marks lengths t) ≡ true
      → ((q i : ℕ) → q < found_queue (marker_of marks lengths t) → get_or (marks_in marks lengths q) i 0 ≢ mark_of t)
      × ((i : ℕ) → i < found_position (marker_of marks lengths t)
      → get_or (marks_in marks lengths (found_queue (marker_of marks lengths t))) i 0 ≢ mark_of t)
  marker_first h =
      let f = stood h in
      rw f.is ((λ q i a. f.none q (omega arith) a i), f.first.none)

  pub marker_none : is_at (marker_of marks lengths t) ≡ false
      → (q i : ℕ) → q < most_locations → get_or (marks_in marks lengths q) i 0 ≢ mark_of t
  marker_none h q i low = go looked
    where
      go : InQueues t marks lengths 0 most_locations (marker_of marks lengths t)
          → get_or (marks_in marks lengths q) i 0 ≢ mark_of t
      go (inl f) = absurd (never_both (ap is_at f.is) h)
      go (inr f) = f.0 q (omega arith) low i
