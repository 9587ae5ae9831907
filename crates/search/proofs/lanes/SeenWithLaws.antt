-- A view of a state with changes, as an issue and a move make them: with an entry more in a queue, and when its
-- lanes are those of the state that a step leads to.
--   SeenWith p s t counts b r registers w   w is the view of s with these counts issued, with b for thread t's
--                     buffer, with r q more at the end of each queue q, and with these registers
-- Assumes nothing.
use Prim.Native.Nat.{ℕ, ◌+◌, ◌<◌}
use mathlib.Core.Path.{◌≡◌, sym, ◌∙◌}
use mathlib.Core.Logic.{◌≢◌}
use mathlib.Core.List.{List, [], ◌∷◌, ◌++◌, append-nil}
use native.Mathlib.Decide.{ℕ_discrete}
use lib.Dec.{eqb}
use lib.ListN.{get_or}
use Rattle.cases.specs.declared.case.Program.{Program}
use Rattle.cases.specs.Choice.{pick}
use Rattle.cases.specs.Checks.{lines_of}
use Rattle.machine.specs.declared.cells.State.{State}
use Rattle.machine.specs.declared.cells.Waiting.{Waiting}
use Rattle.machine.specs.View.{Slot, queue, buffer, word_of, issued_of, write_slot}
use Rattle.machine.specs.Fit.{Fits}
use Rattle.search.specs.Lanes.{spread, waiting_lanes, slot_lanes, buffer_lanes, queue_lanes, register_lane}
use Rattle.search.specs.Listing.{listing_of}
use Rattle.search.specs.Rows.{queue_row}
use Rattle.search.proofs.lanes.SeenLaws.{Seen, Even, lay, with_joined}
use Rattle.search.proofs.lanes.EvenLaws.{even_joined}
use Rattle.search.proofs.lanes.SpreadLaws.{spread_append}
use Rattle.search.proofs.lanes.StateLaws.{seen_of}
use Rattle.search.proofs.lanes.SameLanesLaws.{same_lanes, joined_buffer, joined_queue}

pub record SeenWith (p : Program) (s : State) (t : ℕ) (counts : ℕ → ℕ) (b : List Waiting) (r : ℕ → List Slot)
    (registers : List ℕ) (w : Seen) : Type 0 where
  pub even : Even (listing_of p) w
  pub issued : (k : ℕ) → w.issued k ≡ counts k
  pub word : (l : ℕ) → w.word l ≡ word_of s l
  pub register : (i : ℕ) → w.register i ≡ get_or registers i 0
  pub own : w.row t ≡ spread waiting_lanes b
  pub others : (k : ℕ) → k < p.threads → k ≢ t → w.row k ≡ buffer_lanes s k
  pub queued : (q : ℕ) → q < lines_of p → w.row (p.threads + q) ≡ queue_lanes s q ++ spread slot_lanes (r q)

module _ (p : Program) (s : State) (t : ℕ) (low : t < p.threads) (counts : ℕ → ℕ) (b : List Waiting) where
  -- an entry more in a queue
  pub seen_joined : (registers : List ℕ) (w : Seen) → SeenWith p s t counts b (λ q. []) registers w → (q g a : ℕ)
      → SeenWith p s t counts b (λ k. pick (eqb q k) (write_slot g a ∷ []) []) registers
      (with_joined w (queue_row (listing_of p) q) g a)
  unfolding spread
  seen_joined registers w d q g a =
      record {
        even = even_joined (listing_of p) w d.even (queue_row (listing_of p) q) g a;
        issued = d.issued;
        word = d.word;
        register = d.register;
        own = joined_buffer p w q g a t low ∙ d.own;
        others = λ k h o. joined_buffer p w q g a k h ∙ d.others k h o;
        queued = joined_queue p w q g a s (λ k h. d.queued k h ∙ append-nil (queue_lanes s k));
      }

  -- where the state u has just that, they are its lanes
  pub seen_same : (r : ℕ → List Slot) (u : State) → Fits p u
      → ((k : ℕ) → k < p.threads → counts k ≡ issued_of u k)
      → ((l : ℕ) → word_of u l ≡ word_of s l)
      → buffer u t ≡ b
      → ((k : ℕ) → k < p.threads → k ≢ t → buffer u k ≡ buffer s k)
      → ((q : ℕ) → q < lines_of p → queue u q ≡ queue s q ++ r q)
      → (w : Seen) → SeenWith p s t counts b r u.registers w
      → lay (listing_of p) w ≡ lay (listing_of p) (seen_of p u)
  unfolding register_lane
  seen_same r u fit issued words here others queues w d =
      same_lanes p u fit w d.even
      (λ k h. d.issued k ∙ issued k h)
      (λ l h. d.word l ∙ sym (words l))
      d.register
      (λ k h. own k h (ℕ_discrete k t))
      (λ q h. d.queued q h ∙ sym (queued q h))
    where
      own : (k : ℕ) → k < p.threads → Dec (k ≡ t) → w.row k ≡ buffer_lanes u k
      own k h (yes e) = unfold buffer_lanes in rw (e, here) d.own
      own k h (no e) = unfold buffer_lanes in rw (others k h e) (d.others k h e)

      queued : (q : ℕ) → q < lines_of p → queue_lanes u q ≡ queue_lanes s q ++ spread slot_lanes (r q)
      queued q h = unfold queue_lanes in rw (queues q h) (spread_append slot_lanes _ _)
