-- A move over the lanes of a state gives the lanes of the state that the machine's move leads to.
--   Moves p s t i r w   w is the view of s without entry i of thread t's buffer, and with r q at the end of each
--                     queue q
-- Assumes nothing.
use Prim.Native.Nat.{ℕ, ◌+◌, ◌*◌, ◌-◌, ◌≤◌, ◌<◌}
use mathlib.Core.Path.{◌≡◌, refl, sym, ap, ◌∙◌}
use mathlib.Core.List.{List, [], ◌∷◌, append-nil}
use native.Mathlib.Omega.{arith}
use lib.Dec.{eqb}
use lib.ListN.{length, get_or}
use Rattle.cases.specs.declared.case.Program.{Program}
use Rattle.cases.specs.Choice.{pick}
use Rattle.cases.specs.Sizes.{all_code}
use Rattle.cases.proofs.Promises.{thread_low}
use Rattle.machine.specs.declared.cells.State.{State}
use Rattle.machine.specs.declared.cells.Entry.{Entry}
use Rattle.machine.specs.declared.cells.Entry.TheVariants.{Store, Flush, FlushOpt, Sfence}
use Rattle.machine.specs.View.{Slot, line_of, mark_of, buffer, issued_of, without, blank_waiting, write_slot}
use Rattle.machine.specs.Rules.{entry_at, rule_of, next_of}
use Rattle.machine.specs.Joins.{enters}
use Rattle.machine.specs.Fit.{together, Named, Fits}
use Rattle.machine.specs.Next.{move_step}
use Rattle.machine.proofs.Promises.{buffer_long, few_lines, line_there}
use Rattle.machine.proofs.Effects.{move_within, move_issued, move_buffer, move_buffer_other, move_queue}
use Rattle.machine.proofs.Effects.{move_word, move_registers}
use Rattle.search.specs.Sizes.{flush_tag, flush_opt_tag, sfence_tag}
use Rattle.search.specs.Lanes.{spread, entry_lanes, waiting_lanes, buffer_lanes, queue_lanes, register_lane}
use Rattle.search.specs.Listing.{threads_in, line_in, listing_of}
use Rattle.search.specs.Rows.{queue_row, row_start}
use Rattle.search.specs.Taken.{padded, row_left, row_carried, moved_lanes, move_lanes}
use Rattle.search.proofs.listing.ListingLaws.{listing_threads, listing_lines, listing_line, listing_fits}
use Rattle.search.proofs.lanes.SeenLaws.{Seen, lay, with_left, with_joined}
use Rattle.search.proofs.lanes.JoinLaws.{changed_same, changed_other}
use Rattle.search.proofs.lanes.TagLaws.{tag_sfence, tag_flush_opt, tag_flush, tag_store}
use Rattle.search.proofs.lanes.EvenLaws.{even_left}
use Rattle.search.proofs.lanes.LayRowLaws.{row_left_lem, row_carried_lem}
use Rattle.search.proofs.lanes.StateLaws.{seen_of, even_of, few_of, row_buffer, row_queue, long_buffer}
use Rattle.search.proofs.lanes.SpreadLaws.{get_spread, waiting_two, spread_without}
use Rattle.search.proofs.lanes.SeenWithLaws.{SeenWith, seen_joined, seen_same}
use Rattle.search.proofs.lanes.LookLanesLaws.{laid_of, row_there, see_tag, named_there}

abbrev Moves : Program → State → ℕ → ℕ → (ℕ → List Slot) → Seen → Type 0
Moves p s t i r = SeenWith p s t (issued_of s) (without i (buffer s t)) r s.registers

module _ (p : Program) (s : State) (fit : Fits p s) (t i : ℕ) (low : t < p.threads) where
  abbrev c : List ℕ
  c = listing_of p

  abbrev v : Seen
  v = seen_of p s

  -- where that is what the entry does, they are the lanes of the state that the move leads to
  moves_same : rule_of p s (move_step t i) ≡ 0 → Fits p (next_of p s (move_step t i))
      → (w : Seen) → Moves p s t i (λ q. enters p t q (entry_at (buffer s t) i)) w
      → lay c w ≡ lay c (seen_of p (next_of p s (move_step t i)))
  moves_same legal after w d =
      let lines = few_lines p fit.program in
      seen_same p s t low _ _ (λ q. enters p t q (entry_at (buffer s t) i)) (next_of p s (move_step t i)) after
      (λ k h. sym (move_issued p s fit t i low legal k)) (move_word p s fit t i low legal)
      (move_buffer p s fit t i low legal)
      (λ k h. move_buffer_other p s fit t i low legal k (thread_low fit.program h))
      (λ q h. move_queue p s fit t i low legal q (omega arith)) w
      (rw (move_registers p s fit t i low legal) d)

  module _ (within : i < length (buffer s t)) where
    -- it is one of its row's entries
    inside : i < v.long t
    inside =
        let m = thread_low fit.program low in
        let a = buffer_long p s fit t m in
        rw (long_buffer p s t low) (omega arith)

    -- nothing else; and an entry more in a queue
    moves_left : Moves p s t i (λ q. []) (with_left v t i)
    unfolding spread buffer_lanes register_lane
    moves_left =
        record {
          even = even_left c v (even_of p s fit) t i inside;
          issued = λ k. refl;
          word = λ l. refl;
          register = λ j. refl;
          own = changed_same v.row t _
              ∙ rw (row_buffer p s t low) (spread_without waiting_lanes waiting_two i (buffer s t));
          others = λ k h e. changed_other v.row t _ k e ∙ row_buffer p s k h;
          queued = λ q h.
              changed_other v.row t _ (p.threads + q) (λ e. omega arith) ∙ row_queue p s q
              ∙ sym (append-nil (queue_lanes s q));
        }

    moves_carried : (q g a : ℕ)
        → Moves p s t i (λ k. pick (eqb q k) (write_slot g a ∷ []) [])
        (with_joined (with_left v t i) (queue_row c q) g a)
    moves_carried = seen_joined p s t low _ _ s.registers (with_left v t i) moves_left

    -- what each kind of entry makes of the view
    module _ (few : together p s ≤ all_code) where
      abbrev at : ℕ
      at = row_start c (laid_of p s) t + 2 * i

      here : t < threads_in c
      here = rw (listing_threads p) low

      -- it leaves its row; it goes over to a queue's
      left : row_left c (laid_of p s) t at ≡ padded (lay c (with_left v t i))
      left =
          row_left_lem c (listing_fits p fit.program) v (even_of p s fit) (few_of p s fit few) t i
          (row_there p s fit t low) inside

      carried : (l g a : ℕ) → l < p.locations → get_or (v.row t) (2 * i + 1) 0 ≡ a
          → row_carried c (laid_of p s) t at (line_in c l) g
          ≡ padded (lay c (with_joined (with_left v t i) (queue_row c (line_of p l)) g a))
      carried l g a there word =
          rw (← word, listing_line p fit.program l)
          (row_carried_lem c (listing_fits p fit.program) v (even_of p s fit) (few_of p s fit few) t i (line_of p l) g
          here (rw (listing_lines p) (line_there p fit.program l there)) inside)

      -- by its kind
      moved : (e : Entry) → Named p.locations e → get_or (v.row t) (2 * i + 1) 0 ≡ get_or (entry_lanes e) 1 0
          → (w : Seen) × (moved_lanes c (laid_of p s) t at (get_or (entry_lanes e) 0 0) ≡ padded (lay c w))
          × Moves p s t i (λ q. enters p t q e) w
      unfolding moved_lanes Named entry_lanes enters
      moved (Store y) there word =
          let m = fit.program.sized.few_locations in
          let l : ℕ = y.location.0 in (
            with_joined (with_left v t i) (queue_row c (line_of p l)) l y.word,
            tag_store l _ _ _ _ (omega arith) ∙ carried l l y.word there word,
            moves_carried (line_of p l) l y.word,
          )
      moved (Flush y) there word =
          let m = fit.program.sized.few_locations in (
            with_left v t i,
            tag_flush (flush_tag + y.0) _ _ _ _ (omega arith) (omega arith) ∙ left,
            moves_left,
          )
      moved (FlushOpt y) there word =
          let m = fit.program.sized.few_locations in
          let g : ℕ = flush_opt_tag + y.0 in
          let back : g - flush_opt_tag ≡ y.0 = omega arith in (
            with_joined (with_left v t i) (queue_row c (line_of p y.0)) (mark_of t) 0,
            tag_flush_opt g _ _ _ _ (omega arith) (omega arith) ∙ rw back (carried y.0 (mark_of t) 0 there word),
            moves_carried (line_of p y.0) (mark_of t) 0,
          )
      moved Sfence there word = (with_left v t i, tag_sfence sfence_tag _ _ _ _ (omega arith) ∙ left, moves_left)

-- a move
pub move_lanes_lem : (p : Program) (s : State) → Fits p s → together p s ≤ all_code → (t i : ℕ) → t < p.threads
    → rule_of p s (move_step t i) ≡ 0
    → Fits p (next_of p s (move_step t i))
    → move_lanes (listing_of p) (laid_of p s) t i ≡ laid_of p (next_of p s (move_step t i))
unfolding move_lanes buffer_lanes waiting_lanes
move_lanes_lem p s fit few t i low legal after =
    let within = move_within p s fit t i low legal in
    let word : get_or ((seen_of p s).row t) (2 * i + 1) 0 ≡ get_or (entry_lanes (entry_at (buffer s t) i)) 1 0
    = ap (λ (r : List ℕ). get_or r (2 * i + 1) 0) (row_buffer p s t low)
    ∙ get_spread waiting_lanes waiting_two (buffer s t) i 1 blank_waiting within (omega arith) in
    let named = named_there p s fit t low i within in
    let done = moved p s fit t i low within few (entry_at (buffer s t) i) named word in
    rw (see_tag p s fit t low i within)
    (done.1 ∙ ap padded (moves_same p s fit t i low legal after done.0 done.2))
