-- When the lanes of a view are those of a state; the rows of a state; and what the issue's count leaves to the
-- looks that follow it. Assumes nothing.
use Prim.Native.Nat.{ℕ, zero, suc, ◌+◌, ◌*◌, ◌-◌, ◌≤◌, ◌<◌}
use mathlib.Core.Path.{◌≡◌, refl, sym, ap, ◌∙◌}
use mathlib.Core.Logic.{⊎_elim}
use mathlib.Core.List.{List, [], ◌∷◌, ◌++◌, append-nil}
use native.Mathlib.Omega.{arith}
use native.Mathlib.Decide.{ℕ_discrete}
use borrow.Author.Tests.{eq-eqb, ne_eqb}
use lib.Dec.{eqb}
use lib.ListN.{length, get_or, set}
use lib.Seq.{get_or-set_other}
use Rattle.cases.specs.declared.case.Program.{Program}
use Rattle.cases.specs.Choice.{pick}
use Rattle.cases.specs.Checks.{lines_of}
use Rattle.machine.specs.declared.cells.State.{State}
use Rattle.machine.specs.View.{word_of, issued_of}
use Rattle.machine.specs.Fit.{sum_to, Fits}
use Rattle.machine.proofs.lists.PartLaws.{lt_or_ge}
use Rattle.machine.proofs.lists.SumLaws.{sum_same}
use Rattle.search.specs.Lanes.{spread, slot_lanes, buffer_lanes, queue_lanes, register_lane}
use Rattle.search.specs.Listing.{threads_in, line_in, listing_of}
use Rattle.search.specs.Rows.{rows_in, queue_row, word_at, row_len, row_start, newest_lane, queued_lane}
use Rattle.search.specs.Rows.{loaded_lane}
use Rattle.search.proofs.listing.ListingLaws.{listing_threads, listing_lines, listing_locations}
use Rattle.search.proofs.lanes.SeenLaws.{Seen, Even, changed, lay, with_joined}
use Rattle.search.proofs.lanes.JoinLaws.{changed_same, changed_other}
use Rattle.search.proofs.lanes.LayLaws.{lay_same}
use Rattle.search.proofs.lanes.StateLaws.{seen_of, even_of, row_buffer, row_queue}

-- an entry more at the end of line q's row: the rows of buffers stay, and the queues' rows have it
module _ (p : Program) (w : Seen) (q g a : ℕ) where
  pub joined_buffer : (t : ℕ) → t < p.threads → (with_joined w (queue_row (listing_of p) q) g a).row t ≡ w.row t
  unfolding listing_of
  joined_buffer t low = changed_other w.row (p.threads + q) _ t (λ e. omega arith)

  pub joined_queue : (s : State) → ((k : ℕ) → k < lines_of p → w.row (p.threads + k) ≡ queue_lanes s k)
      → (k : ℕ) → k < lines_of p
      → (with_joined w (queue_row (listing_of p) q) g a).row (p.threads + k)
      ≡ queue_lanes s k ++ spread slot_lanes (pick (eqb q k) (record { word = a; mark = g } ∷ []) [])
  unfolding listing_of
  joined_queue s rows k low = go (ℕ_discrete k q)
    where
      go : Dec (k ≡ q)
          → changed w.row (p.threads + q) (w.row (p.threads + q) ++ (g ∷ a ∷ [])) (p.threads + k)
          ≡ queue_lanes s k ++ spread slot_lanes (pick (eqb q k) (record { word = a; mark = g } ∷ []) [])
      go (yes e) =
          rw (← e, changed_same, eq-eqb k k refl, rows k low) (unfold pick spread slot_lanes in refl)
      go (no e) =
          rw (ne_eqb q k (λ o. e (sym o)))
          (unfold pick spread in
          changed_other w.row (p.threads + q) _ (p.threads + k) (λ o. e (omega arith))
          ∙ rows k low
          ∙ sym (append-nil (queue_lanes s k)))

-- the lanes of a view that says of each thing what the state u has
module _ (p : Program) (u : State) (fit : Fits p u) (w : Seen) (even : Even (listing_of p) w) where
  pub same_lanes :
      ((t : ℕ) → t < p.threads → w.issued t ≡ issued_of u t)
      → ((l : ℕ) → l < p.locations → w.word l ≡ word_of u l)
      → ((i : ℕ) → w.register i ≡ register_lane u i)
      → ((t : ℕ) → t < p.threads → w.row t ≡ buffer_lanes u t)
      → ((q : ℕ) → q < lines_of p → w.row (p.threads + q) ≡ queue_lanes u q)
      → lay (listing_of p) w ≡ lay (listing_of p) (seen_of p u)
  same_lanes issued word register own queued =
      lay_same (listing_of p) w (seen_of p u)
      (record {
        issued = λ t low. issued t (rw (listing_threads p) at low);
        long = long;
        word = λ l low. word l (rw (listing_locations p) at low);
        register = λ i low. register i;
        row = row;
      })
    where
      row : (r : ℕ) → r < rows_in (listing_of p) → w.row r ≡ (seen_of p u).row r
      row r h = ⊎_elim here there (lt_or_ge r p.threads)
        where
          here : r < p.threads → w.row r ≡ (seen_of p u).row r
          here low = own r low ∙ sym (row_buffer p u r low)

          there : p.threads ≤ r → w.row r ≡ (seen_of p u).row r
          there far =
              let a = listing_threads p in
              let b = listing_lines p in
              let e : r ≡ p.threads + (r - p.threads) = omega arith in
              rw e (queued (r - p.threads) (omega arith) ∙ sym (row_queue p u (r - p.threads)))

      long : (r : ℕ) → r < rows_in (listing_of p) → w.long r ≡ (seen_of p u).long r
      long r h =
          let a = even.twice r h in
          let b = (even_of p u fit).twice r h in
          let e = ap length (row r h) in
          omega arith

-- a number set at a lane before the rows' lengths: what a look finds is the same
module _ (c x : List ℕ) (t n : ℕ) (low : t < threads_in c) where
  lane_kept : (i : ℕ) → threads_in c ≤ i → get_or (set x t n) i 0 ≡ get_or x i 0
  lane_kept i h = get_or-set_other x t i n 0 (λ e. omega arith)

  newest_kept : (base g w k : ℕ) → threads_in c ≤ base → newest_lane (set x t n) base g w k ≡ newest_lane x base g w k
  unfolding newest_lane
  newest_kept base g w zero h = refl
  newest_kept base g w (suc k) h =
      rw (
        lane_kept (base + 2 * k) (omega arith),
        lane_kept (base + 2 * k + 1) (omega arith),
        newest_kept base g w k h,
      )

  long_kept : (r : ℕ) → row_len c (set x t n) r ≡ row_len c x r
  unfolding row_len
  long_kept r = lane_kept (threads_in c + r) (omega arith)

  sum_kept : (r : ℕ) → sum_to r (row_len c (set x t n)) ≡ sum_to r (row_len c x)
  sum_kept r = sum_same r (row_len c (set x t n)) (row_len c x) (λ k h. long_kept k)

  -- of a location: where no buffer is looked at; what a load takes
  pub queued_kept : (l : ℕ) → queued_lane c (set x t n) l ≡ queued_lane c x l
  unfolding queued_lane
  queued_kept l =
      rw (
        long_kept (queue_row c (line_in c l)),
        sum_kept (queue_row c (line_in c l)),
        lane_kept (word_at c l) (omega arith),
      )
      (newest_kept (row_start c x (queue_row c (line_in c l))) l (get_or x (word_at c l) 0)
      (row_len c x (queue_row c (line_in c l))) (omega arith))

  pub loaded_kept : (k l : ℕ) → loaded_lane c (set x t n) k l ≡ loaded_lane c x k l
  unfolding loaded_lane
  loaded_kept k l =
      rw (long_kept k, sum_kept k, queued_kept l)
      (newest_kept (row_start c x k) l (queued_lane c x l) (row_len c x k) (omega arith))
