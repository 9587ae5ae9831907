-- The lanes of a state, as a view: what is seen of each thread, line and location is the state's.
--   split n f g   f below n, g from n on
--   seen_of p s    the view of the state s
-- Assumes nothing.
use Prim.Native.Nat.{ℕ, zero, suc, ◌+◌, ◌*◌, ◌-◌, ◌≤◌, ◌<◌}
use mathlib.Core.Path.{◌≡◌, sym, ap, ◌∙◌}
use mathlib.Core.Logic.{⊎_elim}
use mathlib.Core.List.{append_assoc}
use native.Mathlib.Omega.{arith}
use native.Mathlib.Nat.{add-zero, add-suc}
use borrow.Author.Tests.{lt-ltb, le-ltb}
use lib.Dec.{ltb}
use lib.ListN.{length}
use Rattle.cases.specs.declared.case.Program.{Program}
use Rattle.cases.specs.Choice.{pick}
use Rattle.cases.specs.Sizes.{most_threads, most_locations, all_code}
use Rattle.cases.specs.Checks.{lines_of}
use Rattle.cases.proofs.ChoiceLaws.{pick_true, pick_false}
use Rattle.machine.specs.declared.cells.State.{State}
use Rattle.machine.specs.View.{queue, queue_len, buffer, buffer_len, word_of, issued_of}
use Rattle.machine.specs.Fit.{sum_to, unissued, due, together, Fits}
use Rattle.machine.proofs.lists.PartLaws.{lt_or_ge}
use Rattle.machine.proofs.lists.SumLaws.{sum_same}
use Rattle.machine.proofs.Promises.{buffer_long, queue_long, few_lines}
use Rattle.search.specs.Lanes.{waiting_lanes, slot_lanes, buffer_lanes, queue_lanes, register_lane, lanes_of}
use Rattle.search.specs.Listing.{listing_of}
use Rattle.search.specs.Rows.{rows_in}
use Rattle.search.proofs.listing.ListingLaws.{listing_threads, listing_lines}
use Rattle.search.proofs.lanes.SeenLaws.{Seen, lay, Even}
use Rattle.search.proofs.lanes.GeneralLaws.{sum_front}
use Rattle.search.proofs.lanes.JoinLaws.{shifted, join_same, each_same, join_add, each_add}
use Rattle.search.proofs.lanes.SpreadLaws.{length_spread, waiting_two, slot_two}

unfoldable pub split : {A : Type 0} → ℕ → (ℕ → A) → (ℕ → A) → ℕ → A
split n f g r = pick (ltb r n) (f r) (g (r - n))

-- split: below n; from n on
module _ {A : Type 0} (n : ℕ) (f g : ℕ → A) where
  split_left : (r : ℕ) → r < n → split n f g r ≡ f r
  unfolding split
  split_left r h = pick_true _ _ _ (lt-ltb r n h)

  split_right : (r : ℕ) → split n f g (n + r) ≡ g r
  unfolding split
  split_right r =
      pick_false _ _ _ (le-ltb (n + r) n (omega arith)) ∙ ap g (omega arith)

  -- behind n it is g
  shift_split : (r : ℕ) → shifted n (split n f g) r ≡ g r
  unfolding shifted
  shift_split r = split_right r

abbrev pub seen_of : Program → State → Seen
seen_of p s =
    record {
      issued = issued_of s;
      long = split p.threads (buffer_len s) (queue_len s);
      word = word_of s;
      register = register_lane s;
      row = split p.threads (buffer_lanes s) (queue_lanes s);
    }

-- the rows of a buffer and of a queue, and how long they are
module _ (p : Program) (s : State) where
  pub row_buffer : (t : ℕ) → t < p.threads → (seen_of p s).row t ≡ buffer_lanes s t
  row_buffer = split_left p.threads (buffer_lanes s) (queue_lanes s)

  pub row_queue : (q : ℕ) → (seen_of p s).row (p.threads + q) ≡ queue_lanes s q
  row_queue = split_right p.threads (buffer_lanes s) (queue_lanes s)

  pub long_buffer : (t : ℕ) → t < p.threads → (seen_of p s).long t ≡ buffer_len s t
  long_buffer = split_left p.threads (buffer_len s) (queue_len s)

  pub long_queue : (q : ℕ) → (seen_of p s).long (p.threads + q) ≡ queue_len s q
  long_queue = split_right p.threads (buffer_len s) (queue_len s)

-- its lanes are the state's
pub lay_of : (p : Program) (s : State) → lay (listing_of p) (seen_of p s) ≡ lanes_of p s
unfolding lay lanes_of listing_of
lay_of p s =
    rw (
      each_add p.threads (lines_of p) (split p.threads (buffer_len s) (queue_len s)),
      each_same p.threads (split p.threads (buffer_len s) (queue_len s)) (buffer_len s) (long_buffer p s),
      each_same (lines_of p) (shifted p.threads (split p.threads (buffer_len s) (queue_len s))) (queue_len s)
          (λ r h. shift_split p.threads (buffer_len s) (queue_len s) r),
      join_add p.threads (lines_of p) (split p.threads (buffer_lanes s) (queue_lanes s)),
      join_same p.threads (split p.threads (buffer_lanes s) (queue_lanes s)) (buffer_lanes s) (row_buffer p s),
      join_same (lines_of p) (shifted p.threads (split p.threads (buffer_lanes s) (queue_lanes s)))
          (queue_lanes s)
          (λ r h. shift_split p.threads (buffer_lanes s) (queue_lanes s) r),
    )
    (simp append_assoc)

-- the sum of both parts
sum_split : (m n : ℕ) (f g : ℕ → ℕ) → sum_to (m + n) (split m f g) ≡ sum_to m f + sum_to n g
unfolding sum_to
sum_split m zero f g =
    rw add-zero (sum_same m (split m f g) f (split_left m f g)) ∙ sym (add-zero (sum_to m f))
sum_split m (suc n) f g =
    let e = sum_split m n f g in
    let r = split_right m f g n in
    rw (add-suc) (omega arith)

-- A state that fits its program
module _ (p : Program) (s : State) (fit : Fits p s) where
  -- two lanes an entry: of a buffer; of a queue; so of every row
  length_own : (t : ℕ) → t < p.threads → length (buffer_lanes s t) ≡ 2 * buffer_len s t
  unfolding buffer_lanes
  length_own t low =
      let m = fit.program.sized.few_threads in
      let a = length_spread waiting_lanes waiting_two (buffer s t) in
      let b = buffer_long p s fit t (omega arith) in
      omega arith

  length_queued : (q : ℕ) → q < lines_of p → length (queue_lanes s q) ≡ 2 * queue_len s q
  unfolding queue_lanes
  length_queued q low =
      let m = few_lines p fit.program in
      let a = length_spread slot_lanes slot_two (queue s q) in
      let b = queue_long p s fit q (omega arith) in
      omega arith

  pub even_of : Even (listing_of p) (seen_of p s)
  even_of = record { twice = λ r h. ⊎_elim (own r) (queued r h) (lt_or_ge r p.threads) }
    where
      own : (r : ℕ) → r < p.threads → length ((seen_of p s).row r) ≡ 2 * (seen_of p s).long r
      own r low = rw (row_buffer p s r low, long_buffer p s r low) (length_own r low)

      queued : (r : ℕ) → r < rows_in (listing_of p) → p.threads ≤ r
          → length ((seen_of p s).row r) ≡ 2 * (seen_of p s).long r
      queued r h far =
          let e : r ≡ p.threads + (r - p.threads) = omega arith in
          let low : r - p.threads < lines_of p
          = (let a = listing_threads p in let b = listing_lines p in omega arith) in
          rw e
          (rw (row_queue p s (r - p.threads), long_queue p s (r - p.threads)) (length_queued (r - p.threads) low))

  -- with the unissued instructions all entries are no more than all together; so there is room for them
  pub entries_of_lem : sum_to (rows_in (listing_of p)) (seen_of p s).long + sum_to most_threads (unissued p s) ≤ together p s
  unfolding together due
  entries_of_lem =
      let m = fit.program.sized.few_threads in
      let l = few_lines p fit.program in
      let a = sum_split p.threads (lines_of p) (buffer_len s) (queue_len s) in
      let b = sum_front (buffer_len s) p.threads most_threads (omega arith) in
      let c = sum_front (queue_len s) (lines_of p) most_locations (omega arith) in
      rw (listing_threads p, listing_lines p) (omega arith)

  pub few_of : together p s ≤ all_code → sum_to (rows_in (listing_of p)) (seen_of p s).long ≤ all_code
  few_of h = let e = entries_of_lem in omega arith
