-- What the code's looks find among the lanes of a state is what the machine's definitions find in the state.
--   newest_of f g es w   of the entries es, oldest first, the word of the newest with tag g, else w
-- Assumes nothing.
use Prim.Native.Nat.{ℕ, zero, suc, ◌+◌, ◌*◌, ◌≤◌, ◌<◌}
use mathlib.Core.Path.{◌≡◌, refl, sym, ap, ◌∙◌}
use mathlib.Core.List.{List, [], ◌∷◌, ◌++◌}
use native.Mathlib.Omega.{arith}
use borrow.Author.Tests.{ne_eqb}
use lib.Dec.{eqb}
use lib.ListN.{length, get_or, take}
use lib.Seq.{take-suc, take-length}
use Rattle.cases.specs.declared.case.Program.{Program}
use Rattle.cases.specs.Choice.{pick}
use Rattle.cases.specs.Checks.{lines_of}
use Rattle.cases.proofs.ChoiceLaws.{pick_false}
use Rattle.cases.proofs.Promises.{thread_low}
use Rattle.machine.specs.declared.cells.State.{State}
use Rattle.machine.specs.declared.cells.Waiting.{Waiting}
use Rattle.machine.specs.declared.cells.Entry.{Entry}
use Rattle.machine.specs.declared.cells.Entry.TheVariants.{Store, Flush, FlushOpt, Sfence}
use Rattle.machine.specs.View.{Slot, line_of, queue, queue_len, buffer, buffer_len, word_of, blank_waiting}
use Rattle.machine.specs.View.{write_slot}
use Rattle.machine.specs.Look.{word_or, newest_write, stored_or, newest_store, queued_word, load_of}
use Rattle.machine.specs.Rules.{entry_at}
use Rattle.machine.specs.Fit.{Fits, Named, NamedBy}
use Rattle.machine.proofs.lists.AllLaws.{all_get}
use Rattle.machine.proofs.Promises.{buffer_long, queue_long, few_lines, line_there}
use Rattle.search.specs.Sizes.{flush_tag, flush_opt_tag, sfence_tag}
use Rattle.search.specs.Lanes.{spread, entry_lanes, waiting_lanes, slot_lanes, buffer_lanes, queue_lanes}
use Rattle.search.specs.Listing.{listing_of}
use Rattle.search.specs.Rows.{rows_in, queue_row, word_at, row_len, row_start, newest_lane, queued_lane}
use Rattle.search.specs.Rows.{loaded_lane}
use Rattle.search.specs.Taken.{padded}
use Rattle.search.proofs.listing.ListingLaws.{listing_line, listing_threads, listing_lines}
use Rattle.search.proofs.listing.ListingLaws.{listing_locations}
use Rattle.search.proofs.lanes.SeenLaws.{lay}
use Rattle.search.proofs.lanes.LayLaws.{see_long, see_word, see_row}
use Rattle.search.proofs.lanes.StateLaws.{seen_of, even_of, row_buffer, row_queue, long_buffer}
use Rattle.search.proofs.lanes.StateLaws.{long_queue}
use Rattle.search.proofs.lanes.SpreadLaws.{length_spread, get_spread, waiting_two, slot_two}

-- what stands in a queue where there is no entry
abbrev pub blank_slot : Slot
blank_slot = write_slot 0 0

-- the lanes of a state as the code holds them
abbrev pub laid_of : Program → State → List ℕ
laid_of p s = padded (lay (listing_of p) (seen_of p s))

unfoldable newest_of : {A : Type 0} → (A → List ℕ) → ℕ → List A → ℕ → ℕ
newest_of f g [] w = w
newest_of f g (e ∷ es) w = newest_of f g es (pick (eqb (get_or (f e) 0 0) g) (get_or (f e) 1 0) w)

-- with an entry more at their end
newest_snoc : {A : Type 0} (f : A → List ℕ) (g : ℕ) (es : List A) (e : A) (w : ℕ)
    → newest_of f g (es ++ (e ∷ [])) w ≡ pick (eqb (get_or (f e) 0 0) g) (get_or (f e) 1 0) (newest_of f g es w)
unfolding newest_of
newest_snoc f g [] e w = refl
newest_snoc f g (d ∷ es) e w = newest_snoc f g es e _

-- of entries that stand from base on, looked at from their end
module _ {A : Type 0} (f : A → List ℕ) (x : List ℕ) (base : ℕ) (es : List A) (d : A)
    (stand : (i j : ℕ) → i < length es → j < 2
    → get_or x (base + (2 * i + j)) 0 ≡ get_or (f (get_or es i d)) j 0) where
  newest_take : (g w n : ℕ) → n ≤ length es → newest_lane x base g w n ≡ newest_of f g (take n es) w
  unfolding newest_lane newest_of
  newest_take g w zero h = refl
  newest_take g w (suc n) h =
      let tag : get_or x (base + 2 * n) 0 ≡ get_or (f (get_or es n d)) 0 0
      = ap (λ m. get_or x m 0) (omega arith) ∙ stand n 0 (omega arith) (omega arith) in
      let word : get_or x (base + 2 * n + 1) 0 ≡ get_or (f (get_or es n d)) 1 0
      = ap (λ m. get_or x m 0) (omega arith) ∙ stand n 1 (omega arith) (omega arith) in
      rw (tag, word, newest_take g w n (omega arith), take-suc es n d (omega arith), newest_snoc)

  newest_all : (g w : ℕ) → newest_lane x base g w (length es) ≡ newest_of f g es w
  newest_all g w = newest_take g w (length es) (omega arith) ∙ rw (take-length es)

-- a queue's newest write, a buffer's newest store
newest_write_lem : (l : ℕ) (q : List Slot) (w : ℕ) → newest_of slot_lanes l q w ≡ newest_write l q w
unfolding newest_of newest_write slot_lanes word_or
newest_write_lem l [] w = refl
newest_write_lem l (h ∷ q) w = newest_write_lem l q _

newest_store_lem : (l : ℕ) → l < flush_tag → (b : List Waiting) (w : ℕ)
    → newest_of waiting_lanes l b w ≡ newest_store l b w
unfolding newest_of newest_store waiting_lanes
newest_store_lem l low [] w = refl
newest_store_lem l low (e ∷ b) w =
    ap (newest_of waiting_lanes l b) (stored e.entry w) ∙ newest_store_lem l low b (stored_or l e.entry w)
  where
    stored : (e : Entry) (w : ℕ)
        → pick (eqb (get_or (entry_lanes e) 0 0) l) (get_or (entry_lanes e) 1 0) w ≡ stored_or l e w
    stored (Store x) w = unfold entry_lanes stored_or in refl
    stored (Flush m) w = unfold entry_lanes stored_or in
        pick_false _ _ _ (ne_eqb (flush_tag + m.0) l (λ e. omega arith))
    stored (FlushOpt m) w = unfold entry_lanes stored_or in
        pick_false _ _ _ (ne_eqb (flush_opt_tag + m.0) l (λ e. omega arith))
    stored Sfence w = unfold entry_lanes stored_or in pick_false _ _ _ (ne_eqb sfence_tag l (λ e. omega arith))

-- A state that fits its program
module _ (p : Program) (s : State) (fit : Fits p s) where
  abbrev c : List ℕ
  c = listing_of p

  abbrev x : List ℕ
  x = laid_of p s

  -- the row of a buffer is there; that of a queue
  pub row_there : (t : ℕ) → t < p.threads → t < rows_in c
  row_there t low = let a = listing_threads p in omega arith

  pub queue_there : (q : ℕ) → q < lines_of p → queue_row c q < rows_in c
  queue_there q low = let b = listing_lines p in omega arith

  -- how long the rows of a buffer and of a queue are
  pub see_buffer_long : (t : ℕ) → t < p.threads → row_len c x t ≡ buffer_len s t
  see_buffer_long t low = see_long c (seen_of p s) t (row_there t low) ∙ long_buffer p s t low

  pub see_queue_long : (q : ℕ) → q < lines_of p → row_len c x (queue_row c q) ≡ queue_len s q
  unfolding listing_of
  see_queue_long q low = see_long c (seen_of p s) (queue_row c q) (queue_there q low) ∙ long_queue p s q

  -- what stands in a row of such entries; in a buffer's; in a queue's
  see_entry : {A : Type 0} (f : A → List ℕ) → ((a : A) → length (f a) ≡ 2) → (es : List A) (d : A) (r : ℕ)
      → r < rows_in c → (seen_of p s).row r ≡ spread f es
      → (i j : ℕ) → i < length es → j < 2
      → get_or x (row_start c x r + (2 * i + j)) 0 ≡ get_or (f (get_or es i d)) j 0
  see_entry f two es d r low row i j h l =
      let long = length_spread f two es in
      let all = ap length row in
      see_row c (seen_of p s) (even_of p s fit) r (2 * i + j) low (omega arith)
      ∙ ap (λ e. get_or e (2 * i + j) 0) row
      ∙ get_spread f two es i j d h l

  pub see_waiting : (t : ℕ) → t < p.threads → (i j : ℕ) → i < length (buffer s t) → j < 2
      → get_or x (row_start c x t + (2 * i + j)) 0 ≡ get_or (waiting_lanes (get_or (buffer s t) i blank_waiting)) j 0
  unfolding buffer_lanes
  see_waiting t low =
      see_entry waiting_lanes waiting_two (buffer s t) blank_waiting t (row_there t low) (row_buffer p s t low)

  pub see_slot : (q : ℕ) → q < lines_of p → (i j : ℕ) → i < length (queue s q) → j < 2
      → get_or x (row_start c x (queue_row c q) + (2 * i + j)) 0 ≡ get_or (slot_lanes (get_or (queue s q) i blank_slot)) j 0
  unfolding queue_lanes listing_of
  see_slot q low =
      see_entry slot_lanes slot_two (queue s q) blank_slot (queue_row c q) (queue_there q low) (row_queue p s q)

  -- of an entry of a buffer, its tag; the location that it names is there
  pub see_tag : (t : ℕ) → t < p.threads → (i : ℕ) → i < length (buffer s t)
      → get_or x (row_start c x t + 2 * i) 0 ≡ get_or (entry_lanes (entry_at (buffer s t) i)) 0 0
  unfolding waiting_lanes
  see_tag t low i h = ap (λ n. get_or x n 0) (omega arith) ∙ see_waiting t low i 0 h (omega arith)

  pub named_there : (t : ℕ) → t < p.threads → (i : ℕ) → i < length (buffer s t)
      → Named p.locations (entry_at (buffer s t) i)
  named_there t low i =
      all_get (NamedBy p.locations) (buffer s t) i blank_waiting (fit.named t (thread_low fit.program low))

  -- a location's word as it stands in its queue or in memory; what a load takes
  pub queued_is : (l : ℕ) → l < p.locations → queued_lane c x l ≡ queued_word p s l
  unfolding queued_lane queued_word
  queued_is l low =
      let to = line_there p fit.program l low in
      let m = few_lines p fit.program in
      let n = see_queue_long (line_of p l) to ∙ sym (queue_long p s fit (line_of p l) (omega arith)) in
      let w : get_or x (word_at c l) 0 ≡ word_of s l
      = see_word c (seen_of p s) l (let a = listing_locations p in omega arith) in
      rw (listing_line p fit.program l, n, w)
      (newest_all slot_lanes x (row_start c x (queue_row c (line_of p l))) (queue s (line_of p l)) blank_slot
      (see_slot (line_of p l) to) l (word_of s l)
      ∙ newest_write_lem l (queue s (line_of p l)) (word_of s l))

  pub loaded_is : (t l : ℕ) → t < p.threads → l < p.locations → loaded_lane c x t l ≡ load_of p s t l
  unfolding loaded_lane load_of
  loaded_is t l low there =
      let k = fit.program.sized.few_locations in
      let n = see_buffer_long t low ∙ sym (buffer_long p s fit t (thread_low fit.program low)) in
      rw (queued_is l there, n)
      (newest_all waiting_lanes x (row_start c x t) (buffer s t) blank_waiting (see_waiting t low) l (queued_word p s l)
      ∙ newest_store_lem l (omega arith) (buffer s t) (queued_word p s l))
