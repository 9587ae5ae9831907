-- Two states have equal lanes exactly when they hold the same, of the program's threads, lines and locations:
-- each thing stands at a place of its own, and an entry can be told from its two lanes.
--   entry_told tag word   the entry with these two lanes
-- Assumes nothing.
use Prim.Native.Nat.{ℕ, ◌+◌, ◌*◌, ◌-◌, ◌/◌, ◌%◌, ◌≤◌, ◌<◌}
use mathlib.Core.Path.{◌≡◌, sym, ap, ◌∙◌}
use mathlib.Core.Logic.{◌↔◌}
use mathlib.Core.List.{List}
use native.Mathlib.Omega.{arith}
use lib.ListN.{length, get_or}
use lib.Seq.{ext_get_or}
use Rattle.cases.specs.declared.case.Program.{Program}
use Rattle.cases.specs.Sizes.{most_threads, most_locations, most_registers}
use Rattle.cases.specs.Checks.{lines_of}
use Rattle.cases.proofs.Promises.{thread_low}
use Rattle.machine.specs.declared.cells.State.{State}
use Rattle.machine.specs.declared.cells.Waiting.{Waiting}
use Rattle.machine.specs.declared.cells.Entry.{Entry}
use Rattle.machine.specs.declared.cells.Entry.TheVariants.{Store, Flush, FlushOpt, Sfence}
use Rattle.machine.specs.View.{Slot, queue, queue_len, buffer, buffer_len, blank_waiting, word_of, register_in}
use Rattle.machine.specs.View.{issued_of}
use Rattle.machine.specs.Fit.{Named, NamedBy, Fits}
use Rattle.machine.proofs.Promises.{buffer_long, queue_long, few_lines}
use Rattle.search.specs.Sizes.{flush_tag, flush_opt_tag, sfence_tag}
use Rattle.search.specs.Lanes.{entry_lanes, waiting_lanes, slot_lanes, buffer_lanes, queue_lanes}
use Rattle.search.specs.Lanes.{register_lane, lanes_of, Alike}
use Rattle.search.specs.Listing.{listing_of}
use Rattle.search.specs.Rows.{queue_row, word_at, register_at, row_len, row_start}
use Rattle.search.specs.Taken.{padded}
use Rattle.search.proofs.lanes.JoinLaws.{join_same, each_same}
use Rattle.search.proofs.lanes.TagLaws.{by_tag, tag_sfence, tag_flush_opt, tag_flush, tag_store}
use Rattle.search.proofs.lanes.LayLaws.{see_issued, see_word, see_register}
use Rattle.search.proofs.lanes.StateLaws.{seen_of, lay_of}
use Rattle.search.proofs.lanes.LookLanesLaws.{laid_of, blank_slot, see_buffer_long, see_queue_long}
use Rattle.search.proofs.lanes.LookLanesLaws.{see_waiting, see_slot, named_there}

unfoldable entry_told : ℕ → ℕ → Entry
entry_told tag word =
    by_tag tag Sfence (FlushOpt (record { 0 = tag - flush_opt_tag })) (Flush (record { 0 = tag - flush_tag }))
    (Store (record { location = record { 0 = tag }; word = word }))

-- an entry that names a location is the one with its lanes
told_entry : (n : ℕ) → n ≤ most_locations → (e : Entry) → Named n e
    → entry_told (get_or (entry_lanes e) 0 0) (get_or (entry_lanes e) 1 0) ≡ e
unfolding entry_told entry_lanes Named
told_entry n few (Store w) low = tag_store w.location.0 _ _ _ _ (omega arith)
told_entry n few (Flush l) low =
    let e : flush_tag + l.0 - flush_tag ≡ l.0 = omega arith in
    tag_flush (flush_tag + l.0) _ _ _ _ (omega arith) (omega arith) ∙ (λ i. Flush (record { 0 = e i }))
told_entry n few (FlushOpt l) low =
    let e : flush_opt_tag + l.0 - flush_opt_tag ≡ l.0 = omega arith in
    tag_flush_opt (flush_opt_tag + l.0) _ _ _ _ (omega arith) (omega arith) ∙ (λ i. FlushOpt (record { 0 = e i }))
told_entry n few Sfence low = tag_sfence sfence_tag _ _ _ _ (omega arith)

-- entries with equal lanes are equal: of a buffer; of a queue
waiting_same : (n : ℕ) → n ≤ most_locations → (a b : Waiting) → NamedBy n a → NamedBy n b
    → ((j : ℕ) → j < 2 → get_or (waiting_lanes a) j 0 ≡ get_or (waiting_lanes b) j 0)
    → a ≡ b
unfolding waiting_lanes
waiting_same n few a b low lower h =
    let tag = h 0 (omega arith) in
    let word = h 1 (omega arith) in
    let e = sym (told_entry n few a.entry low)
    ∙ (λ i. entry_told (tag i) (word i))
    ∙ told_entry n few b.entry lower in
    (λ i. record { entry = e i })

slot_same : (a b : Slot) → ((j : ℕ) → j < 2 → get_or (slot_lanes a) j 0 ≡ get_or (slot_lanes b) j 0) → a ≡ b
unfolding slot_lanes
slot_same a b h =
    let mark = h 0 (omega arith) in
    let word = h 1 (omega arith) in
    (λ i. record { word = word i; mark = mark i })

-- Two states that fit the program
module _ (p : Program) (s u : State) (fit : Fits p s) (fits : Fits p u) where
  abbrev c : List ℕ
  c = listing_of p

  -- With equal lanes
  module _ (same : laid_of p s ≡ laid_of p u) where
    -- each thing is read off the lanes: issued counts; words; registers
    issued_alike : (t : ℕ) → t < p.threads → issued_of s t ≡ issued_of u t
    unfolding listing_of
    issued_alike t low =
        sym (see_issued c (seen_of p s) t low) ∙ ap (λ x. get_or x t 0) same ∙ see_issued c (seen_of p u) t low

    words_alike : (l : ℕ) → l < p.locations → word_of s l ≡ word_of u l
    unfolding listing_of
    words_alike l low =
        sym (see_word c (seen_of p s) l low)
        ∙ ap (λ x. get_or x (word_at c l) 0) same
        ∙ see_word c (seen_of p u) l low

    registers_alike : (t r : ℕ) → t < p.threads → r < most_registers
        → register_in s.registers t r ≡ register_in u.registers t r
    unfolding register_lane listing_of
    registers_alike t r low lower =
        sym (see_register c (seen_of p s) t r low lower)
        ∙ ap (λ x. get_or x (register_at c t r) 0) same
        ∙ see_register c (seen_of p u) t r low lower

    -- a buffer, a queue: as long, with the same entries
    buffers_alike : (t : ℕ) → t < p.threads → buffer s t ≡ buffer u t
    buffers_alike t low = ext_get_or blank_waiting (buffer s t) (buffer u t) long entry
      where
        there : t < most_threads
        there = thread_low fit.program low

        long : length (buffer s t) ≡ length (buffer u t)
        long =
            buffer_long p s fit t there
            ∙ sym (see_buffer_long p s fit t low)
            ∙ ap (λ x. row_len c x t) same
            ∙ see_buffer_long p u fits t low
            ∙ sym (buffer_long p u fits t there)

        entry : (i : ℕ) → i < length (buffer s t)
            → get_or (buffer s t) i blank_waiting ≡ get_or (buffer u t) i blank_waiting
        entry i h =
            let k : i < length (buffer u t) = (let e = long in omega arith) in
            waiting_same p.locations fit.program.sized.few_locations _ _
            (named_there p s fit t low i h) (named_there p u fits t low i k)
            (λ j l. sym (see_waiting p s fit t low i j h l)
            ∙ ap (λ x. get_or x (row_start c x t + (2 * i + j)) 0) same
            ∙ see_waiting p u fits t low i j k l)

    queues_alike : (q : ℕ) → q < lines_of p → queue s q ≡ queue u q
    queues_alike q low = ext_get_or blank_slot (queue s q) (queue u q) long slot
      where
        there : q < most_locations
        there = let m = few_lines p fit.program in omega arith

        long : length (queue s q) ≡ length (queue u q)
        long =
            queue_long p s fit q there
            ∙ sym (see_queue_long p s fit q low)
            ∙ ap (λ x. row_len c x (queue_row c q)) same
            ∙ see_queue_long p u fits q low
            ∙ sym (queue_long p u fits q there)

        slot : (i : ℕ) → i < length (queue s q) → get_or (queue s q) i blank_slot ≡ get_or (queue u q) i blank_slot
        slot i h =
            let k : i < length (queue u q) = (let e = long in omega arith) in
            slot_same _ _
            (λ j l. sym (see_slot p s fit q low i j h l)
            ∙ ap (λ x. get_or x (row_start c x (queue_row c q) + (2 * i + j)) 0) same
            ∙ see_slot p u fits q low i j k l)

    -- they are alike
    all_alike : Alike p s u
    all_alike =
        record {
          same_issued = issued_alike;
          same_buffers = buffers_alike;
          same_queues = queues_alike;
          same_words = words_alike;
          same_registers = registers_alike;
        }

  -- That are alike
  module _ (alike : Alike p s u) where
    -- their buffers and queues are as long
    waiting_long : (t : ℕ) → t < p.threads → buffer_len s t ≡ buffer_len u t
    waiting_long t low =
        let m = thread_low fit.program low in
        sym (buffer_long p s fit t m) ∙ ap length (alike.same_buffers t low) ∙ buffer_long p u fits t m

    queued_long : (q : ℕ) → q < lines_of p → queue_len s q ≡ queue_len u q
    queued_long q low =
        let m = few_lines p fit.program in
        sym (queue_long p s fit q (omega arith))
        ∙ ap length (alike.same_queues q low)
        ∙ queue_long p u fits q (omega arith)

    -- a register's number is its thread's, four times, and its own
    register_same : (i : ℕ) → i < p.threads * most_registers → register_lane s i ≡ register_lane u i
    unfolding register_lane
    register_same i low =
        let e : i / most_registers * most_registers + i % most_registers ≡ i = omega arith in
        rw e at (alike.same_registers (i / most_registers) (i % most_registers) (omega arith) (omega arith))

    -- their lanes are equal
    lanes_same : lanes_of p s ≡ lanes_of p u
    unfolding lanes_of buffer_lanes queue_lanes
    lanes_same =
        rw (
          each_same p.threads (issued_of s) (issued_of u) alike.same_issued,
          each_same p.threads (buffer_len s) (buffer_len u) waiting_long,
          each_same (lines_of p) (queue_len s) (queue_len u) queued_long,
          each_same p.locations (word_of s) (word_of u) alike.same_words,
          each_same (p.threads * most_registers) (register_lane s) (register_lane u) register_same,
          join_same p.threads (buffer_lanes s) (buffer_lanes u) (λ t low. rw (alike.same_buffers t low)),
          join_same (lines_of p) (queue_lanes s) (queue_lanes u) (λ q low. rw (alike.same_queues q low)),
        )

-- equal lanes exactly where what the program's threads, lines and locations hold is the same
pub alike_exactly : (p : Program) (s u : State) → Fits p s → Fits p u
    → (lanes_of p s ≡ lanes_of p u) ↔ Alike p s u
alike_exactly p s u fit fits =
    ((λ e. all_alike p s u fit fits (ap padded (lay_of p s ∙ e ∙ sym (lay_of p u)))), lanes_same p s u fit fits)
