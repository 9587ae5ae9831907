-- A persist over the lanes of a state gives the lanes of the state that the machine's persist leads to.
--   settled_seen p s q words   the view of s without the oldest of line q's queue, and with these words
-- Assumes nothing.
use Prim.Native.Nat.{ℕ, ◌+◌, ◌≤◌, ◌<◌}
use mathlib.Core.Path.{◌≡◌, refl, sym, ap, ◌∙◌}
use mathlib.Core.Logic.{◌⊎◌, inl, inr, ◌≢◌}
use mathlib.Core.List.{List, ◌∷◌, ◌++◌}
use native.Mathlib.Omega.{arith}
use native.Mathlib.Decide.{ℕ_discrete}
use borrow.Author.Tests.{eq-eqb, ne_eqb, lt-ltb, le-ltb}
use lib.ListN.{length, get_or, take, drop}
use Rattle.cases.specs.declared.case.Program.{Program}
use Rattle.cases.specs.Sizes.{most_locations, all_code}
use Rattle.cases.specs.Checks.{lines_of}
use Rattle.cases.proofs.ChoiceLaws.{pick_true, pick_false}
use Rattle.machine.specs.declared.cells.State.{State}
use Rattle.machine.specs.View.{Slot, queue, queue_len, word_of}
use Rattle.machine.specs.Look.{word_or}
use Rattle.machine.specs.Rules.{rule_of, next_of}
use Rattle.machine.specs.Fit.{together, Fits}
use Rattle.machine.specs.Next.{persist_step}
use Rattle.machine.proofs.lists.PartLaws.{lt_or_ge}
use Rattle.machine.proofs.Promises.{queue_long, few_lines}
use Rattle.machine.proofs.Effects.{persist_issued, persist_buffer, persist_taken, persist_queue_other}
use Rattle.machine.proofs.Effects.{persist_registers}
use Rattle.search.specs.Lanes.{spread, slot_lanes, buffer_lanes, queue_lanes, register_lane}
use Rattle.search.specs.Listing.{listing_of}
use Rattle.search.specs.Rows.{queue_row, row_start}
use Rattle.search.specs.Taken.{padded, row_left, settled_lanes, persist_lanes}
use Rattle.search.proofs.listing.ListingLaws.{listing_locations, listing_fits}
use Rattle.search.proofs.lanes.SeenLaws.{Seen, Even, changed, lay, with_left}
use Rattle.search.proofs.lanes.JoinLaws.{changed_same, changed_other}
use Rattle.search.proofs.lanes.EvenLaws.{even_left}
use Rattle.search.proofs.lanes.LayLaws.{set_word}
use Rattle.search.proofs.lanes.LayRowLaws.{row_left_lem}
use Rattle.search.proofs.lanes.StateLaws.{seen_of, even_of, few_of, row_buffer, row_queue, long_queue}
use Rattle.search.proofs.lanes.LookLanesLaws.{blank_slot, laid_of, queue_there, see_slot}
use Rattle.search.proofs.lanes.SameLanesLaws.{same_lanes}

abbrev settled_seen : Program → State → ℕ → (ℕ → ℕ) → Seen
settled_seen p s q words =
    record {
      issued = (seen_of p s).issued;
      long = (with_left (seen_of p s) (queue_row (listing_of p) q) 0).long;
      word = words;
      register = (seen_of p s).register;
      row = (with_left (seen_of p s) (queue_row (listing_of p) q) 0).row;
    }

-- of a queue, the oldest h
module _ (p : Program) (s : State) (fit : Fits p s) (q : ℕ) (low : q < lines_of p) (h : Slot) (rest : List Slot)
    (opened : queue s q ≡ h ∷ rest) where
  abbrev c : List ℕ
  c = listing_of p

  abbrev x : List ℕ
  x = laid_of p s

  abbrev v : Seen
  v = seen_of p s

  abbrev r : ℕ
  r = queue_row c q

  -- it is there
  some : 0 < length (queue s q)
  some = rw opened (omega arith)

  queue_some : 0 < queue_len s q
  queue_some =
      let m = few_lines p fit.program in
      let a = queue_long p s fit q (omega arith) in
      let b = some in
      omega arith

  -- its row is there, and what stands first in it
  inside : 0 < v.long r
  unfolding listing_of
  inside = rw (long_queue p s q) queue_some

  see_first : (j : ℕ) → j < 2 → get_or x (row_start c x r + j) 0 ≡ get_or (slot_lanes h) j 0
  see_first j few =
      ap (λ n. get_or x n 0) (omega arith)
      ∙ see_slot p s fit q low 0 j some few
      ∙ ap (λ (y : List Slot). get_or (slot_lanes (get_or y 0 blank_slot)) j 0) opened

  see_mark : get_or x (row_start c x r) 0 ≡ h.mark
  unfolding slot_lanes
  see_mark = ap (λ n. get_or x n 0) (omega arith) ∙ see_first 0 (omega arith)

  -- it leaves its row
  left : together p s ≤ all_code → row_left c x r (row_start c x r) ≡ padded (lay c (settled_seen p s q (word_of s)))
  left few =
      ap (λ n. row_left c x r n) (omega arith)
      ∙ row_left_lem c (listing_fits p fit.program) v (even_of p s fit) (few_of p s fit few) r 0
      (queue_there p s fit q low) inside

  even_settled : (words : ℕ → ℕ) → Even c (settled_seen p s q words)
  even_settled words = record { twice = (even_left c v (even_of p s fit) r 0 inside).twice }

  -- the row of a buffer; of its queue; of another queue
  settled_buffer : (words : ℕ → ℕ) (t : ℕ) → t < p.threads → (settled_seen p s q words).row t ≡ buffer_lanes s t
  unfolding listing_of
  settled_buffer words t here = changed_other v.row r _ t (λ e. omega arith) ∙ row_buffer p s t here

  settled_queue : (words : ℕ → ℕ) → (settled_seen p s q words).row (p.threads + q) ≡ spread slot_lanes rest
  unfolding listing_of queue_lanes spread slot_lanes
  settled_queue words =
      changed_same v.row r (take 0 (v.row r) ++ drop 2 (v.row r))
      ∙ rw (row_queue p s q, opened) refl

  settled_queue_other : (words : ℕ → ℕ) (k : ℕ) → k ≢ q
      → (settled_seen p s q words).row (p.threads + k) ≡ queue_lanes s k
  unfolding listing_of
  settled_queue_other words k e =
      changed_other v.row r _ (p.threads + k) (λ o. e (omega arith)) ∙ row_queue p s k

-- a persist: its queue has an entry; what it does
module _ (p : Program) (s : State) (fit : Fits p s) (q : ℕ) (low : q < lines_of p)
    (legal : rule_of p s (persist_step q) ≡ 0) where
  abbrev u : State
  u = next_of p s (persist_step q)

  pub persist_some : 0 < queue_len s q
  persist_some = let a = persist_taken p s fit q low legal in queue_some p s fit q low a.0 (queue u q) a.1

  module _ (h : Slot) (opened : queue s q ≡ h ∷ queue u q) (after : Fits p u) where
    -- with the words of the state that the persist leads to, they are its lanes
    persist_same : (words : ℕ → ℕ) → ((l : ℕ) → l < p.locations → words l ≡ word_of u l)
        → lay (listing_of p) (settled_seen p s q words) ≡ lay (listing_of p) (seen_of p u)
    unfolding register_lane
    persist_same words word =
        same_lanes p u after (settled_seen p s q words)
        (even_settled p s fit q low h (queue u q) opened words)
        (λ k here. sym (persist_issued p s fit q low legal k))
        word
        (λ i. sym (ap (λ (xs : List ℕ). get_or xs i 0) (persist_registers p s fit q low legal)))
        (λ t here. settled_buffer p s fit q low h (queue u q) opened words t here ∙ own t)
        (λ k here. queued k here (ℕ_discrete k q))
      where
        own : (t : ℕ) → buffer_lanes s t ≡ buffer_lanes u t
        own t = unfold buffer_lanes in rw (persist_buffer p s fit q low legal t)

        queued : (k : ℕ) → k < lines_of p → Dec (k ≡ q)
            → (settled_seen p s q words).row (p.threads + k) ≡ queue_lanes u k
        queued k here (yes e) =
            rw e (unfold queue_lanes in settled_queue p s fit q low h (queue u q) opened words)
        queued k here (no e) =
            let m = few_lines p fit.program in
            settled_queue_other p s fit q low h (queue u q) opened words k e
            ∙ (unfold queue_lanes in rw (persist_queue_other p s fit q low legal k (omega arith) e))

    -- what the entry makes of the words: a write; a marker
    settled : ((l : ℕ) → l < most_locations → word_of u l ≡ word_or l h (word_of s l))
        → (h.mark < p.locations) ⊎ (p.locations ≤ h.mark)
        → settled_lanes (listing_of p)
        (padded (lay (listing_of p) (settled_seen p s q (word_of s)))) h.mark h.word
        ≡ laid_of p u
    unfolding settled_lanes word_or
    settled words (inl less) =
        pick_true _ _ _ (lt-ltb h.mark _ (rw (listing_locations p) less))
        ∙ set_word (listing_of p) (settled_seen p s q (word_of s)) h.mark h.word
        (rw (listing_locations p) less)
        ∙ ap padded
        (persist_same (changed (word_of s) h.mark h.word) (λ l here. word l here (ℕ_discrete l h.mark)))
      where
        word : (l : ℕ) → l < p.locations → Dec (l ≡ h.mark)
            → changed (word_of s) h.mark h.word l ≡ word_of u l
        word l here (yes e) =
            let m = fit.program.sized.few_locations in
            rw (words l (omega arith))
            (rw e (changed_same (word_of s) h.mark h.word)
            ∙ sym (pick_true _ _ _ (eq-eqb h.mark l (sym e))))
        word l here (no e) =
            let m = fit.program.sized.few_locations in
            rw (words l (omega arith))
            (changed_other (word_of s) h.mark h.word l e
            ∙ sym (pick_false _ _ _ (ne_eqb h.mark l (λ d. e (sym d)))))
    settled words (inr far) =
        let m = fit.program.sized.few_locations in
        pick_false _ _ _ (le-ltb h.mark _ (rw (listing_locations p) far))
        ∙ ap padded
        (persist_same (word_of s)
        (λ l here. sym (words l (omega arith) ∙ pick_false _ _ _ (ne_eqb h.mark l (λ e. omega arith)))))

-- a persist
pub persist_lanes_lem : (p : Program) (s : State) → Fits p s → together p s ≤ all_code → (q : ℕ) → q < lines_of p
    → rule_of p s (persist_step q) ≡ 0
    → Fits p (next_of p s (persist_step q))
    → persist_lanes (listing_of p) (laid_of p s) q ≡ laid_of p (next_of p s (persist_step q))
unfolding persist_lanes slot_lanes
persist_lanes_lem p s fit few q low legal after =
    let a = persist_taken p s fit q low legal in
    let rest : List Slot = queue (next_of p s (persist_step q)) q in
    rw (
      left p s fit q low a.0 rest a.1 few,
      see_mark p s fit q low a.0 rest a.1,
      see_first p s fit q low a.0 rest a.1 1 (omega arith),
    )
    (settled p s fit q low legal a.0 a.1 after a.2 (lt_or_ge a.0.mark p.locations))
