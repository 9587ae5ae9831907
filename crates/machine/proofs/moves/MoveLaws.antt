-- Laws of moving and persisting: what an entry's name tells, the entry at a position, and each rule and effect
-- from what the code has at hand. Assumes nothing.
use Prim.Native.Nat.{ℕ, ◌+◌, ◌*◌, ◌≤◌, ◌<◌}
use mathlib.Core.Path.{◌≡◌, refl, sym, ap, ◌∙◌}
use mathlib.Core.List.{List, ◌∷◌}
use mathlib.Core.Bool.{false}
use native.Mathlib.Omega.{arith}
use native.Mathlib.Nat.{add-zero}
use native.Mathlib.Decide.{ℕ_discrete}
use lib.ListN.{length, get_or, drop}
use lib.Seq.{get_or-set_same, get_or-set_other, set_out}
use lib.Dec.{eqb}
use Rattle.cases.specs.Choice.{pick}
use Rattle.cases.specs.declared.case.Location.{Location}
use Rattle.cases.specs.declared.case.Write.{Write}
use Rattle.cases.specs.declared.case.Program.{Program}
use Rattle.cases.specs.Sizes.{most_instructions, most_locations}
use Rattle.cases.proofs.ChoiceLaws.{pick_true, pick_cases, pick_here, pick_next, refuse_here, refuse_next}
use borrow.Author.Tests.{eq-eqb, ne_eqb, lt-leb, lt-ltb, le-ltb}
use Rattle.machine.specs.declared.cells.State.{State}
use Rattle.machine.specs.declared.cells.Waiting.{Waiting}
use Rattle.machine.specs.declared.cells.Entry.{Entry}
use Rattle.machine.specs.declared.cells.Entry.TheVariants.{Store, Flush, FlushOpt}
use Rattle.machine.specs.Sizes.{room, all_slots, first_marker}
use Rattle.machine.specs.View.{Slot, line_of, without, marks_in, queue_in, queue, queue_len, with_queue}
use Rattle.machine.specs.View.{word_of, with_word, blank_waiting, buffer_in, buffer, buffer_len, with_buffer}
use Rattle.machine.specs.Parts.{Parts, parts_of}
use Rattle.machine.specs.Look.{word_or}
use Rattle.machine.specs.Rules.{entry_at, effect_rule, effect_of, pass_rule, move_rule, move_of, persist_first}
use Rattle.machine.specs.Rules.{settled, persist_of}
use Rattle.cases.specs.Ranges.{ProgramFits}
use Rattle.machine.specs.Fit.{Named, Roomy}
use Rattle.machine.proofs.lists.PartLaws.{get_or_part}
use Rattle.machine.proofs.view.LineOfLaws.{line_low}
use Rattle.machine.proofs.view.SlotLaws.{slots_next}

-- Named: what it says of each entry that names a location
module _ {n : ℕ} {e : Entry} (h : Named n e) where
  pub move_store_named : (w : Write) → e ≡ Store w → w.location.0 < n
  unfolding Named
  move_store_named w p = rw p at h

  pub flush_named : (l : Location) → e ≡ Flush l → l.0 < n
  unfolding Named
  flush_named l p = rw p at h

  pub move_flush_opt_named : (l : Location) → e ≡ FlushOpt l → l.0 < n
  unfolding Named
  move_flush_opt_named l p = rw p at h

-- the queue of a flush's location is one that there is room for
pub move_flush_low : (p : Program) → ProgramFits p → {e : Entry} → Named most_locations e
    → (l : Location) → e ≡ Flush l
    → (q : ℕ) → q ≡ line_of p l.0
    → q < most_locations
move_flush_low p g h l is q goes = rw goes (line_low p g l.0 (flush_named h l is))

-- effect_rule of a flush: something is queued; nothing is
module _ (p : Program) (x : Parts) (t : ℕ) (l : Location) (e : Entry) (is : e ≡ Flush l) (q : ℕ)
    (goes : q ≡ line_of p l.0) where
  pub move_flush_held : 0 < get_or x.lengths q 0 → 27 ≡ effect_rule p x t e
  unfolding effect_rule
  move_flush_held h = rw (is, ← goes) (refuse_here _ 27 0 (lt-ltb _ _ h))

  pub move_flush_free : get_or x.lengths q 0 ≤ 0 → 0 ≡ effect_rule p x t e
  unfolding effect_rule
  move_flush_free h = rw (is, ← goes) (refuse_next _ 0 27 0 (le-ltb _ _ h) refl)

-- Roomy: there is room for an entry in the queue of a location; taking an entry out of a buffer leaves it
pub roomy_is : (p : Program) → ProgramFits p → (s : State) → Roomy s → (l : ℕ) → l < most_locations → (q : ℕ)
    → q ≡ line_of p l
    → (q < most_locations) × (queue_len s q < room)
unfolding Roomy
roomy_is p g s r l h q e = let low = line_low p g l h in rw e (low, r _ low)

pub roomy_buffer : (s : State) (t : ℕ) (b : List Waiting) (u : State) → u ≡ with_buffer s t b → Roomy s → Roomy u
unfolding Roomy with_buffer
roomy_buffer s t b u e r = rw e r

-- entry_at: the entry at a position of a buffer
module _ (b : List Waiting) (waiting : List ℕ) (t i : ℕ) (h : i < get_or waiting t 0) where
  pub move_entry_is : entry_at (buffer_in b waiting t) i ≡ (get_or b (t * most_instructions + i) blank_waiting).entry
  unfolding buffer_in
  move_entry_is = ap (λ w. w.entry) (get_or_part (t * most_instructions) (get_or waiting t 0) i b blank_waiting h)

  pub move_entry_named : (n : ℕ) → Named n (entry_at (buffer_in b waiting t) i)
      → Named n (get_or b (t * most_instructions + i) blank_waiting).entry
  move_entry_named n k = rw move_entry_is at k

-- move_rule: the entry that moves is e; at position 0, and behind it
pub move_first_named : (s : State) (t i : ℕ) (e : Entry) → entry_at (buffer s t) i ≡ e → i ≡ 0 → (n : ℕ)
    → Named n (entry_at (buffer s t) 0)
    → Named n e
move_first_named s t i e is z n k = rw (← is, z) k

module _ (p : Program) (s : State) (t i : ℕ) (h : i < buffer_len s t) (e : Entry) (is : entry_at (buffer s t) i ≡ e)
  where
    pub move_first : i ≡ 0 → (r : ℕ) → r ≡ effect_rule p (parts_of s) t e → r ≡ move_rule p (parts_of s) t i
    unfolding move_rule
    move_first z r d = refuse_next _ _ _ _ (lt-leb _ _ h) (pick_here _ _ _ _ (eq-eqb _ _ z) (rw is d))

    pub move_behind : (i ≡ 0 → ⊥) → (r : ℕ) → r ≡ pass_rule p (buffer s t) i e → r ≡ move_rule p (parts_of s) t i
    unfolding move_rule
    move_behind z r d = refuse_next _ _ _ _ (lt-leb _ _ h) (pick_next _ _ _ _ (ne_eqb _ _ z) (rw is d))

-- move_of: the entry is taken out, then it takes effect
pub move_taken : (p : Program) (s : State) (t i : ℕ) (u r : State) → i < buffer_len s t
    → u ≡ with_buffer s t (without i (buffer s t))
    → r ≡ effect_of p u t (get_or s.buffers (t * most_instructions + i) blank_waiting).entry
    → r ≡ move_of p s t i
unfolding move_of
move_taken p s t i u r h e f = f ∙ rw (e, move_entry_is s.buffers s.waiting t i h)

-- settled: a word is written where there is such a location, and nowhere else
module _ (s : State) (h : Slot) (long : length s.words ≡ most_locations) where
  pub settled_write : h.mark < most_locations → settled s h ≡ with_word s h.mark h.word
  unfolding settled
  settled_write low =
      let k : h.mark < first_marker = omega arith in
      pick_true _ _ _ (lt-ltb _ _ k)

  pub settled_none : most_locations ≤ h.mark → settled s h ≡ s
  unfolding settled with_word
  settled_none high =
      pick_cases (λ u. u ≡ s) _ _ s (λ c. rw (set_out s.words h.mark h.word (omega arith))) (λ c. refl)

  -- what a slot makes of the word of a location
  pub settled_word : (l : ℕ) → l < most_locations → word_of (settled s h) l ≡ word_or l h (word_of s l)
  unfolding word_or
  settled_word l low = go (ℕ_discrete h.mark l)
    where
      go : Dec (h.mark ≡ l) → word_of (settled s h) l ≡ pick (eqb h.mark l) h.word (word_of s l)
      go (yes e) =
          rw (settled_write (omega arith), e, eq-eqb l l refl)
          (unfold with_word pick in get_or-set_same s.words l _ 0 (omega arith))
      go (no e) =
          rw (ne_eqb _ _ e) (unfold settled in
          pick_cases (λ u. word_of u l ≡ pick false h.word (word_of s l)) _ _ s
          (λ c. unfold with_word pick in get_or-set_other s.words _ l _ 0 (λ z. e (sym z)))
          (λ c. unfold pick in refl))

-- persist_of: the oldest entry is taken out, then its word is written
module _ (s : State) (q : ℕ) (low : q < most_locations) (some : 0 < queue_len s q) (fits : queue_len s q ≤ room)
    (held_long : length s.held ≡ all_slots) (marks_long : length s.marks ≡ all_slots) where
  oldest : queue s q
      ≡ record { word = get_or s.held (q * room) 0; mark = get_or s.marks (q * room) 0 }
      ∷ drop 1 (queue s q)
  unfolding queue_in marks_in
  oldest =
      rw add-zero
      at (slots_next s.held s.marks (q * room) (queue_len s q) (omega arith) (omega arith) 0 some)

  abbrev first : Slot
  first = record { word = get_or s.held (q * room) 0; mark = get_or s.marks (q * room) 0 }

  persist_first_lem : persist_of s q ≡ with_queue (settled s first) q (drop 1 (queue s q))
  unfolding persist_of
  persist_first_lem = ap (persist_first s q) oldest ∙ (unfold persist_first in refl)

  module _ (long : length s.words ≡ most_locations) (u : State) (e : u ≡ with_queue s q (drop 1 (queue s q))) where
    pub persist_write : get_or s.marks (q * room) 0 < most_locations
        → with_word u (get_or s.marks (q * room) 0) (get_or s.held (q * room) 0) ≡ persist_of s q
    unfolding with_queue with_word
    persist_write low = rw (e, persist_first_lem, settled_write s first long low) refl

    pub persist_marker : most_locations ≤ get_or s.marks (q * room) 0 → u ≡ persist_of s q
    persist_marker high = rw (e, persist_first_lem, settled_none s first long high) refl
