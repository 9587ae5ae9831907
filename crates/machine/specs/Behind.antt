-- What stands behind a state's entries. The rules don't look there (View); where it is blank, two states with
-- the same entries are the same state, array for array.
--   BlankFrom blank base n m xs   of the m elements of xs from base on, all but the first n are blank
--   BlankBehind s                 the state s is blank behind its entries
--   SameEntries s u               the states s and u have the same entries, and the same words, registers and
--                                 counts
-- Assumes nothing.
use Rattle.std.specs.Prelude.{ℕ, ◌+◌, ◌*◌, ◌<◌, ◌≤◌, ◌≡◌, List, get_or}
use Rattle.cases.specs.Sizes.{most_threads, most_instructions, most_locations}
use Rattle.machine.specs.declared.cells.State.{State}
use Rattle.machine.specs.Sizes.{room}
use Rattle.machine.specs.View.{queue, queue_len, buffer, buffer_len, blank_waiting}

abbrev pub BlankFrom : {A : Type 0} → A → ℕ → ℕ → ℕ → List A → Type 0
BlankFrom blank base n m xs = (i : ℕ) → n ≤ i → i < m → get_or xs (base + i) blank ≡ blank

-- Every slot from a queue's length on up to its room holds word 0 and mark 0; every entry from a buffer's
-- length on up to a thread's instructions is the blank one. Of every queue and every buffer that there is room
-- for, the program's or not.
pub record BlankBehind (s : State) : Type 0 where
  pub words_blank : (q : ℕ) → q < most_locations → BlankFrom 0 (q * room) (queue_len s q) room s.held
  pub marks_blank : (q : ℕ) → q < most_locations → BlankFrom 0 (q * room) (queue_len s q) room s.marks
  pub entries_blank : (t : ℕ) → t < most_threads
      → BlankFrom blank_waiting (t * most_instructions) (buffer_len s t) most_instructions s.buffers

-- The same entries, oldest first, in every queue and every buffer; the same in the other arrays.
pub record SameEntries (s u : State) : Type 0 where
  pub same_words : s.words ≡ u.words
  pub same_lengths : s.lengths ≡ u.lengths
  pub same_waiting : s.waiting ≡ u.waiting
  pub same_registers : s.registers ≡ u.registers
  pub same_issued : s.issued ≡ u.issued
  pub same_queues : (q : ℕ) → q < most_locations → queue s q ≡ queue u q
  pub same_buffers : (t : ℕ) → t < most_threads → buffer s t ≡ buffer u t
