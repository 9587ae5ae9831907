-- Laws of a change to a queue or a buffer: what the code writes is the state with an entry more at the end, or
-- without one. Assumes nothing.
use Prim.Native.Nat.{ℕ, ◌+◌, ◌*◌, ◌-◌, ◌≤◌, ◌<◌}
use mathlib.Core.Path.{◌≡◌, refl, ◌∙◌}
use mathlib.Core.List.{List, [], ◌∷◌, ◌++◌}
use native.Mathlib.Omega.{arith}
use native.Mathlib.Nat.{add-zero}
use lib.ListN.{length, get_or, set, drop, length-append, length-drop}
use Rattle.cases.specs.Sizes.{most_threads, most_instructions, most_locations, all_code}
use Rattle.machine.specs.declared.cells.State.{State}
use Rattle.machine.specs.declared.cells.Waiting.{Waiting}
use Rattle.machine.specs.declared.cells.Entry.{Entry}
use Rattle.machine.specs.Sizes.{room, all_slots}
use Rattle.machine.specs.View.{Slot, words_of, marks_of, part, put, close_gap, without, marks_in}
use Rattle.machine.specs.View.{queue_in, queue_len, queue, with_queue, blank_waiting, buffer_in, buffer_len}
use Rattle.machine.specs.View.{buffer, with_buffer}
use Rattle.machine.specs.Rules.{enqueue, await}
use Rattle.machine.proofs.lists.PartLaws.{length_part}
use Rattle.machine.proofs.lists.PutLaws.{put_push, put_without, length_without}
use Rattle.machine.proofs.view.QueueLaws.{queue_words, queue_marks, queue_slots_length}
use Rattle.machine.proofs.view.SlotLaws.{words_append, marks_append, words_drop, marks_drop}

-- the words, marks and length of a queue with one more at its end
module _ (held marks lengths : List ℕ) (q : ℕ) (h : q * room + get_or lengths q 0 < length held)
    (k : q * room + get_or lengths q 0 < length marks) (x : Slot) where
  words_push : put 0 (q * room) (get_or lengths q 0) (words_of (queue_in held marks lengths q ++ (x ∷ []))) held
      ≡ set held (q * room + get_or lengths q 0) x.word
  unfolding words_of
  words_push =
      rw (
        words_append (queue_in held marks lengths q) (x ∷ []),
        queue_words held marks lengths q (omega arith) (omega arith),
      )
      (put_push 0 held _ _ x.word h)

  marks_push : put 0 (q * room) (get_or lengths q 0) (marks_of (queue_in held marks lengths q ++ (x ∷ []))) marks
      ≡ set marks (q * room + get_or lengths q 0) x.mark
  unfolding marks_of marks_in
  marks_push =
      rw (
        marks_append (queue_in held marks lengths q) (x ∷ []),
        queue_marks held marks lengths q (omega arith) (omega arith),
      )
      (put_push 0 marks _ _ x.mark k)

  length_push : length (queue_in held marks lengths q ++ (x ∷ [])) ≡ get_or lengths q 0 + 1
  length_push =
      rw (
        length-append (queue_in held marks lengths q),
        queue_slots_length held marks lengths q (omega arith) (omega arith),
      )

-- and without its oldest
module _ (held marks lengths : List ℕ) (q : ℕ) (h : q * room + get_or lengths q 0 ≤ length held)
    (k : q * room + get_or lengths q 0 ≤ length marks) (some : 0 < get_or lengths q 0) where
  words_pop : put 0 (q * room) (get_or lengths q 0) (words_of (drop 1 (queue_in held marks lengths q))) held
      ≡ close_gap 0 (q * room) (q * room + get_or lengths q 0) held
  unfolding without
  words_pop =
      rw (words_drop 1 (queue_in held marks lengths q), queue_words held marks lengths q h k)
      (put_without 0 held (q * room) _ 0 some h ∙ rw add-zero)

  marks_pop : put 0 (q * room) (get_or lengths q 0) (marks_of (drop 1 (queue_in held marks lengths q))) marks
      ≡ close_gap 0 (q * room) (q * room + get_or lengths q 0) marks
  unfolding without marks_in
  marks_pop =
      rw (marks_drop 1 (queue_in held marks lengths q), queue_marks held marks lengths q h k)
      (put_without 0 marks (q * room) _ 0 some k ∙ rw add-zero)

  length_pop : length (drop 1 (queue_in held marks lengths q)) ≡ get_or lengths q 0 - 1
  length_pop = rw (length-drop, queue_slots_length held marks lengths q h k)

-- what the code makes of the state as it changes a queue
module _ (s : State) (q : ℕ) (h : length s.held ≡ all_slots) (k : length s.marks ≡ all_slots)
    (low : q < most_locations) where
  pub enqueue_is : (x : Slot) → queue_len s q < room
      → record {
        words = s.words;
        held = set s.held (q * room + queue_len s q) x.word;
        marks = set s.marks (q * room + queue_len s q) x.mark;
        lengths = set s.lengths q (queue_len s q + 1);
        buffers = s.buffers;
        waiting = s.waiting;
        registers = s.registers;
        issued = s.issued;
      } ≡ enqueue s q x
  unfolding enqueue with_queue
  enqueue_is x less =
      rw (
        words_push s.held s.marks s.lengths q (omega arith) (omega arith) x,
        marks_push s.held s.marks s.lengths q (omega arith) (omega arith) x,
        length_push s.held s.marks s.lengths q (omega arith) (omega arith) x,
      )
      refl

  pub dequeue_is : (held marks : List ℕ) → 0 < queue_len s q → queue_len s q ≤ room
      → held ≡ close_gap 0 (q * room) (q * room + queue_len s q) s.held
      → marks ≡ close_gap 0 (q * room) (q * room + queue_len s q) s.marks
      → record {
        words = s.words;
        held = held;
        marks = marks;
        lengths = set s.lengths q (queue_len s q - 1);
        buffers = s.buffers;
        waiting = s.waiting;
        registers = s.registers;
        issued = s.issued;
      } ≡ with_queue s q (drop 1 (queue s q))
  unfolding with_queue
  dequeue_is held marks some most e f =
      rw (
        words_pop s.held s.marks s.lengths q (omega arith) (omega arith) some,
        marks_pop s.held s.marks s.lengths q (omega arith) (omega arith) some,
        length_pop s.held s.marks s.lengths q (omega arith) (omega arith) some,
        e,
        f,
      )
      refl

-- and as it changes a buffer
module _ (s : State) (t : ℕ) (h : length s.buffers ≡ all_code) (low : t < most_threads) where
  pub await_is : (e : Entry) → buffer_len s t < most_instructions
      → record {
        words = s.words;
        held = s.held;
        marks = s.marks;
        lengths = s.lengths;
        buffers = set s.buffers (t * most_instructions + buffer_len s t) (record { entry = e });
        waiting = set s.waiting t (buffer_len s t + 1);
        registers = s.registers;
        issued = s.issued;
      } ≡ await s t e
  unfolding await with_buffer buffer_in
  await_is e less =
      let at = t * most_instructions in
      let k : length (part at (buffer_len s t) s.buffers) ≡ buffer_len s t = length_part _ _ _ (omega arith) in
      rw (
        put_push blank_waiting s.buffers at (buffer_len s t) (record { entry = e }) (omega arith),
        length-append (part at (buffer_len s t) s.buffers),
        k,
      )
      refl

  pub take_out_is : (b : List Waiting) (i : ℕ) → i < buffer_len s t → buffer_len s t ≤ most_instructions
      → b ≡ close_gap blank_waiting (t * most_instructions + i) (t * most_instructions + buffer_len s t) s.buffers
      → record {
        words = s.words;
        held = s.held;
        marks = s.marks;
        lengths = s.lengths;
        buffers = b;
        waiting = set s.waiting t (buffer_len s t - 1);
        registers = s.registers;
        issued = s.issued;
      } ≡ with_buffer s t (without i (buffer s t))
  unfolding with_buffer buffer_in
  take_out_is b i some most e =
      let at = t * most_instructions in
      let k : length (part at (buffer_len s t) s.buffers) ≡ buffer_len s t = length_part _ _ _ (omega arith) in
      let m = length_without i (part at (buffer_len s t) s.buffers) (omega arith) in
      let n : length (without i (part at (buffer_len s t) s.buffers)) ≡ buffer_len s t - 1 = omega arith in
      rw (put_without blank_waiting s.buffers at (buffer_len s t) i some (omega arith), n, e) refl
