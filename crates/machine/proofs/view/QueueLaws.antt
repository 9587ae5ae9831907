-- Laws of the state's queues: a queue's words, marks and length; a queue that is put is what is there, and
-- every other queue stays. Assumes nothing.
use Prim.Native.Nat.{ℕ, ◌+◌, ◌*◌, ◌≤◌, ◌<◌}
use mathlib.Core.Path.{◌≡◌, sym, ◌∙◌}
use mathlib.Core.Logic.{◌≢◌}
use mathlib.Core.List.{List}
use native.Mathlib.Omega.{arith}
use lib.ListN.{length, get_or, set}
use lib.Seq.{get_or-set_same, get_or-set_other}
use Rattle.cases.specs.Sizes.{most_locations}
use Rattle.machine.specs.declared.cells.State.{State}
use Rattle.machine.specs.Sizes.{room}
use Rattle.machine.specs.View.{Slot, words_of, marks_of, part, queue, queue_in, queue_len, marks_in, with_queue}
use Rattle.machine.specs.Fit.{Sized}
use Rattle.machine.proofs.lists.PartLaws.{part_apart, length_part}
use Rattle.machine.proofs.lists.PutLaws.{part_put_same, part_put_other}
use Rattle.machine.proofs.view.SlotLaws.{words_slots, marks_slots, slots_apart, length_slots}
use Rattle.machine.proofs.view.SlotLaws.{length_words, length_marks}

-- A queue's words, its marks, its length
module _ (held marks lengths : List ℕ) (l : ℕ) (h : l * room + get_or lengths l 0 ≤ length held)
    (k : l * room + get_or lengths l 0 ≤ length marks) where
  alike : length (part (l * room) (get_or lengths l 0) held) ≡ length (marks_in marks lengths l)
  unfolding marks_in
  alike = length_part _ _ held h ∙ sym (length_part _ _ marks k)

  pub queue_words : words_of (queue_in held marks lengths l) ≡ part (l * room) (get_or lengths l 0) held
  unfolding queue_in
  queue_words = words_slots _ _ alike

  pub queue_marks : marks_of (queue_in held marks lengths l) ≡ marks_in marks lengths l
  unfolding queue_in
  queue_marks = marks_slots _ _ alike

  pub queue_slots_length : length (queue_in held marks lengths l) ≡ get_or lengths l 0
  unfolding queue_in
  queue_slots_length = length_slots _ _ alike ∙ length_part _ _ held h

-- A queue put: that one, every other, and the rest of the state
module _ (s : State) (z : Sized s) (l : ℕ) (low : l < most_locations) (n : queue_len s l ≤ room) where
  pub queue_length : length (queue s l) ≡ queue_len s l
  queue_length =
      let h = z.held_long in
      let m = z.marks_long in
      queue_slots_length s.held s.marks s.lengths l (omega arith) (omega arith)

  module _ (q : List Slot) (m : length q ≤ room) where
    pub queue_len_same : queue_len (with_queue s l q) l ≡ length q
    unfolding with_queue
    queue_len_same = get_or-set_same s.lengths l (length q) 0 (let w = z.lengths_long in omega arith)

    pub queue_len_other : (k : ℕ) → k ≢ l → queue_len (with_queue s l q) k ≡ queue_len s k
    unfolding with_queue
    queue_len_other k h = get_or-set_other s.lengths l k (length q) 0 h

    pub queue_marks_same : marks_in (with_queue s l q).marks (with_queue s l q).lengths l ≡ marks_of q
    unfolding marks_in with_queue
    queue_marks_same =
        let w = z.marks_long in
        let k = length_marks q in
        let e : get_or (set s.lengths l (length q)) l 0 ≡ length (marks_of q) = queue_len_same ∙ sym k in
        rw e (part_put_same 0 (l * room) (queue_len s l) (marks_of q) s.marks room n (omega arith)
        (omega arith))

    words_same : part (l * room) (queue_len (with_queue s l q) l) (with_queue s l q).held ≡ words_of q
    unfolding with_queue
    words_same =
        let w = z.held_long in
        let k = length_words q in
        let e : get_or (set s.lengths l (length q)) l 0 ≡ length (words_of q) = queue_len_same ∙ sym k in
        rw e (part_put_same 0 (l * room) (queue_len s l) (words_of q) s.held room n (omega arith)
        (omega arith))

    pub queue_same : queue (with_queue s l q) l ≡ q
    unfolding queue_in
    queue_same = rw (words_same, queue_marks_same) (slots_apart q)

    module _ (k : ℕ) (h : k ≢ l) (f : queue_len s k ≤ room) where
      pub queue_marks_other : marks_in (with_queue s l q).marks (with_queue s l q).lengths k
          ≡ marks_in s.marks s.lengths k
      unfolding marks_in with_queue
      queue_marks_other =
          let a = length_marks q in
          let e : get_or (set s.lengths l (length q)) k 0 ≡ queue_len s k = queue_len_other k h in
          rw e (part_put_other 0 (l * room) (queue_len s l) (marks_of q) s.marks (k * room) (queue_len s k) room
          n (omega arith) (part_apart room k l (queue_len s k) h f))

      words_other : part (k * room) (queue_len (with_queue s l q) k) (with_queue s l q).held
          ≡ part (k * room) (queue_len s k) s.held
      unfolding with_queue
      words_other =
          let a = length_words q in
          let e : get_or (set s.lengths l (length q)) k 0 ≡ queue_len s k = queue_len_other k h in
          rw e (part_put_other 0 (l * room) (queue_len s l) (words_of q) s.held (k * room) (queue_len s k) room
          n (omega arith) (part_apart room k l (queue_len s k) h f))

      pub queue_other : queue (with_queue s l q) k ≡ queue s k
      unfolding queue_in
      queue_other = rw (words_other, queue_marks_other)
