-- Laws of the state's buffers: a buffer that is put is what is there, and the others stay. Assumes nothing.
use Prim.Native.Nat.{ℕ, ◌*◌, ◌≤◌, ◌<◌}
use mathlib.Core.Path.{◌≡◌}
use mathlib.Core.Logic.{◌≢◌}
use mathlib.Core.List.{List}
use native.Mathlib.Omega.{arith}
use lib.ListN.{length, get_or, set}
use lib.Seq.{get_or-set_same, get_or-set_other}
use Rattle.cases.specs.Sizes.{most_threads, most_instructions}
use Rattle.machine.specs.declared.cells.State.{State}
use Rattle.machine.specs.declared.cells.Waiting.{Waiting}
use Rattle.machine.specs.View.{buffer, buffer_in, buffer_len, with_buffer, blank_waiting}
use Rattle.machine.specs.Fit.{Sized}
use Rattle.machine.proofs.lists.PartLaws.{part_apart, length_part}
use Rattle.machine.proofs.lists.PutLaws.{part_put_same, part_put_other}

-- A buffer put: that one, every other, and the rest of the state
module _ (s : State) (z : Sized s) (t : ℕ) (low : t < most_threads) (n : buffer_len s t ≤ most_instructions) where
  pub buffer_length : length (buffer s t) ≡ buffer_len s t
  unfolding buffer_in
  buffer_length = let h = z.buffers_long in length_part _ _ _ (omega arith)

  module _ (b : List Waiting) (m : length b ≤ most_instructions) where
    pub buffer_len_same : buffer_len (with_buffer s t b) t ≡ length b
    unfolding with_buffer
    buffer_len_same = get_or-set_same s.waiting t (length b) 0 (let w = z.waiting_long in omega arith)

    pub buffer_len_other : (k : ℕ) → k ≢ t → buffer_len (with_buffer s t b) k ≡ buffer_len s k
    unfolding with_buffer
    buffer_len_other k h = get_or-set_other s.waiting t k (length b) 0 h

    pub buffer_same : buffer (with_buffer s t b) t ≡ b
    unfolding buffer_in with_buffer
    buffer_same =
        let w = z.buffers_long in
        let e : get_or (set s.waiting t (length b)) t 0 ≡ length b = buffer_len_same in
        rw e (part_put_same blank_waiting (t * most_instructions) (buffer_len s t) b s.buffers most_instructions
        n m (omega arith))

    pub buffer_other : (k : ℕ) → k ≢ t → buffer_len s k ≤ most_instructions
        → buffer (with_buffer s t b) k ≡ buffer s k
    unfolding buffer_in with_buffer
    buffer_other k h f =
        let e : get_or (set s.waiting t (length b)) k 0 ≡ buffer_len s k = buffer_len_other k h in
        rw e (part_put_other blank_waiting (t * most_instructions) (buffer_len s t) b s.buffers
        (k * most_instructions) (buffer_len s k) most_instructions n m
        (part_apart most_instructions k t (buffer_len s k) h f))
