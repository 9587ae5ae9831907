-- What stands behind a state's entries stays blank where a queue or a buffer is put: `put` fills what is given
-- up with blanks, and leaves every other row alone. Assumes nothing.
use Prim.Native.Nat.{ℕ, zero, suc, ◌+◌, ◌*◌, ◌-◌, ◌≤◌, ◌<◌}
use mathlib.Core.Path.{◌≡◌, refl, sym, ap, ◌∙◌}
use mathlib.Core.Logic.{◌⊎◌}
use mathlib.Core.List.{List, ◌++◌, append_assoc}
use native.Mathlib.Omega.{arith}
use native.Mathlib.Decide.{ℕ_discrete}
use lib.ListN.{length, get_or, take, drop, replicate, length-append, length-replicate}
use lib.Seq.{sets, sets-eq, get_or-append-add, get_or-drop, length-take-le}
use Rattle.cases.specs.Sizes.{most_threads, most_instructions, most_locations}
use Rattle.machine.specs.declared.cells.State.{State}
use Rattle.machine.specs.declared.cells.Waiting.{Waiting}
use Rattle.machine.specs.Sizes.{room, all_slots}
use Rattle.machine.specs.View.{Slot, words_of, marks_of, put, queue_len, with_queue, blank_waiting, buffer_len}
use Rattle.machine.specs.View.{with_buffer, with_word, with_register, with_issued}
use Rattle.machine.specs.Behind.{BlankFrom, BlankBehind}
use Rattle.machine.specs.Fit.{Sized}
use Rattle.machine.proofs.lists.PartLaws.{part_apart, get_or_part}
use Rattle.machine.proofs.lists.PutLaws.{part_put_other}
use Rattle.machine.proofs.view.SlotLaws.{length_words, length_marks}
use Rattle.machine.proofs.view.QueueLaws.{queue_len_same, queue_len_other}
use Rattle.machine.proofs.view.BufferLaws.{buffer_len_same, buffer_len_other}

-- A row of a list: what is put there leaves blanks behind it; what is put apart from it leaves it alone
module _ {A : Type 0} (blank : A) where
  get_or_behind : (xs ys : List A) (n i : ℕ) → length xs ≡ n → get_or (xs ++ ys) (n + i) blank ≡ get_or ys i blank
  get_or_behind xs ys n i e = rw (sym e) (get_or-append-add xs ys i blank)

  -- blanks, and behind them what is blank there
  blank_filled : (n i : ℕ) (rest : List A) → ((j : ℕ) → i ≡ n + j → get_or rest j blank ≡ blank)
      → get_or (replicate n blank ++ rest) i blank ≡ blank
  blank_filled zero i rest h = h i (omega arith)
  blank_filled (suc n) zero rest h = refl
  blank_filled (suc n) (suc i) rest h = blank_filled n i rest (λ j e. h j (omega arith))

  put_blank : (base n : ℕ) (q xs : List A) (m : ℕ) → n ≤ m → length q ≤ m → base + m ≤ length xs
      → BlankFrom blank base n m xs
      → BlankFrom blank base (length q) m (put blank base n q xs)
  unfolding put
  put_blank base n q xs m h k r old i a b =
      let gap : ℕ = n - length q in
      let pad : List A = replicate gap blank in
      let long : length (q ++ pad) ≡ length q + gap = simp (length-append, length-replicate) refl in
      let rest : List A = drop (base + length (q ++ pad)) xs in
      let split : sets xs base (q ++ pad) ≡ take base xs ++ (q ++ pad) ++ rest
      = sets-eq (q ++ pad) xs base (omega arith) in
      let position : i ≡ length q + (i - length q) = omega arith in
      rw (split, append_assoc (take base xs))
      (get_or_behind (take base xs) ((q ++ pad) ++ rest) base i (length-take-le base xs (omega arith))
      ∙ ap (λ x. get_or x i blank) (append_assoc q pad rest)
      ∙ ap (λ x. get_or (q ++ (pad ++ rest)) x blank) position
      ∙ get_or_behind q (pad ++ rest) (length q) (i - length q) refl
      ∙ blank_filled gap (i - length q) rest (beyond (base + length (q ++ pad)) (omega arith)))
    where
      beyond : (at : ℕ) → at ≡ base + (length q + (n - length q))
          → (j : ℕ) → i - length q ≡ n - length q + j → get_or (drop at xs) j blank ≡ blank
      beyond at e j d =
          let f : at + j ≡ base + i = omega arith in
          get_or-drop at xs j blank ∙ ap (λ x. get_or xs x blank) f ∙ old i (omega arith) b

  put_blank_other : (base n : ℕ) (q xs : List A) (b k m : ℕ) → n ≤ m → length q ≤ m
      → (b + m ≤ base) ⊎ (base + m ≤ b)
      → BlankFrom blank b k m xs
      → BlankFrom blank b k m (put blank base n q xs)
  put_blank_other base n q xs b k m h r w old i a c =
      sym (get_or_part b m i (put blank base n q xs) blank c)
      ∙ ap (λ x. get_or x i blank) (part_put_other blank base n q xs b m m h r w)
      ∙ get_or_part b m i xs blank c
      ∙ old i a c

-- A queue put, a buffer put
module _ (s : State) (z : Sized s) (o : BlankBehind s) where
  module _ (l : ℕ) (low : l < most_locations) (n : queue_len s l ≤ room) (q : List Slot)
      (m : length q ≤ room) where
    -- a row of one of the two arrays: that queue's, another's
    row_blank : (xs vs : List ℕ) → length xs ≡ all_slots → length vs ≡ length q
        → ((k : ℕ) → k < most_locations → BlankFrom 0 (k * room) (queue_len s k) room xs)
        → (k : ℕ) → k < most_locations → Dec (k ≡ l)
        → BlankFrom 0 (k * room) (queue_len (with_queue s l q) k) room (put 0 (l * room) (queue_len s l) vs xs)
    row_blank xs vs long e old k h (yes d) =
        rw (d, queue_len_same s z l low n q m, sym e)
        (put_blank 0 (l * room) (queue_len s l) vs xs room n (omega arith) (omega arith) (old l low))
    row_blank xs vs long e old k h (no d) =
        rw (queue_len_other s z l low n q m k d)
        (put_blank_other 0 (l * room) (queue_len s l) vs xs (k * room) (queue_len s k) room n (omega arith)
        (part_apart room k l room d (omega arith)) (old k h))

    pub blank_queue : BlankBehind (with_queue s l q)
    unfolding with_queue
    blank_queue =
        record {
          words_blank = λ k h. row_blank s.held (words_of q) z.held_long (length_words q) o.words_blank
              k h (ℕ_discrete k l);
          marks_blank = λ k h. row_blank s.marks (marks_of q) z.marks_long (length_marks q)
              o.marks_blank k h (ℕ_discrete k l);
          entries_blank = o.entries_blank;
        }

  module _ (t : ℕ) (low : t < most_threads) (n : buffer_len s t ≤ most_instructions) (b : List Waiting)
      (m : length b ≤ most_instructions) where
    pub blank_buffer : BlankBehind (with_buffer s t b)
    blank_buffer =
        record {
          words_blank = unfold with_buffer in o.words_blank;
          marks_blank = unfold with_buffer in o.marks_blank;
          entries_blank = λ k h. row k h (ℕ_discrete k t);
        }
      where
        row : (k : ℕ) → k < most_threads → Dec (k ≡ t)
            → BlankFrom blank_waiting (k * most_instructions) (buffer_len (with_buffer s t b) k) most_instructions
            (with_buffer s t b).buffers
        row k h (yes d) =
            let w = z.buffers_long in
            rw (d, buffer_len_same s z t low n b m)
            (unfold with_buffer in put_blank blank_waiting (t * most_instructions) (buffer_len s t) b s.buffers
            most_instructions n m (omega arith) (o.entries_blank t low))
        row k h (no d) =
            rw (buffer_len_other s z t low n b m k d)
            (unfold with_buffer in put_blank_other blank_waiting (t * most_instructions) (buffer_len s t) b
            s.buffers (k * most_instructions) (buffer_len s k) most_instructions n m
            (part_apart most_instructions k t most_instructions d (omega arith)) (o.entries_blank k h))

-- A word, a register or an issued count put: what stands behind the entries is not touched
module _ (s : State) (o : BlankBehind s) where
  pub blank_word : (l w : ℕ) → BlankBehind (with_word s l w)
  unfolding with_word
  blank_word l w =
      record { words_blank = o.words_blank; marks_blank = o.marks_blank; entries_blank = o.entries_blank }

  pub blank_register : (t r w : ℕ) → BlankBehind (with_register s t r w)
  unfolding with_register
  blank_register t r w =
      record { words_blank = o.words_blank; marks_blank = o.marks_blank; entries_blank = o.entries_blank }

  pub blank_issued : (t n : ℕ) → BlankBehind (with_issued s t n)
  unfolding with_issued
  blank_issued t n =
      record { words_blank = o.words_blank; marks_blank = o.marks_blank; entries_blank = o.entries_blank }
