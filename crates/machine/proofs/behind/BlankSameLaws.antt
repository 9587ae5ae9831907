-- Two states that are blank behind their entries, and have the same entries, are the same state: each array, a
-- row at a time. Assumes nothing.
use Prim.Native.Nat.{ℕ, zero, suc, ◌+◌, ◌*◌, ◌-◌, ◌≤◌, ◌<◌}
use mathlib.Core.Path.{◌≡◌, sym, ap, ◌∙◌}
use mathlib.Core.Logic.{◌⊎◌, inl, inr}
use mathlib.Core.List.{List}
use native.Mathlib.Omega.{arith}
use native.Mathlib.Nat.{suc-mul}
use lib.ListN.{length, get_or, length-take, length-drop}
use lib.Seq.{ext_get_or}
use Rattle.cases.specs.Sizes.{most_threads, most_instructions, most_locations}
use Rattle.machine.specs.declared.cells.State.{State}
use Rattle.machine.specs.Sizes.{room, all_slots}
use Rattle.machine.specs.View.{Slot, words_of, marks_of, part, marks_in, queue_in, queue, queue_len}
use Rattle.machine.specs.View.{blank_waiting, buffer_in, buffer_len}
use Rattle.machine.specs.Behind.{BlankFrom, BlankBehind, SameEntries}
use Rattle.machine.specs.Fit.{Sized}
use Rattle.machine.proofs.lists.PartLaws.{lt_or_ge, get_or_part}
use Rattle.machine.proofs.view.SlotLaws.{words_slots, marks_slots}

module _ {A : Type 0} (blank : A) where
  -- a row of m of which the first n are the same, and the others blank in both
  row_same : (base n m : ℕ) (xs ys : List A) → part base n xs ≡ part base n ys
      → BlankFrom blank base n m xs
      → BlankFrom blank base n m ys
      → (i : ℕ) → i < m → get_or xs (base + i) blank ≡ get_or ys (base + i) blank
  row_same base n m xs ys e f g i h = go (lt_or_ge i n)
    where
      go : (i < n) ⊎ (n ≤ i) → get_or xs (base + i) blank ≡ get_or ys (base + i) blank
      go (inl k) =
          sym (get_or_part base n i xs blank k) ∙ ap (λ x. get_or x i blank) e ∙ get_or_part base n i ys blank k
      go (inr k) = f i k h ∙ sym (g i k h)

  -- k rows as wide as w, one behind the other
  rows_same : (w k : ℕ) (xs ys : List A)
      → ((l i : ℕ) → l < k → i < w → get_or xs (l * w + i) blank ≡ get_or ys (l * w + i) blank)
      → (j : ℕ) → j < k * w → get_or xs j blank ≡ get_or ys j blank
  rows_same w zero xs ys h j low = absurd (omega arith)
  rows_same w (suc k) xs ys h j low =
      go (lt_or_ge j (k * w)) (rows_same w k xs ys (λ l i a b. h l i (omega arith) b) j)
    where
      go : (j < k * w) ⊎ (k * w ≤ j) → (j < k * w → get_or xs j blank ≡ get_or ys j blank)
          → get_or xs j blank ≡ get_or ys j blank
      go (inl b) before = before b
      go (inr b) before =
          let e : j ≡ k * w + (j - k * w) = omega arith in
          let i : j - k * w < w = omega (arith, suc-mul k w) in
          rw e (h k (j - k * w) (omega arith) i)

  -- the arrays of such rows, each with as many in use as n says
  array_same : (w k : ℕ) (n : ℕ → ℕ) (xs ys : List A) → length xs ≡ k * w → length ys ≡ k * w
      → ((l : ℕ) → l < k → part (l * w) (n l) xs ≡ part (l * w) (n l) ys)
      → ((l : ℕ) → l < k → BlankFrom blank (l * w) (n l) w xs)
      → ((l : ℕ) → l < k → BlankFrom blank (l * w) (n l) w ys)
      → xs ≡ ys
  array_same w k n xs ys long same e f g =
      ext_get_or blank xs ys (long ∙ sym same) (λ j b. rows_same w k xs ys row j (omega arith))
    where
      row : (l i : ℕ) → l < k → i < w → get_or xs (l * w + i) blank ≡ get_or ys (l * w + i) blank
      row l i a = row_same (l * w) (n l) w xs ys (e l a) (f l a) (g l a) i

-- a queue's words and its marks, whatever its length says
module _ (s : State) (z : Sized s) (l : ℕ) where
  alike : length (part (l * room) (queue_len s l) s.held) ≡ length (marks_in s.marks s.lengths l)
  unfolding marks_in part
  alike = simp (length-take, length-drop, z.held_long, z.marks_long)

  words_are : words_of (queue s l) ≡ part (l * room) (queue_len s l) s.held
  unfolding queue_in
  words_are = words_slots _ _ alike

  marks_are : marks_of (queue s l) ≡ part (l * room) (queue_len s l) s.marks
  unfolding queue_in marks_in
  marks_are = marks_slots _ _ alike

module _ (s u : State) (z : Sized s) (y : Sized u) (f : BlankBehind s) (g : BlankBehind u)
    (e : SameEntries s u) where
  same_length : (l : ℕ) → queue_len s l ≡ queue_len u l
  same_length l = ap (λ x. get_or x l 0) e.same_lengths

  same_count : (t : ℕ) → buffer_len s t ≡ buffer_len u t
  same_count t = ap (λ x. get_or x t 0) e.same_waiting

  -- one of the two arrays of the queues: `of` tells it from a queue's slots
  slots_same : (of : List Slot → List ℕ) (xs ys : List ℕ) → length xs ≡ all_slots → length ys ≡ all_slots
      → ((l : ℕ) → of (queue s l) ≡ part (l * room) (queue_len s l) xs)
      → ((l : ℕ) → of (queue u l) ≡ part (l * room) (queue_len u l) ys)
      → ((l : ℕ) → l < most_locations → BlankFrom 0 (l * room) (queue_len s l) room xs)
      → ((l : ℕ) → l < most_locations → BlankFrom 0 (l * room) (queue_len u l) room ys)
      → xs ≡ ys
  slots_same of xs ys long same here there first second =
      array_same 0 room most_locations (queue_len s) xs ys long same
      (λ l a. sym (here l) ∙ ap of (e.same_queues l a) ∙ there l
      ∙ ap (λ n. part (l * room) n ys) (sym (same_length l)))
      first
      (λ l a. rw (same_length l) (second l a))

  held_same : s.held ≡ u.held
  held_same =
      slots_same words_of s.held u.held z.held_long y.held_long (words_are s z) (words_are u y)
      f.words_blank g.words_blank

  queue_marks_same : s.marks ≡ u.marks
  queue_marks_same =
      slots_same marks_of s.marks u.marks z.marks_long y.marks_long (marks_are s z) (marks_are u y)
      f.marks_blank g.marks_blank

  buffers_same : s.buffers ≡ u.buffers
  unfolding buffer_in
  buffers_same =
      array_same blank_waiting most_instructions most_threads (buffer_len s) s.buffers u.buffers
      z.buffers_long y.buffers_long
      (λ t a. e.same_buffers t a
      ∙ ap (λ n. part (t * most_instructions) n u.buffers) (sym (same_count t)))
      f.entries_blank
      (λ t a. rw (same_count t) (g.entries_blank t a))

  pub blank_same : s ≡ u
  blank_same =
      λ i. record {
        words = e.same_words i;
        held = held_same i;
        marks = queue_marks_same i;
        lengths = e.same_lengths i;
        buffers = buffers_same i;
        waiting = e.same_waiting i;
        registers = e.same_registers i;
        issued = e.same_issued i;
      }
