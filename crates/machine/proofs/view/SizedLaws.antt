-- Laws of `Sized`: a part that is put leaves every array as long as it was. Assumes nothing.
use Prim.Native.Nat.{ℕ}
use mathlib.Core.Path.{◌≡◌, ap, ◌∙◌}
use mathlib.Core.List.{List, [], ◌∷◌}
use lib.ListN.{length, get_or, length-set}
use lib.Seq.{length-sets}
use Rattle.machine.specs.declared.cells.State.{State}
use Rattle.machine.specs.declared.cells.Waiting.{Waiting}
use Rattle.machine.specs.View.{Slot, put, with_queue, with_buffer, with_word, with_register, with_issued}
use Rattle.machine.specs.Fit.{Sized}

-- how long the arrays are, in their order
unfoldable arrays : State → List ℕ
arrays s =
    length s.words
    ∷ length s.held
    ∷ length s.marks
    ∷ length s.lengths
    ∷ length s.buffers
    ∷ length s.waiting
    ∷ length s.registers
    ∷ length s.issued
    ∷ []

module _ (s : State) (z : Sized s) where
  sized_as : (u : State) → arrays u ≡ arrays s → Sized u
  unfolding arrays
  sized_as u e =
      record {
        words_long = ap (λ (l : List ℕ). get_or l 0 0) e ∙ z.words_long;
        held_long = ap (λ (l : List ℕ). get_or l 1 0) e ∙ z.held_long;
        marks_long = ap (λ (l : List ℕ). get_or l 2 0) e ∙ z.marks_long;
        lengths_long = ap (λ (l : List ℕ). get_or l 3 0) e ∙ z.lengths_long;
        buffers_long = ap (λ (l : List ℕ). get_or l 4 0) e ∙ z.buffers_long;
        waiting_long = ap (λ (l : List ℕ). get_or l 5 0) e ∙ z.waiting_long;
        registers_long = ap (λ (l : List ℕ). get_or l 6 0) e ∙ z.registers_long;
        issued_long = ap (λ (l : List ℕ). get_or l 7 0) e ∙ z.issued_long;
      }

  pub sized_queue : (q : ℕ) (r : List Slot) → Sized (with_queue s q r)
  sized_queue q r = sized_as _ (unfold arrays with_queue put in simp (length-sets, length-set))

  pub sized_buffer : (t : ℕ) (b : List Waiting) → Sized (with_buffer s t b)
  sized_buffer t b = sized_as _ (unfold arrays with_buffer put in simp (length-sets, length-set))

  pub sized_word : (l w : ℕ) → Sized (with_word s l w)
  sized_word l w = sized_as _ (unfold arrays with_word in simp length-set)

  pub sized_register : (t r w : ℕ) → Sized (with_register s t r w)
  sized_register t r w = sized_as _ (unfold arrays with_register in simp length-set)

  pub sized_issued : (t n : ℕ) → Sized (with_issued s t n)
  sized_issued t n = sized_as _ (unfold arrays with_issued in simp length-set)
