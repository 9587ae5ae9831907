-- What a change of one part of a state leaves of its fit: a queue, a buffer, a word, a register. Assumes
-- nothing.
use Prim.Native.Nat.{ℕ, ◌+◌, ◌≤◌, ◌<◌}
use mathlib.Core.Path.{◌≡◌, refl, ◌∙◌}
use mathlib.Core.List.{List}
use native.Mathlib.Omega.{arith}
use native.Mathlib.Decide.{ℕ_discrete}
use lib.ListN.{length}
use Rattle.cases.specs.declared.case.Program.{Program}
use Rattle.cases.specs.Sizes.{most_threads, most_instructions, most_locations}
use Rattle.cases.specs.Checks.{lines_of}
use Rattle.machine.specs.declared.cells.State.{State}
use Rattle.machine.specs.declared.cells.Waiting.{Waiting}
use Rattle.machine.specs.Sizes.{room}
use Rattle.machine.specs.View.{Slot, marks_of, marks_in, queue, queue_len, with_queue, buffer, buffer_len}
use Rattle.machine.specs.View.{with_buffer, with_word, with_register}
use Rattle.machine.specs.Fit.{Sized, sum_to, unissued, due, Fits, AllOf, Borne, NamedBy}
use Rattle.machine.proofs.lists.SumLaws.{sum_change}
use Rattle.machine.proofs.view.LineOfLaws.{few_lines}
use Rattle.machine.proofs.view.QueueLaws.{queue_length, queue_len_same, queue_len_other, queue_marks_same}
use Rattle.machine.proofs.view.QueueLaws.{queue_marks_other}
use Rattle.machine.proofs.view.SizedLaws.{sized_queue, sized_buffer, sized_word, sized_register}
use Rattle.machine.proofs.view.BufferLaws.{buffer_length, buffer_len_same, buffer_len_other, buffer_same}
use Rattle.machine.proofs.view.BufferLaws.{buffer_other}
use Rattle.cases.proofs.Promises.{thread_low}

module _ (p : Program) (s : State) (f : Fits p s) where
  -- a queue and a buffer are within their room, and as long as their lengths say
  pub fits_queue_within : (q : ℕ) → q < most_locations → queue_len s q ≤ room
  fits_queue_within q low = let w = f.few_queued q low in omega arith

  pub fits_buffer_within : (t : ℕ) → t < most_threads → buffer_len s t ≤ most_instructions
  fits_buffer_within t low = let w = f.few_waiting t low in omega arith

  pub fits_queue_long : (q : ℕ) → q < most_locations → length (queue s q) ≡ queue_len s q
  fits_queue_long q low = queue_length s f.sized q low (fits_queue_within q low)

  pub fits_buffer_long : (t : ℕ) → t < most_threads → length (buffer s t) ≡ buffer_len s t
  fits_buffer_long t low = buffer_length s f.sized t low (fits_buffer_within t low)

  -- a queue that keeps within the bounds, with entries that belong there
  module _ (q : ℕ) (low : q < lines_of p) (r : List Slot) (few : length r + due p s ≤ room)
      (borne : AllOf (Borne p q) (marks_of r)) where
    in_range : q < most_locations
    in_range = let w = few_lines p f.program in omega arith

    short : length r ≤ room
    short = omega arith

    pub fits_queue : Fits p (with_queue s q r)
    fits_queue =
        record {
          program = f.program;
          sized = sized_queue s f.sized q r;
          few_issued = unfold with_queue in f.few_issued;
          few_waiting = unfold with_queue unissued in f.few_waiting;
          few_queued = λ k h. count k h (ℕ_discrete k q);
          no_buffer = unfold with_queue in f.no_buffer;
          no_queue = λ k h a. none k h a (ℕ_discrete k q);
          named = unfold with_queue in f.named;
          borne = λ k h. bear k h (ℕ_discrete k q);
        }
      where
        same : due p (with_queue s q r) ≡ due p s
        same = unfold with_queue due unissued in refl

        count : (k : ℕ) → k < most_locations → Dec (k ≡ q)
            → queue_len (with_queue s q r) k + due p (with_queue s q r) ≤ room
        count k h (yes e) =
            rw (e, same, queue_len_same s f.sized q in_range (fits_queue_within q in_range) r short) few
        count k h (no e) =
            rw (same, queue_len_other s f.sized q in_range (fits_queue_within q in_range) r short k e)
            (f.few_queued k h)

        none : (k : ℕ) → k < most_locations → lines_of p ≤ k → Dec (k ≡ q) → queue_len (with_queue s q r) k ≡ 0
        none k h a (yes e) = absurd (omega arith)
        none k h a (no e) =
            queue_len_other s f.sized q in_range (fits_queue_within q in_range) r short k e
            ∙ f.no_queue k h a

        bear : (k : ℕ) → k < most_locations → Dec (k ≡ q)
            → AllOf (Borne p k) (marks_in (with_queue s q r).marks (with_queue s q r).lengths k)
        bear k h (yes e) =
            rw (e, queue_marks_same s f.sized q in_range (fits_queue_within q in_range) r short) borne
        bear k h (no e) =
            let within = fits_queue_within k h in
            rw (queue_marks_other s f.sized q in_range (fits_queue_within q in_range) r short k e within)
            (f.borne k h)

  -- a buffer that keeps within the bounds, with entries of locations that there are
  module _ (t : ℕ) (low : t < p.threads) (b : List Waiting)
      (few : length b + unissued p s t ≤ most_instructions) where
    in_threads : t < most_threads
    in_threads = thread_low f.program low

    fewer : length b ≤ most_instructions
    fewer = omega arith

    pub due_buffer : due p (with_buffer s t b) + buffer_len s t ≡ due p s + length b
    unfolding due
    due_buffer =
        let n = fits_buffer_within t in_threads in
        let c = sum_change most_threads t (buffer_len (with_buffer s t b)) (buffer_len s) in_threads
        (λ k a e. buffer_len_other s f.sized t in_threads n b fewer k e) in
        let d = buffer_len_same s f.sized t in_threads n b fewer in
        let u : sum_to most_threads (unissued p (with_buffer s t b)) ≡ sum_to most_threads (unissued p s)
        = unfold with_buffer unissued in refl in
        omega arith

    pub fits_buffer : ((q : ℕ) → q < most_locations → queue_len s q + due p (with_buffer s t b) ≤ room)
        → AllOf (NamedBy p.locations) b
        → Fits p (with_buffer s t b)
    fits_buffer queues named =
        record {
          program = f.program;
          sized = sized_buffer s f.sized t b;
          few_issued = unfold with_buffer in f.few_issued;
          few_waiting = λ k h. count k h (ℕ_discrete k t);
          few_queued = λ q h. unfold with_buffer in queues q h;
          no_buffer = λ k h a. none k h a (ℕ_discrete k t);
          no_queue = unfold with_buffer in f.no_queue;
          named = λ k h. name k h (ℕ_discrete k t);
          borne = unfold with_buffer in f.borne;
        }
      where
        within : buffer_len s t ≤ most_instructions
        within = fits_buffer_within t in_threads

        same : (k : ℕ) → unissued p (with_buffer s t b) k ≡ unissued p s k
        same k = unfold with_buffer unissued in refl

        count : (k : ℕ) → k < most_threads → Dec (k ≡ t)
            → buffer_len (with_buffer s t b) k + unissued p (with_buffer s t b) k ≤ most_instructions
        count k h (yes e) = rw (same k, e, buffer_len_same s f.sized t in_threads within b fewer) few
        count k h (no e) =
            rw (same k, buffer_len_other s f.sized t in_threads within b fewer k e) (f.few_waiting k h)

        none : (k : ℕ) → k < most_threads → p.threads ≤ k → Dec (k ≡ t) → buffer_len (with_buffer s t b) k ≡ 0
        none k h a (yes e) = absurd (omega arith)
        none k h a (no e) = buffer_len_other s f.sized t in_threads within b fewer k e ∙ f.no_buffer k h a

        name : (k : ℕ) → k < most_threads → Dec (k ≡ t)
            → AllOf (NamedBy p.locations) (buffer (with_buffer s t b) k)
        name k h (yes e) = rw (e, buffer_same s f.sized t in_threads within b fewer) named
        name k h (no e) =
            rw (buffer_other s f.sized t in_threads within b fewer k e (fits_buffer_within k h))
            (f.named k h)

  -- other words and registers: nothing of the fit is about them but how long they are
  abbrev stored : List ℕ → List ℕ → State
  stored words registers =
      record {
        words = words;
        held = s.held;
        marks = s.marks;
        lengths = s.lengths;
        buffers = s.buffers;
        waiting = s.waiting;
        registers = registers;
        issued = s.issued;
      }

  fits_stored : (words registers : List ℕ) → Sized (stored words registers) → Fits p (stored words registers)
  unfolding due unissued
  fits_stored words registers z =
      record {
        program = f.program;
        sized = z;
        few_issued = f.few_issued;
        few_waiting = f.few_waiting;
        few_queued = f.few_queued;
        no_buffer = f.no_buffer;
        no_queue = f.no_queue;
        named = f.named;
        borne = f.borne;
      }

  pub fits_word : (l w : ℕ) → Fits p (with_word s l w)
  unfolding with_word
  fits_word l w = fits_stored _ _ (sized_word s f.sized l w)

  pub fits_register : (t r w : ℕ) → Fits p (with_register s t r w)
  unfolding with_register
  fits_register t r w = fits_stored _ _ (sized_register s f.sized t r w)
