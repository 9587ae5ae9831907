-- The lens through which the rules speak: a state's parts as lists. Queue q is the first so many of the slots
-- from q * room on, buffer t the first so many of the entries from t * most_instructions on; what stands behind
-- them is not looked at and not changed, whatever it is.
--   part base n xs            the first n of xs from base on
--   put blank base n q xs     xs with q from base on; of the n that stood there, those given up are blank
--   shift, close_gap          one taken out of a row: those behind it each one down
--   mark_of t                 the mark of a marker of thread t
--   write_slot, marker_slot   a slot of a queue
--   slots, words_of, marks_of words and marks as slots, and back
--   line_of p l               the cache line that location l lies on in the program p, and its queue's number
--   queue, with_queue         the entries of a line's queue, oldest first; the state with others there
--   buffer, with_buffer       the entries of a store buffer, oldest first; the state with others there
--   queue_len, buffer_len     how many
--   queue_in, marks_in, buffer_in, register_in   the same over a state's arrays
--   word_of, with_word, with_register, issued_of, with_issued   persistent words, registers, issued counts
-- Assumes nothing.
use Rattle.std.specs.Prelude.{ℕ, ◌+◌, ◌*◌, ◌-◌, List, [], ◌∷◌, ◌++◌, length, get_or, set, take, drop, replicate}
use Rattle.std.proofs.lemmas.List.Edits.{sets}
use Rattle.cases.specs.declared.case.Program.{Program}
use Rattle.cases.specs.Sizes.{most_instructions, most_registers}
use Rattle.machine.specs.declared.cells.State.{State}
use Rattle.machine.specs.declared.cells.Waiting.{Waiting}
use Rattle.machine.specs.declared.cells.Entry.TheVariants.{Store}
use Rattle.machine.specs.Sizes.{room, first_marker}

unfoldable pub part {ℓ} : {A : Type ℓ} → ℕ → ℕ → List A → List A
part base n xs = take n (drop base xs)

unfoldable pub put {ℓ} : {A : Type ℓ} → A → ℕ → ℕ → List A → List A → List A
put blank base n q xs = sets xs base (q ++ replicate (n - length q) blank)

-- what stands behind `from`, up to end, each one down, and the last of them still there
unfoldable pub shift {ℓ} : {A : Type ℓ} → ℕ → ℕ → List A → List A
shift from end xs = sets xs from (part (from + 1) (end - (from + 1)) xs)

-- the same with the last of them blank
unfoldable pub close_gap {ℓ} : {A : Type ℓ} → A → ℕ → ℕ → List A → List A
close_gap blank from end xs = set (shift from end xs) (end - 1) blank

-- q without what stands at position i
unfoldable pub without {ℓ} : {A : Type ℓ} → ℕ → List A → List A
without i q = take i q ++ drop (i + 1) q

-- "A queue holds writes and flush-opt markers that bear a thread", and "its writes bear locations": the mark of a
-- write is its location, and from `first_marker` on a mark is a marker's.
pub record Slot : Type 0 where
  pub word : ℕ
  pub mark : ℕ

abbrev pub mark_of : ℕ → ℕ
mark_of t = t + first_marker

abbrev pub write_slot : ℕ → ℕ → Slot
write_slot l w = record { word = w; mark = l }

abbrev pub marker_slot : ℕ → Slot
marker_slot t = record { word = 0; mark = mark_of t }

unfoldable pub slots : List ℕ → List ℕ → List Slot
slots [] ms = []
slots (w ∷ ws) [] = []
slots (w ∷ ws) (m ∷ ms) = record { word = w; mark = m } ∷ slots ws ms

unfoldable pub words_of : List Slot → List ℕ
words_of [] = []
words_of (h ∷ q) = h.word ∷ words_of q

unfoldable pub marks_of : List Slot → List ℕ
marks_of [] = []
marks_of (h ∷ q) = h.mark ∷ marks_of q

-- Queues
-- "There is one queue per line": which line a location lies on
unfoldable pub line_of : Program → ℕ → ℕ
line_of p l = get_or p.line l 0

abbrev pub queue_len : State → ℕ → ℕ
queue_len s q = get_or s.lengths q 0

unfoldable pub marks_in : List ℕ → List ℕ → ℕ → List ℕ
marks_in marks lengths q = part (q * room) (get_or lengths q 0) marks

unfoldable pub queue_in : List ℕ → List ℕ → List ℕ → ℕ → List Slot
queue_in held marks lengths q = slots (part (q * room) (get_or lengths q 0) held) (marks_in marks lengths q)

abbrev pub queue : State → ℕ → List Slot
queue s q = queue_in s.held s.marks s.lengths q

unfoldable pub with_queue : State → ℕ → List Slot → State
with_queue s q hs =
    record {
      words = s.words;
      held = put 0 (q * room) (queue_len s q) (words_of hs) s.held;
      marks = put 0 (q * room) (queue_len s q) (marks_of hs) s.marks;
      lengths = set s.lengths q (length hs);
      buffers = s.buffers;
      waiting = s.waiting;
      registers = s.registers;
      issued = s.issued;
    }

-- Store buffers
abbrev pub blank_waiting : Waiting
blank_waiting = record { entry = Store (record { location = record { 0 = 0 }; word = 0 }) }

abbrev pub buffer_len : State → ℕ → ℕ
buffer_len s t = get_or s.waiting t 0

unfoldable pub buffer_in : List Waiting → List ℕ → ℕ → List Waiting
buffer_in buffers waiting t = part (t * most_instructions) (get_or waiting t 0) buffers

abbrev pub buffer : State → ℕ → List Waiting
buffer s t = buffer_in s.buffers s.waiting t

unfoldable pub with_buffer : State → ℕ → List Waiting → State
with_buffer s t b =
    record {
      words = s.words;
      held = s.held;
      marks = s.marks;
      lengths = s.lengths;
      buffers = put blank_waiting (t * most_instructions) (buffer_len s t) b s.buffers;
      waiting = set s.waiting t (length b);
      registers = s.registers;
      issued = s.issued;
    }

-- Persistent words, registers, issued counts
abbrev pub word_of : State → ℕ → ℕ
word_of s l = get_or s.words l 0

unfoldable pub with_word : State → ℕ → ℕ → State
with_word s l w =
    record {
      words = set s.words l w;
      held = s.held;
      marks = s.marks;
      lengths = s.lengths;
      buffers = s.buffers;
      waiting = s.waiting;
      registers = s.registers;
      issued = s.issued;
    }

abbrev pub register_in : List ℕ → ℕ → ℕ → ℕ
register_in registers t r = get_or registers (t * most_registers + r) 0

unfoldable pub with_register : State → ℕ → ℕ → ℕ → State
with_register s t r w =
    record {
      words = s.words;
      held = s.held;
      marks = s.marks;
      lengths = s.lengths;
      buffers = s.buffers;
      waiting = s.waiting;
      registers = set s.registers (t * most_registers + r) w;
      issued = s.issued;
    }

abbrev pub issued_of : State → ℕ → ℕ
issued_of s t = get_or s.issued t 0

unfoldable pub with_issued : State → ℕ → ℕ → State
with_issued s t n =
    record {
      words = s.words;
      held = s.held;
      marks = s.marks;
      lengths = s.lengths;
      buffers = s.buffers;
      waiting = s.waiting;
      registers = s.registers;
      issued = set s.issued t n;
    }
