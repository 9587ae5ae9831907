-- Document 01, refusal 33: "a machine state in memory that doesn't fit its case". The test is the one truth;
-- the record of facts is what proofs use of it (`fits_exactly` in proofs/Promises.antt ties the two).
--   sum_to n f       the sum of f below n
--   any_from i n f   f is true of one of the n numbers from i on
--   any_of f xs      f is true of one on the list xs
--   AllOf P xs       P holds of each on it
--   due p s          all entries in store buffers and all unissued instructions
--   together p s     and all entries in queues; instructions_of p: how many instructions the program has
--   strays, strayed  an entry names a location that the program lacks; one that waits does
--   foreign p q m    the mark m does not belong in queue q: its location or thread the program lacks, or the
--                    location is of another line
--   misfits p s      the test: 33 where it is true
--   Fits p s         the facts: the program's numbers are in range, and the state fits it
--   Named, NamedBy   an entry, or one that waits, names a location that it has
--   Borne p q m      the mark m belongs in queue q
--   Issuable p s t x what the instruction x of thread t asks for as it is issued
--   Shallow, Roomy   no queue is longer than its room; none is full
-- Assumes nothing.
use Rattle.std.specs.Prelude.{ℕ, zero, suc, ◌+◌, ◌-◌, ◌<◌, ◌≤◌, ◌≡◌, ◌⊎◌, Bool, false, not, List, [], ◌∷◌, length, get_or, eqb, leb, ltb}
use Rattle.cases.specs.declared.case.Program.{Program}
use Rattle.cases.specs.declared.case.Instruction.{Instruction}
use Rattle.cases.specs.Choice.{pick, both, either}
use Rattle.cases.specs.Sizes.{most_threads, most_instructions, most_locations, most_registers, all_code}
use Rattle.cases.specs.Ranges.{ProgramFits}
use Rattle.cases.specs.Checks.{count_at, lines_of}
use Rattle.machine.specs.declared.cells.State.{State}
use Rattle.machine.specs.declared.cells.Waiting.{Waiting}
use Rattle.machine.specs.declared.cells.Entry.{Entry}
use Rattle.machine.specs.declared.cells.Entry.TheVariants.{Store, Flush, FlushOpt, Sfence}
use Rattle.machine.specs.Sizes.{room, all_slots, all_registers, first_marker}
use Rattle.machine.specs.View.{mark_of, line_of, queue_len, marks_in, buffer, buffer_len, issued_of}

unfoldable pub sum_to : ℕ → (ℕ → ℕ) → ℕ
sum_to zero f = 0
sum_to (suc n) f = f n + sum_to n f

unfoldable pub any_from : ℕ → ℕ → (ℕ → Bool) → Bool
any_from i zero f = false
any_from i (suc n) f = either (f i) (any_from (suc i) n f)

unfoldable pub any_of : {A : Type 0} → (A → Bool) → List A → Bool
any_of f [] = false
any_of f (x ∷ xs) = either (f x) (any_of f xs)

unfoldable pub AllOf : {A : Type 0} → (A → Type 0) → List A → Type 0
AllOf P [] = Unit {0}
AllOf P (x ∷ xs) = P x × AllOf P xs

-- an entry "names .. a location the program lacks"; sfence names none
unfoldable pub strays : ℕ → Entry → Bool
strays locations (Store w) = leb locations w.location.0
strays locations (Flush l) = leb locations l.0
strays locations (FlushOpt l) = leb locations l.0
strays locations Sfence = false

abbrev pub strayed : ℕ → Waiting → Bool
strayed locations w = strays locations w.entry

-- a thread's instructions that are not issued yet
unfoldable pub unissued : Program → State → ℕ → ℕ
unissued p s t = count_at p t - issued_of s t

-- "all entries in store buffers plus all unissued instructions"
unfoldable pub due : Program → State → ℕ
due p s = sum_to most_threads (buffer_len s) + sum_to most_threads (unissued p s)

-- the entries of every queue too
unfoldable pub together : Program → State → ℕ
together p s = sum_to most_locations (queue_len s) + due p s

-- how many instructions a program has
unfoldable pub instructions_of : Program → ℕ
instructions_of p = sum_to most_threads (count_at p)

-- "more issued than the thread has"; an entry "that stands in the buffer .. of .. a thread .. the program
-- lacks"; "a store buffer's entries plus that thread's unissued instructions above 8", with P6 16
unfoldable pub thread_misfits : Program → State → ℕ → Bool
thread_misfits p s t =
    either (ltb (count_at p t) (issued_of s t))
    (either (both (leb p.threads t) (ltb 0 (buffer_len s t)))
    (either (ltb most_instructions (buffer_len s t + unissued p s t))
    (any_of (strayed p.locations) (buffer s t))))

-- a marker names "a thread .. the program lacks"; a write "a location the program lacks", or is "of another line"
unfoldable pub foreign : Program → ℕ → ℕ → Bool
foreign p q m =
    pick (ltb m first_marker) (either (leb p.locations m) (not (eqb (line_of p m) q)))
    (leb (mark_of p.threads) m)

-- "any entry in the queue of a line the program lacks"; "a queue's entries plus all entries in store buffers plus
-- all unissued instructions above 32", with P6 64; an entry that does not belong there
unfoldable pub queue_misfits : Program → State → ℕ → Bool
queue_misfits p s q =
    either (both (leb (lines_of p) q) (ltb 0 (queue_len s q)))
    (either (ltb room (queue_len s q + due p s))
    (any_of (foreign p q) (marks_in s.marks s.lengths q)))

unfoldable pub misfits : Program → State → Bool
misfits p s =
    either (any_from 0 most_threads (thread_misfits p s))
    (any_from 0 most_locations (queue_misfits p s))

-- The same as facts. The arrays are as long as their types say, which a list alone doesn't.
pub record Sized (s : State) : Type 0 where
  pub words_long : length s.words ≡ most_locations
  pub held_long : length s.held ≡ all_slots
  pub marks_long : length s.marks ≡ all_slots
  pub lengths_long : length s.lengths ≡ most_locations
  pub buffers_long : length s.buffers ≡ all_code
  pub waiting_long : length s.waiting ≡ most_threads
  pub registers_long : length s.registers ≡ all_registers
  pub issued_long : length s.issued ≡ most_threads

unfoldable pub Named : ℕ → Entry → Type 0
Named locations (Store w) = w.location.0 < locations
Named locations (Flush l) = l.0 < locations
Named locations (FlushOpt l) = l.0 < locations
Named locations Sfence = Unit {0}

abbrev pub NamedBy : ℕ → Waiting → Type 0
NamedBy locations w = Named locations w.entry

abbrev pub Borne : Program → ℕ → ℕ → Type 0
Borne p q m =
    ((m < p.locations) × (line_of p m ≡ q)) ⊎ ((first_marker ≤ m) × (m < mark_of p.threads))

pub record Fits (p : Program) (s : State) : Type 0 where
  pub program : ProgramFits p
  pub sized : Sized s
  pub few_issued : (t : ℕ) → t < most_threads → issued_of s t ≤ count_at p t
  pub few_waiting : (t : ℕ) → t < most_threads → buffer_len s t + unissued p s t ≤ most_instructions
  pub few_queued : (q : ℕ) → q < most_locations → queue_len s q + due p s ≤ room
  pub no_buffer : (t : ℕ) → t < most_threads → p.threads ≤ t → buffer_len s t ≡ 0
  pub no_queue : (q : ℕ) → q < most_locations → lines_of p ≤ q → queue_len s q ≡ 0
  pub named : (t : ℕ) → t < most_threads → AllOf (NamedBy p.locations) (buffer s t)
  pub borne : (q : ℕ) → q < most_locations → AllOf (Borne p q) (marks_in s.marks s.lengths q)

-- What the machine's parts ask for of a state, as each needs it.
-- an instruction as it is issued: its thread, location, register and line are ones that there may be, and its line's
-- queue and its thread's buffer have room for an entry; one record for all, though a load puts nothing there
pub record Issuable (p : Program) (s : State) (t : ℕ) (x : Instruction) : Type 0 where
  pub low_thread : t < most_threads
  pub low_location : x.location.0 < most_locations
  pub low_register : x.register.0 < most_registers
  pub low_line : line_of p x.location.0 < most_locations
  pub queue_room : queue_len s (line_of p x.location.0) < room
  pub buffer_room : buffer_len s t < most_instructions

-- no queue is longer than its room
unfoldable pub Shallow : List ℕ → Type 0
Shallow lengths = (q : ℕ) → q < most_locations → get_or lengths q 0 ≤ room

-- no queue is full
unfoldable pub Roomy : State → Type 0
Roomy s = (q : ℕ) → q < most_locations → queue_len s q < room
