-- Document 01, "The machine's steps", seen as lists: what a step puts at the end of a store buffer or of a
-- queue, and into a register.
--   joins registers t x   what instruction x of thread t puts at the end of its buffer as it is issued
--   swaps p s t x         it writes at once, in the state s: an exchange, or a compare that succeeds
--   exchanges p s t q x   what it puts at the end of queue q then
--   enters p t q e        what the entry e of thread t puts at the end of queue q as it moves
--   taken_by p s t x      the word that its register takes, where it sets one
-- And as words on their way to a location, whichever queue they go through:
--   only_if b w           the word w, or none
--   writes_of l q         the words of the writes of location l in the queue q, oldest first
--   store_of l e          the word that the entry e brings to location l
--   swap_of p s t l x     the word that instruction x of thread t puts straight on its way to location l
--   on_way p s l          the words on their way to location l, oldest first
--   last_or ws w          the last of the words ws, else w
-- Assumes nothing.
use Rattle.std.specs.Prelude.{ℕ, Bool, List, [], ◌∷◌, ◌++◌, eqb}
use Rattle.cases.specs.declared.case.Instruction.{Instruction}
use Rattle.cases.specs.declared.case.Program.{Program}
use Rattle.cases.specs.Operations.{load, exchange, compare}
use Rattle.cases.specs.Choice.{pick, both, either}
use Rattle.machine.specs.declared.cells.Waiting.{Waiting}
use Rattle.machine.specs.declared.cells.Entry.{Entry}
use Rattle.machine.specs.declared.cells.Entry.TheVariants.{Store, Flush, FlushOpt, Sfence}
use Rattle.machine.specs.declared.cells.State.{State}
use Rattle.machine.specs.View.{Slot, line_of, queue, write_slot, marker_slot}
use Rattle.machine.specs.Look.{queued_word, load_of}
use Rattle.machine.specs.Rules.{is_barrier, entry_of, matches}

-- "stores, flushes, flush-opts and sfences join the end of the thread's buffer": all but load, exchange,
-- compare and mfence
unfoldable pub joins : List ℕ → ℕ → Instruction → List Waiting
joins registers t x =
    pick (either (eqb x.operation load) (is_barrier x.operation)) []
    (record { entry = entry_of registers t x } ∷ [])

-- "Exchange .. puts its write at the queue's end." A compare: "If the word read equals the register".
unfoldable pub swaps : Program → State → ℕ → Instruction → Bool
swaps p s t x = either (eqb x.operation exchange) (both (eqb x.operation compare) (matches p s t x))

unfoldable pub exchanges : Program → State → ℕ → ℕ → Instruction → List Slot
exchanges p s t q x =
    pick (both (swaps p s t x) (eqb (line_of p x.location.0) q)) (write_slot x.location.0 x.word ∷ []) []

-- "A store becomes a write at its queue's end." "A flush-opt becomes a marker at its queue's end."
unfoldable pub enters : Program → ℕ → ℕ → Entry → List Slot
enters p t q (Store w) = pick (eqb (line_of p w.location.0) q) (write_slot w.location.0 w.word ∷ []) []
enters p t q (Flush m) = []
enters p t q (FlushOpt m) = pick (eqb (line_of p m.0) q) (marker_slot t ∷ []) []
enters p t q Sfence = []

-- a load what it finds; an exchange and a compare "the word read", from queue or memory
unfoldable pub taken_by : Program → State → ℕ → Instruction → ℕ
taken_by p s t x =
    pick (eqb x.operation load) (load_of p s t x.location.0) (queued_word p s x.location.0)

unfoldable pub only_if : Bool → ℕ → List ℕ
only_if b w = pick b (w ∷ []) []

unfoldable pub writes_of : ℕ → List Slot → List ℕ
writes_of l [] = []
writes_of l (h ∷ q) = only_if (eqb h.mark l) h.word ++ writes_of l q

unfoldable pub store_of : ℕ → Entry → List ℕ
store_of l (Store x) = only_if (eqb x.location.0 l) x.word
store_of l (Flush m) = []
store_of l (FlushOpt m) = []
store_of l Sfence = []

unfoldable pub swap_of : Program → State → ℕ → ℕ → Instruction → List ℕ
swap_of p s t l x = only_if (both (swaps p s t x) (eqb x.location.0 l)) x.word

unfoldable pub on_way : Program → State → ℕ → List ℕ
on_way p s l = writes_of l (queue s (line_of p l))

unfoldable pub last_or : List ℕ → ℕ → ℕ
last_or [] w = w
last_or (x ∷ xs) w = last_or xs x
