-- Document 01, "The machine's steps": for each step the rule it breaks, 0 where it is legal, and what it does.
-- A rule looks at the parts of a state that rules look at (Parts) and at no other; what a legal step does is
-- said apart.
--   rule_number r              01's number of a rule
--   broken x                   that of the rule which a test of the code says is broken; 0 where it says that none is
--   enqueue s q h, await       the state with one more at a queue's end, at a buffer's end
--   is_barrier op              exchange, compare and mfence
--   operation_rule             the rule against issuing an operation: 22, 23
--   issue_rule, issue_of       issue: 21, 22, 23
--   matches p s t x            the word that the compare x of thread t reads is the one in its register: it succeeds
--   fails p s t x              x is a compare, and does not
--   fetched, exchanged, compared   the register takes the word read; what an exchange does; what a compare does
--   entry_at b i               the entry at position i of the buffer b
--   move_rule, move_of         move: 24, 25, 26, then 27 or 28
--   effect_rule, effect_of     what an entry does as it takes effect: 27, 28. It is already out of its buffer, so
--                              that a machine without buffers can use these two.
--   persist_rule, persist_of   persist: 29; persist_first: of the entries of a queue; settled: what one entry does
--   rule_in, rule_of p s k     a step's rule by its code, over the parts that rules look at, in a state
--   next_of p s k              what a legal step does, by its code
--   start_of p                 where a run starts
-- Assumes nothing.
use Rattle.std.specs.Prelude.{ℕ, ◌+◌, Bool, not, Result, Ok, Err, List, [], ◌∷◌, ◌++◌, get_or, take, replicate, eqb, leb, ltb}
use Rattle.cases.specs.declared.case.Instruction.{Instruction}
use Rattle.cases.specs.declared.case.Step.{Step}
use Rattle.cases.specs.declared.case.Program.{Program}
use Rattle.cases.specs.Choice.{pick, both, either, refuse}
use Rattle.cases.specs.Sizes.{most_threads, most_locations, all_code}
use Rattle.cases.specs.Operations.{store_word, store_register, load, exchange, flush, flush_opt, mfence, compare}
use Rattle.cases.specs.Operations.{issue, move}
use Rattle.cases.specs.Checks.{count_at, instruction_at}
use Rattle.machine.specs.declared.cells.State.{State}
use Rattle.machine.specs.declared.cells.Waiting.{Waiting}
use Rattle.machine.specs.declared.cells.Entry.{Entry}
use Rattle.machine.specs.declared.cells.Entry.TheVariants.{Store, Flush, FlushOpt, Sfence}
use Rattle.machine.specs.declared.rule.Rule.{Rule}
use Rattle.machine.specs.declared.rule.Rule.TheVariants.{NothingToIssue, BufferNotEmpty, MarkerQueued, NothingThere}
use Rattle.machine.specs.declared.rule.Rule.TheVariants.{OnlyFlushOpt, HeldBack, LineNotEmpty, MarkerBeforeSfence}
use Rattle.machine.specs.declared.rule.Rule.TheVariants.{NothingQueued}
use Rattle.machine.specs.Sizes.{all_slots, all_registers, first_marker}
use Rattle.machine.specs.View.{Slot, line_of, write_slot, marker_slot, without, queue, with_queue}
use Rattle.machine.specs.View.{blank_waiting, buffer_in, buffer, with_buffer, with_word, register_in}
use Rattle.machine.specs.View.{with_register, issued_of, with_issued}
use Rattle.machine.specs.Parts.{Parts, parts_of}
use Rattle.machine.specs.Look.{queued_word, load_of, marked, first_bar}

-- the numbers that 01 gives its rules, each quoted below where it is said
abbrev pub rule_number : Rule → ℕ
rule_number NothingToIssue = 21
rule_number BufferNotEmpty = 22
rule_number MarkerQueued = 23
rule_number NothingThere = 24
rule_number OnlyFlushOpt = 25
rule_number HeldBack = 26
rule_number LineNotEmpty = 27
rule_number MarkerBeforeSfence = 28
rule_number NothingQueued = 29

abbrev pub broken : Result (Unit {0}) Rule → ℕ
broken (Ok u) = 0
broken (Err r) = rule_number r

unfoldable pub enqueue : State → ℕ → Slot → State
enqueue s q h = with_queue s q (queue s q ++ (h ∷ []))

unfoldable pub await : State → ℕ → Entry → State
await s t e = with_buffer s t (buffer s t ++ (record { entry = e } ∷ []))

-- "Exchange and mfence need the own buffer empty (else 22), then no marker of that thread in any queue (else
-- 23)." A compare too, and "Rules 22 and 23 apply to failures too": whether it succeeds is not asked.
unfoldable pub barrier_rule : Parts → ℕ → ℕ
barrier_rule x t =
    refuse (ltb 0 (get_or x.waiting t 0)) 22
    (refuse (marked x.marks x.lengths t) 23 0)

unfoldable pub is_barrier : ℕ → Bool
is_barrier op = either (eqb op exchange) (either (eqb op compare) (eqb op mfence))

unfoldable pub operation_rule : ℕ → Parts → ℕ → ℕ
operation_rule op x t = pick (is_barrier op) (barrier_rule x t) 0

-- "Issue takes the thread's next instruction (none left: 21)."
unfoldable pub issue_rule : Program → Parts → ℕ → ℕ
issue_rule p x t =
    refuse (leb (count_at p t) (get_or x.issued t 0)) 21
    (operation_rule (instruction_at p t (get_or x.issued t 0)).operation x t)

-- "Stores fix their word now; stores, flushes, flush-opts and sfences join the end of the thread's buffer."
unfoldable pub entry_of : List ℕ → ℕ → Instruction → Entry
entry_of registers t x =
    pick (eqb x.operation store_word) (Store (record { location = x.location; word = x.word }))
    (pick (eqb x.operation store_register)
    (Store (record { location = x.location; word = register_in registers t x.register.0 }))
    (pick (eqb x.operation flush) (Flush x.location)
    (pick (eqb x.operation flush_opt) (FlushOpt x.location)
    Sfence)))

-- a load's register takes the word that the load finds
unfoldable pub loaded : Program → State → ℕ → Instruction → State
loaded p s t x = with_register s t x.register.0 (load_of p s t x.location.0)

-- "Exchange reads queue or memory": the register takes the word read
unfoldable pub fetched : Program → State → ℕ → Instruction → State
fetched p s t x = with_register s t x.register.0 (queued_word p s x.location.0)

-- "and puts its write at the queue's end." "the register takes the old one"
unfoldable pub exchanged : Program → State → ℕ → Instruction → State
exchanged p s t x =
    enqueue (fetched p s t x) (line_of p x.location.0) (write_slot x.location.0 x.word)

-- Document 02, P5: "If the word read equals the register, the new word is written; the register takes the word
-- read either way."
unfoldable pub matches : Program → State → ℕ → Instruction → Bool
matches p s t x = eqb (queued_word p s x.location.0) (register_in s.registers t x.register.0)

unfoldable pub compared : Program → State → ℕ → Instruction → State
compared p s t x = pick (matches p s t x) (exchanged p s t x) (fetched p s t x)

-- "a failed compare"
unfoldable pub fails : Program → State → ℕ → Instruction → Bool
fails p s t x = both (eqb x.operation compare) (not (matches p s t x))

-- what an instruction does as it is issued: load, exchange, compare and mfence are done with it; the others wait
unfoldable pub performed : Program → State → ℕ → Instruction → State
performed p s t x =
    pick (eqb x.operation load) (loaded p s t x)
    (pick (eqb x.operation exchange) (exchanged p s t x)
    (pick (eqb x.operation compare) (compared p s t x)
    (pick (eqb x.operation mfence) s
    (await s t (entry_of s.registers t x)))))

unfoldable pub issue_of : Program → State → ℕ → State
issue_of p s t =
    performed p (with_issued s t (issued_of s t + 1)) t (instruction_at p t (issued_of s t))

-- "A flush leaves only if its location's queue is empty, markers counted (else 27)": its line's. "An sfence
-- leaves only if no queue holds a marker of that thread (else 28)."
unfoldable pub effect_rule : Program → Parts → ℕ → Entry → ℕ
effect_rule p x t (Store w) = 0
effect_rule p x t (Flush l) = refuse (ltb 0 (get_or x.lengths (line_of p l.0) 0)) 27 0
effect_rule p x t (FlushOpt l) = 0
effect_rule p x t Sfence = refuse (marked x.marks x.lengths t) 28 0

-- "A store becomes a write at its queue's end." "A flush-opt becomes a marker at its queue's end."
unfoldable pub effect_of : Program → State → ℕ → Entry → State
effect_of p s t (Store w) = enqueue s (line_of p w.location.0) (write_slot w.location.0 w.word)
effect_of p s t (Flush l) = s
effect_of p s t (FlushOpt l) = enqueue s (line_of p l.0) (marker_slot t)
effect_of p s t Sfence = s

-- "Behind position 0 only a flush-opt may go (else 25), and only if no entry before it is a store or flush of
-- its location or an sfence (else 26)." What a flush-opt does as it takes effect is always legal.
unfoldable pub pass_rule : Program → List Waiting → ℕ → Entry → ℕ
pass_rule p b i (Store w) = 25
pass_rule p b i (Flush l) = 25
pass_rule p b i (FlushOpt l) = refuse (ltb (first_bar p (line_of p l.0) (take i b)) i) 26 0
pass_rule p b i Sfence = 25

abbrev pub entry_at : List Waiting → ℕ → Entry
entry_at b i = (get_or b i blank_waiting).entry

-- "Move takes the entry at a position of the buffer (none: 24)."
unfoldable pub move_rule : Program → Parts → ℕ → ℕ → ℕ
move_rule p x t i =
    refuse (leb (get_or x.waiting t 0) i) 24
    (pick (eqb i 0)
    (effect_rule p x t (entry_at (buffer_in x.buffers x.waiting t) i))
    (pass_rule p (buffer_in x.buffers x.waiting t) i (entry_at (buffer_in x.buffers x.waiting t) i)))

unfoldable pub move_of : Program → State → ℕ → ℕ → State
move_of p s t i = effect_of p (with_buffer s t (without i (buffer s t))) t (entry_at (buffer s t) i)

-- "Persist takes the oldest entry of a location's queue (empty: 29). A write goes to the persistent word; a
-- marker vanishes." It "names a line", and takes the oldest of its queue.
unfoldable pub persist_rule : Parts → ℕ → ℕ
persist_rule x q = refuse (eqb (get_or x.lengths q 0) 0) 29 0

unfoldable pub settled : State → Slot → State
settled s h = pick (ltb h.mark first_marker) (with_word s h.mark h.word) s

unfoldable pub persist_first : State → ℕ → List Slot → State
persist_first s q [] = s
persist_first s q (h ∷ rest) = with_queue (settled s h) q rest

unfoldable pub persist_of : State → ℕ → State
persist_of s q = persist_first s q (queue s q)

-- "Step codes: 0 issue (thread); 1 move (thread, position ..); 2 persist (location)."
unfoldable pub rule_in : Program → Parts → Step → ℕ
rule_in p x k =
    pick (eqb k.code issue) (issue_rule p x k.thread.0)
    (pick (eqb k.code move) (move_rule p x k.thread.0 k.position)
    (persist_rule x k.location.0))

unfoldable pub rule_of : Program → State → Step → ℕ
rule_of p s k = rule_in p (parts_of s) k

unfoldable pub next_of : Program → State → Step → State
next_of p s k =
    pick (eqb k.code issue) (issue_of p s k.thread.0)
    (pick (eqb k.code move) (move_of p s k.thread.0 k.position)
    (persist_of s k.location.0))

-- "a run starts from the first contents, nothing queued, waiting or issued"
unfoldable pub start_of : Program → State
start_of p =
    record {
      words = p.first;
      held = replicate all_slots 0;
      marks = replicate all_slots 0;
      lengths = replicate most_locations 0;
      buffers = replicate all_code blank_waiting;
      waiting = replicate most_threads 0;
      registers = replicate all_registers 0;
      issued = replicate most_threads 0;
    }
