-- Document 01, "Refusal numbers": what is wrong with a record that opens, after the records before it.
-- "Within a record the checks go in the order 1 (head), 2, 3, 1 (payload), 4, 5, 8, 6, 7, 9." Number 5 looks
-- only at fields that are used; an unused field is a matter for 8. Document 02, P3, of kind 1: "then the cut
-- test, 4, the ranges of version, threads and locations (5), 3 again for a length not that version's and
-- count's, and 8 for line numbers out of order." P8, of kind 3: 10, "checked after 7".
--   kind_rank         where a kind stands in the order of kinds
--   misplaced         4
--   header_out, instruction_out, passed_out, step_out
--                     5: something that a record of that kind names is out of range
--   mislisted         3, of kind 1: the number of line bytes is not that version's and count's
--   instruction_left, step_left
--                     8: a field left over that is not used
--   disordered        6
--   unset             10: a store of a register, or a compare, whose register no earlier instruction sets
--   uses_location, uses_register, uses_word
--                     which fields an operation uses
--   needs_register, sets_register
--                     an operation needs a word in its register; it sets its register
--   no_instruction    what stands in an array where the case has nothing
--   count_at p t      how many instructions thread t of the program p has
--   instruction_at p t i   its instruction i
--   set_by r x        the instruction x sets register r
--   set_before p t r n   one of the first n instructions of thread t does
--   lines_of p        how many lines the program p has, each with its queue
--   Limits, limits_of p
--                     what a step may name, and what a step of the program p may
--   fault_of d r      0, or the number of the first fault of record r behind the draft d
-- Assumes nothing.
use Rattle.std.specs.Prelude.{ℕ, zero, suc, ◌+◌, ◌*◌, Bool, false, not, get_or, eqb, leb, ltb}
use Rattle.cases.specs.declared.case.Thread.{Thread}
use Rattle.cases.specs.declared.case.Instruction.{Instruction}
use Rattle.cases.specs.declared.case.Step.{Step}
use Rattle.cases.specs.declared.case.Program.{Program}
use Rattle.cases.specs.declared.draft.Draft.{Draft}
use Rattle.cases.specs.declared.record.Header.{Header}
use Rattle.cases.specs.declared.record.Record.{Record}
use Rattle.cases.specs.declared.record.Record.TheVariants.{Declare, First, Instruct, Want, Passed, Take}
use Rattle.cases.specs.Sizes.{most_threads, most_instructions, most_locations, most_registers, most_steps}
use Rattle.cases.specs.Operations.{store_word, store_register, load, exchange, flush_opt, compare}
use Rattle.cases.specs.Operations.{last_operation, move, persist, last_code}
use Rattle.cases.specs.Choice.{pick, both, either, refuse}
use Rattle.cases.specs.Lines.{last_version, listed_of, unordered}
use Rattle.cases.specs.Record.{line_bytes}

-- where a kind stands in the order of kinds: by its number
unfoldable pub kind_rank : ℕ → ℕ
kind_rank kind = kind

-- "Exactly one kind 1, first; afterwards kinds never go down." Where nothing stands before, that kind is 0.
unfoldable pub misplaced : ℕ → ℕ → Bool
misplaced before kind =
    pick (eqb before 0) (not (eqb kind 1))
    (either (eqb kind 1) (ltb (kind_rank kind) (kind_rank before)))

-- "Kinds 2 and 4 have locations strictly rising, kind 5 threads strictly rising, kind 3 threads never falling":
-- the draft has the least number that may come next in its kind.
unfoldable pub disordered : Draft → ℕ → ℕ → Bool
disordered d kind n = both (eqb d.kind kind) (ltb n d.next)

-- not from 1 to the most
unfoldable pub outside : ℕ → ℕ → Bool
outside x most = either (ltb x 1) (ltb most x)

-- a used field that names what is not there
unfoldable pub beyond : Bool → ℕ → ℕ → Bool
beyond used x limit = both used (leb limit x)

-- an unused field that is not 0
unfoldable pub left_over : Bool → ℕ → Bool
left_over used x = both (not used) (not (eqb x 0))

unfoldable pub header_out : Header → Bool
header_out h =
    either (outside h.version last_version)
    (either (outside h.threads most_threads)
    (outside h.locations most_locations))

unfoldable pub mislisted : Header → Bool
mislisted h = not (eqb h.listed (listed_of h.version h.locations))

-- "Operations (fields used): 1 store word (location, word); 2 store register (location, register); 3 load
-- (location, register); 4 exchange (location, register, word); 5 flush (location); 6 flush-opt (location);
-- 7 sfence; 8 mfence." With P5: "Operation 9: location, register, word."
unfoldable pub uses_location : ℕ → Bool
uses_location op = either (eqb op compare) (leb op flush_opt)

unfoldable pub uses_register : ℕ → Bool
uses_register op = either (eqb op compare) (both (leb store_register op) (leb op exchange))

unfoldable pub uses_word : ℕ → Bool
uses_word op = either (eqb op compare) (either (eqb op store_word) (eqb op exchange))

unfoldable pub instruction_out : Program → Thread → Instruction → Bool
instruction_out p t x =
    either (leb p.threads t.0)
    (either (outside x.operation last_operation)
    (either (beyond (uses_location x.operation) x.location.0 p.locations)
    (beyond (uses_register x.operation) x.register.0 most_registers)))

unfoldable pub instruction_left : Instruction → Bool
instruction_left x =
    either (left_over (uses_location x.operation) x.location.0)
    (either (left_over (uses_register x.operation) x.register.0)
    (left_over (uses_word x.operation) x.word))

abbrev pub no_instruction : Instruction
no_instruction = record { operation = 0; location = record { 0 = 0 }; register = record { 0 = 0 }; word = 0 }

-- how many instructions thread t has
abbrev pub count_at : Program → ℕ → ℕ
count_at p t = get_or p.counts t 0

-- instruction i of thread t stands at t * most_instructions + i
abbrev pub instruction_at : Program → ℕ → ℕ → Instruction
instruction_at p t i = get_or p.code (t * most_instructions + i) no_instruction

-- Document 02, P8: "A store from a register that no earlier load, exchange or compare of that thread has written
-- was a typing slip in every case we saw, and a compare on such a register too." What a load, an exchange or a
-- compare writes, it sets.
unfoldable pub needs_register : ℕ → Bool
needs_register op = either (eqb op store_register) (eqb op compare)

unfoldable pub sets_register : ℕ → Bool
sets_register op = either (eqb op load) (either (eqb op exchange) (eqb op compare))

unfoldable pub set_by : ℕ → Instruction → Bool
set_by r x = both (sets_register x.operation) (eqb x.register.0 r)

unfoldable pub set_before : Program → ℕ → ℕ → ℕ → Bool
set_before p t r zero = false
set_before p t r (suc n) = either (set_by r (instruction_at p t n)) (set_before p t r n)

-- the instructions so far are the earlier ones: a compare's own write comes too late for its own test
unfoldable pub unset : Program → Thread → Instruction → Bool
unset p t x = both (needs_register x.operation) (not (set_before p t.0 x.register.0 (count_at p t.0)))

unfoldable pub passed_out : Program → Thread → ℕ → Bool
passed_out p t n = either (leb p.threads t.0) (ltb (count_at p t.0) n)

-- how many lines a program has: one queue for each
unfoldable pub lines_of : Program → ℕ
lines_of p = p.lines

-- what a step may name: so many threads, so many lines
pub record Limits : Type 0 where
  pub threads : ℕ
  pub lines : ℕ

abbrev pub limits_of : Program → Limits
limits_of p = record { threads = p.threads; lines = lines_of p }

-- "Step codes: 0 issue (thread); 1 move (thread, position ..); 2 persist (location)." P6: "Position goes to 15", a
-- thread's most instructions less one. A persist names a queue, by its number.
unfoldable pub step_out : Limits → Step → Bool
step_out limits k =
    either (ltb last_code k.code)
    (either (beyond (leb k.code move) k.thread.0 limits.threads)
    (either (beyond (eqb k.code move) k.position most_instructions)
    (beyond (eqb k.code persist) k.location.0 limits.lines)))

unfoldable pub step_left : Step → Bool
step_left k =
    either (left_over (leb k.code move) k.thread.0)
    (either (left_over (eqb k.code move) k.position)
    (left_over (eqb k.code persist) k.location.0))

-- 5 and 8 of a step, as for a kind 6 record
unfoldable pub step_fault : Limits → Step → ℕ
step_fault limits k = refuse (step_out limits k) 5 (refuse (step_left k) 8 0)

unfoldable pub fault_of : Draft → Record → ℕ
fault_of d (Declare h) =
    refuse (misplaced d.kind 1) 4
    (refuse (header_out h) 5
    (refuse (mislisted h) 3
    (refuse (unordered 0 (line_bytes h)) 8 0)))
fault_of d (First w) =
    refuse (misplaced d.kind 2) 4
    (refuse (leb d.case.program.locations w.location.0) 5
    (refuse (eqb w.word 0) 8
    (refuse (disordered d 2 w.location.0) 6 0)))
fault_of d (Instruct t x) =
    refuse (misplaced d.kind 3) 4
    (refuse (instruction_out d.case.program t x) 5
    (refuse (instruction_left x) 8
    (refuse (disordered d 3 t.0) 6
    (refuse (leb most_instructions (count_at d.case.program t.0)) 7
    (refuse (unset d.case.program t x) 10 0)))))
fault_of d (Want w) =
    refuse (misplaced d.kind 4) 4
    (refuse (leb d.case.program.locations w.location.0) 5
    (refuse (disordered d 4 w.location.0) 6 0))
fault_of d (Passed t n) =
    refuse (misplaced d.kind 5) 4
    (refuse (passed_out d.case.program t n) 5
    (refuse (eqb n 0) 8
    (refuse (disordered d 5 t.0) 6 0)))
fault_of d (Take k) =
    refuse (misplaced d.kind 6) 4
    (refuse (step_out (limits_of d.case.program) k) 5
    (refuse (step_left k) 8
    (refuse (leb most_steps d.case.run.count) 9 0)))
