-- The sizes that follow from document 01's "Sizes" and from refusal 33. src/sizes.rt has the same numbers for
-- the code.
--   room             the most entries of a queue: every instruction of every thread
--   all_slots        all queues' slots, one queue's behind the other's
--   all_registers    all threads' registers, one thread's behind the other's
--   most_candidates  the steps that a state can have next
--   kind_ranks       the ranks that a kind of step takes up in the order of steps
--   most_work        the most that a program's instructions weigh: 3 each
--   first_marker     the least mark of a marker; below it a mark is a write's location
-- Assumes nothing.
use Rattle.std.specs.Prelude.{ℕ, ◌+◌, ◌*◌}
use Rattle.cases.specs.Sizes.{most_threads, most_locations, most_registers, all_code}

abbrev pub room : ℕ
room = all_code

abbrev pub all_slots : ℕ
all_slots = most_locations * room

abbrev pub all_registers : ℕ
all_registers = most_threads * most_registers

abbrev pub most_candidates : ℕ
most_candidates = most_threads + all_code + most_locations

abbrev pub kind_ranks : ℕ
kind_ranks = all_code + most_locations

abbrev pub most_work : ℕ
most_work = 3 * all_code

abbrev pub first_marker : ℕ
first_marker = 128
