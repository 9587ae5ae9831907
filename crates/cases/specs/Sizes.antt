-- Document 01, "Sizes", and 02, P6: "Sixteen instructions a thread, sixteen locations, 192 step records." The most of
-- each thing; src/sizes.rt has the same numbers for the code.
--   most_threads, most_locations, most_steps        of a case
--   most_instructions, most_registers              of a thread
--   all_code         all threads' instructions
--   step_size        a step's record, head and payload
--   short_record     the longest record but the program's: an instruction's
--   longest_record   the longest record: the program's, with a line byte for each location
--   longest          the longest file, in bytes: every seat of a file filled (Seats)
-- Assumes nothing.
use Rattle.std.specs.Prelude.{ℕ, ◌+◌, ◌*◌}

abbrev pub most_threads : ℕ
most_threads = 4

abbrev pub most_instructions : ℕ
most_instructions = 16

abbrev pub most_locations : ℕ
most_locations = 16

abbrev pub most_registers : ℕ
most_registers = 4

abbrev pub most_steps : ℕ
most_steps = 192

-- all threads' instructions, one thread's behind the other's
abbrev pub all_code : ℕ
all_code = most_threads * most_instructions

abbrev pub step_size : ℕ
step_size = 8

abbrev pub short_record : ℕ
short_record = 12

abbrev pub longest_record : ℕ
longest_record = 8 + most_locations

-- the program; first contents; instructions; wants; passed counts; steps
abbrev pub longest : ℕ
longest =
    longest_record + 9 * most_locations + short_record * all_code + 9 * most_locations + 6 * most_threads
    + step_size * most_steps
