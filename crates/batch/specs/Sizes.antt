-- The sizes of the frames and lines of docs/FRAMES.md. src/ has the same numbers for the code.
--   most_room     the most bytes that are lent, or printed at once
--   state_bytes   a state: words, held, marks, lengths, buffers, waiting, registers, issued
-- Assumes nothing.
use Rattle.std.specs.Prelude.{ℕ, ◌+◌, ◌*◌}
use Rattle.cases.specs.Sizes.{most_threads, most_locations, all_code}
use Rattle.machine.specs.Sizes.{all_slots, all_registers}

abbrev pub most_room : ℕ
most_room = 8192

abbrev pub state_bytes : ℕ
state_bytes =
    4 * most_locations + 4 * all_slots + all_slots + most_locations + 6 * all_code
    + most_threads + 4 * all_registers + most_threads
