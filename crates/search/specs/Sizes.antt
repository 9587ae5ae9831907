-- The sizes of the search's own state, the lanes; src/sizes.rt has the same numbers for the code.
--   most_lanes       the most lanes of a state: all that a program's threads and locations have, and an entry for
--                    each instruction
--   counts_at, lines_at, codes_at   where the counts, the lines and the instructions stand in a listing
--   all_listing      the numbers of a listing
--   flush_tag, flush_opt_tag, sfence_tag   the least tag of each kind of entry behind the stores
--   state_words      the lent words that a state takes in a walk that remembers: 768 bytes
--   record_words     those of its record; one more is the head of a bucket
-- Assumes nothing.
use Rattle.std.specs.Prelude.{ℕ, ◌+◌, ◌*◌}
use Rattle.cases.specs.Sizes.{most_threads, most_locations, most_registers, all_code}

abbrev pub most_lanes : ℕ
most_lanes = most_threads * (2 + most_registers) + 2 * most_locations + 2 * all_code

abbrev pub counts_at : ℕ
counts_at = 3

abbrev pub lines_at : ℕ
lines_at = counts_at + most_threads

abbrev pub codes_at : ℕ
codes_at = lines_at + most_locations

abbrev pub all_listing : ℕ
all_listing = codes_at + 4 * all_code

-- a store's tag is its location; a location is below 256
abbrev pub flush_tag : ℕ
flush_tag = 256

abbrev pub flush_opt_tag : ℕ
flush_opt_tag = 512

abbrev pub sfence_tag : ℕ
sfence_tag = 768

-- part of the answers: "a size per state fixed in docs/ (at most 4,096 bytes)"
abbrev pub state_words : ℕ
state_words = 192

abbrev pub record_words : ℕ
record_words = 191
