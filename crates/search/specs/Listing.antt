-- How the code keeps a program: as one list of numbers, its listing.
--   instruction_numbers   an instruction's four numbers
--   listing_of p    the listing of the program p: threads, lines and locations; the instructions of each thread;
--                   the line of each location; four numbers for each instruction
--   threads_in, lines_in, locations_in   of a listing: how many
--   count_in c t    how many instructions thread t has
--   line_in c l     the line of location l; 0 where there is no such location
--   code_at t i     where instruction i of thread t stands: its operation, location, register and word
--   ListingFits c   its numbers are no greater than those of a program that the machine can run
-- Assumes nothing.
use Rattle.std.specs.Prelude.{ℕ, ◌+◌, ◌*◌, ◌<◌, ◌≤◌, List, [], ◌∷◌, ◌++◌, get_or, leb}
use Rattle.cases.specs.declared.case.Instruction.{Instruction}
use Rattle.cases.specs.declared.case.Program.{Program}
use Rattle.cases.specs.Choice.{pick}
use Rattle.cases.specs.Checks.{no_instruction, lines_of}
use Rattle.cases.specs.Sizes.{most_threads, most_instructions, most_locations, most_registers, all_code}
use Rattle.search.specs.Sizes.{counts_at, lines_at, codes_at}
use Rattle.search.specs.Lanes.{join_to}

unfoldable pub instruction_numbers : List Instruction → ℕ → List ℕ
instruction_numbers code i =
    (get_or code i no_instruction).operation
    ∷ (get_or code i no_instruction).location.0
    ∷ (get_or code i no_instruction).register.0
    ∷ (get_or code i no_instruction).word
    ∷ []

unfoldable pub listing_of : Program → List ℕ
listing_of p =
    p.threads ∷ lines_of p ∷ p.locations ∷ (p.counts ++ (p.line ++ join_to all_code (instruction_numbers p.code)))

abbrev pub threads_in : List ℕ → ℕ
threads_in c = get_or c 0 0

abbrev pub lines_in : List ℕ → ℕ
lines_in c = get_or c 1 0

abbrev pub locations_in : List ℕ → ℕ
locations_in c = get_or c 2 0

abbrev pub count_in : List ℕ → ℕ → ℕ
count_in c t = get_or c (counts_at + t) 0

unfoldable pub line_in : List ℕ → ℕ → ℕ
line_in c l = pick (leb most_locations l) 0 (get_or c (lines_at + l) 0)

abbrev pub code_at : ℕ → ℕ → ℕ
code_at t i = codes_at + 4 * (t * most_instructions + i)

pub record ListingFits (c : List ℕ) : Type 0 where
  pub few_threads : threads_in c ≤ most_threads
  pub few_lines : lines_in c ≤ most_locations
  pub few_locations : locations_in c ≤ most_locations
  pub few_instructions : (t : ℕ) → t < most_threads → count_in c t ≤ most_instructions
  pub low_lines : (l : ℕ) → line_in c l < lines_in c
  pub low_locations : (t i : ℕ) → t < most_threads → i < count_in c t → get_or c (code_at t i + 1) 0 < locations_in c
  pub low_registers : (t i : ℕ) → t < most_threads → i < count_in c t → get_or c (code_at t i + 2) 0 < most_registers
