-- A case that meets what the theorems ask for: two threads, three locations. Thread 0 stores 500 to location 0
-- and then 1 to location 1, thread 1 stores 7 to location 0; nobody writes location 2. Each location has a line
-- of its own. It asks for nothing and has no steps.
--   case_of         a case by its program and its run; thread_of, idle: of its code
--   storing, storing_register, loading, comparing, fencing   instructions
--   example         the case
--   blocked         a case whose run stops at an mfence, with a store in its way
--   rivals          two threads that would take location 0 by compare and swap
--   copied          a thread that stores 7 to location 0, loads it and stores that to location 1; copied_front,
--                   copied_run: a run up to that second store, and one in which it persists
--   careless        a case in memory that P8 refuses: a store of a register that nothing sets, to a location that
--                   holds 5 at first; careless_run: a run in which it persists
--   unmet           a case without an instruction that asks for a 5 where its only location holds 0
--   threadless      a case in memory that no byte string reads as: it has no thread
--   step_first      bytes whose first record is a step
--   program_first   bytes whose first record is a program
-- Assumes nothing.
use Rattle.std.specs.Prelude.{ℕ, ◌-◌, ◌*◌, List, [], ◌∷◌, ◌++◌, length, replicate}
use Rattle.cases.specs.declared.case.Instruction.{Instruction}
use Rattle.cases.specs.declared.case.Step.{Step}
use Rattle.cases.specs.declared.case.Run.{Run}
use Rattle.cases.specs.declared.case.Case.{Case}
use Rattle.cases.specs.Sizes.{most_threads, most_instructions, most_locations}
use Rattle.cases.specs.Operations.{store_word, store_register, load, mfence, compare}
use Rattle.cases.specs.Lines.{own_version, own_lines}
use Rattle.cases.specs.Checks.{no_instruction}
use Rattle.cases.specs.Draft.{empty_case, run_with, with_program, with_first, with_ask, with_want}
use Rattle.machine.specs.Next.{issue_step, move_step, persist_step}

-- a case of version 1: n threads with so many instructions each, m locations, the code, and the run; it asks for
-- nothing
abbrev case_of : ℕ → ℕ → List ℕ → List Instruction → Run → Case
case_of n m counts code run =
    record {
      version = own_version;
      program = record {
        threads = n;
        locations = m;
        lines = m;
        line = own_lines m;
        first = replicate most_locations 0;
        counts = counts ++ replicate (most_threads - length counts) 0;
        code = code;
      };
      ask = empty_case.ask;
      run = run;
    }

-- a thread's instructions, and room for the others that it may have
abbrev thread_of : List Instruction → List Instruction
thread_of xs = xs ++ replicate (most_instructions - length xs) no_instruction

-- so many threads more, without an instruction
abbrev idle : ℕ → List Instruction
idle n = replicate (n * most_instructions) no_instruction

-- store word w to location l; store register 0 there; load location l into register 0; compare it with register 0,
-- word w; mfence
abbrev pub storing : ℕ → ℕ → Instruction
storing l w =
    record { operation = store_word; location = record { 0 = l }; register = record { 0 = 0 }; word = w }

abbrev storing_register : ℕ → Instruction
storing_register l =
    record { operation = store_register; location = record { 0 = l }; register = record { 0 = 0 }; word = 0 }

abbrev loading : ℕ → Instruction
loading l = record { operation = load; location = record { 0 = l }; register = record { 0 = 0 }; word = 0 }

abbrev comparing : ℕ → ℕ → Instruction
comparing l w =
    record { operation = compare; location = record { 0 = l }; register = record { 0 = 0 }; word = w }

abbrev fencing : Instruction
fencing =
    record { operation = mfence; location = record { 0 = 0 }; register = record { 0 = 0 }; word = 0 }

unfoldable pub example : Case
example =
    case_of 2 3 (2 ∷ 1 ∷ []) (thread_of (storing 0 500 ∷ storing 1 1 ∷ []) ++ thread_of (storing 0 7 ∷ []) ++ idle 2)
    empty_case.run

-- thread 0 stores 500 to location 0; both it and the mfence behind it are issued at once
unfoldable pub blocked : Case
blocked =
    case_of 1 1 (2 ∷ []) (thread_of (storing 0 500 ∷ fencing ∷ []) ++ idle 3) (run_with (issue_step 0 ∷ issue_step 0 ∷ []))

-- P5: "Two threads, each: load y into register 0; compare x, register 0, word 1 (thread 1: 2)". Nobody writes y.
unfoldable pub rivals : Case
rivals =
    case_of 2 2 (2 ∷ 2 ∷ [])
    (thread_of (loading 1 ∷ comparing 0 1 ∷ []) ++ thread_of (loading 1 ∷ comparing 0 2 ∷ []) ++ idle 2)
    empty_case.run

unfoldable pub copied : Case
copied =
    case_of 1 2 (3 ∷ []) (thread_of (storing 0 7 ∷ loading 0 ∷ storing_register 1 ∷ []) ++ idle 3) empty_case.run

abbrev pub copied_front : List Step
copied_front = issue_step 0 ∷ issue_step 0 ∷ []

abbrev pub copied_run : List Step
copied_run = issue_step 0 ∷ issue_step 0 ∷ issue_step 0 ∷ move_step 0 0 ∷ move_step 0 0 ∷ persist_step 1 ∷ []

-- without its first content
abbrev slip : Case
slip = case_of 1 1 (1 ∷ []) (thread_of (storing_register 0 ∷ []) ++ idle 3) empty_case.run

unfoldable pub careless : Case
careless = with_program slip (with_first slip.program (record { location = record { 0 = 0 }; word = 5 }))

abbrev pub careless_run : List Step
careless_run = issue_step 0 ∷ move_step 0 0 ∷ persist_step 0 ∷ []

unfoldable pub unmet : Case
unmet = with_ask empty_case (with_want empty_case.ask (record { location = record { 0 = 0 }; word = 5 }))

unfoldable pub threadless : Case
threadless = case_of 0 1 [] (idle 4) empty_case.run

-- length, kind and payload: a step, the issue of thread 0; a program of one thread and one location
abbrev pub step_first : List ℕ
step_first = 4 ∷ 0 ∷ 6 ∷ 0 ∷ 0 ∷ 0 ∷ 0 ∷ 0 ∷ []

abbrev pub program_first : List ℕ
program_first = 4 ∷ 0 ∷ 1 ∷ 0 ∷ 1 ∷ 0 ∷ 1 ∷ 1 ∷ []
