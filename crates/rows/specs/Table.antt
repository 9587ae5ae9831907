-- Document 01, "Rows proved of the rules (marked *) and rows run": all of them, a list for each line of 01.
-- Above each stands 01's line, with a * where 01 has one. Behind them the rows of the requests P3, P4 and P5 of
-- document 02, and of P8 and P6, whose sentences are put in rows. A run, an index, a full length, an offset or a place
-- that they do not name is as the second judge tells it.
--   table         the rows, in 01's order, then P3's, P4's, P5's, P8's and P6's
--   outage        the records of its second row; outage_bytes: the 50 bytes that 01 has for it
-- "In the rows below "store x" means x=500, and a budget not named is 1,000,000."
-- Assumes nothing.
use Rattle.std.specs.Prelude.{ℕ, List, [], ◌∷◌, ◌++◌, replicate}
use Rattle.cases.specs.declared.case.Step.{Step}
use Rattle.cases.specs.declared.record.Record.{Record}
use Rattle.machine.specs.declared.runs.Verdict.TheVariants.{Legal, Illegal}
use Rattle.search.specs.Question.{reached, unreachable, undecided}
use Rattle.rows.specs.Words.{x, y, z, header, lined, program, threads, first, store, store_register, load, exchange, flush}
use Rattle.rows.specs.Words.{flush_opt, sfence, mfence, want, passed, taking, issue, move, persist, in_buffer}
use Rattle.rows.specs.Words.{compare, in_queue}
use Rattle.machine.specs.View.{write_slot}
use Rattle.rows.specs.Row.{Row, asked, ruled, ended, opened}

-- "a budget not named is 1,000,000"
abbrev usual : ℕ
usual = 1000000

-- "want x=0, y=1"
abbrev torn : List Record
torn = want x 0 ∷ want y 1 ∷ []

abbrev pub outage : List Record
outage = threads 1 ∷ store 0 x 500 ∷ store 0 y 1 ∷ torn

-- "The second row's case, whole (50 bytes)", a record a line; F4 is 244
abbrev pub outage_bytes : List ℕ
outage_bytes =
    4 ∷ 0 ∷ 1 ∷ 0 ∷ 1 ∷ 0 ∷ 1 ∷ 2
    ∷ 8 ∷ 0 ∷ 3 ∷ 0 ∷ 0 ∷ 1 ∷ 0 ∷ 0 ∷ 244 ∷ 1 ∷ 0 ∷ 0
    ∷ 8 ∷ 0 ∷ 3 ∷ 0 ∷ 0 ∷ 1 ∷ 1 ∷ 0 ∷ 1 ∷ 0 ∷ 0 ∷ 0
    ∷ 5 ∷ 0 ∷ 4 ∷ 0 ∷ 0 ∷ 0 ∷ 0 ∷ 0 ∷ 0
    ∷ 5 ∷ 0 ∷ 4 ∷ 0 ∷ 1 ∷ 1 ∷ 0 ∷ 0 ∷ 0
    ∷ []

-- "No instructions, want x=0"
abbrev idle : List Record
idle = threads 1 ∷ want x 0 ∷ []

-- * "No instructions, want x=0, budget 1: reached, 0 steps. Budget 0: undecided."
abbrev no_instructions : List Row
no_instructions =
    asked idle 0 1 (reached [])
    ∷ asked idle 0 0 undecided
    ∷ []

-- * "Store x=500; store y=1; want x=0, y=1: full length 6; budget 8 reached, 7 undecided." The run is the one
-- that 01 prints: "I0, I0, M0.0, M0.0, P1".
abbrev torn_row : List Row
torn_row =
    asked outage 6 8 (reached (issue 0 ∷ issue 0 ∷ move 0 0 ∷ move 0 0 ∷ persist y ∷ []))
    ∷ asked outage 6 7 undecided
    ∷ []

-- * "Store x; flush x; store y=1; same want: unreachable, full length 8."
abbrev flushed : List Row
flushed =
    asked (threads 1 ∷ store 0 x 500 ∷ flush 0 x ∷ store 0 y 1 ∷ torn) 8 usual unreachable
    ∷ []

-- * "As before with flush-opt: reached, full length 9." * "With flush-opt then sfence: unreachable, full length
-- 11."
abbrev flushed_opt : List Row
flushed_opt =
    asked (threads 1 ∷ store 0 x 500 ∷ flush_opt 0 x ∷ store 0 y 1 ∷ torn) 9 usual
    (reached (issue 0 ∷ issue 0 ∷ issue 0 ∷ move 0 0 ∷ move 0 0 ∷ move 0 0 ∷ persist y ∷ []))
    ∷ asked (threads 1 ∷ store 0 x 500 ∷ flush_opt 0 x ∷ sfence 0 ∷ store 0 y 1 ∷ torn) 11 usual unreachable
    ∷ []

-- * "Store x=5; flush-opt x; sfence; passed 3, want x=0: reached at budget 4." * "With an mfence added behind
-- the sfence, and passed 4: unreachable."
abbrev fence_issued : List Row
fence_issued =
    asked (threads 1 ∷ store 0 x 5 ∷ flush_opt 0 x ∷ sfence 0 ∷ want x 0 ∷ passed 0 3 ∷ []) 8 4
    (reached (issue 0 ∷ issue 0 ∷ issue 0 ∷ []))
    ∷ asked (threads 1 ∷ store 0 x 5 ∷ flush_opt 0 x ∷ sfence 0 ∷ mfence 0 ∷ want x 0 ∷ passed 0 4 ∷ []) 9 usual
    unreachable
    ∷ []

-- both issued, then a move at position 1
abbrev overtaking : List Step
overtaking = issue 0 ∷ issue 0 ∷ move 0 1 ∷ []

-- * "Store y, flush-opt x, both issued: move at position 1 legal." * "Store x, flush-opt x: 26." P4: "26 B0.0".
abbrev passing : List Row
passing =
    ruled (threads 1 ∷ store 0 y 500 ∷ flush_opt 0 x ∷ taking overtaking) (Legal 3)
    ∷ ruled (threads 1 ∷ store 0 x 500 ∷ flush_opt 0 x ∷ taking overtaking) (Illegal 26 2 (in_buffer 0 0))
    ∷ []

-- * "Store x, exchange y, both issued at once: 22." "Flush-opt x moved, then mfence: 23; not moved: 22." P4: "22 B0.0",
-- "23 Q0.0".
abbrev barriers : List Row
barriers =
    ruled (threads 1 ∷ store 0 x 500 ∷ exchange 0 y 7 ∷ taking (issue 0 ∷ issue 0 ∷ [])) (Illegal 22 1 (in_buffer 0 0))
    ∷ ruled (threads 1 ∷ flush_opt 0 x ∷ mfence 0 ∷ taking (issue 0 ∷ move 0 0 ∷ issue 0 ∷ []))
    (Illegal 23 2 (in_queue 0 0))
    ∷ ruled (threads 1 ∷ flush_opt 0 x ∷ mfence 0 ∷ taking (issue 0 ∷ issue 0 ∷ [])) (Illegal 22 1 (in_buffer 0 0))
    ∷ []

-- * "Thread 1's marker in x's queue, thread 0 moves flush x: 27."
abbrev others_marker : List Row
others_marker =
    ruled (threads 2 ∷ flush 0 x ∷ flush_opt 1 x ∷ taking (issue 1 ∷ move 1 0 ∷ issue 0 ∷ move 0 0 ∷ []))
    (Illegal 27 3 (in_queue 0 0))
    ∷ []

-- "Two threads, store x=1 load y and store y=1 load x: both may load 0." What they load is stored where 9
-- stands: locations 2 and 3 hold 0 in the end.
abbrev both_load_zero : List Row
both_load_zero =
    asked
    (program 2 4 ∷ first 2 9 ∷ first 3 9
    ∷ store 0 x 1 ∷ load 0 y ∷ store_register 0 2
    ∷ store 1 y 1 ∷ load 1 x ∷ store_register 1 3
    ∷ want 2 0 ∷ want 3 0 ∷ [])
    14 usual
    (reached
    (issue 0 ∷ issue 0 ∷ issue 0 ∷ issue 1 ∷ issue 1 ∷ issue 1
    ∷ move 0 0 ∷ move 0 0 ∷ move 1 0 ∷ move 1 0
    ∷ persist 0 ∷ persist 1 ∷ persist 2 ∷ persist 3 ∷ []))
    ∷ []

-- P6: "Sixteen instructions read, seventeen: 7. A hundred and ninety-two steps read, 193: 9." Behind the program's 8
-- bytes an instruction takes 12, a step 8.
abbrev most_of_each : List Row
most_of_each =
    opened (threads 1 ∷ replicate 16 (store 0 x 500)) 0 200
    ∷ opened (threads 1 ∷ replicate 17 (store 0 x 500)) 7 200
    ∷ opened (threads 1 ∷ taking (replicate 192 (issue 0))) 0 1544
    ∷ opened (threads 1 ∷ taking (replicate 193 (issue 0))) 9 1544
    ∷ []

-- P3: "x, y on line 0, z on line 1 unless said otherwise"
abbrev row : Record
row = lined (0 ∷ 0 ∷ 1 ∷ [])

-- "Store x=500; store y=1; want x=0, y=1: unreachable. Want x=500, y=0: reached."
abbrev one_line : List Row
one_line =
    asked (row ∷ store 0 x 500 ∷ store 0 y 1 ∷ torn) 6 usual unreachable
    ∷ asked (row ∷ store 0 x 500 ∷ store 0 y 1 ∷ want x 500 ∷ want y 0 ∷ []) 6 usual
    (reached (issue 0 ∷ issue 0 ∷ move 0 0 ∷ move 0 0 ∷ persist 0 ∷ []))
    ∷ []

-- "The same with x and y on lines of their own in version 2: reached, 5 steps, as version 1."
abbrev two_lines : List Row
two_lines =
    asked (lined (0 ∷ 1 ∷ []) ∷ store 0 x 500 ∷ store 0 y 1 ∷ torn) 6 8
    (reached (issue 0 ∷ issue 0 ∷ move 0 0 ∷ move 0 0 ∷ persist 1 ∷ []))
    ∷ asked (lined (0 ∷ 1 ∷ []) ∷ store 0 x 500 ∷ store 0 y 1 ∷ torn) 6 7 undecided
    ∷ []

-- "Store x=500; flush-opt y; sfence; store z=1; want x=0, z=1: unreachable. Without the sfence: reached, 7 steps."
abbrev neighbour_flushed : List Row
neighbour_flushed =
    asked (row ∷ store 0 x 500 ∷ flush_opt 0 y ∷ sfence 0 ∷ store 0 z 1 ∷ want x 0 ∷ want z 1 ∷ []) 11 usual
    unreachable
    ∷ asked (row ∷ store 0 x 500 ∷ flush_opt 0 y ∷ store 0 z 1 ∷ want x 0 ∷ want z 1 ∷ []) 9 usual
    (reached (issue 0 ∷ issue 0 ∷ issue 0 ∷ move 0 0 ∷ move 0 0 ∷ move 0 0 ∷ persist 1 ∷ []))
    ∷ []

-- both issued, then both moved
abbrev in_turn : List Step
in_turn = issue 0 ∷ issue 0 ∷ move 0 0 ∷ move 0 0 ∷ []

-- "Store x, flush-opt y, both issued: move at position 1 is 26. Store x; flush y, both issued, the store moved: the
-- flush's move is 27."
abbrev neighbours_wait : List Row
neighbours_wait =
    ruled (row ∷ store 0 x 500 ∷ flush_opt 0 y ∷ taking overtaking) (Illegal 26 2 (in_buffer 0 0))
    ∷ ruled (row ∷ store 0 x 500 ∷ flush 0 y ∷ taking in_turn) (Illegal 27 3 (in_queue 0 0))
    ∷ []

-- "A header of version 2 with lines 0, 2: 8. With lines 1, 0: 8. Two locations and three line bytes: 3."
abbrev headers : List Row
headers =
    opened (lined (0 ∷ 2 ∷ []) ∷ []) 8 0
    ∷ opened (lined (1 ∷ 0 ∷ []) ∷ []) 8 0
    ∷ opened (header 1 2 (0 ∷ 1 ∷ 1 ∷ []) ∷ []) 3 0
    ∷ opened (lined (0 ∷ 1 ∷ 0 ∷ []) ∷ []) 0 11
    ∷ []

-- P4: "Store y, store x, flush-opt x, all issued, move at 2: 26 B0.1."
abbrev bar_behind : List Row
bar_behind =
    ruled
    (threads 1 ∷ store 0 y 500 ∷ store 0 x 500 ∷ flush_opt 0 x
    ∷ taking (issue 0 ∷ issue 0 ∷ issue 0 ∷ move 0 2 ∷ []))
    (Illegal 26 3 (in_buffer 0 1))
    ∷ []

-- "Thread 1's marker in x's queue behind a write, thread 0 moves flush x: 27 Q0.0."
abbrev marker_behind : List Row
marker_behind =
    ruled
    (threads 2 ∷ flush 0 x ∷ store 1 x 500 ∷ flush_opt 1 x
    ∷ taking (issue 1 ∷ issue 1 ∷ move 1 0 ∷ move 1 0 ∷ issue 0 ∷ move 0 0 ∷ []))
    (Illegal 27 5 (in_queue 0 0))
    ∷ []

-- "Two flush-opts of thread 0, of y then x, both moved, sfence at the head: move is 28 Q0.0 (the lowest queue, not the
-- oldest marker)."
abbrev lowest_queue : List Row
lowest_queue =
    ruled
    (threads 1 ∷ flush_opt 0 y ∷ flush_opt 0 x ∷ sfence 0
    ∷ taking (issue 0 ∷ issue 0 ∷ move 0 0 ∷ move 0 0 ∷ issue 0 ∷ move 0 0 ∷ []))
    (Illegal 28 5 (in_queue 0 0))
    ∷ []

-- P5: "Load y into register 0; compare x, register 0, word 7; both issued: x's queue holds 7, register 0 is 0, work
-- left 1. Full length 3."
abbrev lock_taken : List Row
lock_taken =
    ended (threads 1 ∷ load 0 y ∷ compare 0 x 7 ∷ taking (issue 0 ∷ issue 0 ∷ [])) 3 2 (write_slot x 7 ∷ []) 0 1
    ∷ []

-- "The same with first content x=5: nothing written, register 0 is 5, work left 0; finished after two steps, one less
-- than the full length."
abbrev lock_held : List Row
lock_held =
    ended (threads 1 ∷ first x 5 ∷ load 0 y ∷ compare 0 x 7 ∷ taking (issue 0 ∷ issue 0 ∷ [])) 3 2 [] 5 0
    ∷ []

-- "Load x into register 0; store y=1; compare x, register 0, word 7, all issued in turn: index 2, rule 22. First
-- content x=5; load y into register 0; flush-opt y, moved; a compare of x that would fail: rule 23."
abbrev compare_waits : List Row
compare_waits =
    ruled (threads 1 ∷ load 0 x ∷ store 0 y 1 ∷ compare 0 x 7 ∷ taking (issue 0 ∷ issue 0 ∷ issue 0 ∷ []))
    (Illegal 22 2 (in_buffer 0 0))
    ∷ ruled
    (threads 1 ∷ first x 5 ∷ load 0 y ∷ flush_opt 0 y ∷ compare 0 x 7
    ∷ taking (issue 0 ∷ issue 0 ∷ move 0 0 ∷ issue 0 ∷ []))
    (Illegal 23 3 (in_queue 1 0))
    ∷ []

-- "Two threads, each: load y into register 0; compare x, register 0, word 1 (thread 1: 2); passed 2 and 2."
abbrev rivals : ℕ → List Record
rivals w =
    threads 2 ∷ load 0 y ∷ compare 0 x 1 ∷ load 1 y ∷ compare 1 x 2 ∷ want x w ∷ passed 0 2 ∷ passed 1 2 ∷ []

-- "Want x=1: reached, `I0 I0 I1 I1 P0`; want x=2: reached, `I0 I1 I1 I0 P0`."
abbrev either_takes : List Row
either_takes =
    asked (rivals 1) 6 usual (reached (issue 0 ∷ issue 0 ∷ issue 1 ∷ issue 1 ∷ persist x ∷ []))
    ∷ asked (rivals 2) 6 usual (reached (issue 0 ∷ issue 1 ∷ issue 1 ∷ issue 0 ∷ persist x ∷ []))
    ∷ []

-- P8: "A store from a register that no earlier load, exchange or compare of that thread has written .., and a compare
-- on such a register too. Refuse it with 10 at that instruction, checked after 7." Nothing before it; only another
-- thread's load; only a later one; the last that there may be; one more. Behind a load, an exchange, a load and a compare they read.
abbrev unset_register : List Row
unset_register =
    opened (threads 1 ∷ store_register 0 x ∷ []) 10 8
    ∷ opened (threads 1 ∷ compare 0 x 7 ∷ []) 10 8
    ∷ opened (threads 2 ∷ load 0 y ∷ store_register 1 x ∷ []) 10 20
    ∷ opened (threads 1 ∷ store_register 0 x ∷ load 0 y ∷ []) 10 8
    ∷ opened (threads 1 ∷ replicate 15 (store 0 x 500) ++ (store_register 0 x ∷ [])) 10 188
    ∷ opened (threads 1 ∷ replicate 16 (store 0 x 500) ++ (store_register 0 x ∷ [])) 7 200
    ∷ opened (threads 1 ∷ load 0 y ∷ store_register 0 x ∷ []) 0 32
    ∷ opened (threads 1 ∷ exchange 0 y 7 ∷ store_register 0 x ∷ []) 0 32
    ∷ opened (threads 1 ∷ load 0 y ∷ compare 0 x 7 ∷ store_register 0 x ∷ []) 0 44
    ∷ []

-- P6: "Position goes to 15, .. and the longest version 2 payload is 20." The last location, and one more; sixteen
-- locations on a line; four threads of sixteen stores.
abbrev sixteen : List Row
sixteen =
    opened (threads 1 ∷ taking (move 0 15 ∷ [])) 0 16
    ∷ opened (threads 1 ∷ taking (move 0 16 ∷ [])) 5 8
    ∷ opened (program 1 16 ∷ taking (persist 15 ∷ [])) 0 16
    ∷ opened (program 1 17 ∷ []) 5 0
    ∷ opened (lined (replicate 16 0) ∷ []) 0 24
    ∷ asked
    (program 4 1 ∷ replicate 16 (store 0 x 1) ++ replicate 16 (store 1 x 1)
    ++ replicate 16 (store 2 x 1) ++ replicate 16 (store 3 x 1))
    192 1 (reached [])
    ∷ []

unfoldable pub table : List Row
table =
    no_instructions ++ torn_row ++ flushed ++ flushed_opt ++ fence_issued
    ++ passing ++ barriers ++ others_marker ++ both_load_zero ++ most_of_each
    ++ one_line ++ two_lines ++ neighbour_flushed ++ neighbours_wait ++ headers
    ++ bar_behind ++ marker_behind ++ lowest_queue
    ++ lock_taken ++ lock_held ++ compare_waits ++ either_takes
    ++ unset_register ++ sixteen
