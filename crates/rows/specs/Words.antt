-- Document 01, "Records of a case", "Operations" and "Step codes": what the rows speak of, in their own words.
--   x, y, z           "x is location 0, y is location 1."; z is location 2
--   threads n         kind 1, of two locations; program n m: of m locations
--   header n m ls     kind 1 of version 2, of m locations, with the line bytes ls
--   lined ls          the same of one thread and as many locations as lines
--   first l w         kind 2
--   store, store_register, load, exchange, flush, flush_opt, sfence, mfence, compare
--                     kind 3: an instruction of thread t, at location l, with the word w
--   want l w          kind 4
--   passed t n        kind 5
--   taking ks         kind 6, for each of the steps ks
--   issue, move, persist   steps
--   in_buffer t i, in_queue q i   the place of an entry: `B` and `Q` in print
-- Assumes nothing.
use Rattle.std.specs.Prelude.{ℕ, List, [], map, length}
use Rattle.cases.specs.declared.case.Step.{Step}
use Rattle.cases.specs.declared.record.Record.{Record}
use Rattle.cases.specs.declared.record.Record.TheVariants.{Declare, First, Instruct, Want, Passed, Take}
use Rattle.cases.specs.Lines.{own_version, line_version}
use Rattle.cases.specs.Record.{as_row}
use Rattle.cases.specs.Operations as operation
use Rattle.machine.specs.declared.blocker.Blocker.{Blocker}
use Rattle.machine.specs.declared.blocker.Blocker.TheVariants.{InBuffer, InQueue}
use Rattle.machine.specs.Next.{issue_step, move_step, persist_step}

abbrev pub x : ℕ
x = 0

abbrev pub y : ℕ
y = 1

abbrev pub z : ℕ
z = 2

abbrev pub program : ℕ → ℕ → Record
program n m =
    Declare (record { version = own_version; threads = n; locations = m; listed = 0; line = as_row [] })

abbrev pub header : ℕ → ℕ → List ℕ → Record
header n m ls =
    Declare (record {
      version = line_version;
      threads = n;
      locations = m;
      listed = length ls;
      line = as_row ls;
    })

abbrev pub lined : List ℕ → Record
lined ls = header 1 (length ls) ls

abbrev pub threads : ℕ → Record
threads n = program n 2

abbrev pub first : ℕ → ℕ → Record
first l w = First (record { location = record { 0 = l }; word = w })

-- an instruction of thread t by its operation; no row uses another register than register 0
abbrev pub instruction : ℕ → ℕ → ℕ → ℕ → Record
instruction t op l w =
    Instruct (record { 0 = t })
    (record { operation = op; location = record { 0 = l }; register = record { 0 = 0 }; word = w })

abbrev pub store : ℕ → ℕ → ℕ → Record
store t l w = instruction t operation.store_word l w

abbrev pub store_register : ℕ → ℕ → Record
store_register t l = instruction t operation.store_register l 0

abbrev pub load : ℕ → ℕ → Record
load t l = instruction t operation.load l 0

abbrev pub exchange : ℕ → ℕ → ℕ → Record
exchange t l w = instruction t operation.exchange l w

abbrev pub flush : ℕ → ℕ → Record
flush t l = instruction t operation.flush l 0

abbrev pub flush_opt : ℕ → ℕ → Record
flush_opt t l = instruction t operation.flush_opt l 0

abbrev pub sfence : ℕ → Record
sfence t = instruction t operation.sfence 0 0

abbrev pub mfence : ℕ → Record
mfence t = instruction t operation.mfence 0 0

abbrev pub compare : ℕ → ℕ → ℕ → Record
compare t l w = instruction t operation.compare l w

abbrev pub want : ℕ → ℕ → Record
want l w = Want (record { location = record { 0 = l }; word = w })

abbrev pub passed : ℕ → ℕ → Record
passed t n = Passed (record { 0 = t }) n

abbrev pub taking : List Step → List Record
taking ks = map Take ks

abbrev pub issue : ℕ → Step
issue t = issue_step t

abbrev pub move : ℕ → ℕ → Step
move t i = move_step t i

abbrev pub persist : ℕ → Step
persist q = persist_step q

abbrev pub in_buffer : ℕ → ℕ → Blocker
in_buffer t i = InBuffer (record { 0 = t }) i

abbrev pub in_queue : ℕ → ℕ → Blocker
in_queue q i = InQueue (record { 0 = q }) i
