-- Document 02, P4, "Name the blocker": "the place of the first entry that stands in the way: buffer or queue, which
-- one, and the position in it".
--   blocker_which, blocker_number, blocker_position   of a place: 1 for a buffer, 2 for a queue, 0 for no entry; which
--                            one; the position in it
--   marker_place f           the place of a marker that was looked for
--   entry_line p e           the line of the location that the entry e names; 0 for an sfence
--   own_buffer x k, taken x k   the buffer of the step's thread; the entry that the move k would take
--   blocker_by r p x k       the first entry in the way of the step k, by the rule r that it breaks
--   blocker_in, blocker_of p s k   the same with its rule, over the parts that rules look at, in a state
-- Assumes nothing.
use Rattle.std.specs.Prelude.{ℕ, Option, Some, None, List, take, eqb}
use Rattle.cases.specs.declared.case.Step.{Step}
use Rattle.cases.specs.declared.case.Program.{Program}
use Rattle.cases.specs.Choice.{pick}
use Rattle.machine.specs.declared.cells.State.{State}
use Rattle.machine.specs.declared.cells.Waiting.{Waiting}
use Rattle.machine.specs.declared.cells.Entry.{Entry}
use Rattle.machine.specs.declared.cells.Entry.TheVariants.{Store, Flush, FlushOpt, Sfence}
use Rattle.machine.specs.declared.look.Place.{Place}
use Rattle.machine.specs.declared.blocker.Blocker.{Blocker}
use Rattle.machine.specs.declared.blocker.Blocker.TheVariants.{InBuffer, InQueue, NoEntry}
use Rattle.machine.specs.View.{line_of, buffer_in}
use Rattle.machine.specs.Parts.{Parts, parts_of}
use Rattle.machine.specs.Look.{marker_of, first_bar}
use Rattle.machine.specs.Rules.{entry_at, rule_in}

abbrev pub blocker_which : Blocker → ℕ
blocker_which (InBuffer t i) = 1
blocker_which (InQueue q i) = 2
blocker_which NoEntry = 0

abbrev pub blocker_number : Blocker → ℕ
blocker_number (InBuffer t i) = t.0
blocker_number (InQueue q i) = q.0
blocker_number NoEntry = 0

abbrev pub blocker_position : Blocker → ℕ
blocker_position (InBuffer t i) = i
blocker_position (InQueue q i) = i
blocker_position NoEntry = 0

abbrev pub marker_place : Option Place → Blocker
marker_place (Some m) = InQueue m.line m.position
marker_place None = NoEntry

unfoldable pub entry_line : Program → Entry → ℕ
entry_line p (Store w) = line_of p w.location.0
entry_line p (Flush l) = line_of p l.0
entry_line p (FlushOpt l) = line_of p l.0
entry_line p Sfence = 0

abbrev pub own_buffer : Parts → Step → List Waiting
own_buffer x k = buffer_in x.buffers x.waiting k.thread.0

abbrev pub taken : Parts → Step → Entry
taken x k = entry_at (own_buffer x k) k.position

-- "Rules 22, 23, 26, 27 and 28": 22 the own buffer's oldest entry; 23 and 28 the thread's first marker, "the lowest
-- queue comes first"; 26 the first entry before the flush-opt that bars it; 27 the oldest of the queue
-- of the flush's line
unfoldable pub blocker_by : ℕ → Program → Parts → Step → Blocker
blocker_by r p x k =
    pick (eqb r 22) (InBuffer k.thread 0)
    (pick (eqb r 23) (marker_place (marker_of x.marks x.lengths k.thread.0))
    (pick (eqb r 26) (InBuffer k.thread (first_bar p (entry_line p (taken x k)) (take k.position (own_buffer x k))))
    (pick (eqb r 27) (InQueue (record { 0 = entry_line p (taken x k) }) 0)
    (pick (eqb r 28) (marker_place (marker_of x.marks x.lengths k.thread.0))
    NoEntry))))

unfoldable pub blocker_in : Program → Parts → Step → Blocker
blocker_in p x k = blocker_by (rule_in p x k) p x k

unfoldable pub blocker_of : Program → State → Step → Blocker
blocker_of p s k = blocker_in p (parts_of s) k
