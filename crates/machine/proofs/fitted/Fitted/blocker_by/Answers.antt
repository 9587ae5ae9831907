-- `blocker_by` meets its contract. Assumes nothing.
use Rattle.std.proofs.Common.{arith}
use Rattle.machine.proofs.fitted.Fitted.blocker_by.Goals as goal

pub entry_line-q-requires : goal.entry_line-q-requires
entry_line-q-requires c =
    let waits = rw c.in-HeldBack.is at c.requires.1 in
    (c.requires.0, waits (omega arith) (omega arith))

pub first_bar-requires : goal.first_bar-requires
first_bar-requires c =
    let waits = rw c.in-HeldBack.is at c.requires.1 in
    let here = waits (omega arith) (omega arith) in
    (c.requires.0, omega arith)

pub entry_line-requires : goal.entry_line-requires
entry_line-requires c =
    let waits = rw c.in-LineNotEmpty.is at c.requires.1 in
    (c.requires.0, waits (omega arith) (omega arith))
