-- `persist` meets its contract. Assumes nothing.
use Rattle.std.proofs.Common.{◌+◌, ◌*◌, arith}
use Rattle.search.specs.Rows.{queue_row}
use Rattle.search.proofs.taken.RowLenLaws.{EntryWithin, entry_within}
use Rattle.search.proofs.taken.persist.Goals as goal
use Rattle.search.proofs.taken.persist.Goals.{After-row_start-at}

-- the queue's first entry stands within the lanes
entry : (c : After-row_start-at)
    → EntryWithin c.args.c.now.numbers c.args.x.now (queue_row c.args.c.now.numbers c.args.q.0) (c.row_start-at.result + 2 * 0)
entry c =
    let p = c.requires in
    entry_within _ _ c.args.c.now.fits p.0 _ _ _ 0 (omega arith) p.2 c.queue_row-r.ensures c.row_start-at.ensures

pub offset_bounds-x-at : goal.offset_bounds-x-at
offset_bounds-x-at c = let e = entry (goal.at.offset_bounds-x-at c).After-row_start-at in omega arith

pub bounds-x-at : goal.bounds-x-at
bounds-x-at c = let e = entry (goal.at.bounds-x-at c).After-row_start-at in omega arith

pub overflow_add-word : goal.overflow_add-word
overflow_add-word c = let e = entry (goal.at.overflow_add-word c).After-row_start-at in omega arith

pub offset_bounds-x-at-2 : goal.offset_bounds-x-at-2
offset_bounds-x-at-2 c = let e = entry (goal.at.offset_bounds-x-at-2 c).After-row_start-at in omega arith

pub bounds-x-at-2 : goal.bounds-x-at-2
bounds-x-at-2 c = let e = entry (goal.at.bounds-x-at-2 c).After-row_start-at in omega arith

pub leave-requires : goal.leave-requires
leave-requires c =
    let p = c.requires in
    let e = entry (goal.at.leave-requires c).After-row_start-at in
    rw c.queue_row-r.ensures (p.0, omega arith, p.2, omega arith, omega arith)
