-- `move_entry` meets its contract. Assumes nothing.
use Rattle.std.proofs.Common.{◌+◌, ◌*◌, arith}
use Rattle.search.proofs.taken.RowLenLaws.{EntryWithin, entry_within}
use Rattle.search.proofs.taken.move_entry.Goals as goal
use Rattle.search.proofs.taken.move_entry.Goals.{After-row_start}

-- the entry stands within the lanes
entry : (c : After-row_start) → EntryWithin c.args.c.now.numbers c.args.x.now c.args.t.0 (c.row_start.result + 2 * c.args.i)
entry c =
    let p = c.requires in
    entry_within _ _ c.args.c.now.fits p.0 _ _ _ _ (omega arith) p.2 c.buffer_row.ensures c.row_start.ensures

pub overflow_mul-at : goal.overflow_mul-at
overflow_mul-at c = let e = entry (goal.at.overflow_mul-at c).After-row_start in omega arith

pub overflow_add-at : goal.overflow_add-at
overflow_add-at c = let e = entry (goal.at.overflow_add-at c).After-row_start in omega arith

pub offset_bounds-x-at : goal.offset_bounds-x-at
offset_bounds-x-at c = let e = entry (goal.at.offset_bounds-x-at c).After-row_start in omega arith

pub bounds-x-at : goal.bounds-x-at
bounds-x-at c = let e = entry (goal.at.bounds-x-at c).After-row_start in omega arith

pub move_tagged-requires : goal.move_tagged-requires
move_tagged-requires c =
    let p = c.requires in
    let e = entry (goal.at.move_tagged-requires c).After-row_start in
    (p.0, p.1, omega arith, e.behind, e.before)
