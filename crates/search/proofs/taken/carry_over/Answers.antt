-- `carry_over` meets its contract. Assumes nothing.
use Rattle.std.proofs.Common.{◌+◌, ◌≤◌, arith}
use Rattle.search.specs.Sizes.{most_lanes}
use Rattle.search.proofs.taken.RowLenLaws.{carried_within, carried_discount, carried_count}
use Rattle.search.proofs.taken.carry_over.Goals as goal
use Rattle.search.proofs.taken.carry_over.Goals.{After-row_start-to}

-- the entry that goes, and where it goes, are within the lanes
within : (c : After-row_start-to)
    → (c.args.at + 2 ≤ c.row_start-to.result) × (c.row_start-to.result ≤ most_lanes)
within c =
    carried_within _ _ c.args.c.now.fits c.requires.0 _ _ (omega arith) c.requires.5 _ _ (omega arith) (omega arith)
    c.row_start-to.ensures

pub overflow_add-word : goal.overflow_add-word
overflow_add-word c =
    let w = within (goal.at.overflow_add-word c).After-row_start-to in
    omega arith

pub offset_bounds-x-at : goal.offset_bounds-x-at
offset_bounds-x-at c =
    let w = within (goal.at.offset_bounds-x-at c).After-row_start-to in
    omega arith

pub bounds-x-at : goal.bounds-x-at
bounds-x-at c =
    let w = within (goal.at.bounds-x-at c).After-row_start-to in
    omega arith

pub carry-requires : goal.carry-requires
carry-requires c =
    let w = within (goal.at.carry-requires c).After-row_start-to in
    w

pub discount-requires : goal.discount-requires
discount-requires c =
    carried_discount _ _ c.args.c.now.fits c.requires.0 _ _ (omega arith) c.requires.5 c.requires.4 c.requires.3 _ _ _ _ _
    c.carry.ensures (omega arith)

pub count-requires : goal.count-requires
count-requires c =
    carried_count _ _ c.args.c.now.fits c.requires.0 _ _ (omega arith) c.requires.5 c.requires.4 c.requires.3 _ _ _ _ _
    c.carry.ensures (omega arith) _ _ _ (omega arith) (omega arith) c.discount.ensures
    c.row_len_at-2.ensures
