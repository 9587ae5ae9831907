-- `header_seat` meets its contract: the array has a number for each location already. Assumes nothing.
use Rattle.std.proofs.Common.{◌≡◌, sym, ap, ◌∙◌, length, rules}
use Rattle.cases.specs.Sizes.{most_locations}
use Rattle.cases.specs.Record.{as_row}
use Rattle.cases.specs.Seats.{header_seat}
use Rattle.cases.proofs.record.OpenLaws.{row_back}
use Rattle.cases.proofs.seats.header_seat.Goals as goal

pub returns : goal.returns
unfolding header_seat
returns c =
    let lines = c.listed_lines in
    let long : length lines.result ≡ most_locations = search rules in
    let row = ap as_row (sym lines.ensures) ∙ row_back lines.result long in
    rw (row, c.listed_of.ensures)
