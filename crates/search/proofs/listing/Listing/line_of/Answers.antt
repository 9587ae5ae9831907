-- `line_of` meets its contract. Assumes nothing.
use Rattle.std.proofs.Common.{arith, rules}
use Rattle.search.proofs.listing.ListingLaws.{line_none, line_some, line_byte_lem}
use Rattle.search.proofs.listing.Listing.line_of.Goals as goal

pub returns-then-at-ge-LOCATIONS : goal.returns-then-at-ge-LOCATIONS
returns-then-at-ge-LOCATIONS c = line_none _ _ c.if-at-ge-LOCATIONS.true

pub overflow_cast-result : goal.overflow_cast-result
overflow_cast-result c =
    let w = line_byte_lem _ c.args.self.now.fits c.args.l.0 (omega arith) in
    search rules

pub returns : goal.returns
returns c = line_some _ _ c.if-at-ge-LOCATIONS.false
