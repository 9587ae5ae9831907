-- `of` meets its contract. Assumes nothing.
use Rattle.std.proofs.Common.{◌≡◌}
use Rattle.search.specs.Listing.{listing_of}
use Rattle.search.proofs.listing.ListingLaws.{listing_fits}
use Rattle.search.proofs.listing.ListingLoopLaws.{listing_made}
use Rattle.search.proofs.listing.Listing.of.Goals as goal
use Rattle.search.proofs.listing.Listing.of.Goals.{After-put_code}

made : (c : After-put_code) → c.put_code.new.c ≡ listing_of c.args.p.now
made c =
    listing_made _ c.requires _ _ _ c.put_numbers.ensures
    c.put_numbers-2.ensures c.put_code.ensures

pub invariant_of-result : goal.invariant_of-result
invariant_of-result c =
    record { fits = rw (made (goal.at.invariant_of-result c).After-put_code) (listing_fits _ c.requires) }

pub returns : goal.returns
returns c = made (goal.at.returns c).After-put_code
