use Rattle.std.proofs.Common.{◌≡◌, ◌*◌, ◌≤◌, take}
use Rattle.rules.specs.GetStatus.{status_records}
use Rattle.rules.specs.Listings.{listing_bytes}
use Rattle.rules.proofs.listing.Listing.of.Given as goal

abbrev pub invariant-loop-entry : goal.invariant-loop-entry
invariant-loop-entry l =
    (l.listing.len ≤ 19 * l.entry-index)
    × (listing_bytes l.listing ≡ status_records l.kind (take l.entry-index l.entries))
