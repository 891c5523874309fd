-- What a listing holds.
use Rattle.std.specs.Prelude.{ℕ, List, take}
use Rattle.rules.specs.declared.listing.Listing.{Listing}

abbrev pub listing_bytes : Listing → List ℕ
listing_bytes l = take l.len l.bytes
