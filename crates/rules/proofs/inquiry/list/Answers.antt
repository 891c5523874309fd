use Rattle.rules.proofs.Records.{listed_some, listed_none}
use Rattle.rules.proofs.inquiry.list.Goals as goal

pub returns-then-is_empty : goal.returns-then-is_empty
returns-then-is_empty c = listed_none c.args.kind c.args.entries.now _ c.of-listing.ensures c.if-is_empty.ensures

pub returns : goal.returns
returns c = listed_some c.args.kind c.args.entries.now _ c.of-listing.ensures c.if-is_empty.ensures
