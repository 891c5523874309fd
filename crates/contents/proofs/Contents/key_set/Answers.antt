use Rattle.std.proofs.Common.{rules}
use Rattle.contents.specs.Records.{no_key_set}
use Rattle.contents.proofs.Contents.key_set.Goals as goal

pub returns : goal.returns
returns c = let e = c.named.ensures no_key_set in search rules
