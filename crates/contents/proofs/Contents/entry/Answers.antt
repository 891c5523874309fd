use Rattle.contents.specs.Records.{no_entry}
use Rattle.contents.proofs.Contents.entry.Goals as goal

pub returns : goal.returns
returns c = c.named.ensures no_entry
