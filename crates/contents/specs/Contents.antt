-- The contents of a card as a record of lists.
use Rattle.contents.specs.declared.Contents.{Contents}
use Rattle.contents.specs.Draft.{drafted}
use Rattle.contents.specs.Held.{Held}

abbrev pub held : Contents → Held
held c = drafted c.draft
