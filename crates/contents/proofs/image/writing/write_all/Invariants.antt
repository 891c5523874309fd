use Rattle.contents.proofs.Images.{Written}
use Rattle.contents.proofs.image.writing.write_all.Given as goal

abbrev pub invariant-loop-record : goal.invariant-loop-record
invariant-loop-record g l = Written g.R.Stored.bytes l.records l.record-index l.initial.image.items l.image.items
