use Rattle.std.proofs.Common.{length}
use Rattle.contents.specs.Draft.{drafted}
use Rattle.contents.proofs.Readings.{Reading}
use Rattle.contents.proofs.image.draft.Draft.with_records.Given as goal

abbrev pub invariant-loop-behind : goal.invariant-loop-behind
invariant-loop-behind l = Reading (drafted l.initial.self) l.initial.rest (drafted l.self) l.rest

abbrev pub decreases-loop-behind : goal.decreases-loop-behind
decreases-loop-behind l = length l.rest
