use Rattle.std.proofs.Common.{◌≤◌}
use Rattle.contents.specs.Contents.{held}
use Rattle.contents.specs.Records.{listed}
use Rattle.contents.proofs.Altered.{sound_parts, entries_replaced}
use Rattle.contents.proofs.Grown.{application_sound_after}
use Rattle.contents.proofs.Contents.add_application.Goals as goal

pub invariant_of-self : goal.invariant_of-self
invariant_of-self c =
    let contents = c.args.self.now in
    let h = held contents in
    let after = listed c.add_application.new.self in
    let change = c.add_application.ensures in
    let sure = application_sound_after h.entries after c.args.name.now c.args.state c.args.privileges c.add_application.result (sound_parts h contents.ok).2 change.taken change.list in
    let few : c.add_application.new.self.count ≤ 12 = change.counted contents.counted.1 in
    (((contents.counted.0, few), tt), ((contents.counted.0, few), (entries_replaced h after contents.ok sure, tt)))
