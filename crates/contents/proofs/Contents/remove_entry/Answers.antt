use Rattle.std.proofs.Common.{◌≤◌}
use Rattle.contents.specs.Contents.{held}
use Rattle.contents.specs.Records.{listed}
use Rattle.contents.proofs.Altered.{sound_parts, entries_replaced}
use Rattle.contents.proofs.Grown.{without_sound}
use Rattle.contents.proofs.Contents.remove_entry.Goals as goal

pub invariant_of-self : goal.invariant_of-self
invariant_of-self c =
    let contents = c.args.self.now in
    let h = held contents in
    let after = listed c.remove_named.new.self in
    let change = c.remove_named.ensures in
    let sure = without_sound h.entries after c.args.name.now (sound_parts h contents.ok).2 change.list in
    let few : c.remove_named.new.self.count ≤ 12 = change.counted contents.counted.1 in
    (((contents.counted.0, few), tt), ((contents.counted.0, few), (entries_replaced h after contents.ok sure, tt)))
