use Rattle.std.proofs.Common.{◌≤◌, rules}
use Rattle.contents.specs.Contents.{held}
use Rattle.contents.specs.Records.{listed}
use Rattle.contents.proofs.Altered.{sound_parts, sets_replaced}
use Rattle.contents.proofs.Grown.{Keys, set_sound_after}
use Rattle.contents.proofs.Contents.add_key_set.Goals as goal

pub invariant_of-self : goal.invariant_of-self
invariant_of-self c =
    let contents = c.args.self.now in
    let h = held contents in
    let after = listed c.add.new.self in
    let change = c.add.ensures in
    let keys : Keys c.args.set = search rules in
    let sure = set_sound_after h.sets after c.args.set c.add.result keys (sound_parts h contents.ok).1 change.taken change.list in
    let few : c.add.new.self.count ≤ 4 = change.counted contents.counted.0 in
    (((few, contents.counted.1), tt), ((few, contents.counted.1), (sets_replaced h after contents.ok sure, tt)))
