use Rattle.std.proofs.Common.{◌≤◌, arith, rules}
use Rattle.contents.specs.Contents.{held}
use Rattle.contents.specs.Records.{listed}
use Rattle.contents.proofs.Altered.{sound_parts, sets_replaced}
use Rattle.contents.proofs.Grown.{Keys, replaced_sound_after}
use Rattle.contents.proofs.Contents.replace_key_set.Goals as goal

pub invariant_of-self : goal.invariant_of-self
invariant_of-self c =
    let contents = c.args.self.now in
    let h = held contents in
    let after = listed c.replace.new.self in
    let change = c.replace.ensures in
    let keys : Keys c.args.set = search rules in
    let sure = replaced_sound_after h.sets after c.args.version c.args.set c.replace.result keys (sound_parts h contents.ok).1 change.taken change.list in
    let few : c.replace.new.self.count ≤ 4 = omega (arith, change.count, contents.counted.0) in
    (((few, contents.counted.1), tt), ((few, contents.counted.1), (sets_replaced h after contents.ok sure, tt)))
