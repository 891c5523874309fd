use Rattle.std.proofs.Common.{◌≤◌, arith}
use Rattle.contents.specs.Contents.{held}
use Rattle.contents.specs.Records.{listed}
use Rattle.contents.proofs.Altered.{sound_parts, entries_replaced, state_change_sound}
use Rattle.contents.proofs.Contents.set_application_state.Goals as goal

pub invariant_of-self : goal.invariant_of-self
invariant_of-self c =
    let contents = c.args.self.now in
    let h = held contents in
    let after = listed c.set_application_state.new.self in
    let change = c.set_application_state.ensures in
    let sure = state_change_sound h.entries after c.args.name.now c.args.state c.set_application_state.result (sound_parts h contents.ok).2 change.taken change.list in
    let few : c.set_application_state.new.self.count ≤ 12 = omega (arith, change.count, contents.counted.1) in
    (((contents.counted.0, few), tt), ((contents.counted.0, few), (entries_replaced h after contents.ok sure, tt)))
