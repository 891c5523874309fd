use Rattle.contents.proofs.Images.{room_left}
use Rattle.contents.proofs.image.writing.write_all.Goals as goal

pub write-requires : goal.write-requires
write-requires g c =
    room_left g.R.Stored.bytes c.args.records.now c.loop-record.record-index c.record-item.result _ _ 465 c.loop-record.invariant c.record-item.is c.loop-record-test.true c.requires
