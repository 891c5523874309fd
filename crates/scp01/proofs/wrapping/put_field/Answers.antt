use Rattle.std.proofs.Common.{sym, arith}
use Rattle.scp01.proofs.Writing.{put_field}
use Rattle.scp01.proofs.wrapping.put_field.Goals as goal

pub returns : goal.returns
returns c =
    put_field c.args.area.now _ _ c.args.field.now c.args.at _ _ (sym c.if-is_empty.ensures) c.put-behind.ensures c.put.ensures (omega arith)
