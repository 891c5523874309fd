use Rattle.std.proofs.Common.{arith}
use Rattle.scp01.specs.Wrapping.{field_bytes, le_bytes}
use Rattle.scp01.proofs.Writing.{put_three, length_field, length_le}
use Rattle.scp01.proofs.wrapping.put_command.Goals as goal

pub returns : goal.returns
returns c =
    let field = length_field c.args.command.field.now in
    let le = length_le c.args.command.le in
    put_three c.args.area.now _ _ _ _ (field_bytes c.args.command.field.now) (le_bytes c.args.command.le) _ _ _ c.put-start.ensures c.put_field-end.ensures c.put_le.ensures (omega arith)
