use Rattle.std.proofs.Common.{◌-◌, ◌*◌, ◌/◌, ◌^◌, ◌<◌, get_or, refl, arith, lit<, rules}
use lib.Bits.{bit_and}
use Rattle.present.specs.Present.{replaced}
use Rattle.present.specs.Boxes.{byte_more, byte_lt, room}
use Rattle.present.proofs.back.bytes_through.Goals as goal

pub loop-i-init : goal.loop-i-init
unfolding replaced
loop-i-init c = (refl, lit< tt)

pub overflow_mul-out : goal.overflow_mul-out
overflow_mul-out c = let h = room c.loop-i.out c.loop-i.i c.loop-i-test.true c.loop-i.invariant.1 in omega arith

pub overflow_add-out : goal.overflow_add-out
overflow_add-out c =
    let h = room c.loop-i.out c.loop-i.i c.loop-i-test.true c.loop-i.invariant.1 in
    let b : get_or c.args.table.now (bit_and (c.args.x / 2 ^ (56 - 8 * c.loop-i.i)) 255) 0 < 256 = search rules in
    omega arith

pub loop-i-preserved : goal.loop-i-preserved
loop-i-preserved c =
    let b : get_or c.args.table.now (bit_and (c.args.x / 2 ^ (56 - 8 * c.loop-i.i)) 255) 0 < 256 = search rules in (
      byte_more c.args.table.now c.args.x c.loop-i.i c.loop-i.out c.loop-i-test.true c.loop-i.invariant.0,
      byte_lt c.loop-i.out (get_or c.args.table.now (bit_and (c.args.x / 2 ^ (56 - 8 * c.loop-i.i)) 255) 0) c.loop-i.i c.loop-i.invariant.1 b,
    )
