use Rattle.std.proofs.Common.{◌-◌, ◌*◌, ◌/◌, ◌%◌, ◌^◌, arith}
use lib.Bits.{bit_xor, and_le_r}
use Rattle.tripledes.proofs.Keys.{turn_is}
use Rattle.tripledes.proofs.schedule.turned.Goals as goal

pub returns : goal.returns
returns c =
    let l = and_le_r (bit_xor ((c.args.c * 2 ^ 28) % 2 ^ 64) c.args.c / 2 ^ (28 - c.args.places)) 0xfffffff in
    (turn_is c.args.places c.args.c c.requires.1 c.requires.0, omega arith)
