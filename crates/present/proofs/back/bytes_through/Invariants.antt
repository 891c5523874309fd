use Rattle.std.proofs.Common.{◌≡◌, ◌-◌, ◌*◌, ◌/◌, ◌^◌, ◌<◌}
use Rattle.present.specs.Present.{replaced}
use Rattle.present.proofs.back.bytes_through.Given as goal

abbrev pub invariant-loop-i : goal.invariant-loop-i
invariant-loop-i l = (l.out ≡ replaced 256 l.table l.i (l.x / 2 ^ (64 - 8 * l.i))) × (l.out < 2 ^ (8 * l.i))
