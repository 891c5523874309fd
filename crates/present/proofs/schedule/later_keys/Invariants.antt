use Rattle.std.proofs.Common.{◌≡◌, ◌+◌, ◌-◌, ◌^◌, ◌<◌, ◌++◌, length, take}
use Rattle.present.specs.Steps.{later_keys}
use Rattle.present.proofs.schedule.later_keys.Given as goal

abbrev pub invariant-loop-i : goal.invariant-loop-i
invariant-loop-i l = (take l.i l.round_key-items ++ later_keys (31 - l.i) (l.i + 1) l.k ≡ later_keys 31 1 l.key) × (length l.round_key-items ≡ 31) × (l.k < 2 ^ 128)
