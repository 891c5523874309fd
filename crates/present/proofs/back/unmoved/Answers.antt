use Rattle.std.proofs.Common.{◌^◌, ◌<◌, rules}
use Rattle.bits.proofs.Linear.{exchanges}
use Rattle.present.specs.Boxes.{inv_p_swaps, inv_p_is}
use Rattle.present.proofs.back.unmoved.Goals as goal

pub returns : goal.returns
unfolding inv_p_swaps exchanges
returns c = let h : c.args.x < 2 ^ 64 = search rules in let e = inv_p_is c.args.x h in cc
