use Rattle.std.proofs.Common.{arith}
use Rattle.terminal.specs.Sides.{side}
use Rattle.runs.specs.Conversing.{blank}
use Rattle.runs.proofs.Conversing.{wrap_within}
use Rattle.runs.proofs.serve.send.Goals as goal

pub slice_bounds-hand_in-end : goal.slice_bounds-hand_in-end
slice_bounds-hand_in-end g c =
    let cipher = g.C.Cipher.algorithm in
    let side-of = side {C = g.row.C.Denot} in
    let h = wrap_within cipher (side-of c.args.terminal.now) (side-of c.wrap.new.self) c.args.command.now blank c.wrap.new.area c.in-Ok.n c.in-Ok.ensures in
    omega (arith, h)
