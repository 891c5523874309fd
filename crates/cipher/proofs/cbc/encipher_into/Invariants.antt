use Rattle.std.proofs.Common.{◌*◌, drop}
use Rattle.cipher.specs.Cbc.{chained_out, cbc_enciphered}
use Rattle.cipher.proofs.Areas.{Filling}
use Rattle.cipher.proofs.cbc.encipher_into.Given as goal

abbrev pub invariant-loop-i : goal.invariant-loop-i
invariant-loop-i g l =
    let under = g.C.Cipher.enciphering l.keys in
    Filling l.initial.area l.area (cbc_enciphered under l.start l.text) (chained_out under l.before (drop l.i l.blocks)) (8 * l.i)
