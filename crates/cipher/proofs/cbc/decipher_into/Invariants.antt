use Rattle.std.proofs.Common.{◌*◌, drop}
use Rattle.cipher.specs.Cbc.{chained_back, cbc_deciphered}
use Rattle.cipher.proofs.Areas.{Filling}
use Rattle.cipher.proofs.cbc.decipher_into.Given as goal

abbrev pub invariant-loop-i : goal.invariant-loop-i
invariant-loop-i g l =
    let under = g.C.Cipher.deciphering l.keys in
    Filling l.initial.area l.area (cbc_deciphered under l.start l.text) (chained_back under l.before (drop l.i l.blocks)) (8 * l.i)
