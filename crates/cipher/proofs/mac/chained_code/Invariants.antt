use Rattle.std.proofs.Common.{◌≡◌, take, fold}
use Rattle.cipher.specs.Mac.{link}
use Rattle.cipher.proofs.mac.chained_code.Given as goal

abbrev pub invariant-loop-block : goal.invariant-loop-block
invariant-loop-block g l =
    l.value ≡ fold (link (g.C.Cipher.enciphering l.keys)) l.start (take l.block-index l.blocks)
