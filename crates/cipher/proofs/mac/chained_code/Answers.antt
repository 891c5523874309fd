use Rattle.std.proofs.Common.{[]}
use Rattle.std.proofs.lemmas.List.{take_all}
use Rattle.std.proofs.lemmas.List.Sums.{fold_more}
use Rattle.cipher.specs.Mac.{link}
use Rattle.cipher.proofs.Pads.{chained_last, pads}
use Rattle.cipher.proofs.mac.chained_code.Goals as goal

pub loop-block-preserved : goal.loop-block-preserved
loop-block-preserved g c =
    let n = fold_more (link (g.C.Cipher.enciphering c.args.keys.now)) c.args.start.now c.as_chunks.result.0.now c.loop-block.block-index [] c.loop-block-test.true in
    cc

pub returns : goal.returns
returns g c =
    let t = take_all c.loop-block.block-index c.as_chunks.result.0.now c.loop-block-test.false in
    let n = chained_last (g.C.Cipher.enciphering c.args.keys.now) c.args.start.now c.args.bytes.now in
    record { code = cc; padding = pads }
