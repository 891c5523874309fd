use Rattle.std.proofs.Common.{◌≡◌, ℕ, ◌+◌, ◌*◌, ◌≤◌, List, [], ◌++◌, length, get_or, drop, sym, refl, ap, ◌∙◌, arith, rules}
use Rattle.cipher.specs.Blocks.{xor}
use Rattle.cipher.specs.Mac.{blocks}
use Rattle.cipher.specs.Cbc.{chained_back}
use Rattle.cipher.proofs.Areas.{chain_more, filling_all}
use Rattle.cipher.proofs.cbc.decipher_into.Goals as goal

pub loop-i-init : goal.loop-i-init
unfolding blocks
loop-i-init g c = search rules

pub loop-i-preserved : goal.loop-i-preserved
loop-i-preserved g c =
    let under = g.C.Cipher.deciphering c.args.keys.now in
    let block = get_or c.as_chunks.result.0.now c.loop-i.i [] in
    let bs = drop (c.loop-i.i + 1) c.as_chunks.result.0.now in
    let made = c.xored.ensures ∙ ap (xor c.loop-i.before) c.decipher.ensures in
    let step = ap (λ (m : List ℕ). m ++ chained_back under block bs) (sym made) in
    let long : length c.xored.result ≡ 8 = search rules in
    let room : 8 * c.loop-i.i + 8 ≤ length c.loop-i.area = omega arith in
    chain_more (chained_back under c.loop-i.before) _ _ _ _ _ _ _ _ c.loop-i.invariant c.loop-i-test.true step c.put_block.ensures long room

pub returns : goal.returns
returns g c =
    let filled =
    filling_all (chained_back (g.C.Cipher.deciphering c.args.keys.now) c.loop-i.before) _ _ _ _ _ _ refl c.loop-i.invariant c.loop-i-test.false (omega arith)
    in
    record { area = filled.0; whole = filled.1 ∙ omega arith }
