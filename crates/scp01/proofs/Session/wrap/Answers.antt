use Rattle.std.proofs.Common.{◌≡◌, take, Some, sym, subst, rules}
use Rattle.std.proofs.lemmas.List.{take_at}
use Rattle.cipher.specs.Blocks.{Undoes}
use Rattle.apdu.specs.Apdu.{meaning}
use Rattle.scp01.specs.Understanding.{Understood, Bytewise}
use Rattle.scp01.specs.Wrapping.{command_bytes, sent_at, wrapped}
use Rattle.scp01.proofs.Understanding.{unwraps}
use Rattle.scp01.proofs.Session.wrap.Goals as goal

pub returns-clause-unwraps : goal.returns-clause-unwraps
returns-clause-unwraps g c =
    let cipher = g.C.Cipher.algorithm in
    let laws : Undoes g.C.Cipher.algorithm.enc g.C.Cipher.algorithm.dec = record { enciphered = g.met.C.Cipher.enciphered; undone = g.met.C.Cipher.undone } in
    let s = c.args.self.now in
    let command = meaning c.args.command in
    let bytes = c.of_bytes.ensures in
    let b : Bytewise (meaning c.args.command) = record { instruction = search rules; p1 = search rules; p2 = search rules; field = bytes.field } in
    let sent = command_bytes (sent_at cipher s command s.level) in
    let chain = c.send.result.chain in
    let made : wrapped cipher s command ≡ Some (sent, chain) = search rules in
    let front : take c.send.result.length c.send.new.area ≡ sent = search (rules, take_at) in
    subst (λ all. Understood cipher s command all chain) (sym front) (unwraps cipher laws s command (sent, chain) bytes.session b made)
