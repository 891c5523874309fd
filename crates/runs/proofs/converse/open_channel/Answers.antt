use Rattle.std.proofs.Common.{◌≡◌, ℕ, ◌<◌, List, get_or, ap, ◌∙◌, subst, rules}
use Rattle.std.specs.Option.{option_map}
use Rattle.cipher.specs.Blocks.{Bytes, Undoes}
use Rattle.card.specs.Cards.{view}
use Rattle.card.specs.Models.{Fit}
use Rattle.terminal.specs.Sides.{side}
use Rattle.runs.specs.Conversing.{Carried, showing}
use Rattle.runs.specs.Turns.{exchanged}
use Rattle.runs.proofs.Conversing.{opens_channel}
use Rattle.runs.proofs.Reaching.{opening_onward}
use Rattle.runs.proofs.converse.open_channel.Goals as goal

pub returns : goal.returns
returns g c =
    let cipher = g.C.Cipher.algorithm in
    let view_of = view {C = g.row.C.Denot} g.S.Source.coming in
    let side-of = side {C = g.row.C.Denot} in
    let laws : Undoes g.C.Cipher.algorithm.enc g.C.Cipher.algorithm.dec = record { enciphered = g.met.C.Cipher.enciphered; undone = g.met.C.Cipher.undone } in
    let card = c.args.card.now in
    let set = c.args.set.now in
    let fit : Fit (view_of card) = record { channel = card.sized; contents = card.contents.ok } in
    let enc : Bytes 16 set.keys.enc = record { long = search rules; small = c.of_bytes.ensures.small } in
    let mac : Bytes 16 set.keys.mac = record { long = search rules; small = c.of_bytes-2.ensures.small } in
    let host : Bytes 8 c.args.host.now = record { long = c.told-host; small = c.of_bytes-3.ensures.small } in
    let mid = c.begin.new.card in
    let next : Fit (view_of mid) = record { channel = mid.sized; contents = mid.contents.ok } in
    let x = exchanged c.in_ok-update.update in
    let noted = option_map exchanged c.in_ok-authenticate.authenticate in
    let first : c.deref.result.now ≡ x.1 = search rules in
    let second : c.deref-2.result.now ≡ x.1 = search rules in
    let over = side-of c.begin.new.terminal in
    let last = view_of c.authenticate.new.card in
    let u = side-of c.authenticate.new.terminal in
    let Small : List ℕ → Type 0 = λ bs. (i : ℕ) → get_or bs i 0 < 256 in
    let P : List ℕ → Type 0 = λ a. Carried cipher (view_of mid) last (showing cipher over a c.args.level) noted in
    let carried = subst P second c.in_ok-authenticate.ensures.carried in
    let left : u ≡ (showing cipher over x.1 c.args.level).1 = c.in_ok-authenticate.ensures.terminal ∙ ap (λ (a : List ℕ). (showing cipher over a c.args.level).1) second in
    let began = c.in_ok-update.ensures.began in
    record {
      opened = opens_channel cipher laws (view_of card) (view_of mid) last (side-of c.args.terminal.now) over u set c.args.host.now c.args.level x noted fit next enc mac host (subst Small first c.of_bytes-4.ensures.small) began carried left;
      onward = opening_onward cipher (view_of card) (view_of mid) last (side-of c.args.terminal.now) over c.args.host.now x (showing cipher over x.1 c.args.level) noted began carried;
      whole = c.in_ok-authenticate.ensures.whole ∙ c.in_ok-update.ensures.whole;
    }
