-- The worked examples inside a channel hold.
use Rattle.std.proofs.Common.{◌≡◌, ℕ, ◌≤◌, eqb, leb, length, get_or, refl, ap, ◌∙◌, arith, length-append}
use lib.ListN.{length-replicate}
use Rattle.std.proofs.lemmas.Bool.{eq-eqb, ne_eqb, le-leb, lt-leb, and_right}
use Rattle.apdu.specs.Apdu.{Apdu}
use Rattle.cipher.specs.Mac.{padded}
use Rattle.scp01.specs.declared.Level.TheVariants.{MacEncrypted}
use Rattle.scp01.specs.Wrapping.{enciphered, code_of, command_bytes, sent_at, wrapped_at, wrapped}
use Rattle.scp01.specs.ChannelRows.{SentWith, NoRoomFor, PadsTo, ChannelRows}
use Rattle.scp01.proofs.Understanding.{code_long, enciphered_long}

sixteen : PadsTo 16 24
unfolding padded
sixteen bytes long = simp (length-append, length-replicate) (omega arith)

thirteen : PadsTo 13 16
unfolding padded
thirteen bytes long = simp (length-append, length-replicate) (omega arith)

-- Lc is the length of a data field that is not empty
lc_is : (c : Apdu) (n : ℕ) → length c.field ≡ n → 1 ≤ n → get_or (command_bytes c) 4 0 ≡ n
lc_is c n long some = let e = ne_eqb (length c.field) 0 (λ p. omega arith) in rw (e, long)

longest : SentWith 239 248
longest cipher laws s c k b level class long =
    let e = eq-eqb c.class 0x80 class in
    let l = le-leb (length c.field) 239 (omega arith) in
    let made : wrapped cipher s c ≡ wrapped_at cipher s c MacEncrypted = ap (wrapped_at cipher s c) level in
    let sent = sent_at cipher s c MacEncrypted in
    let code = code_long cipher laws s c k b (omega arith) in
    let shut = enciphered_long cipher.enc cipher.dec laws s.keys.enc c.field k.enc (omega arith) (omega arith) b.field in
    let field : length sent.field ≡ 248 = length-append (enciphered cipher.enc s.keys.enc c.field) (code_of cipher s c) ∙ omega arith in
    ((command_bytes sent, code_of cipher s c), made ∙ rw (e, l), lc_is sent 248 field (omega arith))

longer : NoRoomFor 240
longer cipher s c level long =
    let made : wrapped cipher s c ≡ wrapped_at cipher s c MacEncrypted = ap (wrapped_at cipher s c) level in
    let l = lt-leb (length c.field) 239 (omega arith) in
    let none = and_right (eqb c.class 0x80) (leb (length c.field) 239) l in
    made ∙ rw none

pub channel_rows : ChannelRows
channel_rows = record { three = refl; seven = refl; sixteen = sixteen; thirteen = thirteen; longest = longest; longer = longer }
