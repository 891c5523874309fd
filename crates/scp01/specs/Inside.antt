-- Commands inside a channel, as a card reads them.
use Rattle.std.specs.Prelude.{ℕ, ◌+◌, ◌-◌, ◌%◌, Bool, cond, ◌&&◌, List, [], ◌∷◌, ◌++◌, length, take, drop, replicate, Some, None, Option, ◌==◌, nat_le, nat_lt, slice_index}
use Rattle.std.specs.Option.{option_map}
use Rattle.std.specs.Str.{bytes_eq}
use Rattle.answers.specs.Areas.{fronted}
use Rattle.apdu.specs.Apdu.{Apdu}
use Rattle.cipher.specs.Blocks.{Algorithm, zeros}
use Rattle.cipher.specs.Cbc.{cbc_deciphered, whole_in}
use Rattle.scp01.specs.declared.Level.{Level}
use Rattle.scp01.specs.declared.Level.TheVariants.{Plain, Mac, MacEncrypted}
use Rattle.scp01.specs.declared.Session.{Session}
use Rattle.scp01.specs.declared.inside.Place.{Place}
use Rattle.scp01.specs.declared.inside.Place.TheVariants.{Command, Work}
use Rattle.scp01.specs.declared.inside.Unwrapped.{Unwrapped}
use Rattle.scp01.specs.Session.{command_code}

-- The text of a body before it is enciphered: its length, the body, and, where the last block is not full, 80 and 00 to its end.

-- what fills the last block behind n bytes
abbrev pub closing : ℕ → List ℕ
closing n = take ((8 - n % 8) % 8) (0x80 ∷ replicate 7 0)

abbrev pub body_text : List ℕ → List ℕ
body_text body = length body ∷ (body ++ closing (length body + 1))

-- the bytes behind a text's first, as many as that says
abbrev pub said : List ℕ → List ℕ
said text = take (slice_index text 0) (drop 1 text)

-- the body that a text says: one to 239 bytes, and the text is just theirs
abbrev pub body_of : List ℕ → Option (List ℕ)
body_of text =
    cond (nat_le 1 (slice_index text 0) && (nat_le (slice_index text 0) 239 && bytes_eq text (body_text (said text)))) (Some (said text)) None

-- The data field of a command with a code: what stands for the body, and eight bytes of code.

abbrev pub before_code : List ℕ → List ℕ
before_code field = take (length field - 8) field

abbrev pub code_in : List ℕ → List ℕ
code_in field = drop (length field - 8) field

-- the bytes before the code, deciphered from zeros under the session key for bodies
abbrev pub deciphered : Algorithm → Session → List ℕ → List ℕ
deciphered cipher s field = cbc_deciphered (cipher.dec s.keys.enc) zeros (before_code field)

-- the text that a level has deciphered: at 03 that of the whole blocks before the code, at most 240 bytes, since no longer text
-- says a body; at the others none
abbrev pub text_in : Algorithm → Session → List ℕ → Level → Option (List ℕ)
text_in cipher s field Plain = Some []
text_in cipher s field Mac = Some []
text_in cipher s field MacEncrypted =
    cond (nat_le 8 (length field) && whole_in (length (before_code field)) 240) (Some (deciphered cipher s field)) None

-- the body in a data field and its deciphered text: all of the field, what stands before the code, or what the text says; no
-- text is an empty body
abbrev pub body_in : List ℕ → List ℕ → Level → Option (List ℕ)
body_in field text Plain = Some field
body_in field text Mac = cond (nat_le 8 (length field)) (Some (before_code field)) None
body_in field [] MacEncrypted = Some []
body_in field (t ∷ ts) MacEncrypted = body_of (t ∷ ts)

-- the code of a command; none for a body that no command with a code has room for
abbrev pub code_for : Algorithm → Session → ℕ → ℕ → ℕ → List ℕ → Option (List ℕ)
code_for cipher s ins p1 p2 body =
    cond (nat_lt 247 (length body)) None (Some (command_code cipher.enc s.keys.mac s.chain ins p1 p2 body))

abbrev pub and_then : {X Y : Type 0} → Option X → (X → Option Y) → Option Y
and_then None f = None
and_then (Some x) f = f x

-- the code that stands in a data field, where it is the right one
abbrev pub right_code : Algorithm → Session → Apdu → List ℕ → Option (List ℕ)
right_code cipher s c body =
    and_then (code_for cipher s c.instruction c.p1 c.p2 body) (λ code. cond (bytes_eq (code_in c.field) code) (Some code) None)

-- the chaining value after a command with this body: a right code becomes it, and level 00 leaves it
abbrev pub chain_after : Algorithm → Session → Apdu → List ℕ → Level → Option (List ℕ)
chain_after cipher s c body Plain = Some s.chain
chain_after cipher s c body Mac = right_code cipher s c body
chain_after cipher s c body MacEncrypted = right_code cipher s c body

-- level 00 takes class 80, where the card allows it to go without codes, and levels 01 and 03 take class 84
abbrev pub takes_class : Bool → ℕ → Level → Bool
takes_class plain class Plain = plain && class == 0x80
takes_class plain class Mac = class == 0x84
takes_class plain class MacEncrypted = class == 0x84

-- the body that a command says and the chaining value after it, once its text is deciphered
abbrev pub unwrapped_from : Algorithm → Session → Bool → Apdu → Level → List ℕ → Option (List ℕ × List ℕ)
unwrapped_from cipher s plain c level text =
    cond (takes_class plain c.class level)
    (and_then (body_in c.field text level) (λ body. option_map (λ chain. (body, chain)) (chain_after cipher s c body level)))
    None

-- what a command inside a channel says, and the chaining value after it
abbrev pub unwrapped : Algorithm → Session → Bool → Apdu → Level → Option (List ℕ × List ℕ)
unwrapped cipher s plain c level = and_then (text_in cipher s c.field level) (unwrapped_from cipher s plain c level)

-- The calls of a card.

-- deciphering a data field at the front of a work area of at least 256 bytes: the length of its text, and the area after; none,
-- and the area as it was, where there is no text
abbrev pub text_into : List ℕ → Option (List ℕ) → Option ℕ × List ℕ
text_into work None = (None, work)
text_into work (Some text) = (Some (length text), fronted work text)

abbrev pub deciphered_into : List ℕ → Option (List ℕ) → Option ℕ × List ℕ
deciphered_into work text = cond (nat_lt (length work) 256) (None, work) (text_into work text)

-- where a body stands: in the command, or, deciphered, in the work area
abbrev pub place_at : Level → Place
place_at Plain = Command
place_at Mac = Command
place_at MacEncrypted = Work

abbrev pub body_at : List ℕ → List ℕ → Level → Option (Place × List ℕ)
body_at field text level = option_map (λ body. (place_at level, body)) (body_in field text level)

-- the place, the body and the chaining value that a call answers
abbrev pub answered : Unwrapped → Place × List ℕ × List ℕ
answered u = (u.place, u.body.now, u.chain)

abbrev pub placed : Level → List ℕ × List ℕ → Place × List ℕ × List ℕ
placed level p = (place_at level, p.0, p.1)
