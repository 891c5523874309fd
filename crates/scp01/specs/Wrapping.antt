-- Commands inside a channel, as a terminal wraps them.
use Rattle.std.specs.Prelude.{◌≡◌, ℕ, ◌+◌, Bool, cond, ◌&&◌, ◌||◌, List, [], ◌∷◌, ◌++◌, length, Some, None, Option, ◌==◌, nat_le, nat_lt}
use Rattle.answers.specs.Areas.{written, fronted}
use Rattle.apdu.specs.Apdu.{Apdu}
use Rattle.cipher.specs.Blocks.{Algorithm, Direction, zeros}
use Rattle.cipher.specs.Cbc.{cbc_enciphered}
use Rattle.scp01.specs.declared.Level.{Level}
use Rattle.scp01.specs.declared.Level.TheVariants.{Plain, Mac, MacEncrypted}
use Rattle.scp01.specs.declared.Session.{Session}
use Rattle.scp01.specs.declared.wrapping.Wrapped.{Wrapped}
use Rattle.scp01.specs.Inside.{body_text}
use Rattle.scp01.specs.Session.{command_code}

-- bytes stand in the area from `at` on, and nothing else changed; n is the place behind them
pub record PutAt (before after : List ℕ) (at n : ℕ) (bytes : List ℕ) : Type 0 where
  pub area : after ≡ written before at bytes
  pub end : n ≡ at + length bytes

-- n bytes stand at the front of the area, and nothing else changed
pub record PutInFront (before after : List ℕ) (n : ℕ) (bytes : List ℕ) : Type 0 where
  pub area : after ≡ fronted before bytes
  pub end : n ≡ length bytes

-- The bytes of a command: class, instruction, P1, P2; Lc and the data field, where there is one; Le, where there is one.

abbrev pub field_bytes : List ℕ → List ℕ
field_bytes field = cond (length field == 0) [] (length field ∷ field)

abbrev pub le_bytes : Option ℕ → List ℕ
le_bytes None = []
le_bytes (Some le) = le ∷ []

abbrev pub command_bytes : Apdu → List ℕ
command_bytes c = (c.class ∷ c.instruction ∷ c.p1 ∷ c.p2 ∷ []) ++ (field_bytes c.field ++ le_bytes c.le)

-- what a call answers that writes them to the front of an area, and what the area then holds; none, and the area as it was,
-- where it is shorter than the longest command, or the data field has no Lc
abbrev pub command_into : List ℕ → Apdu → Option ℕ × List ℕ
command_into area c =
    cond (nat_lt (length area) 261 || nat_lt 255 (length c.field)) (None, area)
    (Some (length (command_bytes c)), fronted area (command_bytes c))

-- the longest body that a level has room for
abbrev pub longest_body : Level → ℕ
longest_body Plain = 255
longest_body Mac = 247
longest_body MacEncrypted = 239

-- a body's text, enciphered from zeros; nothing for an empty body
abbrev pub enciphered : Direction → List ℕ → List ℕ → List ℕ
enciphered enc key [] = []
enciphered enc key (b ∷ bs) = cbc_enciphered (enc key) zeros (body_text (b ∷ bs))

-- a command's code: over its header and its plain body, from the chaining value
abbrev pub code_of : Algorithm → Session → Apdu → List ℕ
code_of cipher s c = command_code cipher.enc s.keys.mac s.chain c.instruction c.p1 c.p2 c.field

-- a command of class 84, whose data field is what stands for the body, and the code
abbrev pub sealed_with : Apdu → List ℕ → List ℕ → Apdu
sealed_with c body code =
    record { class = 0x84; instruction = c.instruction; p1 = c.p1; p2 = c.p2; field = body ++ code; le = c.le }

-- the command that a level sends: as it is, with its code, or with its code and its body enciphered under the session key for
-- bodies
abbrev pub sent_at : Algorithm → Session → Apdu → Level → Apdu
sent_at cipher s c Plain = c
sent_at cipher s c Mac = sealed_with c c.field (code_of cipher s c)
sent_at cipher s c MacEncrypted = sealed_with c (enciphered cipher.enc s.keys.enc c.field) (code_of cipher s c)

-- the chaining value after it
abbrev pub chain_sent : Algorithm → Session → Apdu → Level → List ℕ
chain_sent cipher s c Plain = s.chain
chain_sent cipher s c Mac = code_of cipher s c
chain_sent cipher s c MacEncrypted = code_of cipher s c

-- bare commands have class 80 and a body that the level has room for
abbrev pub wrappable : Apdu → Level → Bool
wrappable c level = c.class == 0x80 && nat_le (length c.field) (longest_body level)

abbrev pub wrapped_at : Algorithm → Session → Apdu → Level → Option (List ℕ × List ℕ)
wrapped_at cipher s c level = cond (wrappable c level) (Some (command_bytes (sent_at cipher s c level), chain_sent cipher s c level)) None

-- a bare command, wrapped: the bytes to send and the chaining value after them
abbrev pub wrapped : Algorithm → Session → Apdu → Option (List ℕ × List ℕ)
wrapped cipher s c = wrapped_at cipher s c s.level

-- what the call answers, and what the area then holds: nothing is written where there is nothing to send, or the area is
-- shorter than the longest command
abbrev pub into_area : List ℕ → Option (List ℕ × List ℕ) → Option (ℕ × List ℕ) × List ℕ
into_area area None = (None, area)
into_area area (Some w) = (Some (length w.0, w.1), fronted area w.0)

abbrev pub wrapped_into : List ℕ → Option (List ℕ × List ℕ) → Option (ℕ × List ℕ) × List ℕ
wrapped_into area w = cond (nat_lt (length area) 261) (None, area) (into_area area w)

-- the length and the chaining value that a call answers
abbrev pub length_and_chain : Wrapped → ℕ × List ℕ
length_and_chain w = (w.length, w.chain)
