-- Worked examples of bodies, padding and lengths inside a channel, over the definitions that the contracts cite.
use Rattle.std.specs.Prelude.{◌≡◌, ℕ, List, [], ◌∷◌, length, Some, None, slice_index}
use Rattle.apdu.specs.Apdu.{Apdu}
use Rattle.cipher.specs.Blocks.{Algorithm, Undoes}
use Rattle.cipher.specs.Mac.{padded}
use Rattle.scp01.specs.declared.Level.TheVariants.{MacEncrypted}
use Rattle.scp01.specs.declared.Session.{Session}
use Rattle.scp01.specs.Inside.{body_text}
use Rattle.scp01.specs.Wrapping.{wrapped}
use Rattle.scp01.specs.Understanding.{Keyed, Bytewise}

-- at level 03 a command with a body of n bytes is sent, and its Lc is lc
abbrev pub SentWith : ℕ → ℕ → Type 0
SentWith n lc =
    (cipher : Algorithm) → Undoes cipher.enc cipher.dec → (s : Session) (c : Apdu) → Keyed s → Bytewise c → s.level ≡ MacEncrypted → c.class ≡ 0x80 → length c.field ≡ n → (w : List ℕ × List ℕ) × (wrapped cipher s c ≡ Some w) × (slice_index w.0 4 ≡ lc)

-- at level 03 a body of n bytes has no room
abbrev pub NoRoomFor : ℕ → Type 0
NoRoomFor n = (cipher : Algorithm) (s : Session) (c : Apdu) → s.level ≡ MacEncrypted → length c.field ≡ n → wrapped cipher s c ≡ None

-- n bytes are padded to m for a code
abbrev pub PadsTo : ℕ → ℕ → Type 0
PadsTo n m = (bytes : List ℕ) → length bytes ≡ n → length (padded bytes) ≡ m

pub record ChannelRows : Type 0 where
  -- AABBCC, before it is enciphered, is 03AABBCC80000000
  pub three : body_text (0xAA ∷ 0xBB ∷ 0xCC ∷ []) ≡ 0x03 ∷ 0xAA ∷ 0xBB ∷ 0xCC ∷ 0x80 ∷ 0x00 ∷ 0x00 ∷ 0x00 ∷ []
  -- 01 to 07 is 0701020304050607
  pub seven : body_text (0x01 ∷ 0x02 ∷ 0x03 ∷ 0x04 ∷ 0x05 ∷ 0x06 ∷ 0x07 ∷ []) ≡ 0x07 ∷ 0x01 ∷ 0x02 ∷ 0x03 ∷ 0x04 ∷ 0x05 ∷ 0x06 ∷ 0x07 ∷ []
  pub sixteen : PadsTo 16 24
  pub thirteen : PadsTo 13 16
  pub longest : SentWith 239 248
  pub longer : NoRoomFor 240
