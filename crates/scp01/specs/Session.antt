-- Session keys, cryptograms and command codes of SCP01: what card and terminal both work out.
use Rattle.std.specs.Prelude.{ℕ, ◌+◌, List, ◌∷◌, ◌++◌, length, take, drop}
use Rattle.cipher.specs.Blocks.{Direction, zeros}
use Rattle.cipher.specs.Mac.{mac}
use Rattle.cipher.specs.declared.Keys.{Keys}

-- the two derivation blocks: card challenge bytes 5 to 8 and host challenge bytes 1 to 4, then card 1 to 4 and host 5 to 8
abbrev pub first_derivation : List ℕ → List ℕ → List ℕ
first_derivation host card = take 4 (drop 4 card) ++ take 4 host

abbrev pub second_derivation : List ℕ → List ℕ → List ℕ
second_derivation host card = take 4 card ++ take 4 (drop 4 host)

-- a session key: both derivation blocks, enciphered under a key of the key set
abbrev pub session_key : Direction → List ℕ → List ℕ → List ℕ → List ℕ
session_key enc key host card = enc key (first_derivation host card) ++ enc key (second_derivation host card)

-- bodies are enciphered under a session key from the set's first key, codes come from one from its second, and the third
-- is the key-encrypting key itself
abbrev pub session_keys : Direction → List ℕ → List ℕ → List ℕ → List ℕ → List ℕ → Keys
session_keys enc first second third host card =
    record { enc = session_key enc first host card; mac = session_key enc second host card; kek = third }

-- the cryptograms are codes from zeros under the session key for bodies: the card's over host and card challenge, the
-- host's over card and host challenge
abbrev pub card_cryptogram : Direction → List ℕ → List ℕ → List ℕ → List ℕ
card_cryptogram enc key host card = mac enc key zeros (host ++ card)

abbrev pub host_cryptogram : Direction → List ℕ → List ℕ → List ℕ → List ℕ
host_cryptogram enc key host card = mac enc key zeros (card ++ host)

-- the bytes that a command's code is taken over: class 84, the header, the length of body and code, and the body
abbrev pub coded : ℕ → ℕ → ℕ → List ℕ → List ℕ
coded ins p1 p2 body = 0x84 ∷ ins ∷ p1 ∷ p2 ∷ (length body + 8) ∷ body

-- a command's code, from the code before it
abbrev pub command_code : Direction → List ℕ → List ℕ → ℕ → ℕ → ℕ → List ℕ → List ℕ
command_code enc key chain ins p1 p2 body = mac enc key chain (coded ins p1 p2 body)
