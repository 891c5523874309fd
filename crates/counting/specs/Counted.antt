-- What a counting source means.
use Rattle.std.specs.Prelude.{◌≡◌, ℕ, ◌+◌, ◌%◌, ◌^◌, ◌<◌, cond, ◌&&◌, List, map, length, drop, Ok, Err, Result, ◌==◌}
use Rattle.std.specs.List.{range_with_len}
use Rattle.answers.specs.declared.Refusal.{Refusal}
use Rattle.answers.specs.declared.Refusal.TheVariants.{IllArgument}
use Rattle.bits.specs.Octets.{value, octets}
use Rattle.challenge.specs.Draws.{Challenges}
use Rattle.cipher.specs.Blocks.{Bytes, Direction}

-- challenge i: the start plus i, modulo 2^64, as a block, enciphered
abbrev pub challenge_at : (List ℕ → List ℕ) → ℕ → ℕ → List ℕ
challenge_at under start i = under (octets 8 ((start + i) % 2 ^ 64))

-- challenges 0 to 65,535, under an enciphering whose key is fixed
unfoldable pub counted_from : (List ℕ → List ℕ) → ℕ → Challenges
counted_from under start = map (challenge_at under start) (range_with_len 0 65536)

-- those that are left when some are drawn
abbrev pub counted_past : (List ℕ → List ℕ) → ℕ → ℕ → Challenges
counted_past under start drawn = drop drawn (counted_from under start)

-- the challenges of a source made of a key and a start block, or why none is made
abbrev pub source_of : Direction → List ℕ → List ℕ → Result Challenges Refusal
source_of enc key start =
    cond (length key == 16 && length start == 8) (Ok (counted_from (enc key) (value start))) (Err IllArgument)

-- no two challenges of a source are the same
abbrev pub Distinct : Direction → Type 0
Distinct enc =
    (key : List ℕ) (start i j : ℕ) → Bytes 16 key → i < 65536 → j < 65536 → challenge_at (enc key) start i ≡ challenge_at (enc key) start j → i ≡ j
