-- XTEA, the block cipher of Needham and Wheeler. A block and a key are two and four words of 32 bits, the first byte of a word the
-- highest; sums are modulo 2^32. A block goes through 32 cycles, and each cycle alters its first half and then its second.
use Rattle.std.specs.Prelude.{List, [], ◌∷◌, ℕ, zero, suc, ◌+◌, ◌-◌, ◌*◌, ◌/◌, ◌%◌, ◌^◌, get_or, take, drop}
use Rattle.std.specs.Int.Bits.{bit_xor}
use Rattle.bits.specs.Octets.{value, octets}

-- the byte that names the algorithm: our own choice
abbrev pub identifier : ℕ
identifier = 0xF2

-- sum and difference of two words
abbrev pub plus : ℕ → ℕ → ℕ
plus a b = (a + b) % 2 ^ 32

abbrev pub minus : ℕ → ℕ → ℕ
minus a b = (a + (2 ^ 32 - b)) % 2 ^ 32

-- n times the constant 9E3779B9
abbrev pub sum : ℕ → ℕ
sum n = n * 0x9E3779B9 % 2 ^ 32

-- a half, shifted by 4 and by 5, as it goes into the other half under a round key
abbrev pub mix : ℕ → ℕ → ℕ
mix half key = bit_xor (plus (bit_xor (half * 2 ^ 4 % 2 ^ 32) (half / 2 ^ 5)) half) key

-- the round keys of cycle n: bits 0 and 1 of the sum before it, and bits 11 and 12 of the sum after it, choose the word
abbrev pub first_key : List ℕ → ℕ → ℕ
first_key words n = plus (sum n) (get_or words (sum n % 4) 0)

abbrev pub second_key : List ℕ → ℕ → ℕ
second_key words n = plus (sum (n + 1)) (get_or words (sum (n + 1) / 2 ^ 11 % 4) 0)

abbrev pub Halves : Type 0
Halves = ℕ × ℕ

-- cycle n, from 0, and what undoes it
abbrev pub cycle : List ℕ → ℕ → Halves → Halves
cycle words n h =
    let left = plus h.0 (mix h.1 (first_key words n)) in
    (left, plus h.1 (mix left (second_key words n)))

abbrev pub uncycle : List ℕ → ℕ → Halves → Halves
uncycle words n h =
    let right = minus h.1 (mix h.0 (second_key words n)) in
    (minus h.0 (mix right (first_key words n)), right)

-- the first n cycles, and what undoes them
unfoldable pub cycles : List ℕ → ℕ → Halves → Halves
cycles words zero h = h
cycles words (suc n) h = cycle words n (cycles words n h)

unfoldable pub uncycles : List ℕ → ℕ → Halves → Halves
uncycles words zero h = h
uncycles words (suc n) h = uncycles words n (uncycle words n h)

-- the halves of a block, and a block of halves
abbrev pub halves : List ℕ → Halves
halves block = (value block / 2 ^ 32, value block % 2 ^ 32)

abbrev pub joined : Halves → List ℕ
joined h = octets 8 (h.0 * 2 ^ 32 + h.1)

-- a block under the words of a key
abbrev pub enciphering : List ℕ → List ℕ → List ℕ
enciphering words block = joined (cycles words 32 (halves block))

abbrev pub deciphering : List ℕ → List ℕ → List ℕ
deciphering words block = joined (uncycles words 32 (halves block))

-- the four words of a key
abbrev pub words_of : List ℕ → List ℕ
words_of key =
    let front = halves (take 8 key) in
    let back = halves (take 8 (drop 8 key)) in
    front.0 ∷ front.1 ∷ back.0 ∷ back.1 ∷ []

-- a block under a key
abbrev pub encipher : List ℕ → List ℕ → List ℕ
encipher key = enciphering (words_of key)

abbrev pub decipher : List ℕ → List ℕ → List ℕ
decipher key = deciphering (words_of key)
