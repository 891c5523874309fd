-- The Data Encryption Standard, FIPS 46-3. A block of w bits is a number below 2 ^ w, whose bit 1 is the highest.
use Rattle.std.specs.Prelude.{ℕ, ◌+◌, ◌-◌, ◌*◌, ◌/◌, ◌%◌, ◌^◌, List, [], ◌∷◌, reverse, length, bit_xor, slice_index}
use Rattle.bits.specs.Permute.{permute}
use Rattle.tripledes.specs.Tables.{IP, FP, E, P, PC1, PC2, SHIFTS, BOXES}

-- what a selection function has for six bits: the outer two name its row, the inner four its column
unfoldable pub box : List ℕ → ℕ → ℕ
box b g = slice_index b ((g / 32 * 2 + g % 2) * 16 + g / 2 % 16)

-- the first selection function takes the first six bits and gives the first four
unfoldable pub selected : List (List ℕ) → ℕ → ℕ
selected [] x = 0
selected (b ∷ bs) x = box b (x / 2 ^ (6 * length bs) % 64) * 2 ^ (4 * length bs) + selected bs x

-- the cipher function f(R, K)
unfoldable pub f : ℕ → ℕ → ℕ
f r k = permute 32 P (selected BOXES (bit_xor (permute 32 E r) k))

-- the rounds: L' = R and R' = L xor f(R, K); the block that leaves them is R L
unfoldable pub rounds : List ℕ → ℕ → ℕ → ℕ
rounds [] l r = r * 2 ^ 32 + l
rounds (k ∷ ks) l r = rounds ks r (bit_xor l (f r k))

-- a block through the initial permutation, the rounds under a list of round keys, and the inverse permutation
unfoldable pub crypt : List ℕ → ℕ → ℕ
crypt ks x = permute 64 FP (rounds ks (permute 64 IP x / 2 ^ 32) (permute 64 IP x % 2 ^ 32))

-- 28 bits rotated to the left by s places
unfoldable pub rotated : ℕ → ℕ → ℕ
rotated s c = bit_xor ((c * 2 ^ s) % 2 ^ 28) (c / 2 ^ (28 - s))

-- the key schedule from the halves C and D on
unfoldable pub schedule : List ℕ → ℕ → ℕ → List ℕ
schedule [] c d = []
schedule (s ∷ ss) c d = permute 56 PC2 (rotated s c * 2 ^ 28 + rotated s d) ∷ schedule ss (rotated s c) (rotated s d)

-- the sixteen round keys of a key
unfoldable pub round_keys : ℕ → List ℕ
round_keys k = schedule SHIFTS (permute 64 PC1 k / 2 ^ 28) (permute 64 PC1 k % 2 ^ 28)

-- a block under a key
unfoldable pub des : ℕ → ℕ → ℕ
des k x = crypt (round_keys k) x

-- deciphering takes the round keys in the other order
unfoldable pub undes : ℕ → ℕ → ℕ
undes k x = crypt (reverse (round_keys k)) x
