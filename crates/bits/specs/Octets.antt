-- Bytes as one number, the first byte the highest.
use Rattle.std.specs.Prelude.{ℕ, zero, suc, ◌+◌, ◌*◌, ◌/◌, ◌%◌, ◌^◌, List, [], ◌∷◌, length}

-- the number that the bytes are
unfoldable pub value : List ℕ → ℕ
value [] = 0
value (b ∷ bs) = b * 2 ^ (8 * length bs) + value bs

-- the lowest n bytes of a number
unfoldable pub octets : ℕ → ℕ → List ℕ
octets zero x = []
octets (suc n) x = x / 2 ^ (8 * n) % 256 ∷ octets n x
