-- The exclusive or of blocks undoes itself, and gives a block. Assumes nothing.
use Rattle.std.proofs.Common.{◌≡◌, ℕ, zero, suc, ◌<◌, List, [], ◌∷◌, ◌++◌, length, get_or, take, sym, refl, ap, ◌∙◌, arith}
use lib.Bits.{bit_xor, xor_assoc, xor_self, xor_zero_l, xor_lt}
use Rattle.std.proofs.lemmas.Simd.{length-zip2}
use Rattle.cipher.specs.Blocks.{Bytes, xor}

byte_twice : (a b : ℕ) → bit_xor a (bit_xor a b) ≡ b
byte_twice a b = sym (xor_assoc a a b) ∙ ap (λ n. bit_xor n b) (xor_self a) ∙ xor_zero_l b

pub xor_twice : (xs ys : List ℕ) → length xs ≡ length ys → xor xs (xor xs ys) ≡ ys
xor_twice [] [] e = refl
xor_twice [] (y ∷ ys) e = absurd (omega arith)
xor_twice (x ∷ xs) [] e = absurd (omega arith)
xor_twice (x ∷ xs) (y ∷ ys) e = let t = xor_twice xs ys (omega arith) in let h = byte_twice x y in cc

xor_small : (xs ys : List ℕ) → ((i : ℕ) → get_or xs i 0 < 256) → ((i : ℕ) → get_or ys i 0 < 256) → (i : ℕ) → get_or (xor xs ys) i 0 < 256
xor_small [] ys p q i = omega arith
xor_small (x ∷ xs) [] p q i = omega arith
xor_small (x ∷ xs) (y ∷ ys) p q zero = xor_lt 8 x y (p 0) (q 0)
xor_small (x ∷ xs) (y ∷ ys) p q (suc i) = xor_small xs ys (λ j. p (suc j)) (λ j. q (suc j)) i

pub bytes_xor : (n : ℕ) (xs ys : List ℕ) → Bytes n xs → Bytes n ys → Bytes n (xor xs ys)
bytes_xor n xs ys p q = record {
  long = length-zip2 bit_xor xs ys (p.long ∙ sym q.long) ∙ p.long;
  small = xor_small xs ys p.small q.small;
}

pub small_take : (n : ℕ) (xs : List ℕ) → ((i : ℕ) → get_or xs i 0 < 256) → (i : ℕ) → get_or (take n xs) i 0 < 256
small_take zero xs p i = omega arith
small_take (suc n) [] p i = omega arith
small_take (suc n) (x ∷ xs) p zero = p 0
small_take (suc n) (x ∷ xs) p (suc i) = small_take n xs (λ j. p (suc j)) i

pub small_append : (xs ys : List ℕ) → ((i : ℕ) → get_or xs i 0 < 256) → ((i : ℕ) → get_or ys i 0 < 256) → (i : ℕ) → get_or (xs ++ ys) i 0 < 256
small_append [] ys p q i = q i
small_append (x ∷ xs) ys p q zero = p 0
small_append (x ∷ xs) ys p q (suc i) = small_append xs ys (λ j. p (suc j)) q i
