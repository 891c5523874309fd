-- The permutations of bits that the code makes by exchanges are those of the tables, and IP⁻¹ undoes IP: a computed test each.
use Rattle.std.specs.Prelude.{◌≡◌, ℕ, ◌^◌, ◌<◌, List, [], ◌∷◌, bit_and}
use Rattle.bits.specs.Permute.{bit, permute}
use Rattle.bits.specs.Swap.{parted, exchange}
use Rattle.bits.proofs.Linear.{basis, lin_id, lin_of, lin_and, lin_permute, exchanges, lin_exchanges}
use Rattle.tripledes.specs.Round.{PLACES, held}
use Rattle.tripledes.specs.Tables.{IP, FP, PC1, PC2}

unfoldable pub ip_swaps : List (ℕ × ℕ)
ip_swaps = (3, 0x1111111111111111) ∷ (6, 0x0303030303030303) ∷ (9, 0x0055005500550055) ∷ (18, 0x0000333300003333) ∷ (36, 0x000000000f0f0f0f) ∷ []

pub ip_is : (x : ℕ) → x < 2 ^ 64 → exchanges ip_swaps x ≡ permute 64 IP x
unfolding ip_swaps exchanges bit permute IP parted exchange
ip_is = basis (exchanges ip_swaps) (permute 64 IP) (lin_exchanges ip_swaps) (lin_permute 64 IP) 64 tt

unfoldable pub fp_swaps : List (ℕ × ℕ)
fp_swaps = (36, 0x000000000f0f0f0f) ∷ (18, 0x0000333300003333) ∷ (9, 0x0055005500550055) ∷ (6, 0x0303030303030303) ∷ (3, 0x1111111111111111) ∷ []

pub fp_is : (x : ℕ) → x < 2 ^ 64 → exchanges fp_swaps x ≡ permute 64 FP x
unfolding fp_swaps exchanges bit permute FP parted exchange
fp_is = basis (exchanges fp_swaps) (permute 64 FP) (lin_exchanges fp_swaps) (lin_permute 64 FP) 64 tt

pub fp_ip : (x : ℕ) → x < 2 ^ 64 → permute 64 FP (permute 64 IP x) ≡ x
unfolding bit permute IP FP
fp_ip = basis (λ x. permute 64 FP (permute 64 IP x)) (λ x. x) (lin_of (permute 64 FP) (permute 64 IP) (lin_permute 64 FP) (lin_permute 64 IP)) lin_id 64 tt

pub ip_fp : (x : ℕ) → x < 2 ^ 64 → permute 64 IP (permute 64 FP x) ≡ x
unfolding bit permute IP FP
ip_fp = basis (λ x. permute 64 IP (permute 64 FP x)) (λ x. x) (lin_of (permute 64 IP) (permute 64 FP) (lin_permute 64 IP) (lin_permute 64 FP)) lin_id 64 tt

unfoldable pub pc1_swaps : List (ℕ × ℕ)
pc1_swaps =
    (32, 0x0000000010101111) ∷ (16, 0x00006c6c00007879) ∷ (8, 0x00aa00aa00b400b4) ∷ (4, 0x0e0e0e0e01010101) ∷ (2, 0x0202313121211212) ∷
    (1, 0x0055005505500550) ∷ (8, 0x00aa00aa00aa00aa) ∷ (16, 0x0000cccc0000cccc) ∷ (32, 0x00000000f0f0f0f0) ∷ []

pub pc1_is : (x : ℕ) → x < 2 ^ 64 → bit_and (exchanges pc1_swaps x) 0x00ffffffffffffff ≡ permute 64 PC1 x
unfolding pc1_swaps exchanges bit permute PC1 parted exchange
pc1_is =
    basis (λ x. bit_and (exchanges pc1_swaps x) 0x00ffffffffffffff) (permute 64 PC1)
    (lin_of (λ x. bit_and x 0x00ffffffffffffff) (exchanges pc1_swaps) (lin_and 0x00ffffffffffffff) (lin_exchanges pc1_swaps)) (lin_permute 64 PC1) 64 tt

unfoldable pub pc2_swaps : List (ℕ × ℕ)
pc2_swaps =
    (32, 0x00000000b26a929f) ∷ (16, 0x00000d66000051bf) ∷ (8, 0x00710014003e00c2) ∷ (4, 0x040f040308070e0a) ∷ (2, 0x2131120103002103) ∷
    (1, 0x4050004500415140) ∷ (4, 0x020600080802020c) ∷ (8, 0x005c000200d200e4) ∷ (16, 0x000034000000a548) ∷ (32, 0x0000000056a80202) ∷ []

pub pc2_is : (x : ℕ) → x < 2 ^ 56 → held (exchanges pc2_swaps x) ≡ permute 56 PC2 x
unfolding pc2_swaps exchanges held bit permute PLACES PC2 parted exchange
pc2_is =
    basis (λ x. permute 64 PLACES (exchanges pc2_swaps x)) (permute 56 PC2)
    (lin_of (permute 64 PLACES) (exchanges pc2_swaps) (lin_permute 64 PLACES) (lin_exchanges pc2_swaps)) (lin_permute 56 PC2) 56 tt

-- PC-1 selects no parity bit
pub pc1_free : (k : ℕ) → k < 2 ^ 64 → permute 64 PC1 (bit_and k 0xFEFEFEFEFEFEFEFE) ≡ permute 64 PC1 k
unfolding bit permute PC1
pc1_free =
    basis (λ k. permute 64 PC1 (bit_and k 0xFEFEFEFEFEFEFEFE)) (permute 64 PC1)
    (lin_of (permute 64 PC1) (λ k. bit_and k 0xFEFEFEFEFEFEFEFE) (lin_permute 64 PC1) (lin_and 0xFEFEFEFEFEFEFEFE)) (lin_permute 64 PC1) 64 tt
