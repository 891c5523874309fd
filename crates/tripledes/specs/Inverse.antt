-- Triple DES: deciphering undoes enciphering, and the other way about; parity bits do not matter.
use Rattle.std.specs.Prelude.{◌≡◌, ℕ, zero, suc, ◌+◌, ◌*◌, ◌/◌, ◌%◌, ◌^◌, ◌<◌, ◌≤◌, List, [], ◌∷◌, reverse, length, take, drop, bit_and, slice_index, refl}
use Rattle.std.proofs.Common.{sym, ap, ap₂, ◌∙◌, arith, length-take, length-drop}
use Rattle.std.proofs.lemmas.Nat.{mul-add-lt, pow-add, and_block}
use Rattle.std.proofs.lemmas.List.{take-map, drop-map, length-map, get_or-drop}
use Rattle.cipher.specs.Blocks.{Bytes}
use Rattle.cipher.proofs.Xors.{small_take}
use Rattle.bits.specs.Permute.{permute}
use Rattle.bits.specs.Octets.{value, octets}
use Rattle.bits.proofs.Octets.{length_octets, octets_small, value_lt, value_below, octets_back, value_back}
use Rattle.tripledes.specs.Des.{crypt, schedule, round_keys, des, undes}
use Rattle.tripledes.specs.Laws.{Deciphers, Enciphers, ParityFree, cleared}
use Rattle.tripledes.specs.Tables.{PC1, SHIFTS}
use Rattle.tripledes.specs.TripleDes.{k1, k2, encipher, decipher}
use Rattle.tripledes.specs.Feistel.{crypt_lt, undoes, redoes}
use Rattle.tripledes.specs.Perms.{pc1_free}

-- ---- one key

des_lt : (k x : ℕ) → des k x < 2 ^ 64
unfolding des
des_lt k x = crypt_lt (round_keys k) x

undes_lt : (k x : ℕ) → undes k x < 2 ^ 64
unfolding undes
undes_lt k x = crypt_lt (reverse (round_keys k)) x

undes_des : (k x : ℕ) → x < 2 ^ 64 → undes k (des k x) ≡ x
unfolding des undes
undes_des k x h = undoes (round_keys k) x h

des_undes : (k x : ℕ) → x < 2 ^ 64 → des k (undes k x) ≡ x
unfolding des undes
des_undes k x h = redoes (round_keys k) x h

-- ---- two keys

ede_back : (j k x : ℕ) → x < 2 ^ 64 → undes j (des k (undes j (des j (undes k (des j x))))) ≡ x
ede_back j k x h =
    ap (λ (y : ℕ). undes j (des k y)) (undes_des j (undes k (des j x)) (undes_lt k (des j x)))
    ∙ ap (undes j) (des_undes k (des j x) (des_lt j x))
    ∙ undes_des j x h

ded_back : (j k x : ℕ) → x < 2 ^ 64 → des j (undes k (des j (undes j (des k (undes j x))))) ≡ x
ded_back j k x h =
    ap (λ (y : ℕ). des j (undes k y)) (des_undes j (des k (undes j x)) (des_lt k (undes j x)))
    ∙ ap (des j) (undes_des k (undes j x) (undes_lt j x))
    ∙ des_undes j x h

-- ---- over bytes

pub deciphers : Deciphers
unfolding encipher decipher
deciphers k b hk hb =
    let x : ℕ = value b in
    let y : ℕ = des (k1 k) (undes (k2 k) (des (k1 k) x)) in
    ap (λ (z : ℕ). octets 8 (undes (k1 k) (des (k2 k) (undes (k1 k) z)))) (value_back y (des_lt (k1 k) (undes (k2 k) (des (k1 k) x))))
    ∙ ap (octets 8) (ede_back (k1 k) (k2 k) x (value_below 8 b hb.long hb.small))
    ∙ octets_back 8 b hb.long hb.small

pub enciphers : Enciphers
unfolding encipher decipher
enciphers k b hk hb =
    let x : ℕ = value b in
    let y : ℕ = undes (k1 k) (des (k2 k) (undes (k1 k) x)) in
    ap (λ (z : ℕ). octets 8 (des (k1 k) (undes (k2 k) (des (k1 k) z)))) (value_back y (undes_lt (k1 k) (des (k2 k) (undes (k1 k) x))))
    ∙ ap (octets 8) (ded_back (k1 k) (k2 k) x (value_below 8 b hb.long hb.small))
    ∙ octets_back 8 b hb.long hb.small

bytes_octets : (x : ℕ) → Bytes 8 (octets 8 x)
bytes_octets x = record { long = length_octets 8 x; small = octets_small 8 x }

pub bytes_enciphered : (k b : List ℕ) → Bytes 16 k → Bytes 8 b → Bytes 8 (encipher k b)
unfolding encipher
bytes_enciphered k b hk hb = bytes_octets (des (k1 k) (undes (k2 k) (des (k1 k) (value b))))

pub bytes_deciphered : (k b : List ℕ) → Bytes 16 k → Bytes 8 b → Bytes 8 (decipher k b)
unfolding decipher
bytes_deciphered k b hk hb = bytes_octets (undes (k1 k) (des (k2 k) (undes (k1 k) (value b))))

-- ---- parity bits

-- 0xFE in each of n bytes
masks : ℕ → ℕ
masks zero = 0
masks (suc n) = 0xFE * 2 ^ (8 * n) + masks n

masks_lt : (n : ℕ) → masks n < 2 ^ (8 * n)
unfolding masks
masks_lt zero = omega arith
masks_lt (suc n) =
    let e : 8 * n + 8 ≡ 8 * suc n = omega arith in
    omega (arith, mul-add-lt 0xFE (2 ^ (8 * n)) (masks n) 256 (omega arith) (masks_lt n), pow-add 2 (8 * n) 8, ap (λ (k : ℕ). 2 ^ k) e)

value_cleared : (bs : List ℕ) → ((i : ℕ) → slice_index bs i < 256) → value (cleared bs) ≡ bit_and (value bs) (masks (length bs))
unfolding value masks
value_cleared [] h = refl
value_cleared (b ∷ bs) h =
    ap₂ (λ (n v : ℕ). bit_and b 0xFE * 2 ^ (8 * n) + v) (length-map bs (λ (byte : ℕ). bit_and byte 0xFE)) (value_cleared bs (λ i. h (suc i)))
    ∙ sym (and_block (8 * length bs) b 0xFE (value bs) (masks (length bs)) (value_lt bs (λ i. h (suc i))) (masks_lt (length bs)))

-- the round keys of eight bytes of a key
free : (bs : List ℕ) → Bytes 8 bs → round_keys (value (cleared bs)) ≡ round_keys (value bs)
unfolding round_keys masks
free bs h =
    ap (λ (k : ℕ). schedule SHIFTS (permute 64 PC1 k / 2 ^ 28) (permute 64 PC1 k % 2 ^ 28))
    (value_cleared bs h.small ∙ ap (λ (n : ℕ). bit_and (value bs) (masks n)) h.long)
    ∙ ap (λ (n : ℕ). schedule SHIFTS (n / 2 ^ 28) (n % 2 ^ 28)) (pc1_free (value bs) (value_below 8 bs h.long h.small))

-- eight bytes of a key, from a place on
half_bytes : (n : ℕ) (k : List ℕ) → n ≤ 8 → Bytes 16 k → Bytes 8 (take 8 (drop n k))
half_bytes n k h b =
    let l = b.long in
    record {
      long = simp (length-take, length-drop) (omega arith);
      small = small_take 8 (drop n k) (λ i. simp get_or-drop (b.small (n + i)));
    }

half_cleared : (n : ℕ) (k : List ℕ) → take 8 (drop n (cleared k)) ≡ cleared (take 8 (drop n k))
half_cleared n k =
    let g : ℕ → ℕ = λ byte. bit_and byte 0xFE in
    ap (take 8) (drop-map g n k) ∙ take-map g 8 (drop n k)

half_free : (n : ℕ) (k : List ℕ) → n ≤ 8 → Bytes 16 k → round_keys (value (take 8 (drop n (cleared k)))) ≡ round_keys (value (take 8 (drop n k)))
half_free n k h b = ap (λ (l : List ℕ). round_keys (value l)) (half_cleared n k) ∙ free (take 8 (drop n k)) (half_bytes n k h b)

pub parity_free : ParityFree
unfolding encipher decipher des undes k1 k2
parity_free = record {
  enciphering = λ k b h. ap₂ (λ (p q : List ℕ). octets 8 (crypt p (crypt (reverse q) (crypt p (value b)))))
      (half_free 0 k (omega arith) h) (half_free 8 k (omega arith) h);
  deciphering = λ k b h. ap₂ (λ (p q : List ℕ). octets 8 (crypt (reverse p) (crypt q (crypt (reverse p) (value b)))))
      (half_free 0 k (omega arith) h) (half_free 8 k (omega arith) h);
}
