-- Deciphering in a chain undoes enciphering in a chain, and codes are blocks. Assumes what is asked of a cipher.
use Rattle.std.proofs.Common.{◌≡◌, ℕ, zero, suc, ◌+◌, ◌*◌, ◌/◌, ◌<◌, List, ◌∷◌, length, get_or, take, drop, replicate, fold, sym, refl, ap, ◌∙◌, arith, length-append, length-drop}
use Rattle.std.specs.Simd.{first_chunks}
use Rattle.std.proofs.lemmas.List.{length-take-le, take-append-drop, take_at, drop_at, nil_from_length, get_or-drop}
use Rattle.cipher.specs.Blocks.{Bytes, Direction, Undoes, xor}
use Rattle.cipher.specs.Mac.{blocks, link, padded, missing, chained, mac}
use Rattle.cipher.specs.Cbc.{chained_out, chained_back, cbc_enciphered, cbc_deciphered, ChainUndone}
use Rattle.cipher.proofs.Pads.{pads}
use Rattle.cipher.proofs.Xors.{xor_twice, bytes_xor, small_take, small_append}

-- the first block of n + 1, and the n behind it
first_block : (n : ℕ) (bs : List ℕ) → Bytes (suc n * 8) bs → Bytes 8 (take 8 bs)
first_block n bs p = record { long = length-take-le 8 bs (omega (arith, p.long)); small = small_take 8 bs p.small }

other_blocks : (n : ℕ) (bs : List ℕ) → Bytes (suc n * 8) bs → Bytes (n * 8) (drop 8 bs)
other_blocks n bs p = record {
  long = length-drop 8 bs ∙ omega (arith, p.long);
  small = λ i. let h = p.small (8 + i) in simp get_or-drop h;
}

-- the chained value after one block is a block
bytes_link : (enc dec : Direction) → Undoes enc dec → (k value b : List ℕ) → Bytes 16 k → Bytes 8 value → Bytes 8 b → Bytes 8 (link (enc k) value b)
bytes_link enc dec laws k value b pk pv pb = laws.enciphered k (xor value b) pk (bytes_xor 8 value b pv pb)

-- n blocks in a chain are n blocks
length_out : (enc dec : Direction) → Undoes enc dec → (k : List ℕ) → Bytes 16 k → (n : ℕ) (v bs : List ℕ) → Bytes 8 v → Bytes (n * 8) bs → length (chained_out (enc k) v (first_chunks 8 n bs)) ≡ n * 8
length_out enc dec laws k pk zero v bs pv pb = refl
length_out enc dec laws k pk (suc n) v bs pv pb =
    let c = link (enc k) v (take 8 bs) in
    let pc = bytes_link enc dec laws k v (take 8 bs) pk pv (first_block n bs pb) in
    let more = length_out enc dec laws k pk n c (drop 8 bs) pc (other_blocks n bs pb) in
    length-append c (chained_out (enc k) c (first_chunks 8 n (drop 8 bs))) ∙ omega (arith, pc.long, more)

out_and_back : (enc dec : Direction) → Undoes enc dec → (k : List ℕ) → Bytes 16 k → (n : ℕ) (v bs : List ℕ) → Bytes 8 v → Bytes (n * 8) bs → chained_back (dec k) v (first_chunks 8 n (chained_out (enc k) v (first_chunks 8 n bs))) ≡ bs
out_and_back enc dec laws k pk zero v bs pv pb = sym (nil_from_length bs pb.long)
out_and_back enc dec laws k pk (suc n) v bs pv pb =
    let b = take 8 bs in
    let p = first_block n bs pb in
    let c = link (enc k) v b in
    let pc = bytes_link enc dec laws k v b pk pv p in
    let rest = chained_out (enc k) c (first_chunks 8 n (drop 8 bs)) in
    let front = take_at c rest 8 pc.long in
    let back = drop_at c rest 8 pc.long in
    let here : xor v (dec k c) ≡ b =
    ap (xor v) (laws.undone k (xor v b) pk (bytes_xor 8 v b pv p)) ∙ xor_twice v b (pv.long ∙ sym p.long)
    in
    let there = out_and_back enc dec laws k pk n c (drop 8 bs) pc (other_blocks n bs pb) in
    rw (front, back, here, there) (take-append-drop 8 bs)

pub length_enciphered : (enc dec : Direction) → Undoes enc dec → (k v bs : List ℕ) (n : ℕ) → Bytes 16 k → Bytes 8 v → Bytes (n * 8) bs → length (cbc_enciphered (enc k) v bs) ≡ n * 8
unfolding blocks
length_enciphered enc dec laws k v bs n pk pv pb =
    let count : length bs / 8 ≡ n = omega (arith, pb.long) in
    ap (λ m. length (chained_out (enc k) v (first_chunks 8 m bs))) count ∙ length_out enc dec laws k pk n v bs pv pb

pub chain_undone : (enc dec : Direction) → Undoes enc dec → ChainUndone enc dec
unfolding blocks
chain_undone enc dec laws k v bs n pk pv pb =
    let count : length bs / 8 ≡ n = omega (arith, pb.long) in
    let out = chained_out (enc k) v (first_chunks 8 n bs) in
    let again : length out / 8 ≡ n = omega (arith, length_out enc dec laws k pk n v bs pv pb) in
    ap (λ m. cbc_deciphered (dec k) v (chained_out (enc k) v (first_chunks 8 m bs))) count
    ∙ ap (λ m. chained_back (dec k) v (first_chunks 8 m out)) again
    ∙ out_and_back enc dec laws k pk n v bs pv pb

pub small_zeros : (n i : ℕ) → get_or (replicate n 0) i 0 < 256
small_zeros zero i = omega arith
small_zeros (suc n) zero = omega arith
small_zeros (suc n) (suc i) = small_zeros n i

pub small_pad : (n i : ℕ) → get_or (0x80 ∷ replicate n 0) i 0 < 256
small_pad n zero = omega arith
small_pad n (suc i) = small_zeros n i

-- some bytes are padded to whole blocks
bytes_padded : (bs : List ℕ) → Bytes (length bs) bs → Bytes (length (padded bs) / 8 * 8) (padded bs)
unfolding padded
bytes_padded bs p =
    let whole = (pads bs).whole in
    record { long = omega arith; small = small_append bs (0x80 ∷ replicate (missing (length bs)) 0) p.small (small_pad (missing (length bs))) }

bytes_folded : (enc dec : Direction) → Undoes enc dec → (k : List ℕ) → Bytes 16 k → (n : ℕ) (v bs : List ℕ) → Bytes 8 v → Bytes (n * 8) bs → Bytes 8 (fold (link (enc k)) v (first_chunks 8 n bs))
bytes_folded enc dec laws k pk zero v bs pv pb = pv
bytes_folded enc dec laws k pk (suc n) v bs pv pb =
    bytes_folded enc dec laws k pk n (link (enc k) v (take 8 bs)) (drop 8 bs) (bytes_link enc dec laws k v (take 8 bs) pk pv (first_block n bs pb)) (other_blocks n bs pb)

-- a code is a block
pub bytes_mac : (enc dec : Direction) → Undoes enc dec → (k v bs : List ℕ) → Bytes 16 k → Bytes 8 v → Bytes (length bs) bs → Bytes 8 (mac enc k v bs)
unfolding chained blocks
bytes_mac enc dec laws k v bs pk pv pb =
    bytes_folded enc dec laws k pk (length (padded bs) / 8) v (padded bs) pv (bytes_padded bs pb)
