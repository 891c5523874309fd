-- The blocks of a padded message: those of the message, and one last block. Assumes nothing.
use Rattle.std.proofs.Common.{◌≡◌, ℕ, zero, suc, ◌+◌, ◌*◌, ◌/◌, ◌%◌, ◌≤◌, List, [], ◌∷◌, ◌++◌, length, take, drop, replicate, fold, sym, refl, ap, ◌∙◌, arith, length-append, length-drop}
use lib.ListN.{length-replicate}
use Rattle.std.specs.Simd.{first_chunks}
use Rattle.std.proofs.lemmas.List.{take-append-le, drop-append-le, drop-drop, take_all}
use Rattle.std.proofs.lemmas.List.Sums.{fold_push}
use Rattle.cipher.specs.Mac.{padded, blocks, missing, chained, link, Pads}

abbrev pub pad : List ℕ → List ℕ
pad rest = 0x80 ∷ replicate (missing (length rest)) 0

one_more : (n : ℕ) (xs ys : List ℕ) → n * 8 ≤ length xs → first_chunks 8 (suc n) (xs ++ ys) ≡ first_chunks 8 n xs ++ (take 8 (drop (n * 8) (xs ++ ys)) ∷ [])
one_more zero xs ys h = refl
one_more (suc n) xs ys h =
    let l : 8 ≤ length xs = omega arith in
    let m : n * 8 ≤ length (drop 8 xs) = simp length-drop (omega arith) in
    let front = take-append-le 8 xs ys l in
    let back = drop-append-le 8 xs ys l in
    let next = one_more n (drop 8 xs) ys m in
    let place : 8 + n * 8 ≡ suc n * 8 = omega arith in
    let far : drop (n * 8) (drop 8 xs ++ ys) ≡ drop (suc n * 8) (xs ++ ys) =
    ap (drop (n * 8)) (sym back) ∙ drop-drop (n * 8) 8 (xs ++ ys) ∙ ap (λ i. drop i (xs ++ ys)) place
    in
    ap (λ x. x ∷ first_chunks 8 (suc n) (drop 8 (xs ++ ys))) front
    ∙ ap (λ zs. take 8 xs ∷ first_chunks 8 (suc n) zs) back
    ∙ ap (λ zs. take 8 xs ∷ zs) (next ∙ ap (λ z. first_chunks 8 n (drop 8 xs) ++ (take 8 z ∷ [])) far)

-- what is left past the whole blocks
abbrev pub rest_of : List ℕ → List ℕ
rest_of bs = drop (length bs / 8 * 8) bs

pub blocks_padded : (bs : List ℕ) → blocks (padded bs) ≡ first_chunks 8 (length bs / 8) bs ++ ((rest_of bs ++ pad (rest_of bs)) ∷ [])
unfolding blocks padded
blocks_padded bs =
    let q = length bs / 8 in
    let tail = pad bs in
    let few : length (rest_of bs) ≡ length bs % 8 = simp length-drop (omega arith) in
    let same : tail ≡ pad (rest_of bs) = ap (λ i. 0x80 ∷ replicate i 0) (omega arith) in
    let count : length (bs ++ tail) / 8 ≡ suc q = simp (length-append, length-replicate) (omega arith) in
    let whole : take 8 (rest_of bs ++ tail) ≡ rest_of bs ++ tail =
    take_all 8 (rest_of bs ++ tail) (simp (length-append, length-replicate) (omega arith))
    in
    let last : take 8 (drop (q * 8) (bs ++ tail)) ≡ rest_of bs ++ pad (rest_of bs) =
    ap (take 8) (drop-append-le (q * 8) bs tail (omega arith)) ∙ whole ∙ ap (λ t. rest_of bs ++ t) same
    in
    ap (λ n. first_chunks 8 n (bs ++ tail)) count ∙ one_more q bs tail (omega arith) ∙ ap (λ z. first_chunks 8 q bs ++ (z ∷ [])) last

-- the code: the whole blocks, and then the last
pub chained_last : (under : List ℕ → List ℕ) (start bs : List ℕ)
    → chained under start bs ≡ link under (fold (link under) start (first_chunks 8 (length bs / 8) bs)) (rest_of bs ++ pad (rest_of bs))
unfolding chained
chained_last under start bs =
    ap (fold (link under) start) (blocks_padded bs) ∙ fold_push (link under) start (first_chunks 8 (length bs / 8) bs) _

-- the padding is the one that the standard asks for
pub pads : Pads
unfolding padded
pads bs = record {
  zeros = missing (length bs);
  made = refl;
  whole = simp (length-append, length-replicate) (omega arith);
  few = omega arith;
}
