-- An area that is filled block by block. Assumes nothing.
use Rattle.std.proofs.Common.{◌≡◌, ℕ, ◌+◌, ◌*◌, ◌<◌, ◌≤◌, List, [], ◌∷◌, ◌++◌, length, get_or, take, drop, sym, ap, ◌∙◌, subst, append_assoc, append-nil, arith, rules}
use Rattle.std.proofs.lemmas.List.{same_lists, places, length-take-le, take-append-drop, drop-drop, at_drop_more, at_drop_all}
use Rattle.answers.specs.Areas.{written, fronted}

-- of the bytes that are to stand at the front of an area, the first n do; the rest is still to come, and behind the n bytes
-- the area is as it was
pub record Filling (before area all rest : List ℕ) (n : ℕ) : Type 0 where
  pub front : take n area ++ rest ≡ all
  pub behind : drop n area ≡ drop n before

taken : (area block : List ℕ) (n : ℕ) → length block ≡ 8 → n + 8 ≤ length area → take (n + 8) (written area n block) ≡ take n area ++ block
taken area block n b le = same_lists _ _ (search (rules, places)) (λ k d h. grind (arith, places))

left : (area block : List ℕ) (n : ℕ) → length block ≡ 8 → n + 8 ≤ length area → drop (n + 8) (written area n block) ≡ drop (n + 8) area
left area block n b le = same_lists _ _ (search (rules, places)) (λ k d h. grind (arith, places))

filling_more : (before area next all block rest : List ℕ) (n : ℕ) → Filling before area all (block ++ rest) n → next ≡ written area n block → length block ≡ 8 → n + 8 ≤ length area → Filling before next all rest (n + 8)
filling_more before area next all block rest n f w b le =
    let t = taken area block n b le in
    let l = left area block n b le in
    let o = drop-drop 8 n before in
    let p = drop-drop 8 n area in
    let a = append_assoc (take n area) block rest in
    record { front = cc f.front; behind = cc f.behind }

-- one more block of a chain F, whose step is the bytes made and a chain for the rest
pub chain_more : (F : List (List ℕ) → List ℕ) (before area next all made rest : List ℕ) (xs : List (List ℕ)) (i : ℕ) → Filling before area all (F (drop i xs)) (8 * i) → i < length xs → F (get_or xs i [] ∷ drop (i + 1) xs) ≡ made ++ rest → next ≡ written area (8 * i) made → length made ≡ 8 → 8 * i + 8 ≤ length area → Filling before next all rest (8 * (i + 1))
chain_more F before area next all made rest xs i f lt step w b le =
    let come = at_drop_more F xs i [] lt in
    let here : Filling before area all (made ++ rest) (8 * i) = record { front = cc f.front; behind = f.behind } in
    subst (λ (k : ℕ). Filling before next all rest k) (omega arith) (filling_more before area next all made rest (8 * i) here w b le)

-- nothing is left to come of a chain F
pub filling_all : (F : List (List ℕ) → List ℕ) (before area all : List ℕ) (xs : List (List ℕ)) (i n : ℕ) → F [] ≡ [] → Filling before area all (F (drop i xs)) n → length xs ≤ i → n ≤ length area → (area ≡ fronted before all) × (length all ≡ n)
filling_all F before area all xs i n nil f past le =
    let none : F (drop i xs) ≡ [] = at_drop_all F xs i past ∙ nil in
    let same : take n area ≡ all = sym (append-nil (take n area)) ∙ ap (λ r. take n area ++ r) (sym none) ∙ f.front in
    let long : length all ≡ n = ap length (sym same) ∙ length-take-le n area le in
    (sym (take-append-drop n area) ∙ rw (same, f.behind, long), long)
