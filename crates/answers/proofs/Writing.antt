-- Bytes that are written over an area, one part behind another.
use Rattle.std.proofs.Common.{◌≡◌, ℕ, ◌+◌, ◌-◌, ◌≤◌, List, [], ◌++◌, length, ◌∙◌, arith, length-append, rules}
use borrow.Rule.Slice.PartMut.{put_mid}
use Rattle.std.proofs.lemmas.List.{same_lists, places}
use Rattle.answers.specs.Areas.{written, fronted}

-- a copy into a part of the area
pub written_by_part : (a ys bs : List ℕ) (at : ℕ) → ys ≡ bs → at + length bs ≤ length a → put_mid at (at + length bs - at) a ys ≡ written a at bs
written_by_part a ys bs at is le = rw is (same_lists _ _ (search (rules, places)) (λ k d h. grind (arith, places)))

-- a second part behind a first
pub written_more : (a b c bs cs : List ℕ) (at end : ℕ) → b ≡ written a at bs → end ≡ at + length bs → c ≡ written b end cs → at + length bs + length cs ≤ length a → c ≡ written a at (bs ++ cs)
written_more a b c bs cs at end first mid second le =
    rw (second, first, mid) (same_lists _ _ (search (rules, places)) (λ k d h. grind (arith, places)))

pub written_nothing : (a : List ℕ) (at : ℕ) → a ≡ written a at []
written_nothing a at = same_lists _ _ (search (rules, places)) (λ k d h. grind (arith, places))

-- from the start, it is the front
pub written_front : (a bs : List ℕ) → written a 0 bs ≡ fronted a bs
written_front a bs = same_lists _ _ (search (rules, places)) (λ k d h. grind (arith, places))

-- the first n bytes of an area a are now bs, and it is b
pub record Wrote (a b bs : List ℕ) (n : ℕ) : Type 0 where
  pub area : b ≡ written a 0 bs
  pub count : n ≡ length bs

pub wrote_more : (a b c bs cs : List ℕ) (n m : ℕ) → Wrote a b bs n → c ≡ written b n cs → m ≡ n + length cs → length bs + length cs ≤ length a → Wrote a c (bs ++ cs) m
wrote_more a b c bs cs n m h w e le =
    record {
      area = written_more a b c bs cs 0 n h.area (omega (arith, h.count)) w (omega arith);
      count = e ∙ simp length-append (omega (arith, h.count));
    }

-- two parts at the front
pub front_of_two : (a b c bs cs : List ℕ) (n m : ℕ) → b ≡ written a 0 bs → n ≡ length bs → c ≡ written b n cs → m ≡ n + length cs → n + length cs ≤ length a → (c ≡ fronted a (bs ++ cs)) × (m ≡ length (bs ++ cs))
front_of_two a b c bs cs n m first mid second end le =
    let w = wrote_more a b c bs cs n m (record { area = first; count = mid }) second end (omega arith) in
    (w.area ∙ written_front a (bs ++ cs), w.count)
