-- The parts of an answer, written one behind the other.
use Rattle.std.proofs.Common.{◌≡◌, ℕ, ◌+◌, ◌≤◌, List, [], ◌∷◌, ◌++◌, length, ap, ◌∙◌, append_assoc, arith, length-append}
use Rattle.answers.specs.Areas.{written, fronted}
use Rattle.answers.specs.Numbers.{status_bytes}
use Rattle.answers.proofs.Writing.{Wrote, wrote_more, front_of_two}
use Rattle.answers.specs.Replies.{Reply, reply_bytes}
use Rattle.card.specs.Replies.{update_data}

-- the four parts of INITIALIZE UPDATE's answer
pub update_written : (d c g a a₁ a₂ a₃ a₄ : List ℕ) (v e₁ e₂ e₃ e₄ : ℕ) → length d ≡ 10 → length c ≡ 8 → length g ≡ 8 → 258 ≤ length a → a₁ ≡ written a 0 d → e₁ ≡ 0 + length d → a₂ ≡ written a₁ e₁ (v ∷ 0x01 ∷ []) → e₂ ≡ e₁ + 2 → a₃ ≡ written a₂ e₂ c → e₃ ≡ e₂ + length c → a₄ ≡ written a₃ e₃ g → e₄ ≡ e₃ + length g → Wrote a a₄ (update_data d v c g) e₄
update_written d c g a a₁ a₂ a₃ a₄ v e₁ e₂ e₃ e₄ ld lc lg room w₁ m₁ w₂ m₂ w₃ m₃ w₄ m₄ =
    let head : List ℕ = v ∷ 0x01 ∷ [] in
    let s₁ : Wrote a a₁ d e₁ = record { area = w₁; count = omega arith } in
    let s₂ = wrote_more a a₁ a₂ d head e₁ e₂ s₁ w₂ m₂ (omega arith) in
    let s₃ = wrote_more a a₂ a₃ (d ++ head) c e₂ e₃ s₂ w₃ m₃ (simp length-append (omega arith)) in
    let s₄ = wrote_more a a₃ a₄ ((d ++ head) ++ c) g e₃ e₄ s₃ w₄ m₄ (simp length-append (omega arith)) in
    let same : ((d ++ head) ++ c) ++ g ≡ update_data d v c g = simp append_assoc in
    record { area = s₄.area ∙ ap (written a 0) same; count = s₄.count ∙ ap length same }

pub update_length : (d c g : List ℕ) (v : ℕ) → length d ≡ 10 → length c ≡ 8 → length g ≡ 8 → length (update_data d v c g) ≡ 28
update_length d c g v ld lc lg = simp length-append (omega arith)

-- data, and the status word behind it
pub answer_written : (r : Reply) (a b c sw : List ℕ) (n m : ℕ) → sw ≡ status_bytes r.status → 258 ≤ length a → b ≡ written a 0 r.text → n ≡ length r.text → n ≤ 256 → c ≡ written b n sw → m ≡ n + length sw → (c ≡ fronted a (reply_bytes r)) × (m ≡ length (reply_bytes r))
answer_written r a b c sw n m is room first mid short second end =
    let two : length sw ≡ 2 = ap length is in
    let w = front_of_two a b c r.text sw n m first mid second end (omega arith) in
    (w.0 ∙ ap (λ s. fronted a (r.text ++ s)) is, w.1 ∙ ap (λ s. length (r.text ++ s)) is)
