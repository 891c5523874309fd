-- A block enciphered many times over.
use Rattle.std.specs.Prelude.{◌≡◌, List, ℕ, zero, suc, length}
use Rattle.cipher.specs.Blocks.{Direction}

-- a function n times
unfoldable pub times : ℕ → (List ℕ → List ℕ) → List ℕ → List ℕ
times zero f block = block
times (suc n) f block = f (times n f block)

-- sixteen bytes of key and eight of block
abbrev pub Fit : List ℕ → List ℕ → Type 0
Fit key block = (length key ≡ 16) × (length block ≡ 8)

-- what the call answers, and what it leaves in the block
pub record Chained (enc : Direction) (key before : List ℕ) (count : ℕ) (after : List ℕ) (r : ℕ) : Type 0 where
  pub right : Fit key before → (r ≡ 0) × (after ≡ times count (enc key) before)
  pub wrong : (Fit key before → ⊥) → (r ≡ 10) × (after ≡ before)
