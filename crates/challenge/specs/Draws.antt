-- Challenges as lists of bytes, and what drawing one does.
use Rattle.std.specs.Prelude.{◌≡◌, ℕ, ◌/◌, List, [], ◌∷◌, length, Some, None, Option}
use Rattle.std.specs.Simd.{first_chunks}

abbrev pub Challenges : Type 0
Challenges = List (List ℕ)

-- the first of those to come is taken off; none is drawn exactly where none is to come, and then nothing moves
abbrev pub Drawn : Challenges → Option (List ℕ) → Challenges → Type 0
Drawn before None after = (before ≡ []) × (after ≡ before)
Drawn before (Some c) after = before ≡ c ∷ after

-- the whole groups of eight bytes, in order; what is left over is no challenge
abbrev pub groups : List ℕ → Challenges
groups bs = first_chunks 8 (length bs / 8) bs
