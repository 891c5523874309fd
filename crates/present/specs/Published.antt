-- The four published test vectors: a key, a block and that block enciphered.
use Rattle.std.specs.Prelude.{ℕ, Bool, true, false, cond, T, List, [], ◌∷◌, ◌==◌}
use Rattle.present.specs.Present.{present}

unfoldable pub tests : List (ℕ × ℕ × ℕ)
tests =
    (0x00000000000000000000000000000000, 0x0000000000000000, 0x96DB702A2E6900AF) ∷
    (0xFFFFFFFFFFFFFFFFFFFFFFFFFFFFFFFF, 0x0000000000000000, 0x13238C710272A5D8) ∷
    (0x00000000000000000000000000000000, 0xFFFFFFFFFFFFFFFF, 0x3C6019E5E5EDD563) ∷
    (0xFFFFFFFFFFFFFFFFFFFFFFFFFFFFFFFF, 0xFFFFFFFFFFFFFFFF, 0x628D9FBD4218E5B4) ∷ []

unfoldable pub agree : List (ℕ × ℕ × ℕ) → Bool
agree [] = true
agree (v ∷ vs) = cond (present v.0 v.1 == v.2) (agree vs) false

-- the definition gives what was published
abbrev pub Published : Type 0
Published = T (agree tests)
