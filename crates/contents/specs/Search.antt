-- The one search: where the first record stands that bears a name.
use Rattle.std.specs.Prelude.{ℕ, Bool, List, Option, position}

-- the place of the first element that passes
abbrev pub first_of : {X : Type 0} → (X → Bool) → List X → Option ℕ
first_of p xs = position p xs
