-- Rows printed one after the other.
use Rattle.std.proofs.Common.{◌≡◌, ℕ, zero, suc, ◌+◌, ◌-◌, ◌≤◌, List, [], ◌∷◌, ◌++◌, map, take, refl, ap, ◌∙◌, append_assoc, append-nil, arith, Option}
use Rattle.cipher.specs.Blocks.{Algorithm}
use Rattle.rules.specs.Own.{Rule}
use Rattle.card.specs.Models.{Model}
use Rattle.script.specs.declared.row.Row.{Row}
use Rattle.script.specs.Lines.{Line}
use Rattle.script.specs.Rows.{row_bytes}
use Rattle.script.specs.Turns.{turn_of, took, rows_from}

-- the rows of lines from a number on, up to the number 4,096
abbrev pub rows_of : {M : Type 0} → (ℕ → Option M) → Rule M → Algorithm → Model → ℕ → List Line → List ℕ
rows_of named rule cipher m number lines = rows_from named rule cipher m number (map turn_of (take (4097 - number) lines))

take_nil : (k : ℕ) → ◌≡◌ {A = List Line} (take k []) []
take_nil zero = refl
take_nil (suc k) = refl

-- one row more
pub rows_more : {M : Type 0} (named : ℕ → Option M) (rule : Rule M) (cipher : Algorithm) (m after : Model) (number : ℕ) (lines rest : List Line) (line : Line) (row : Row) (printed more : List ℕ)
    → number ≤ 4096 → lines ≡ line ∷ rest → (after, row) ≡ took named rule cipher m number (turn_of line) → more ≡ printed ++ row_bytes row
    → more ++ rows_of named rule cipher after (number + 1) rest ≡ printed ++ rows_of named rule cipher m number lines
unfolding rows_from
rows_more named rule cipher m after number lines rest line row printed more le is out grown =
    let k : ℕ = 4096 - number in
    let e : 4097 - number ≡ suc k = omega arith in
    let f : 4097 - (number + 1) ≡ k = omega arith in
    let o0 : after ≡ (took named rule cipher m number (turn_of line)).0 = ap (λ (p : Model × Row). p.0) out in
    let o1 : row ≡ (took named rule cipher m number (turn_of line)).1 = ap (λ (p : Model × Row). p.1) out in
    rw (is, e, f, grown, append_assoc, o0, o1)

pub rows_none : {M : Type 0} (named : ℕ → Option M) (rule : Rule M) (cipher : Algorithm) (m : Model) (number : ℕ) (lines : List Line) (printed : List ℕ) → lines ≡ []
    → printed ++ rows_of named rule cipher m number lines ≡ printed
unfolding rows_from
rows_none named rule cipher m number lines printed is =
    ap (λ (ls : List Line). printed ++ rows_from named rule cipher m number (map turn_of ls)) (ap (take (4097 - number)) is ∙ take_nil (4097 - number))
    ∙ append-nil printed

pub rows_all : {M : Type 0} (named : ℕ → Option M) (rule : Rule M) (cipher : Algorithm) (m : Model) (number : ℕ) (lines : List Line) (printed : List ℕ) → 4097 ≤ number
    → printed ++ rows_of named rule cipher m number lines ≡ printed
unfolding rows_from
rows_all named rule cipher m number lines printed le =
    let z : 4097 - number ≡ 0 = omega arith in
    rw z (append-nil printed)
