-- `decipher_field` and then `unwrap` do what unwrapping is. Assumes nothing.
use Rattle.std.proofs.Common.{◌≡◌, ℕ, ◌-◌, ◌≤◌, Bool, List, length, take, drop, Some, None, Option, sym, refl, ◌∙◌, subst, arith}
use Rattle.std.proofs.lemmas.List.{take_at}
use Rattle.std.proofs.lemmas.Bool.{le-ltb}
use Rattle.apdu.specs.Apdu.{Apdu}
use Rattle.cipher.specs.Blocks.{Algorithm}
use Rattle.scp01.specs.declared.Level.{Level}
use Rattle.scp01.specs.declared.Session.{Session}
use Rattle.scp01.specs.Inside.{and_then, text_in, text_into, deciphered_into, unwrapped_from, unwrapped}

-- what comes of a text that was left, by its length, at the front of an area; `go` is what is done with a text
abbrev Left : {X : Type 0} → Option (List ℕ) → (List ℕ → Option X) → List ℕ → Option ℕ → Type 0
Left text go after None = and_then text go ≡ None
Left text go after (Some n) = go (take (n - 0) after) ≡ and_then text go

into : {X : Type 0} (work : List ℕ) (text : Option (List ℕ)) (go : List ℕ → Option X) → Left text go (text_into work text).1 (text_into work text).0
into work None go = refl
into work (Some text) go =
    let n : length text - 0 ≡ length text = omega arith in
    let front = take_at text (drop (length text) work) (length text) refl in
    rw (n, front)

left : {X : Type 0} (work after : List ℕ) (r : Option ℕ) (text : Option (List ℕ)) (go : List ℕ → Option X) → (r, after) ≡ deciphered_into work text → 256 ≤ length work → Left text go after r
left work after r text go e room =
    let enough = le-ltb (length work) 256 room in
    let is : (r, after) ≡ text_into work text = e ∙ rw enough in
    subst (λ p. Left text go p.1 p.0) (sym is) (into work text go)

-- n bytes of text were left, from which `unwrap` goes on
pub unwrapped_some : (cipher : Algorithm) (s : Session) (plain : Bool) (c : Apdu) (level : Level) (work after : List ℕ) (n : ℕ) → (Some n, after) ≡ deciphered_into work (text_in cipher s c.field level) → 256 ≤ length work → unwrapped_from cipher s plain c level (take (n - 0) after) ≡ unwrapped cipher s plain c level
unwrapped_some cipher s plain c level work after n e room =
    left work after (Some n) (text_in cipher s c.field level) (unwrapped_from cipher s plain c level) e room
