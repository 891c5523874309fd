-- the loop over an image's records: what is left to read gives what the whole gives
use Rattle.std.proofs.Common.{◌≡◌, ℕ, zero, suc, ◌-◌, ◌<◌, ◌≤◌, List, [], length, take, drop, Some, None, Ok, Err, Option, Result, sym, refl, ap, ◌∙◌, arith, Bor}
use Rattle.std.proofs.lemmas.List.{nil_from_length, take_rest}
use Rattle.std.specs.Option.{option_map}
use Rattle.answers.specs.declared.Refusal.{Refusal}
use Rattle.answers.specs.declared.Refusal.TheVariants.{ImageEndsEarly}
use Rattle.contents.specs.Held.{Held}
use Rattle.contents.specs.Image.{Step, fault, last, next, behind, grown_by, read_record, read_records, read_rest, read_header, read_image}
use Rattle.contents.proofs.Steps.{took, ended, step_on}

pub record Reading (start : Held) (whole : List ℕ) (h : Held) (rest : List ℕ) : Type 0 where
  pub records : ℕ
  pub enough : length rest ≤ records
  pub same : read_records records h rest ≡ read_rest start whole

pub reading_starts : (h : Held) (rest : List ℕ) → Reading h rest h rest
unfolding read_rest
reading_starts h rest = record { records = length rest; enough = omega arith; same = refl }

behind_next : (s : Step) (h : Held) (rest : List ℕ) → Ok (Some rest) ≡ behind s → s ≡ next (grown_by s h) rest
behind_next (fault e) h rest is = absurd (grind arith)
behind_next last h rest is = absurd (grind arith)
behind_next (next more left) h rest is = grind arith

behind_last : (s : Step) → Ok None ≡ behind s → s ≡ last
behind_last (fault e) is = absurd (grind arith)
behind_last last is = refl
behind_last (next more left) is = absurd (grind arith)

behind_fault : (s : Step) (e : Refusal) → Err e ≡ behind s → s ≡ fault e
behind_fault (fault f) e is = grind arith
behind_fault last e is = absurd (grind arith)
behind_fault (next more left) e is = absurd (grind arith)

pub shorter : (h : Held) (bytes rest : List ℕ) → Ok (Some rest) ≡ behind (read_record h bytes) → length rest < length bytes
shorter h bytes rest is = (took h bytes _ rest (behind_next (read_record h bytes) h rest is)).shorter

goes_at : (n : ℕ) (h : Held) (rest : List ℕ) (more : Held) (left : List ℕ) (out : Result Held Refusal) → length rest ≤ n → read_records n h rest ≡ out → read_record h rest ≡ next more left → (m : ℕ) × (length left ≤ m) × (read_records m more left ≡ out)
goes_at zero h rest more left out le same e = absurd (omega (arith, (took h rest more left e).shorter))
goes_at (suc n) h rest more left out le same e =
    let l = (took h rest more left e).shorter in
    (n, omega arith, sym (step_on n h rest (next more left) e) ∙ same)

ends_at : (n : ℕ) (h : Held) (rest : List ℕ) (out : Result Held Refusal) → length rest ≤ n → read_records n h rest ≡ out → read_record h rest ≡ last → out ≡ Ok h
ends_at zero h rest out le same e = absurd (omega (arith, ap length (ended h rest e).0))
ends_at (suc n) h rest out le same e = sym same ∙ step_on n h rest last e

nothing_left : (h : Held) (rest : List ℕ) (e : Refusal) → rest ≡ [] → read_record h rest ≡ fault e → ImageEndsEarly ≡ e
nothing_left h rest e none is = let f : read_record h rest ≡ fault ImageEndsEarly = ap (read_record h) none in cc

fails_at : (n : ℕ) (h : Held) (rest : List ℕ) (out : Result Held Refusal) (e : Refusal) → length rest ≤ n → read_records n h rest ≡ out → read_record h rest ≡ fault e → out ≡ Err e
unfolding read_records
fails_at zero h rest out e le same is = sym same ∙ ap Err (nothing_left h rest e (nil_from_length rest (omega arith)) is)
fails_at (suc n) h rest out e le same is = sym same ∙ step_on n h rest (fault e) is

pub reading_goes : {start h more : Held} {whole rest left : List ℕ} → Reading start whole h rest → Ok (Some left) ≡ behind (read_record h rest) → more ≡ grown_by (read_record h rest) h → Reading start whole more left
reading_goes {start} {h} {more} {whole} {rest} {left} r is grew =
    let s = behind_next (read_record h rest) h left is ∙ ap (λ m. next m left) (sym grew) in
    let g = goes_at r.records h rest more left (read_rest start whole) r.enough r.same s in
    record { records = g.0; enough = g.1; same = g.2 }

pub reading_ends : {start h more : Held} {whole rest : List ℕ} → Reading start whole h rest → Ok None ≡ behind (read_record h rest) → more ≡ grown_by (read_record h rest) h → read_rest start whole ≡ Ok more
reading_ends {start} {h} {more} {whole} {rest} r is grew =
    let s = behind_last (read_record h rest) is in
    ends_at r.records h rest (read_rest start whole) r.enough r.same s ∙ ap Ok (sym (grew ∙ ap (λ t. grown_by t h) s))

pub reading_fails : {start h : Held} {whole rest : List ℕ} {e : Refusal} → Reading start whole h rest → Err e ≡ behind (read_record h rest) → read_rest start whole ≡ Err e
reading_fails {start} {h} {whole} {rest} {e} r is =
    fails_at r.records h rest (read_rest start whole) e r.enough r.same (behind_fault (read_record h rest) e is)

-- what a call said of the bytes behind, where there are some, and where there are none
pub some_behind : {o : Option (Bor (List ℕ))} {b : Bor (List ℕ)} {r : Result (Option (List ℕ)) Refusal} → o ≡ Some b → Ok (option_map (λ x. x.now) o) ≡ r → Ok (Some b.now) ≡ r
some_behind e h = ap (λ p. Ok (option_map (λ x. x.now) p)) (sym e) ∙ h

pub none_behind : {o : Option (Bor (List ℕ))} {r : Result (Option (List ℕ)) Refusal} → o ≡ None → Ok (option_map (λ x. x.now) o) ≡ r → Ok None ≡ r
none_behind e h = ap (λ p. Ok (option_map (λ x. x.now) p)) (sym e) ∙ h

-- an image whose header is refused, and one whose header stands
pub header_refused : (image : List ℕ) (e : Refusal) → Err e ≡ read_header image → Err e ≡ read_image image
unfolding read_image
header_refused image e is =
    ap (λ (r : Result Held Refusal). elim r as (λ _. Result Held Refusal) [ Err f ↦ Err f | Ok h ↦ read_rest h (drop 12 image) ]) is

pub header_stands : (image : List ℕ) (h : Held) → Ok h ≡ read_header image → read_image image ≡ read_rest h (take (length image - 12) (drop 12 image))
unfolding read_image
header_stands image h is =
    ap (λ (r : Result Held Refusal). elim r as (λ _. Result Held Refusal) [ Err f ↦ Err f | Ok g ↦ read_rest g (drop 12 image) ]) (sym is)
    ∙ ap (read_rest h) (sym (take_rest image 12))
