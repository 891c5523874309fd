-- an image that is accepted is written back byte for byte, and what a card holds is read back from its image
use Rattle.std.proofs.Common.{◌≡◌, ℕ, zero, suc, ◌<◌, ◌≤◌, Bool, true, false, cond, eqb, ltb, List, [], ◌∷◌, ◌++◌, length, get_or, take, drop, Some, None, Ok, Err, Option, Result, sym, refl, ap, ◌∙◌, arith}
use Rattle.std.proofs.lemmas.List.{append_assoc, append-nil, drop_more, length-take, length-drop}
use Rattle.std.proofs.lemmas.Bool.{and_from, eqb-true, le-leb, eq-eqb}
use Rattle.std.proofs.lemmas.Bool.Decides.{nat_tests}
use Rattle.answers.specs.declared.Refusal.{Refusal}
use Rattle.answers.specs.declared.Refusal.TheVariants.{ImageEndsEarly, RecordKind}
use Rattle.contents.specs.declared.life.CardState.{CardState}
use Rattle.contents.specs.Life.{card_state}
use Rattle.contents.specs.Held.{Held, sound_sets, sound_entries, sound}
use Rattle.contents.specs.Image.{image_bytes, Step, fault, last, next, read_record, read_records, read_rest, headed, header_in, read_header, read_image}
use Rattle.contents.proofs.Values.{card_state_back}
use Rattle.contents.proofs.Bodies.{cut}
use Rattle.contents.proofs.Steps.{front, SoFar, took, ended}

pub record Read (h : Held) (bytes : List ℕ) (all' : Held) : Type 0 where
  pub back : front h ++ bytes ≡ image_bytes all'
  pub sound' : SoFar h → sound all' ≡ true

pub so_far_sound : (h : Held) → SoFar h → 0 < length h.sets → sound h ≡ true
so_far_sound h s some =
    and_from (eqb (length h.diversification) 10) _ (eq-eqb _ _ s.ten)
    (and_from (sound_sets h.sets) (sound_entries h.entries)
    (and_from _ _ (le-leb 1 (length h.sets) (omega arith)) (and_from _ _ (le-leb (length h.sets) 4 s.few_sets) (and_from _ _ s.sets s.versions)))
    (and_from _ _ (le-leb (length h.entries) 12 s.few_entries) (and_from _ _ s.entries s.names)))

front_image : (h : Held) → front h ++ (0 ∷ []) ≡ image_bytes h
unfolding image_bytes
front_image h = simp append_assoc

pub records_read : (n : ℕ) (h : Held) (bytes : List ℕ) (out : Held) → read_records n h bytes ≡ Ok out → Read h bytes out
unfolding read_records
records_read zero h bytes out e = absurd (grind arith)
records_read (suc n) h bytes out e =
    let P : Step → Type 0 = λ s. read_record h bytes ≡ s → ◌≡◌ {A = Result Held Refusal} (elim s [ fault f ↦ Err f | last ↦ Ok h | next more rest ↦ read_records n more rest ]) (Ok out) → Read h bytes out in
    elim (read_record h bytes) as P [
      | fault f ↦ λ s i. absurd (grind arith)
      | last ↦ λ s i.
          let x : h ≡ out = grind arith in
          let d = ended h bytes s in
          rw (sym x, d.0) (record { back = front_image h; sound' = λ f. so_far_sound h f d.1 })
      | next more rest ↦ λ s i.
          let t = took h bytes more rest s in
          let r = records_read n more rest out i in
          record { back = t.same ∙ r.back; sound' = λ f. r.sound' (t.sound f) }
    ] refl e

-- the header
header_is : (body : List ℕ) (o : Option CardState) (h : Held) → card_state (get_or body 0 0) ≡ o → cond (ltb (length body) 11) (Err ImageEndsEarly) (headed o (take 10 (drop 1 body))) ≡ Ok h → (front h ++ drop 11 body ≡ 1 ∷ body) × SoFar h
header_is body None h v e = absurd (grind (arith, nat_tests))
header_is body (Some state) h v e =
    let long : 11 ≤ length body = grind (arith, nat_tests) in
    let is : record { state = state; diversification = take 10 (drop 1 body); sets = []; entries = [] } ≡ h = grind (arith, nat_tests) in
    let s = card_state_back (get_or body 0 0) state v in
    let c : body ≡ get_or body 0 0 ∷ drop 1 body = drop_more body 0 0 (omega arith) in
    let d : take 10 (drop 1 body) ++ drop 11 body ≡ drop 1 body = cut 1 10 body in
    let n = append-nil (take 10 (drop 1 body)) in
    rw (sym is) ((cc, record { ten = simp (length-take, length-drop) (omega arith); few_sets = omega arith; sets = refl; versions = refl; few_entries = omega arith; entries = refl; names = refl }))

header_read : (image : List ℕ) (h : Held) → read_header image ≡ Ok h → (front h ++ drop 12 image ≡ image) × SoFar h
header_read [] h e = absurd (grind arith)
header_read (b ∷ body) h e =
    let P : Bool → Type 0 = λ t. eqb b 1 ≡ t → cond t (header_in body) (Err RecordKind) ≡ Ok h → (front h ++ drop 11 body ≡ b ∷ body) × SoFar h in
    elim (eqb b 1) as P [
      | true ↦ λ t i. let k = header_is body (card_state (get_or body 0 0)) h refl i in (k.0 ∙ ap (λ x. x ∷ body) (sym (eqb-true b 1 t)), k.1)
      | false ↦ λ t i. absurd (grind arith)
    ] refl e

pub image_read : (image : List ℕ) (out : Held) → read_image image ≡ Ok out → (image_bytes out ≡ image) × (sound out ≡ true)
unfolding read_image read_rest
image_read image out e =
    let P : Result Held Refusal → Type 0 = λ r. read_header image ≡ r → ◌≡◌ {A = Result Held Refusal} (elim r [ Err f ↦ Err f | Ok h ↦ read_rest h (drop 12 image) ]) (Ok out) → (image_bytes out ≡ image) × (sound out ≡ true) in
    elim (read_header image) as P [
      | Err f ↦ λ r i. absurd (grind arith)
      | Ok h ↦ λ r i.
          let k = header_read image h r in
          let t = records_read (length (drop 12 image)) h (drop 12 image) out i in
          (sym t.back ∙ k.0, t.sound' k.1)
    ] refl e
