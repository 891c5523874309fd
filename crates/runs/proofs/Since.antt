-- The plain card's line comes about as its history says.
use Rattle.std.proofs.Common.{◌≡◌, ℕ, true, false, cond, List, [], ◌∷◌, ◌++◌, take, drop, Some, None, Ok, Err, Option, Result, sym, refl, ap, ◌∙◌, subst}
use Rattle.std.specs.Str.{bytes_eq}
use Rattle.std.proofs.lemmas.List.Sums.{fold_push}
use Rattle.std.proofs.lemmas.Bool.{and_parts}
use Rattle.answers.specs.declared.StatusWord.{StatusWord}
use Rattle.apdu.specs.declared.Instruction.{Instruction}
use Rattle.apdu.specs.declared.Instruction.TheVariants.{Select, InitializeUpdate, ExternalAuthenticate, Manage}
use Rattle.apdu.specs.declared.Management.{Management}
use Rattle.apdu.specs.Apdu.{Apdu, apdu, management_of}
use Rattle.card.specs.Admitting.{admitted, is_terminated}
use Rattle.card.specs.Channels.{granted_level, plain_allowed}
use Rattle.card.specs.Models.{Model}
use Rattle.card.specs.Opening.{keys_of}
use Rattle.cipher.specs.Blocks.{Algorithm}
use Rattle.contents.specs.declared.records.KeySet.{KeySet}
use Rattle.contents.specs.Held.{Held}
use Rattle.contents.specs.Records.{chosen_set}
use Rattle.scp01.specs.declared.Level.{Level}
use Rattle.cipher.specs.declared.Keys.{Keys}
use Rattle.scp01.specs.Inside.{unwrapped}
use Rattle.scp01.specs.Session.{host_cryptogram}
use Rattle.runs.specs.Events.{Event, reset, answered, is9000}
use Rattle.runs.specs.Histories.{holding, taken_in, taken_if, taken_for, Waits, drawn, kept, ignored, OpenSince, Authentic, authenticated, read, passed, History}
use Rattle.runs.specs.Plain.{PlainCard, plain_card, Line, idle, asked, talking, Message, message, first_message, code_over, found_right, session_of, changed, read_as, in_channel, asked_for, authenticates, opened_at, opened_by, noted_as, noted_if, noted, observe, observed}
use Rattle.runs.specs.Runs.{Ran, begun, then}
use Rattle.runs.proofs.Unwrapping.{same_of}

-- a command that was not taken leaves the line
untaken_since : (cipher : Algorithm) (start : Held) (es : List Event) (cmd answer : List ℕ) (l : Line) → taken_in (holding cipher start es).state cmd ≡ None → History cipher start es l → History cipher start (es ++ answered cmd answer ∷ []) l
untaken_since cipher start es cmd answer idle t h = tt
untaken_since cipher start es cmd answer (asked k host card) t h = ignored es k host card cmd answer h t
untaken_since cipher start es cmd answer (talking level keys ms) t h = passed es level keys ms cmd answer h t

-- a channel command
read_since : (cipher : Algorithm) (start : Held) (es : List Event) (cmd answer : List ℕ) (c : Apdu) (i : Management) (level : Level) (keys : Keys) (ms : List Message) (o : Option (List ℕ × List ℕ)) → taken_in (holding cipher start es).state cmd ≡ Some (Manage i, c) → OpenSince cipher start es level keys ms → unwrapped cipher (session_of cipher level keys ms) (plain_allowed (holding cipher start es).state) c level ≡ o → holding cipher start (es ++ answered cmd answer ∷ []) ≡ (read_as cipher (holding cipher start es) level keys ms i c answer o).contents → History cipher start (es ++ answered cmd answer ∷ []) (read_as cipher (holding cipher start es) level keys ms i c answer o).line
read_since cipher start es cmd answer c i level keys ms None t h e next = tt
read_since cipher start es cmd answer c i level keys ms (Some r) t h e next =
    let ms' = found_right level ms (message c r.0) in
    let held = changed cipher keys (holding cipher start es) i c r.0 answer in
    elim (is_terminated held.state) as (λ b. is_terminated held.state ≡ b → History cipher start (es ++ answered cmd answer ∷ []) (cond b idle (talking level keys ms'))) [
      | true ↦ λ dead. tt
      | false ↦ λ alive. read es level keys ms cmd answer c i r.0 r.1 h t e (ap (λ (x : Held). is_terminated x.state) next ∙ alive)
    ] refl

manage_since : (cipher : Algorithm) (start : Held) (es : List Event) (cmd answer : List ℕ) (c : Apdu) (i : Management) (l : Line) → taken_in (holding cipher start es).state cmd ≡ Some (Manage i, c) → History cipher start es l → holding cipher start (es ++ answered cmd answer ∷ []) ≡ (in_channel cipher (holding cipher start es) l i c answer).contents → History cipher start (es ++ answered cmd answer ∷ []) (in_channel cipher (holding cipher start es) l i c answer).line
manage_since cipher start es cmd answer c i idle t h next = tt
manage_since cipher start es cmd answer c i (asked k host card) t h next = kept es k host card cmd answer c i h t
manage_since cipher start es cmd answer c i (talking level keys ms) t h next =
    read_since cipher start es cmd answer c i level keys ms (unwrapped cipher (session_of cipher level keys ms) (plain_allowed (holding cipher start es).state) c level) t h refl next

-- INITIALIZE UPDATE
update_since : (cipher : Algorithm) (start : Held) (es : List Event) (cmd answer : List ℕ) (c : Apdu) → taken_in (holding cipher start es).state cmd ≡ Some (InitializeUpdate, c) → History cipher start (es ++ answered cmd answer ∷ []) (cond (is9000 answer) (asked_for (chosen_set c.p1 (holding cipher start es).sets) c.field answer) idle)
update_since cipher start es cmd answer c t =
    let chosen = chosen_set c.p1 (holding cipher start es).sets in
    elim (is9000 answer) as (λ b. is9000 answer ≡ b → History cipher start (es ++ answered cmd answer ∷ []) (cond b (asked_for chosen c.field answer) idle)) [
      | true ↦ λ done. elim chosen as (λ o. chosen ≡ o → History cipher start (es ++ answered cmd answer ∷ []) (asked_for o c.field answer)) [
        | None ↦ λ none. tt
        | Some k ↦ λ is. drawn es cmd answer c k t done is
      ] refl
      | false ↦ λ no'. tt
    ] refl

-- EXTERNAL AUTHENTICATE
authentic : (cipher : Algorithm) (keys : Keys) (host card : List ℕ) (c : Apdu) → authenticates cipher keys host card c ≡ true → Authentic cipher keys host card c
authentic cipher keys host card c e =
    let p = and_parts (bytes_eq (take 8 c.field) (host_cryptogram cipher.enc keys.enc host card)) (bytes_eq (drop 8 c.field) (code_over cipher.enc keys.mac (first_message c ∷ []))) e in
    record { cryptogram = same_of _ _ p.0; code = same_of _ _ p.1 }

opened_since : (cipher : Algorithm) (start : Held) (es : List Event) (cmd answer : List ℕ) (c : Apdu) (k : KeySet) (host card : List ℕ) → taken_in (holding cipher start es).state cmd ≡ Some (ExternalAuthenticate, c) → is9000 answer ≡ true → Waits cipher start es k host card → History cipher start (es ++ answered cmd answer ∷ []) (opened_at cipher (keys_of cipher k host card) host card c (granted_level (holding cipher start es).state c.p1))
opened_since cipher start es cmd answer c k host card t done h =
    let keys = keys_of cipher k host card in
    let granted = granted_level (holding cipher start es).state c.p1 in
    elim granted as (λ o. granted ≡ o → History cipher start (es ++ answered cmd answer ∷ []) (opened_at cipher keys host card c o)) [
      | None ↦ λ none. tt
      | Some level ↦ λ is. elim (authenticates cipher keys host card c) as (λ b. authenticates cipher keys host card c ≡ b → History cipher start (es ++ answered cmd answer ∷ []) (cond b (talking level keys (first_message c ∷ [])) idle)) [
        | true ↦ λ right. authenticated es k host card cmd answer c level h t done is (authentic cipher keys host card c right)
        | false ↦ λ wrong. tt
      ] refl
    ] refl

authenticate_since : (cipher : Algorithm) (start : Held) (es : List Event) (cmd answer : List ℕ) (c : Apdu) (l : Line) → taken_in (holding cipher start es).state cmd ≡ Some (ExternalAuthenticate, c) → is9000 answer ≡ true → History cipher start es l → History cipher start (es ++ answered cmd answer ∷ []) (opened_by cipher (holding cipher start es) l c)
authenticate_since cipher start es cmd answer c idle t done h = tt
authenticate_since cipher start es cmd answer c (asked k host card) t done h = opened_since cipher start es cmd answer c k host card t done h
authenticate_since cipher start es cmd answer c (talking level keys ms) t done h = tt

-- any command
as_since : (cipher : Algorithm) (start : Held) (es : List Event) (cmd answer : List ℕ) (c : Apdu) (i : Instruction Management) (l : Line) → taken_in (holding cipher start es).state cmd ≡ Some (i, c) → History cipher start es l → holding cipher start (es ++ answered cmd answer ∷ []) ≡ (noted_as cipher (plain_card (holding cipher start es) l) i c answer).contents → History cipher start (es ++ answered cmd answer ∷ []) (noted_as cipher (plain_card (holding cipher start es) l) i c answer).line
as_since cipher start es cmd answer c Select l t h next = tt
as_since cipher start es cmd answer c InitializeUpdate l t h next = update_since cipher start es cmd answer c t
as_since cipher start es cmd answer c ExternalAuthenticate l t h next =
    elim (is9000 answer) as (λ b. is9000 answer ≡ b → History cipher start (es ++ answered cmd answer ∷ []) (cond b (opened_by cipher (holding cipher start es) l c) idle)) [
      | true ↦ λ done. authenticate_since cipher start es cmd answer c l t done h
      | false ↦ λ no'. tt
    ] refl
as_since cipher start es cmd answer c (Manage i) l t h next = manage_since cipher start es cmd answer c i l t h next

if_since : (cipher : Algorithm) (start : Held) (es : List Event) (cmd answer : List ℕ) (c : Apdu) (r : Result (Instruction Management) StatusWord) (l : Line) → taken_in (holding cipher start es).state cmd ≡ taken_for c r → History cipher start es l → holding cipher start (es ++ answered cmd answer ∷ []) ≡ (noted_if cipher (plain_card (holding cipher start es) l) r c answer).contents → History cipher start (es ++ answered cmd answer ∷ []) (noted_if cipher (plain_card (holding cipher start es) l) r c answer).line
if_since cipher start es cmd answer c (Err status) l t h next = untaken_since cipher start es cmd answer l t h
if_since cipher start es cmd answer c (Ok i) l t h next = as_since cipher start es cmd answer c i l t h next

noted_since : (cipher : Algorithm) (start : Held) (es : List Event) (cmd answer : List ℕ) (o : Option Apdu) (l : Line) → taken_in (holding cipher start es).state cmd ≡ taken_if (holding cipher start es).state o → History cipher start es l → holding cipher start (es ++ answered cmd answer ∷ []) ≡ (noted cipher (plain_card (holding cipher start es) l) o answer).contents → History cipher start (es ++ answered cmd answer ∷ []) (noted cipher (plain_card (holding cipher start es) l) o answer).line
noted_since cipher start es cmd answer None l t h next = untaken_since cipher start es cmd answer l t h
noted_since cipher start es cmd answer (Some c) l t h next = if_since cipher start es cmd answer c (admitted management_of (holding cipher start es).state c) l t h next

event_since : (cipher : Algorithm) (start : Held) (es : List Event) (e : Event) → History cipher start es (observed cipher (plain_card start idle) es).line → observed cipher (plain_card start idle) (es ++ e ∷ []) ≡ observe cipher (observed cipher (plain_card start idle) es) e → History cipher start (es ++ e ∷ []) (observe cipher (observed cipher (plain_card start idle) es) e).line
event_since cipher start es reset h next = tt
event_since cipher start es (answered cmd answer) h next =
    noted_since cipher start es cmd answer (apdu cmd) (observed cipher (plain_card start idle) es).line refl h (ap (λ (p : PlainCard). p.contents) next)

pub ran_since : {cipher : Algorithm} {m n : Model} {es : List Event} → Ran cipher m es n → History cipher m.contents es (observed cipher (plain_card m.contents idle) es).line
ran_since (begun fit) = tt
ran_since {cipher} {m} (then {es} {n} e r g fit) =
    let next = fold_push (observe cipher) (plain_card m.contents idle) es e in
    let P : PlainCard → Type 0 = λ p. History cipher m.contents (es ++ e ∷ []) p.line in
    subst P (sym next) (event_since cipher m.contents es e (ran_since r) next)
