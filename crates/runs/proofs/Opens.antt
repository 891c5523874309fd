-- The commands that open a channel keep the plain card beside the card.
use Rattle.std.proofs.Common.{◌≡◌, ℕ, Bool, true, false, cond, eqb, List, [], ◌∷◌, ◌++◌, length, take, drop, Some, None, Option, sym, refl, ap, ◌∙◌, subst, append_assoc, arith, length-append}
use Rattle.std.specs.Str.{bytes_eq}
use Rattle.std.proofs.lemmas.List.{take_at, drop_at}
use Rattle.std.proofs.lemmas.Bool.Decides.{nat_tests}
use Rattle.answers.specs.declared.StatusWord.TheVariants as sw
use Rattle.answers.specs.declared.StatusWord.TheVariants.{Success}
use Rattle.answers.specs.Numbers.{status_bytes}
use Rattle.answers.specs.Replies.{Reply, reply, only, reply_bytes}
use Rattle.apdu.specs.Apdu.{Apdu}
use Rattle.card.specs.declared.channel.Channel.{Channel}
use Rattle.card.specs.declared.channel.Channel.TheVariants.{Closed, Waiting, Open}
use Rattle.card.specs.declared.channel.Handshake.{Handshake}
use Rattle.card.specs.Channels.{sized_channel, granted_level, waiting}
use Rattle.card.specs.Models.{Model, model}
use Rattle.card.specs.Opening.{keys_of, updated, begun, begun_with, authenticated, at_level, proved}
use Rattle.card.specs.Replies.{update_data}
use Rattle.challenge.specs.Draws.{Challenges}
use Rattle.cipher.specs.Blocks.{Algorithm, zeros}
use Rattle.contents.specs.declared.records.KeySet.{KeySet}
use Rattle.contents.specs.Held.{Held}
use Rattle.contents.specs.Records.{chosen_set}
use Rattle.scp01.specs.declared.Level.{Level}
use Rattle.cipher.specs.declared.Keys.{Keys}
use Rattle.scp01.specs.Levels.{session}
use Rattle.scp01.specs.Session.{card_cryptogram, host_cryptogram, command_code}
use Rattle.runs.specs.Events.{is9000}
use Rattle.runs.specs.Plain.{PlainCard, plain_card, Line, idle, asked, talking, Message, challenge_in, asked_for, opened_by, opened_at, authenticates, first_message, code_over}
use Rattle.runs.specs.Laws.{Follows, Matches, Asking}
use Rattle.runs.proofs.Statuses.{tells_success}

-- the challenge stands behind ten bytes, the version and 01
challenge_shown : (d card rest : List ℕ) (v : ℕ) → length d ≡ 10 → length card ≡ 8 → challenge_in (d ++ ((v ∷ 0x01 ∷ []) ++ (card ++ rest))) ≡ card
challenge_shown d card rest v ld lc =
    let head : List ℕ = d ++ (v ∷ 0x01 ∷ []) in
    let twelve : length head ≡ 12 = simp length-append (omega arith) in
    let same : d ++ ((v ∷ 0x01 ∷ []) ++ (card ++ rest)) ≡ head ++ (card ++ rest) = sym (append_assoc d (v ∷ 0x01 ∷ []) (card ++ rest)) in
    ap challenge_in same ∙ ap (take 8) (drop_at head (card ++ rest) 12 twelve) ∙ take_at card rest 8 lc

update_shown : (d card crypt sw : List ℕ) (v : ℕ) → length d ≡ 10 → length card ≡ 8 → challenge_in (update_data d v card crypt ++ sw) ≡ card
update_shown d card crypt sw v ld lc =
    let same : update_data d v card crypt ++ sw ≡ d ++ ((v ∷ 0x01 ∷ []) ++ (card ++ (crypt ++ sw))) = simp append_assoc in
    ap challenge_in same ∙ challenge_shown d card (crypt ++ sw) v ld lc

-- INITIALIZE UPDATE
abbrev pub hears_update : Held → Option KeySet → List ℕ → List ℕ → PlainCard
hears_update h o host answer = plain_card h (cond (is9000 answer) (asked_for o host answer) idle)

drawn_follows : (cipher : Algorithm) (h : Held) (k : KeySet) (host : List ℕ) (coming : Challenges) → length h.diversification ≡ 10 → sized_channel (begun_with cipher (model h Closed coming) k host coming).0.channel ≡ true → Follows cipher (begun_with cipher (model h Closed coming) k host coming).0 (hears_update h (Some k) host (reply_bytes (begun_with cipher (model h Closed coming) k host coming).1))
drawn_follows cipher h k host [] ten fit = record { line = idle; is = refl; channel = refl }
drawn_follows cipher h k host (card ∷ coming) ten fit =
    let keys = keys_of cipher k host card in
    let crypt = card_cryptogram cipher.enc keys.enc host card in
    let r : Reply = reply (update_data h.diversification k.version card crypt) Success in
    let eight : length card ≡ 8 = grind (arith, nat_tests) in
    let yes' = tells_success r in
    let shown = update_shown h.diversification card crypt (status_bytes Success) k.version ten eight in
    record {
      line = asked k host card;
      is = ap (λ (b : Bool). plain_card h (cond b (asked k host (challenge_in (reply_bytes r))) idle)) yes' ∙ ap (λ (x : List ℕ). plain_card h (asked k host x)) shown;
      channel = record { set = k; line = refl; keys = refl };
    }

begun_follows : (cipher : Algorithm) (h : Held) (o : Option KeySet) (host : List ℕ) (coming : Challenges) → length h.diversification ≡ 10 → sized_channel (begun cipher (model h Closed coming) o host).0.channel ≡ true → Follows cipher (begun cipher (model h Closed coming) o host).0 (hears_update h o host (reply_bytes (begun cipher (model h Closed coming) o host).1))
begun_follows cipher h None host coming ten fit = record { line = idle; is = refl; channel = refl }
begun_follows cipher h (Some k) host coming ten fit = drawn_follows cipher h k host coming ten fit

pub update_follows : (cipher : Algorithm) (h : Held) (coming : Challenges) (c : Apdu) → length h.diversification ≡ 10 → sized_channel (updated cipher (model h Closed coming) c).0.channel ≡ true → Follows cipher (updated cipher (model h Closed coming) c).0 (hears_update h (chosen_set c.p1 h.sets) c.field (reply_bytes (updated cipher (model h Closed coming) c).1))
update_follows cipher h coming c ten =
    let m = model h Closed coming in
    let o = chosen_set c.p1 h.sets in
    let Fits : Model × Reply → Type 0 = λ out. sized_channel out.0.channel ≡ true → Follows cipher out.0 (hears_update h o c.field (reply_bytes out.1)) in
    let long : Bool → Model × Reply = λ b. cond b (begun cipher m o c.field) (m, record { text = []; status = sw.WrongLength }) in
    let outs : Bool → Model × Reply = λ b. cond b (long (eqb (length c.field) 8)) (m, record { text = []; status = sw.WrongParameters }) in
    elim (eqb c.p2 0x00) as (λ b. Fits (outs b)) [
      | true ↦ elim (eqb (length c.field) 8) as (λ b. Fits (long b)) [
        | true ↦ begun_follows cipher h o c.field coming ten
        | false ↦ λ fit. record { line = idle; is = refl; channel = refl }
      ]
      | false ↦ λ fit. record { line = idle; is = refl; channel = refl }
    ]

-- EXTERNAL AUTHENTICATE
abbrev pub hears_authenticate : Algorithm → Held → Line → Apdu → List ℕ → PlainCard
hears_authenticate cipher h l c answer = plain_card h (cond (is9000 answer) (opened_by cipher h l c) idle)

-- the code over one message is its code from zeros
code_over_one : (cipher : Algorithm) (key : List ℕ) (c : Apdu) → code_over cipher.enc key (first_message c ∷ []) ≡ command_code cipher.enc key zeros 0x82 c.p1 0x00 (take 8 c.field)
unfolding code_over
code_over_one cipher key c = refl

proved_follows : (cipher : Algorithm) (h : Held) (coming : Challenges) (k : KeySet) (w : Handshake) (level : Level) (c : Apdu) → w.keys ≡ keys_of cipher k w.challenges.host w.challenges.card → granted_level h.state c.p1 ≡ Some level → Follows cipher (proved cipher (model h Closed coming) w level c.p1 c.field).0 (hears_authenticate cipher h (asked k w.challenges.host w.challenges.card) c (reply_bytes (proved cipher (model h Closed coming) w level c.p1 c.field).1))
proved_follows cipher h coming k w level c keys granted =
    let m = model h Closed coming in
    let crypt = take 8 c.field in
    let right = command_code cipher.enc w.keys.mac zeros 0x82 c.p1 0x00 crypt in
    let A = bytes_eq crypt (host_cryptogram cipher.enc w.keys.enc w.challenges.host w.challenges.card) in
    let B = bytes_eq (drop 8 c.field) right in
    let first : List Message = first_message c ∷ [] in
    let one = code_over_one cipher w.keys.mac c in
    let hears : List ℕ → PlainCard = hears_authenticate cipher h (asked k w.challenges.host w.challenges.card) c in
    let inner : Bool → Model × Reply = λ b. cond b (model h (Open (session level w.keys right)) coming, only sw.Success) (m, only sw.SecurityNotSatisfied) in
    let outer : Bool → Model × Reply = λ a. cond a (inner B) (m, only sw.CryptogramRejected) in
    let Fits : Model × Reply → Type 0 = λ out. Follows cipher out.0 (hears (reply_bytes out.1)) in
    let opened : A ≡ true → B ≡ true → opened_by cipher h (asked k w.challenges.host w.challenges.card) c ≡ talking level w.keys first = λ a b.
    let code : bytes_eq (drop 8 c.field) (code_over cipher.enc w.keys.mac first) ≡ true = ap (bytes_eq (drop 8 c.field)) one ∙ b in
    let both : authenticates cipher w.keys w.challenges.host w.challenges.card c ≡ true = rw (a, code) refl in
    ap (λ (j : Keys). opened_at cipher j w.challenges.host w.challenges.card c (granted_level h.state c.p1)) (sym keys)
    ∙ ap (opened_at cipher w.keys w.challenges.host w.challenges.card c) granted
    ∙ ap (λ (x : Bool). cond x (talking level w.keys first) idle) both
    in
    elim A as (λ a. A ≡ a → Fits (outer a)) [
      | true ↦ λ a. elim B as (λ b. B ≡ b → Fits (inner b)) [
        | true ↦ λ b. record {
          line = talking level w.keys first;
          is = ap (plain_card h) (opened a b);
          channel = record { messages = first; line = refl; chain = sym one };
        }
        | false ↦ λ b. record { line = idle; is = refl; channel = refl }
      ] refl
      | false ↦ λ a. record { line = idle; is = refl; channel = refl }
    ] refl

level_follows : (cipher : Algorithm) (h : Held) (coming : Challenges) (k : KeySet) (w : Handshake) (o : Option Level) (c : Apdu) → w.keys ≡ keys_of cipher k w.challenges.host w.challenges.card → granted_level h.state c.p1 ≡ o → Follows cipher (at_level cipher (model h Closed coming) w o c).0 (hears_authenticate cipher h (asked k w.challenges.host w.challenges.card) c (reply_bytes (at_level cipher (model h Closed coming) w o c).1))
level_follows cipher h coming k w None c keys granted = record { line = idle; is = refl; channel = refl }
level_follows cipher h coming k w (Some level) c keys granted =
    let m = model h Closed coming in
    let out : Bool → Model × Reply = λ b. cond b (proved cipher m w level c.p1 c.field) (m, only sw.WrongLength) in
    elim (eqb (length c.field) 16) as (λ b. Follows cipher (out b).0 (hears_authenticate cipher h (asked k w.challenges.host w.challenges.card) c (reply_bytes (out b).1))) [
      | true ↦ proved_follows cipher h coming k w level c keys granted
      | false ↦ record { line = idle; is = refl; channel = refl }
    ]

-- a challenge waits
waiting_follows : (cipher : Algorithm) (h : Held) (coming : Challenges) (w : Handshake) (l : Line) (c : Apdu) → Asking cipher w l → Follows cipher (authenticated cipher (model h Closed coming) (Some w) c).0 (hears_authenticate cipher h l c (reply_bytes (authenticated cipher (model h Closed coming) (Some w) c).1))
waiting_follows cipher h coming w l c a =
    let m = model h Closed coming in
    let out : Bool → Model × Reply = λ b. cond b (at_level cipher m w (granted_level h.state c.p1) c) (m, only sw.WrongParameters) in
    let P : Line → Type 0 = λ l. Follows cipher (authenticated cipher m (Some w) c).0 (hears_authenticate cipher h l c (reply_bytes (authenticated cipher m (Some w) c).1)) in
    let here : P (asked a.set w.challenges.host w.challenges.card) =
    elim (eqb c.p2 0x00) as (λ b. Follows cipher (out b).0 (hears_authenticate cipher h (asked a.set w.challenges.host w.challenges.card) c (reply_bytes (out b).1))) [
      | true ↦ level_follows cipher h coming a.set w (granted_level h.state c.p1) c a.keys refl
      | false ↦ record { line = idle; is = refl; channel = refl }
    ]
    in
    subst P (sym a.line) here

-- nothing waits: the answer is 6985
pub authenticate_follows : (cipher : Algorithm) (h : Held) (coming : Challenges) (x : Channel) (l : Line) (c : Apdu) → Matches cipher x l → Follows cipher (authenticated cipher (model h Closed coming) (waiting x) c).0 (hears_authenticate cipher h l c (reply_bytes (authenticated cipher (model h Closed coming) (waiting x) c).1))
authenticate_follows cipher h coming Closed l c e = record { line = idle; is = refl; channel = refl }
authenticate_follows cipher h coming (Waiting w) l c e = waiting_follows cipher h coming w l c e
authenticate_follows cipher h coming (Open s) l c e = record { line = idle; is = refl; channel = refl }
