-- A terminal that has one of a card's key sets opens a channel with it.
use Rattle.std.proofs.Common.{◌≡◌, ℕ, ◌+◌, ◌-◌, ◌<◌, ◌≤◌, true, false, cond, ◌&&◌, eqb, ltb, List, ◌++◌, length, get_or, take, drop, Some, None, Ok, Err, Option, Result, sym, refl, ap, ◌∙◌, subst, lit≤}
use native.Mathlib.Nat.{sub-zero}
use Rattle.std.specs.Str.{bytes_eq}
use Rattle.std.proofs.lemmas.List.{take_at, get_or-drop}
use Rattle.std.proofs.lemmas.Bool.{and_parts, eqb-true}
use Rattle.answers.specs.declared.Refusal.{Refusal}
use Rattle.answers.specs.declared.Refusal.TheVariants.{AreaTooShort, WrongCryptogram}
use Rattle.answers.specs.declared.StatusWord.TheVariants.{Success}
use Rattle.answers.specs.Areas.{fronted}
use Rattle.answers.specs.Numbers.{status_bytes}
use Rattle.answers.specs.Replies.{Reply, only, reply_bytes}
use Rattle.apdu.specs.declared.Management.{Management}
use Rattle.apdu.specs.Apdu.{Apdu, apdu, management_of}
use Rattle.card.specs.declared.channel.Channel.TheVariants.{Waiting, Open}
use Rattle.card.specs.Channels.{handshake, sized_channel}
use Rattle.card.specs.Models.{Model, model, Fit}
use Rattle.card.specs.Opening.{keys_of}
use Rattle.card.specs.Replies.{update_data}
use Rattle.card.specs.Taking.{responded}
use Rattle.challenge.specs.Draws.{Challenges}
use Rattle.cipher.specs.Blocks.{Algorithm, Bytes, Undoes, zeros}
use Rattle.cipher.proofs.Xors.{small_take}
use Rattle.contents.specs.declared.records.KeySet.{KeySet}
use Rattle.contents.specs.Held.{Held}
use Rattle.scp01.specs.declared.Level.{Level}
use Rattle.scp01.specs.declared.Session.{Session}
use Rattle.scp01.specs.Levels.{level_of, level_value}
use Rattle.scp01.specs.Session.{session_keys, card_cryptogram, host_cryptogram, command_code}
use Rattle.scp01.specs.Wrapping.{wrapped}
use Rattle.terminal.specs.declared.Phase.{Phase}
use Rattle.terminal.specs.declared.Phase.TheVariants as phase
use Rattle.terminal.specs.Sides as terminal
use Rattle.terminal.specs.Sides.{Side, Outcome, in_phase, sends, update_command, authenticate_command}
use Rattle.runs.specs.Conversing.{Welcome, Opens, Began, Carried, blank, showing}
use Rattle.runs.specs.Serving.{HasSet, challenged, cryptogram_to, code_to, session_to}
use Rattle.runs.specs.Turns.{Pair, HandedIn}
use Rattle.runs.proofs.Following.{ten_bytes}
use Rattle.runs.proofs.Serving.{begin_sent, update_answered_is, update_trusted, authenticate_answered, opened_keyed, card_shown, answer_parts}
use Rattle.runs.proofs.Turning.{front_within}
use Rattle.rules.specs.Own.{own_rule}

-- What a terminal wrote ends within its area.

abbrev Within : Result ℕ Refusal → List ℕ → Type 0
Within (Ok k) area = k ≤ length area
Within (Err e) area = Unit {0}

abbrev Fits : Outcome → Type 0
Fits o = Within o.0 o.2

sends_fits : (t : Side) (area bytes : List ℕ) → Fits (sends t area bytes)
sends_fits t area bytes = front_within area bytes (fronted area bytes) (length bytes) refl refl

abbrev opened_with : Algorithm → Side → List ℕ → List ℕ → Level → List ℕ
opened_with cipher t host card level =
    let keys = session_keys cipher.enc t.keys.enc t.keys.mac t.keys.kek host card in
    let crypt = host_cryptogram cipher.enc keys.enc host card in
    authenticate_command (level_value level) crypt (command_code cipher.enc keys.mac zeros 0x82 (level_value level) 0x00 crypt)

opens_fits : (cipher : Algorithm) (t : Side) (host card cryptogram : List ℕ) (level : Level) (area : List ℕ) → Fits (terminal.checks cipher t host (Some (record { challenge = card; cryptogram = cryptogram })) level area)
opens_fits cipher t host card cryptogram level area =
    let keys = session_keys cipher.enc t.keys.enc t.keys.mac t.keys.kek host card in
    elim (bytes_eq cryptogram (card_cryptogram cipher.enc keys.enc host card)) as (λ b. Fits (cond b (terminal.opens cipher t keys host card level area) (terminal.refused_as (in_phase t phase.Made) area WrongCryptogram))) [
      | true ↦ sends_fits (terminal.opens cipher t keys host card level area).1 area (opened_with cipher t host card level)
      | false ↦ tt
    ]

checks_fits : (cipher : Algorithm) (t : Side) (host answer : List ℕ) (level : Level) (area : List ℕ) → Fits (terminal.checks cipher t host (terminal.update_in t.version answer) level area)
checks_fits cipher t host answer level area =
    elim (terminal.is_update t.version answer) as (λ b. Fits (terminal.checks cipher t host (cond b (Some (record { challenge = terminal.challenge_in answer; cryptogram = terminal.cryptogram_in answer })) None) level area)) [
      | true ↦ opens_fits cipher t host (terminal.challenge_in answer) (terminal.cryptogram_in answer) level area
      | false ↦ tt
    ]

level_fits : (cipher : Algorithm) (t : Side) (host answer : List ℕ) (o : Option Level) (area : List ℕ) → Fits (terminal.at_level cipher t host answer o area)
level_fits cipher t host answer None area = tt
level_fits cipher t host answer (Some level) area = checks_fits cipher t host answer level area

turn_fits : (cipher : Algorithm) (t : Side) (p : Phase) (answer : List ℕ) (level : ℕ) (area : List ℕ) → Fits (terminal.in_turn cipher t p answer level area)
turn_fits cipher t phase.Made answer level area = tt
turn_fits cipher t (phase.Begun host) answer level area = level_fits cipher t host answer (level_of level) area
turn_fits cipher t (phase.Open s) answer level area = tt

authenticates_fits : (cipher : Algorithm) (t : Side) (answer : List ℕ) (level : ℕ) (area : List ℕ) → Fits (terminal.authenticates cipher t answer level area)
authenticates_fits cipher t answer level area =
    elim (ltb (length area) 261) as (λ b. Fits (cond b (terminal.refused_as t area AreaTooShort) (terminal.in_turn cipher t t.phase answer level area))) [
      | true ↦ tt
      | false ↦ turn_fits cipher t t.phase answer level area
    ]

wraps_as_fits : (t : Side) (s : Session) (o : Option (List ℕ × List ℕ)) (area : List ℕ) → Fits (terminal.wraps_as t s o area)
wraps_as_fits t s None area = tt
wraps_as_fits t s (Some w) area = sends_fits t area w.0

wraps_for_fits : (cipher : Algorithm) (t : Side) (s : Session) (c : Apdu) (o : Option Management) (area : List ℕ) → Fits (terminal.wraps_for cipher t s c o area)
wraps_for_fits cipher t s c None area = tt
wraps_for_fits cipher t s c (Some i) area = wraps_as_fits t s (wrapped cipher s c) area

wraps_in_fits : (cipher : Algorithm) (t : Side) (s : Session) (o : Option Apdu) (area : List ℕ) → Fits (terminal.wraps_in cipher t s o area)
wraps_in_fits cipher t s None area = tt
wraps_in_fits cipher t s (Some c) area = wraps_for_fits cipher t s c (management_of c.instruction) area

wraps_when_fits : (cipher : Algorithm) (t : Side) (p : Phase) (command area : List ℕ) → Fits (terminal.wraps_when cipher t p command area)
wraps_when_fits cipher t phase.Made command area = tt
wraps_when_fits cipher t (phase.Begun host) command area = tt
wraps_when_fits cipher t (phase.Open s) command area = wraps_in_fits cipher t s (apdu command) area

wraps_fits : (cipher : Algorithm) (t : Side) (command area : List ℕ) → Fits (terminal.wraps cipher t command area)
wraps_fits cipher t command area =
    elim (ltb (length area) 261) as (λ b. Fits (cond b (terminal.refused_as t area AreaTooShort) (terminal.wraps_when cipher t t.phase command area))) [
      | true ↦ tt
      | false ↦ wraps_when_fits cipher t t.phase command area
    ]

fits_within : (o : Outcome) (u : Side) (area : List ℕ) (k : ℕ) → (Ok k, u, area) ≡ o → Fits o → k ≤ length area
fits_within o u area k is f = let P : Outcome → Type 0 = λ x. Fits x in subst P (sym is) f

pub authenticate_within : (cipher : Algorithm) (t u : Side) (answer before area : List ℕ) (level k : ℕ) → (Ok k, u, area) ≡ terminal.authenticates cipher t answer level before → k ≤ length area
authenticate_within cipher t u answer before area level k is = fits_within _ u area k is (authenticates_fits cipher t answer level before)

pub wrap_within : (cipher : Algorithm) (t u : Side) (command before area : List ℕ) (k : ℕ) → (Ok k, u, area) ≡ terminal.wraps cipher t command before → k ≤ length area
wrap_within cipher t u command before area k is = fits_within _ u area k is (wraps_fits cipher t command before)

-- What was written is handed in.

pub carried_in : (cipher : Algorithm) (m n : Model) (o : Outcome) (u : Side) (area : List ℕ) (k : ℕ) (x : Pair) → (Ok k, u, area) ≡ o → HandedIn cipher m n (take (k - 0) area) x → Carried cipher m n o (Some x)
carried_in cipher m n o u area k x is h =
    let P : Outcome → Type 0 = λ y. Carried cipher m n y (Some x) in
    let Q : ℕ → Type 0 = λ i. HandedIn cipher m n (take i area) x in
    subst P is (x, refl, subst Q (sub-zero k) h)

-- the level by its value
pub shown_at : (cipher : Algorithm) (t : Side) (answer : List ℕ) (v : ℕ) (level : Level) (o : Outcome) → v ≡ level_value level → o ≡ terminal.authenticates cipher t answer v blank → o ≡ showing cipher t answer level
shown_at cipher t answer v level o is told = told ∙ ap (λ (x : ℕ). terminal.authenticates cipher t answer x blank) is

-- The card challenge has eight bytes.

sized_eight : (host card : List ℕ) → (eqb (length host) 8 && eqb (length card) 8) ≡ true → length card ≡ 8
sized_eight host card h = eqb-true (length card) 8 (and_parts (eqb (length host) 8) (eqb (length card) 8) h).1

pub small_drop : (n : ℕ) (xs : List ℕ) → ((i : ℕ) → get_or xs i 0 < 256) → (i : ℕ) → get_or (drop n xs) i 0 < 256
small_drop n xs small i = let h = small (n + i) in simp get_or-drop h

challenge_shown : (h : Held) (k : KeySet) (card crypt answer : List ℕ) → length h.diversification ≡ 10 → length card ≡ 8 → answer ≡ update_data h.diversification k.version card crypt ++ status_bytes Success → terminal.challenge_in answer ≡ card
challenge_shown h k card crypt answer ten eight is =
    ap terminal.challenge_in (is ∙ answer_parts h.diversification card crypt k.version) ∙ card_shown h.diversification card crypt k.version ten eight

bytes_shown : (answer card : List ℕ) → terminal.challenge_in answer ≡ card → length card ≡ 8 → ((i : ℕ) → get_or answer i 0 < 256) → Bytes 8 card
bytes_shown answer card shown eight small =
    let P : List ℕ → Type 0 = λ xs. (i : ℕ) → get_or xs i 0 < 256 in
    record { long = eight; small = subst P shown (small_take 8 (drop 12 answer) (small_drop 12 answer small)) }

-- The card draws, and answers INITIALIZE UPDATE.

begun_answered : (cipher : Algorithm) (m : Model) (t : Side) (k : KeySet) (host card : List ℕ) (rest : Challenges) (level : Level) → HasSet t k → Welcome m k card rest level → length host ≡ 8 → responded management_of own_rule cipher m (update_command t.version host) ≡ challenged cipher m.contents k host card rest
begun_answered cipher m t k host card rest level has w eight =
    ap (λ (v : ℕ). responded management_of own_rule cipher m (update_command v host)) has.version ∙ update_answered_is cipher m k k.version host card rest w.alive w.coming w.version w.set eight

-- both ends after INITIALIZE UPDATE
record Challenging (cipher : Algorithm) (m n : Model) (k : KeySet) (host drawn : List ℕ) (rest : Challenges) (said : List ℕ) : Type 0 where
  model : n ≡ (challenged cipher m.contents k host drawn rest).0
  answer : said ≡ reply_bytes (challenged cipher m.contents k host drawn rest).1
  shown : terminal.challenge_in said ≡ drawn
  card : Bytes 8 drawn

challenging : (cipher : Algorithm) (m n : Model) (t u : Side) (k : KeySet) (host card : List ℕ) (rest : Challenges) (level : Level) (x : Pair) → Fit m → Fit n → Bytes 8 host → ((i : ℕ) → get_or x.1 i 0 < 256) → Began cipher m n t u host x → HasSet t k → Welcome m k card rest level → Challenging cipher m n k host card rest x.1
challenging cipher m n t u k host card rest level x fit next ph small b has w =
    let h = b.handed in
    let out = begun_answered cipher m t k host card rest level has w ph.long in
    let is : n ≡ (challenged cipher m.contents k host card rest).0 = h.model ∙ ap (λ (o : Model × Reply). o.0) out in
    let said : x.1 ≡ reply_bytes (challenged cipher m.contents k host card rest).1 = h.answer ∙ ap (λ (o : Model × Reply). reply_bytes o.1) out in
    let sized : sized_channel (Waiting (handshake (keys_of cipher k host card) host card)) ≡ true = ap (λ (x : Model). sized_channel x.channel) (sym is) ∙ next.channel in
    let eight = sized_eight host card sized in
    let shown = challenge_shown m.contents k card _ x.1 (ten_bytes m.contents fit.contents) eight said in
    record { model = is; answer = said; shown = shown; card = bytes_shown x.1 card shown eight small }

same_pair : (x : Pair) (a b : List ℕ) → x.0 ≡ a → x.1 ≡ b → x ≡ (a, b)
same_pair x a b p q = ap (λ (y : List ℕ). (y, x.1)) p ∙ ap (λ (y : List ℕ). (a, y)) q

same_set : (t : Side) (p : Phase) (k : KeySet) → HasSet t k → HasSet (in_phase t p) k
same_set t p k has = record { version = has.version; enc = has.enc; mac = has.mac; kek = has.kek }

shown_right : (cipher : Algorithm) → Undoes cipher.enc cipher.dec → (m : Model) (t : Side) (k : KeySet) (host card : List ℕ) (rest : Challenges) (level : Level) → Fit m → HasSet t k → Bytes 16 k.keys.enc → Bytes 8 host → Bytes 8 card → showing cipher (in_phase t (phase.Begun host)) (reply_bytes (challenged cipher m.contents k host card rest).1) level ≡ sends (in_phase t (phase.Open (session_to cipher k host card level))) blank (authenticate_command (level_value level) (cryptogram_to cipher k host card) (code_to cipher k host card level))
shown_right cipher laws m t k host card rest level fit has ke ph pc =
    update_trusted cipher (in_phase t (phase.Begun host)) m.contents k host card rest blank level (same_set t (phase.Begun host) k has) refl (lit≤ tt) (ten_bytes m.contents fit.contents) laws ke ph pc

pub opens_channel : (cipher : Algorithm) → Undoes cipher.enc cipher.dec → (m mid n : Model) (t over u : Side) (k : KeySet) (host : List ℕ) (level : Level) (x : Pair) (noted : Option Pair) → Fit m → Fit mid → Bytes 16 k.keys.enc → Bytes 16 k.keys.mac → Bytes 8 host → ((i : ℕ) → get_or x.1 i 0 < 256) → Began cipher m mid t over host x → Carried cipher mid n (showing cipher over x.1 level) noted → u ≡ (showing cipher over x.1 level).1 → Opens cipher m n t u k host level (x, noted)
opens_channel cipher laws m mid n t over u k host level x noted fit next ke km ph small b told left card rest has w =
    let ws = challenging cipher m mid t over k host card rest level x fit next ph small b has w in
    let pc = ws.card in
    let cmd = authenticate_command (level_value level) (cryptogram_to cipher k host card) (code_to cipher k host card level) in
    let done = in_phase t (phase.Open (session_to cipher k host card level)) in
    let out : showing cipher over x.1 level ≡ sends done blank cmd =
    ap (λ (y : Side). showing cipher y x.1 level) b.terminal
    ∙ ap (λ (a : List ℕ). showing cipher (in_phase t (phase.Begun host)) a level) ws.answer
    ∙ shown_right cipher laws m t k host card rest level fit has ke ph pc
    in
    let P : Outcome → Type 0 = λ o. Carried cipher mid n o noted in
    let p = subst P out told in
    let Q : List ℕ → Type 0 = λ c. HandedIn cipher mid n c p.0 in
    let h = subst Q (take_at cmd (drop (length cmd) blank) (length cmd) refl) p.2 in
    let answered : responded management_of own_rule cipher mid cmd ≡ (model m.contents (Open (session_to cipher k host card level)) rest, only Success) =
    ap (λ (y : Model). responded management_of own_rule cipher y cmd) ws.model ∙ authenticate_answered cipher m.contents k host card rest level w.alive w.coded laws ke km ph pc
    in
    record {
      update = same_pair x _ _ (b.handed.command ∙ ap (λ (v : ℕ). update_command v host) has.version) ws.answer;
      authenticate = p.1 ∙ ap (λ (y : Pair). Some y) (same_pair p.0 cmd (status_bytes Success) h.command (h.answer ∙ ap (λ (o : Model × Reply). reply_bytes o.1) answered));
      shown = ap terminal.challenge_in (sym ws.answer) ∙ ws.shown;
      card = h.model ∙ ap (λ (o : Model × Reply). o.0) answered;
      terminal = left ∙ ap (λ (o : Outcome). o.1) out;
      keyed = opened_keyed cipher k host card level laws ke km ph pc;
    }

-- INITIALIZE UPDATE as the terminal writes it.

count_written : (o : Outcome) (k n : ℕ) (u : Side) (area : List ℕ) → (Ok k, u, area) ≡ o → o.0 ≡ Ok n → k ≡ n
count_written o k n u area is e =
    let count : Result ℕ Refusal → ℕ = λ r. elim r [ Ok j ↦ j | Err x ↦ 0 ] in
    ap count (ap (λ (o : Outcome). o.0) is ∙ e)

pub began : (cipher : Algorithm) (m n : Model) (t u : Side) (host before area : List ℕ) (k : ℕ) (x : Pair) → length host ≡ 8 → 261 ≤ length before → (Ok k, u, area) ≡ terminal.begins t host before → HandedIn cipher m n (take (k - 0) area) x → Began cipher m n t u host x
began cipher m n t u host before area k x eight room is h =
    let cmd = update_command t.version host in
    let out : (Ok k, u, area) ≡ sends (in_phase t (phase.Begun host)) before cmd = is ∙ begin_sent t host before eight room in
    let count : k ≡ length cmd = count_written (sends (in_phase t (phase.Begun host)) before cmd) k (length cmd) u area out refl in
    let wrote : area ≡ fronted before cmd = ap (λ (o : Outcome). o.2) out in
    let cut : take (k - 0) area ≡ cmd = ap (λ (i : ℕ). take i area) (sub-zero k) ∙ ap (take k) wrote ∙ take_at cmd (drop (length cmd) before) k (sym count) in
    let P : List ℕ → Type 0 = λ b. HandedIn cipher m n b x in
    record { terminal = ap (λ (o : Outcome). o.1) out; handed = subst P cut h }
