-- A terminal that has a card's key set always opens a channel, and inside it is answered by the rules.
use Rattle.std.proofs.Common.{◌≡◌, ℕ, zero, suc, ◌+◌, ◌<◌, ◌≤◌, Bool, true, false, cond, ◌&&◌, eqb, leb, List, [], ◌∷◌, ◌++◌, length, get_or, take, drop, Some, None, Ok, Err, Option, Result, sym, refl, ap, ◌∙◌, subst, true≢false, append_assoc, arith, length-append, length-drop}
use Rattle.std.specs.Option.{option_map}
use Rattle.std.specs.Str.{bytes_eq}
use Rattle.std.proofs.lemmas.Slice.Eq.{bytes_eq-Decides}
use Rattle.std.proofs.lemmas.List.{take_at, drop_at, get_or_at, get_or-drop, take_all, length-take-le}
use Rattle.std.proofs.lemmas.List.Sums.{fold_push}
use Rattle.std.proofs.lemmas.Bool.{and_from, and_parts, le-ltb, leb-true, eq-eqb, ne_eqb, eqb-true}
use Rattle.std.proofs.lemmas.Bool.Decides.{nat_tests}
use Rattle.answers.specs.declared.Refusal.TheVariants.{AreaTooShort, WrongCryptogram}
use Rattle.answers.specs.declared.StatusWord.{StatusWord}
use Rattle.answers.specs.declared.StatusWord.TheVariants.{Success, CryptogramRejected, WrongLength, SecurityNotSatisfied, ConditionsNotSatisfied, WrongParameters, NotFound, ClassUnknown}
use Rattle.answers.specs.Numbers.{status_bytes}
use Rattle.answers.specs.Replies.{Reply, only, reply_bytes}
use Rattle.apdu.specs.declared.Instruction.{Instruction}
use Rattle.apdu.specs.declared.Instruction.TheVariants.{Select, InitializeUpdate, ExternalAuthenticate, Manage}
use Rattle.apdu.specs.declared.Management.{Management}
use Rattle.apdu.specs.Apdu.{Apdu, apdu, headed, management_of, known_class, instruction_of, owns}
use Rattle.card.specs.Admitting.{admitted, is_terminated, in_own_class}
use Rattle.card.specs.declared.channel.Channel.{Channel}
use Rattle.card.specs.declared.channel.Channel.TheVariants.{Closed, Waiting, Open}
use Rattle.card.specs.declared.channel.Handshake.{Handshake}
use Rattle.card.specs.Channels.{handshake, granted_level, plain_allowed, entered, used_up, waiting}
use Rattle.card.specs.Inside.{kept_open, obeyed, managed}
use Rattle.card.specs.Models.{Model, model, with_channel}
use Rattle.card.specs.Opening.{keys_of, begun, begun_with, updated, authenticated, at_level, proved}
use Rattle.card.specs.Replies.{update_data}
use Rattle.card.specs.Selecting.{selected}
use Rattle.card.specs.Taking.{ruled, performed, taken, responded}
use Rattle.challenge.specs.Draws.{Challenges}
use Rattle.cipher.specs.Blocks.{Algorithm, Direction, Bytes, Undoes, zeros}
use Rattle.cipher.proofs.Chains.{bytes_mac, small_zeros}
use Rattle.cipher.proofs.Xors.{small_take, small_append}
use Rattle.contents.specs.declared.life.CardState.{CardState}
use Rattle.contents.specs.declared.records.KeySet.{KeySet}
use Rattle.contents.specs.Held.{Held}
use Rattle.contents.specs.Records.{chosen_set, set_of_version}
use Rattle.rules.specs.Own.{own_rule, is_success}
use Rattle.scp01.specs.declared.Level.{Level}
use Rattle.scp01.specs.declared.Level.TheVariants.{Plain, Mac, MacEncrypted}
use Rattle.scp01.specs.declared.Session.{Session}
use Rattle.cipher.specs.declared.Keys.{Keys}
use Rattle.scp01.specs.Inside.{unwrapped, takes_class}
use Rattle.scp01.specs.Levels.{level_of, level_value, session}
use Rattle.scp01.specs.Session.{session_keys, session_key, first_derivation, second_derivation, card_cryptogram, host_cryptogram, command_code, coded}
use Rattle.scp01.specs.Understanding.{Keyed, Bytewise, Understood, SameHeader}
use Rattle.scp01.specs.Wrapping.{longest_body, command_bytes, sent_at, chain_sent, wrappable, wrapped}
use Rattle.terminal.specs.declared.Phase.{Phase}
use Rattle.terminal.specs.declared.Phase.TheVariants as phase
use Rattle.terminal.specs.Sides as terminal
use Rattle.terminal.specs.Sides.{Side, Outcome, in_phase, sends, update_command, authenticate_command, is_update, update_in, opens}
use Rattle.runs.specs.Events.{Event, reset, answered, is9000}
use Rattle.runs.specs.Laws.{is_plain}
use Rattle.runs.specs.Runs as runs
use Rattle.runs.specs.Runs.{after, Gives, Ran, then}
use Rattle.runs.specs.Serving.{HasSet, Serves, served, rule_of, challenged, cryptogram_to, code_to, session_to, update_answered, challenges_taken, updates_answered, Sending}
use Rattle.runs.proofs.Statuses.{tells_success}
use Rattle.runs.proofs.Unwrapping.{read_how, if_some}

-- Commands with a data field and no Le.

abbrev bare : ℕ → ℕ → ℕ → ℕ → List ℕ → Apdu
bare cla ins p1 p2 field = record { class = cla; instruction = ins; p1 = p1; p2 = p2; field = field; le = None }

whole_field : (bs : List ℕ) (lc : ℕ) → get_or bs 4 0 ≡ lc → 0 < lc → length bs ≡ 5 + lc → apdu bs ≡ Some (headed bs (take lc (drop 5 bs)) None)
whole_field bs lc at some long = grind (arith, nat_tests)

read_field : (cla ins p1 p2 lc : ℕ) (field : List ℕ) → length field ≡ lc → 0 < lc → apdu (cla ∷ ins ∷ p1 ∷ p2 ∷ lc ∷ field) ≡ Some (bare cla ins p1 p2 field)
read_field cla ins p1 p2 lc field long some =
    let all : take lc field ≡ field = take_all lc field (omega arith) in
    whole_field (cla ∷ ins ∷ p1 ∷ p2 ∷ lc ∷ field) lc refl some (omega arith) ∙ ap (λ (f : List ℕ). Some (bare cla ins p1 p2 f)) all

-- INITIALIZE UPDATE with the version of a set on the card.

update_admitted : (state : CardState) (v : ℕ) (host : List ℕ) → is_terminated state ≡ false → admitted management_of state (bare 0x80 0x50 v 0x00 host) ≡ Ok InitializeUpdate
update_admitted state v host alive = rw alive

chosen_set_is : (v : ℕ) (ks : List KeySet) (k : KeySet) → 1 ≤ v → set_of_version v ks ≡ Some k → chosen_set v ks ≡ Some k
chosen_set_is v ks k some is = let no' = ne_eqb v 0 (λ e. omega arith) in rw no' is

update_drawn : (cipher : Algorithm) (m : Model) (k : KeySet) (host card : List ℕ) (rest : Challenges) (v : ℕ) → length host ≡ 8 → chosen_set v m.contents.sets ≡ Some k → m.coming ≡ card ∷ rest → updated cipher m (bare 0x80 0x50 v 0x00 host) ≡ challenged cipher m.contents k host card rest
update_drawn cipher m k host card rest v eight is coming =
    let long = eq-eqb (length host) 8 eight in
    rw (long, is, coming)

pub update_answered_is : (cipher : Algorithm) (m : Model) (k : KeySet) (v : ℕ) (host card : List ℕ) (rest : Challenges) → is_terminated m.contents.state ≡ false → m.coming ≡ card ∷ rest → 1 ≤ v → set_of_version v m.contents.sets ≡ Some k → length host ≡ 8 → responded management_of own_rule cipher m (update_command v host) ≡ challenged cipher m.contents k host card rest
update_answered_is cipher m k v host card rest alive coming some is eight =
    let c = bare 0x80 0x50 v 0x00 host in
    ap (taken management_of own_rule cipher m) (read_field 0x80 0x50 v 0x00 0x08 host eight (omega arith))
    ∙ ap (λ (r : Result (Instruction Management) StatusWord). performed own_rule cipher m r c) (update_admitted m.contents.state v host alive)
    ∙ update_drawn cipher (with_channel m Closed) k host card rest v eight (chosen_set_is v m.contents.sets k some is) coming

-- Blocks of the right length: session keys, cryptograms and codes.

bytes_append : (n m : ℕ) (xs ys : List ℕ) → Bytes n xs → Bytes m ys → Bytes (n + m) (xs ++ ys)
bytes_append n m xs ys p q = record {
  long = length-append xs ys ∙ omega (arith, p.long, q.long);
  small = small_append xs ys p.small q.small;
}

bytes_take : (n : ℕ) (xs : List ℕ) → n ≤ length xs → ((i : ℕ) → get_or xs i 0 < 256) → Bytes n (take n xs)
bytes_take n xs le small = record { long = length-take-le n xs le; small = small_take n xs small }

front_half : (xs : List ℕ) → Bytes 8 xs → Bytes 4 (take 4 xs)
front_half xs p = bytes_take 4 xs (omega (arith, p.long)) p.small

back_half : (xs : List ℕ) → Bytes 8 xs → Bytes 4 (take 4 (drop 4 xs))
back_half xs p = bytes_take 4 (drop 4 xs) (simp length-drop (omega (arith, p.long))) (λ i. let h = p.small (4 + i) in simp get_or-drop h)

bytes_session_key : (enc dec : Direction) → Undoes enc dec → (key host card : List ℕ) → Bytes 16 key → Bytes 8 host → Bytes 8 card → Bytes 16 (session_key enc key host card)
bytes_session_key enc dec laws key host card pk ph pc =
    let first = first_derivation host card in
    let second = second_derivation host card in
    let one : Bytes 8 first = bytes_append 4 4 (take 4 (drop 4 card)) (take 4 host) (back_half card pc) (front_half host ph) in
    let two : Bytes 8 second = bytes_append 4 4 (take 4 card) (take 4 (drop 4 host)) (front_half card pc) (back_half host ph) in
    bytes_append 8 8 (enc key first) (enc key second) (laws.enciphered key first pk one) (laws.enciphered key second pk two)

bytes_zeros : Bytes 8 zeros
bytes_zeros = record { long = refl; small = small_zeros 8 }

-- the cryptogram over two challenges, in either order
bytes_cryptogram : (enc dec : Direction) → Undoes enc dec → (key one two : List ℕ) → Bytes 16 key → Bytes 8 one → Bytes 8 two → Bytes 8 (card_cryptogram enc key one two)
bytes_cryptogram enc dec laws key one two pk p q =
    let all = bytes_append 8 8 one two p q in
    bytes_mac enc dec laws key zeros (one ++ two) pk bytes_zeros (record { long = refl; small = all.small })

small_cons : (x : ℕ) (xs : List ℕ) → x < 256 → ((i : ℕ) → get_or xs i 0 < 256) → (i : ℕ) → get_or (x ∷ xs) i 0 < 256
small_cons x xs h t zero = h
small_cons x xs h t (suc i) = t i

bytes_cons : {n : ℕ} {xs : List ℕ} (x : ℕ) → x < 256 → Bytes n xs → Bytes (suc n) (x ∷ xs)
bytes_cons {n} {xs} x h b = record { long = ap (λ (m : ℕ). suc m) b.long; small = small_cons x xs h b.small }

-- the code over a command with a body that there is room for
bytes_code : (enc dec : Direction) → Undoes enc dec → (key chain : List ℕ) (ins p1 p2 : ℕ) (body : List ℕ) → Bytes 16 key → Bytes 8 chain → ins < 256 → p1 < 256 → p2 < 256 → length body ≤ 247 → Bytes (length body) body → Bytes 8 (command_code enc key chain ins p1 p2 body)
bytes_code enc dec laws key chain ins p1 p2 body pk pc i p q few b =
    let class : 0x84 < 256 = omega arith in
    let lc : length body + 8 < 256 = omega arith in
    bytes_mac enc dec laws key chain (coded ins p1 p2 body) pk pc (bytes_cons 0x84 class (bytes_cons ins i (bytes_cons p1 p (bytes_cons p2 q (bytes_cons (length body + 8) lc b)))))

level_small : (level : Level) → level_value level < 256
level_small Plain = omega arith
level_small Mac = omega arith
level_small MacEncrypted = omega arith

-- the code over EXTERNAL AUTHENTICATE
bytes_first_code : (enc dec : Direction) → Undoes enc dec → (key cryptogram : List ℕ) (level : Level) → Bytes 16 key → Bytes 8 cryptogram → Bytes 8 (command_code enc key zeros 0x82 (level_value level) 0x00 cryptogram)
bytes_first_code enc dec laws key cryptogram level pk pc =
    let few : length cryptogram ≤ 247 = omega (arith, pc.long) in
    bytes_code enc dec laws key zeros 0x82 (level_value level) 0x00 cryptogram pk bytes_zeros (omega arith) (level_small level) (omega arith) few (record { long = refl; small = pc.small })

-- The terminal accepts the card's answer.

-- the answer's bytes, one part behind the other
pub answer_parts : (d card crypt : List ℕ) (v : ℕ) → update_data d v card crypt ++ status_bytes Success ≡ d ++ (v ∷ 0x01 ∷ (card ++ (crypt ++ (0x90 ∷ 0x00 ∷ []))))
answer_parts d card crypt v = simp append_assoc

parts_long : (d card crypt : List ℕ) (v : ℕ) → length d ≡ 10 → length card ≡ 8 → length crypt ≡ 8 → length (d ++ (v ∷ 0x01 ∷ (card ++ (crypt ++ (0x90 ∷ 0x00 ∷ []))))) ≡ 30
parts_long d card crypt v ld lc lk = simp length-append (omega arith)

-- the bytes before the status word
abbrev parts_before : List ℕ → List ℕ → List ℕ → ℕ → List ℕ
parts_before d card crypt v = d ++ (v ∷ 0x01 ∷ (card ++ crypt))

status_behind : (d card crypt : List ℕ) (v : ℕ) → d ++ (v ∷ 0x01 ∷ (card ++ (crypt ++ (0x90 ∷ 0x00 ∷ [])))) ≡ parts_before d card crypt v ++ (0x90 ∷ 0x00 ∷ [])
status_behind d card crypt v = simp append_assoc

update_is : (d card crypt : List ℕ) (v : ℕ) → length d ≡ 10 → length card ≡ 8 → length crypt ≡ 8 → is_update v (d ++ (v ∷ 0x01 ∷ (card ++ (crypt ++ (0x90 ∷ 0x00 ∷ []))))) ≡ true
update_is d card crypt v ld lc lk =
    let rest : List ℕ = card ++ (crypt ++ (0x90 ∷ 0x00 ∷ [])) in
    let all : List ℕ = d ++ (v ∷ 0x01 ∷ rest) in
    let before = parts_before d card crypt v in
    let lb : length before ≡ 28 = simp length-append (omega arith) in
    let again : all ≡ (d ++ (v ∷ [])) ++ (0x01 ∷ rest) = simp append_assoc in
    let last : all ≡ (before ++ (0x90 ∷ [])) ++ (0x00 ∷ []) = simp append_assoc in
    let long : eqb (length all) 30 ≡ true = eq-eqb _ _ (parts_long d card crypt v ld lc lk) in
    let sw1 : eqb (get_or all 28 0) 0x90 ≡ true = eq-eqb _ _ (ap (λ (a : List ℕ). get_or a 28 0) (status_behind d card crypt v) ∙ get_or_at before 0x90 (0x00 ∷ []) 0 28 lb) in
    let sw2 : eqb (get_or all 29 0) 0x00 ≡ true = eq-eqb _ _ (ap (λ (a : List ℕ). get_or a 29 0) last ∙ get_or_at (before ++ (0x90 ∷ [])) 0x00 [] 0 29 (simp length-append (omega arith))) in
    let version : eqb (get_or all 10 0) v ≡ true = eq-eqb _ _ (get_or_at d v (0x01 ∷ rest) 0 10 ld) in
    let scp : eqb (get_or all 11 0) 0x01 ≡ true = eq-eqb _ _ (ap (λ (a : List ℕ). get_or a 11 0) again ∙ get_or_at (d ++ (v ∷ [])) 0x01 rest 0 11 (simp length-append (omega arith))) in
    and_from _ _ long (and_from _ _ sw1 (and_from _ _ sw2 (and_from _ _ version scp)))

pub card_shown : (d card crypt : List ℕ) (v : ℕ) → length d ≡ 10 → length card ≡ 8 → terminal.challenge_in (d ++ (v ∷ 0x01 ∷ (card ++ (crypt ++ (0x90 ∷ 0x00 ∷ []))))) ≡ card
card_shown d card crypt v ld lc =
    let rest : List ℕ = crypt ++ (0x90 ∷ 0x00 ∷ []) in
    let head : List ℕ = d ++ (v ∷ 0x01 ∷ []) in
    let same : d ++ (v ∷ 0x01 ∷ (card ++ rest)) ≡ head ++ (card ++ rest) = sym (append_assoc d (v ∷ 0x01 ∷ []) (card ++ rest)) in
    ap terminal.challenge_in same ∙ ap (take 8) (drop_at head (card ++ rest) 12 (simp length-append (omega arith))) ∙ take_at card rest 8 lc

cryptogram_shown : (d card crypt : List ℕ) (v : ℕ) → length d ≡ 10 → length card ≡ 8 → length crypt ≡ 8 → terminal.cryptogram_in (d ++ (v ∷ 0x01 ∷ (card ++ (crypt ++ (0x90 ∷ 0x00 ∷ []))))) ≡ crypt
cryptogram_shown d card crypt v ld lc lk =
    let sw : List ℕ = 0x90 ∷ 0x00 ∷ [] in
    let head : List ℕ = d ++ (v ∷ 0x01 ∷ card) in
    let same : d ++ (v ∷ 0x01 ∷ (card ++ (crypt ++ sw))) ≡ head ++ (crypt ++ sw) = sym (append_assoc d (v ∷ 0x01 ∷ card) (crypt ++ sw)) in
    ap terminal.cryptogram_in same ∙ ap (take 8) (drop_at head (crypt ++ sw) 20 (simp length-append (omega arith))) ∙ take_at crypt sw 8 lk

pub update_accepted : (d card crypt : List ℕ) (v : ℕ) → length d ≡ 10 → length card ≡ 8 → length crypt ≡ 8 → update_in v (update_data d v card crypt ++ status_bytes Success) ≡ Some (record { challenge = card; cryptogram = crypt })
update_accepted d card crypt v ld lc lk =
    let yes' = update_is d card crypt v ld lc lk in
    let shown = card_shown d card crypt v ld lc in
    let proof = cryptogram_shown d card crypt v ld lc lk in
    ap (update_in v) (answer_parts d card crypt v) ∙ rw (yes', shown, proof)

-- The lengths of what both ends come to.

pub card_cryptogram_long : (cipher : Algorithm) (k : KeySet) (host card : List ℕ) → Undoes cipher.enc cipher.dec → Bytes 16 k.keys.enc → Bytes 8 host → Bytes 8 card → length (card_cryptogram cipher.enc (keys_of cipher k host card).enc host card) ≡ 8
card_cryptogram_long cipher k host card laws ke ph pc =
    let key = bytes_session_key cipher.enc cipher.dec laws k.keys.enc host card ke ph pc in
    (bytes_cryptogram cipher.enc cipher.dec laws (keys_of cipher k host card).enc host card key ph pc).long

bytes_to : (cipher : Algorithm) (k : KeySet) (host card : List ℕ) → Undoes cipher.enc cipher.dec → Bytes 16 k.keys.enc → Bytes 8 host → Bytes 8 card → Bytes 8 (cryptogram_to cipher k host card)
bytes_to cipher k host card laws ke ph pc =
    let key = bytes_session_key cipher.enc cipher.dec laws k.keys.enc host card ke ph pc in
    bytes_cryptogram cipher.enc cipher.dec laws (keys_of cipher k host card).enc card host key pc ph

-- the session of a channel just opened has session keys of sixteen bytes and a chaining value of eight
pub opened_keyed : (cipher : Algorithm) (k : KeySet) (host card : List ℕ) (level : Level) → Undoes cipher.enc cipher.dec → Bytes 16 k.keys.enc → Bytes 16 k.keys.mac → Bytes 8 host → Bytes 8 card → Keyed (session_to cipher k host card level)
opened_keyed cipher k host card level laws ke km ph pc =
    let mac = bytes_session_key cipher.enc cipher.dec laws k.keys.mac host card km ph pc in
    record {
      enc = bytes_session_key cipher.enc cipher.dec laws k.keys.enc host card ke ph pc;
      mac = mac;
      chain = bytes_first_code cipher.enc cipher.dec laws (keys_of cipher k host card).mac (cryptogram_to cipher k host card) level mac (bytes_to cipher k host card laws ke ph pc);
    }

-- A terminal with the set opens its side of the channel.

pub begin_sent : (t : Side) (host area : List ℕ) → length host ≡ 8 → 261 ≤ length area → terminal.begins t host area ≡ sends (in_phase t (phase.Begun host)) area (update_command t.version host)
begin_sent t host area eight room =
    let enough = le-ltb (length area) 261 room in
    let long = eq-eqb (length host) 8 eight in
    rw (enough, long)

level_read : (level : Level) → level_of (level_value level) ≡ Some level
level_read Plain = refl
level_read Mac = refl
level_read MacEncrypted = refl

same : (xs : List ℕ) → bytes_eq xs xs ≡ true
same xs = (bytes_eq-Decides xs xs).1 refl

-- the terminal's session keys are the card's
same_keys : (cipher : Algorithm) (t : Side) (k : KeySet) (host card : List ℕ) → HasSet t k → session_keys cipher.enc t.keys.enc t.keys.mac t.keys.kek host card ≡ keys_of cipher k host card
same_keys cipher t k host card has =
    let e = has.enc in
    let m = has.mac in
    let g = has.kek in
    cc

checks_shown : (cipher : Algorithm) (t : Side) (k : KeySet) (host card area : List ℕ) (level : Level) → HasSet t k → terminal.checks cipher t host (Some (record { challenge = card; cryptogram = card_cryptogram cipher.enc (keys_of cipher k host card).enc host card })) level area ≡ opens cipher t (keys_of cipher k host card) host card level area
checks_shown cipher t k host card area level has =
    let crypt = card_cryptogram cipher.enc (keys_of cipher k host card).enc host card in
    let right = same crypt in
    let after : Keys → Outcome = λ j. cond (bytes_eq crypt (card_cryptogram cipher.enc j.enc host card)) (opens cipher t j host card level area) (terminal.refused_as (in_phase t phase.Made) area WrongCryptogram) in
    ap after (same_keys cipher t k host card has) ∙ rw right

-- the terminal trusts the card's answer to its INITIALIZE UPDATE, and sends EXTERNAL AUTHENTICATE
pub update_trusted : (cipher : Algorithm) (t : Side) (h : Held) (k : KeySet) (host card : List ℕ) (rest : Challenges) (area : List ℕ) (level : Level) → HasSet t k → t.phase ≡ phase.Begun host → 261 ≤ length area → length h.diversification ≡ 10 → Undoes cipher.enc cipher.dec → Bytes 16 k.keys.enc → Bytes 8 host → Bytes 8 card → terminal.authenticates cipher t (reply_bytes (challenged cipher h k host card rest).1) (level_value level) area ≡ sends (in_phase t (phase.Open (session_to cipher k host card level))) area (authenticate_command (level_value level) (cryptogram_to cipher k host card) (code_to cipher k host card level))
update_trusted cipher t h k host card rest area level has begun room ten laws ke ph pc =
    let answer = reply_bytes (challenged cipher h k host card rest).1 in
    let crypt = card_cryptogram cipher.enc (keys_of cipher k host card).enc host card in
    let enough = le-ltb (length area) 261 room in
    let long = card_cryptogram_long cipher k host card laws ke ph pc in
    let accepted = update_accepted h.diversification card crypt k.version ten pc.long long in
    ap (λ (b : Bool). cond b (terminal.refused_as t area AreaTooShort) (terminal.in_turn cipher t t.phase answer (level_value level) area)) enough
    ∙ ap (λ (p : Phase). terminal.in_turn cipher t p answer (level_value level) area) begun
    ∙ ap (λ (o : Option Level). terminal.at_level cipher t host answer o area) (level_read level)
    ∙ ap (λ (v : ℕ). terminal.checks cipher t host (update_in v answer) level area) has.version
    ∙ ap (λ o. terminal.checks cipher t host o level area) accepted
    ∙ checks_shown cipher t k host card area level has

-- EXTERNAL AUTHENTICATE on the card that waits.

authenticate_admitted : (state : CardState) (p1 : ℕ) (field : List ℕ) → is_terminated state ≡ false → admitted management_of state (bare 0x84 0x82 p1 0x00 field) ≡ Ok ExternalAuthenticate
authenticate_admitted state p1 field alive = rw alive

-- levels with codes are granted in every state
level_granted : (state : CardState) (level : Level) → is_plain level ≡ false → granted_level state (level_value level) ≡ Some level
level_granted state Plain coded = absurd (true≢false coded)
level_granted state Mac coded = refl
level_granted state MacEncrypted coded = refl

-- the right cryptogram and the right code behind it
proved_right : (cipher : Algorithm) (m : Model) (w : Handshake) (level : Level) (p1 : ℕ) (crypt code : List ℕ) → length crypt ≡ 8 → crypt ≡ host_cryptogram cipher.enc w.keys.enc w.challenges.host w.challenges.card → code ≡ command_code cipher.enc w.keys.mac zeros 0x82 p1 0x00 crypt → proved cipher m w level p1 (crypt ++ code) ≡ (with_channel m (Open (session level w.keys code)), only Success)
proved_right cipher m w level p1 crypt code eight is made =
    let front = take_at crypt code 8 eight in
    let back = drop_at crypt code 8 eight in
    let shown : bytes_eq crypt (host_cryptogram cipher.enc w.keys.enc w.challenges.host w.challenges.card) ≡ true = ap (bytes_eq crypt) (sym is) ∙ same crypt in
    let right = same code in
    rw (front, back, shown, ← made, right)

authenticate_proved : (cipher : Algorithm) (m : Model) (w : Handshake) (level : Level) (crypt code : List ℕ) → is_plain level ≡ false → length crypt ≡ 8 → length code ≡ 8 → crypt ≡ host_cryptogram cipher.enc w.keys.enc w.challenges.host w.challenges.card → code ≡ command_code cipher.enc w.keys.mac zeros 0x82 (level_value level) 0x00 crypt → authenticated cipher m (Some w) (bare 0x84 0x82 (level_value level) 0x00 (crypt ++ code)) ≡ (with_channel m (Open (session level w.keys code)), only Success)
authenticate_proved cipher m w level crypt code coded eight again is made =
    let c = bare 0x84 0x82 (level_value level) 0x00 (crypt ++ code) in
    let long : length (crypt ++ code) ≡ 16 = simp length-append (omega arith) in
    let sixteen = eq-eqb (length (crypt ++ code)) 16 long in
    ap (λ (o : Option Level). at_level cipher m w o c) (level_granted m.contents.state level coded)
    ∙ ap (λ (b : Bool). cond b (proved cipher m w level (level_value level) (crypt ++ code)) (m, only WrongLength)) sixteen
    ∙ proved_right cipher m w level (level_value level) crypt code eight is made

pub authenticate_answered : (cipher : Algorithm) (h : Held) (k : KeySet) (host card : List ℕ) (rest : Challenges) (level : Level) → is_terminated h.state ≡ false → is_plain level ≡ false → Undoes cipher.enc cipher.dec → Bytes 16 k.keys.enc → Bytes 16 k.keys.mac → Bytes 8 host → Bytes 8 card → responded management_of own_rule cipher (model h (Waiting (handshake (keys_of cipher k host card) host card)) rest) (authenticate_command (level_value level) (cryptogram_to cipher k host card) (code_to cipher k host card level)) ≡ (model h (Open (session_to cipher k host card level)) rest, only Success)
authenticate_answered cipher h k host card rest level alive coded laws ke km ph pc =
    let w = handshake (keys_of cipher k host card) host card in
    let m = model h (Waiting w) rest in
    let crypt = cryptogram_to cipher k host card in
    let code = code_to cipher k host card level in
    let eight = (bytes_to cipher k host card laws ke ph pc).long in
    let again = (opened_keyed cipher k host card level laws ke km ph pc).chain.long in
    let long : length (crypt ++ code) ≡ 16 = length-append crypt code ∙ omega (arith, eight, again) in
    let c = bare 0x84 0x82 (level_value level) 0x00 (crypt ++ code) in
    ap (taken management_of own_rule cipher m) (read_field 0x84 0x82 (level_value level) 0x00 0x10 (crypt ++ code) long (omega arith))
    ∙ ap (λ (r : Result (Instruction Management) StatusWord). performed own_rule cipher m r c) (authenticate_admitted h.state (level_value level) (crypt ++ code) alive)
    ∙ authenticate_proved cipher (model h Closed rest) w level crypt code coded eight again refl refl

-- A wrapped command on the card whose channel is open.

-- levels with codes take class 84, whatever the card allows
coded_class : (plain : Bool) (class : ℕ) (level : Level) → is_plain level ≡ false → takes_class plain class level ≡ true → class ≡ 0x84
coded_class plain class Plain coded takes = absurd (true≢false coded)
coded_class plain class Mac coded takes = eqb-true class 0x84 takes
coded_class plain class MacEncrypted coded takes = eqb-true class 0x84 takes

unwrapped_either : (cipher : Algorithm) (s : Session) (plain other : Bool) (c : Apdu) (level : Level) → is_plain level ≡ false → unwrapped cipher s plain c level ≡ unwrapped cipher s other c level
unwrapped_either cipher s plain other c Plain coded = absurd (true≢false coded)
unwrapped_either cipher s plain other c Mac coded = refl
unwrapped_either cipher s plain other c MacEncrypted coded = refl

-- a channel command is none of the other instructions
not_other : (ins n : ℕ) (i : Management) → management_of ins ≡ Some i → management_of n ≡ None → eqb ins n ≡ false
not_other ins n i is none = ne_eqb ins n (λ e. let p : None ≡ Some i = sym none ∙ ap management_of (sym e) ∙ is in let z : ◌≡◌ {A = ℕ} 0 1 = cc in omega arith)

management_instruction : (ins : ℕ) (i : Management) → management_of ins ≡ Some i → instruction_of management_of ins ≡ Some (Manage i)
management_instruction ins i is =
    let select = not_other ins 0xA4 i is refl in
    let update = not_other ins 0x50 i is refl in
    let authenticate = not_other ins 0x82 i is refl in
    rw (select, update, authenticate, is)

management_admitted : (state : CardState) (c : Apdu) (i : Management) → is_terminated state ≡ false → c.class ≡ 0x84 → management_of c.instruction ≡ Some i → admitted management_of state c ≡ Ok (Manage i)
management_admitted state c i alive class is =
    let ins = management_instruction c.instruction i is in
    rw (alive, class, ins)

read_obeyed : (cipher : Algorithm) (m : Model) (s : Session) (i : Management) (c sent : Apdu) (chain : List ℕ) → SameHeader sent c → obeyed own_rule cipher m s i sent (Some (c.field, chain)) ≡ (model (rule_of cipher s.keys.kek m.contents i c).0 (kept_open (rule_of cipher s.keys.kek m.contents i c).0.state (session s.level s.keys chain)) m.coming, (rule_of cipher s.keys.kek m.contents i c).1)
read_obeyed cipher m s i c sent chain h =
    let out : ℕ → ℕ → Held × Reply = λ p q. own_rule cipher s.keys.kek m.contents i p q c.field in
    let all : ℕ → ℕ → Model × Reply = λ p q. (model (out p q).0 (kept_open (out p q).0.state (session s.level s.keys chain)) m.coming, (out p q).1) in
    ap (λ (p : ℕ). all p sent.p2) h.p1 ∙ ap (all c.p1) h.p2

pub wrapped_answered : (cipher : Algorithm) (m : Model) (s : Session) (c : Apdu) (i : Management) (bytes chain : List ℕ) → m.channel ≡ Open s → is_terminated m.contents.state ≡ false → is_plain s.level ≡ false → management_of c.instruction ≡ Some i → Understood cipher s c bytes chain → responded management_of own_rule cipher m bytes ≡ (model (rule_of cipher s.keys.kek m.contents i c).0 (kept_open (rule_of cipher s.keys.kek m.contents i c).0.state (session s.level s.keys chain)) m.coming, (rule_of cipher s.keys.kek m.contents i c).1)
wrapped_answered cipher m s c i bytes chain channel alive coded is u =
    let sent = u.sent in
    let how = read_how cipher s true sent (c.field, chain) u.body in
    let class = coded_class true sent.class s.level coded how.class in
    let plain = plain_allowed m.contents.state in
    let read : unwrapped cipher s plain sent s.level ≡ Some (c.field, chain) = unwrapped_either cipher s plain true sent s.level coded ∙ u.body in
    ap (taken management_of own_rule cipher m) u.read
    ∙ ap (λ (r : Result (Instruction Management) StatusWord). performed own_rule cipher m r sent) (management_admitted m.contents.state sent i alive class (ap management_of u.header.instruction ∙ is))
    ∙ ap (λ (x : Channel). managed own_rule cipher m x i sent) channel
    ∙ ap (obeyed own_rule cipher m s i sent) read
    ∙ read_obeyed cipher m s i c sent chain u.header

-- one command more was sent and answered by its rule
pub wrapped_serves : (cipher : Algorithm) (m : Model) (s : Session) (c : Apdu) (i : Management) (h : Held) (es : List Sending) (command bytes chain : List ℕ) → m.channel ≡ Open s → is_terminated m.contents.state ≡ false → is_plain s.level ≡ false → apdu command ≡ Some c → management_of c.instruction ≡ Some i → Understood cipher s c bytes chain → Serves cipher s.keys.kek h es m.contents → Serves cipher s.keys.kek h (es ++ (command, bytes, reply_bytes (responded management_of own_rule cipher m bytes).1) ∷ []) (responded management_of own_rule cipher m bytes).0.contents
wrapped_serves cipher m s c i h es command bytes chain channel alive coded read is u before =
    let P : Model × Reply → Type 0 = λ out. Serves cipher s.keys.kek h (es ++ (command, bytes, reply_bytes out.1) ∷ []) out.0.contents in
    subst P (sym (wrapped_answered cipher m s c i bytes chain channel alive coded is u)) (served command bytes (reply_bytes (rule_of cipher s.keys.kek m.contents i c).1) c i before read is alive refl)

-- The terminal's side of a wrapped command.

chain_bytes : (cipher : Algorithm) → Undoes cipher.enc cipher.dec → (s : Session) (c : Apdu) (level : Level) → Keyed s → Bytewise c → length c.field ≤ longest_body level → Bytes 8 (chain_sent cipher s c level)
chain_bytes cipher laws s c Plain k b few = k.chain
chain_bytes cipher laws s c Mac k b few =
    bytes_code cipher.enc cipher.dec laws s.keys.mac s.chain c.instruction c.p1 c.p2 c.field k.mac k.chain b.instruction b.p1 b.p2 few b.field
chain_bytes cipher laws s c MacEncrypted k b few =
    bytes_code cipher.enc cipher.dec laws s.keys.mac s.chain c.instruction c.p1 c.p2 c.field k.mac k.chain b.instruction b.p1 b.p2 (omega arith) b.field

-- the session behind a wrapped command has keys and a chaining value of the same lengths
pub wrapped_keyed : (cipher : Algorithm) → Undoes cipher.enc cipher.dec → (s : Session) (c : Apdu) (w : List ℕ × List ℕ) → Keyed s → Bytewise c → wrapped cipher s c ≡ Some w → Keyed (session s.level s.keys w.1)
wrapped_keyed cipher laws s c w k b e =
    let p = if_some (wrappable c s.level) (Some (command_bytes (sent_at cipher s c s.level), chain_sent cipher s c s.level)) w e in
    let parts = and_parts (eqb c.class 0x80) (leb (length c.field) (longest_body s.level)) p.0 in
    let few = leb-true (length c.field) (longest_body s.level) parts.1 in
    let made : w ≡ (command_bytes (sent_at cipher s c s.level), chain_sent cipher s c s.level) = let q = p.1 in cc in
    let P : List ℕ × List ℕ → Type 0 = λ v. Bytes 8 v.1 in
    record { enc = k.enc; mac = k.mac; chain = subst P (sym made) (chain_bytes cipher laws s c s.level k b few) }

-- How many challenges a run takes.

abbrev is_updating : Instruction Management → Bool
is_updating Select = false
is_updating InitializeUpdate = true
is_updating ExternalAuthenticate = false
is_updating (Manage i) = false

updating_manage : (i : Instruction Management) (o : Option Management) → option_map Manage o ≡ Some i → is_updating i ≡ false
updating_manage i None e = let z : ◌≡◌ {A = ℕ} 0 1 = cc in absurd (omega arith)
updating_manage i (Some j) e = let same : i ≡ Manage j = cc in ap is_updating same

-- only 50 is INITIALIZE UPDATE
updating : (ins : ℕ) (i : Instruction Management) → instruction_of management_of ins ≡ Some i → eqb ins 0x50 ≡ is_updating i
updating ins i =
    let other : Option (Instruction Management) = option_map Manage (management_of ins) in
    let third : Bool → Option (Instruction Management) = λ b. cond b (Some ExternalAuthenticate) other in
    let second : Bool → Option (Instruction Management) = λ b. cond b (Some InitializeUpdate) (third (eqb ins 0x82)) in
    let first : Bool → Option (Instruction Management) = λ b. cond b (Some Select) (second (eqb ins 0x50)) in
    let selects : eqb ins 0xA4 ≡ true → Some Select ≡ Some i → eqb ins 0x50 ≡ is_updating i = λ h e.
    let is = eqb-true ins 0xA4 h in
    let same : Select ≡ i = cc in
    ap (λ (n : ℕ). eqb n 0x50) is ∙ ap is_updating same
    in
    elim (eqb ins 0xA4) as (λ a. eqb ins 0xA4 ≡ a → first a ≡ Some i → eqb ins 0x50 ≡ is_updating i) [
      | true ↦ selects
      | false ↦ λ h. elim (eqb ins 0x50) as (λ b. second b ≡ Some i → b ≡ is_updating i) [
        | true ↦ λ e. let same : InitializeUpdate ≡ i = cc in ap is_updating same
        | false ↦ elim (eqb ins 0x82) as (λ b. third b ≡ Some i → false ≡ is_updating i) [
          | true ↦ λ e. let same : ExternalAuthenticate ≡ i = cc in ap is_updating same
          | false ↦ λ e. sym (updating_manage i (management_of ins) e)
        ]
      ]
    ] refl

-- what is admitted management_of is the instruction in its own class, and what is not is not answered 9000
abbrev Admits : Apdu → Result (Instruction Management) StatusWord → Type 0
Admits c (Err status) = is_success status ≡ false
Admits c (Ok i) = (instruction_of management_of c.instruction ≡ Some i) × (owns i c.class ≡ true)

own_class_admits : (c : Apdu) (o : Option (Instruction Management)) → instruction_of management_of c.instruction ≡ o → Admits c (in_own_class c.class o)
own_class_admits c None is = refl
own_class_admits c (Some i) is =
    elim (owns i c.class) as (λ b. owns i c.class ≡ b → Admits c (cond b (Ok i) (Err ClassUnknown))) [
      | true ↦ λ h. (is, h)
      | false ↦ λ h. refl
    ] refl

admits : (state : CardState) (c : Apdu) → Admits c (admitted management_of state c)
admits state c =
    let own = in_own_class c.class (instruction_of management_of c.instruction) in
    let known : Bool → Result (Instruction Management) StatusWord = λ b. cond b own (Err ClassUnknown) in
    elim (is_terminated state) as (λ b. Admits c (cond b (Err ConditionsNotSatisfied) (known (known_class c.class)))) [
      | true ↦ refl
      | false ↦ elim (known_class c.class) as (λ b. Admits c (known b)) [
        | true ↦ own_class_admits c (instruction_of management_of c.instruction) refl
        | false ↦ refl
      ]
    ]

-- an outcome that left as many challenges as it ought to
abbrev Counts : ℕ → Bool → Model × Reply → Type 0
Counts n update out = n ≡ cond (update && is_success out.1.status) 1 0 + length out.0.coming

not_both : (b : Bool) → (b && false) ≡ false
not_both true = refl
not_both false = refl

-- a refusal that draws nothing
refusal_counts : (update : Bool) (m : Model) (r : Reply) → is_success r.status ≡ false → Counts (length m.coming) update (m, r)
refusal_counts update m r no' =
    let none : (update && is_success r.status) ≡ false = ap (λ (b : Bool). update && b) no' ∙ not_both update in
    rw none (omega arith)

drawn_counts : (cipher : Algorithm) (h : Held) (k : KeySet) (host : List ℕ) (coming : Challenges) → Counts (length coming) true (begun_with cipher (model h Closed coming) k host coming)
drawn_counts cipher h k host [] = refl
drawn_counts cipher h k host (card ∷ rest) = omega arith

begun_counts : (cipher : Algorithm) (h : Held) (o : Option KeySet) (host : List ℕ) (coming : Challenges) → Counts (length coming) true (begun cipher (model h Closed coming) o host)
begun_counts cipher h None host coming = refusal_counts true (model h Closed coming) (only NotFound) refl
begun_counts cipher h (Some k) host coming = drawn_counts cipher h k host coming

update_counts : (cipher : Algorithm) (h : Held) (coming : Challenges) (c : Apdu) → Counts (length coming) true (updated cipher (model h Closed coming) c)
update_counts cipher h coming c =
    let m = model h Closed coming in
    let long : Bool → Model × Reply = λ b. cond b (begun cipher m (chosen_set c.p1 h.sets) c.field) (m, only WrongLength) in
    elim (eqb c.p2 0x00) as (λ b. Counts (length coming) true (cond b (long (eqb (length c.field) 8)) (m, only WrongParameters))) [
      | true ↦ elim (eqb (length c.field) 8) as (λ b. Counts (length coming) true (long b)) [
        | true ↦ begun_counts cipher h (chosen_set c.p1 h.sets) c.field coming
        | false ↦ refusal_counts true m (only WrongLength) refl
      ]
      | false ↦ refusal_counts true m (only WrongParameters) refl
    ]

-- EXTERNAL AUTHENTICATE and the channel commands draw nothing
proved_keeps : (cipher : Algorithm) (m : Model) (w : Handshake) (level : Level) (p1 : ℕ) (field : List ℕ) → (proved cipher m w level p1 field).0.coming ≡ m.coming
proved_keeps cipher m w level p1 field =
    let crypt = take 8 field in
    let right = command_code cipher.enc w.keys.mac zeros 0x82 p1 0x00 crypt in
    let inner : Bool → Model × Reply = λ b. cond b (with_channel m (Open (session level w.keys right)), only Success) (m, only SecurityNotSatisfied) in
    elim (bytes_eq crypt (host_cryptogram cipher.enc w.keys.enc w.challenges.host w.challenges.card)) as (λ b. (cond b (inner (bytes_eq (drop 8 field) right)) (m, only CryptogramRejected)).0.coming ≡ m.coming) [
      | true ↦ elim (bytes_eq (drop 8 field) right) as (λ b. (inner b).0.coming ≡ m.coming) [ true ↦ refl | false ↦ refl ]
      | false ↦ refl
    ]

level_keeps : (cipher : Algorithm) (m : Model) (w : Handshake) (o : Option Level) (c : Apdu) → (at_level cipher m w o c).0.coming ≡ m.coming
level_keeps cipher m w None c = refl
level_keeps cipher m w (Some level) c =
    elim (eqb (length c.field) 16) as (λ b. (cond b (proved cipher m w level c.p1 c.field) (m, only WrongLength)).0.coming ≡ m.coming) [
      | true ↦ proved_keeps cipher m w level c.p1 c.field
      | false ↦ refl
    ]

authenticate_keeps : (cipher : Algorithm) (m : Model) (o : Option Handshake) (c : Apdu) → (authenticated cipher m o c).0.coming ≡ m.coming
authenticate_keeps cipher m None c = refl
authenticate_keeps cipher m (Some w) c =
    elim (eqb c.p2 0x00) as (λ b. (cond b (at_level cipher m w (granted_level m.contents.state c.p1) c) (m, only WrongParameters)).0.coming ≡ m.coming) [
      | true ↦ level_keeps cipher m w (granted_level m.contents.state c.p1) c
      | false ↦ refl
    ]

obeyed_keeps : (cipher : Algorithm) (m : Model) (s : Session) (i : Management) (c : Apdu) (o : Option (List ℕ × List ℕ)) → (obeyed own_rule cipher m s i c o).0.coming ≡ m.coming
obeyed_keeps cipher m s i c None = refl
obeyed_keeps cipher m s i c (Some read) = refl

managed_keeps : (cipher : Algorithm) (m : Model) (x : Channel) (i : Management) (c : Apdu) → (managed own_rule cipher m x i c).0.coming ≡ m.coming
managed_keeps cipher m Closed i c = refl
managed_keeps cipher m (Waiting w) i c = refl
managed_keeps cipher m (Open s) i c = obeyed_keeps cipher m s i c (unwrapped cipher s (plain_allowed m.contents.state) c s.level)

kept_counts : (coming : Challenges) (out : Model × Reply) → out.0.coming ≡ coming → Counts (length coming) false out
kept_counts coming out same = let e = ap (λ (x : Challenges). length x) same in omega arith

rule_counts : (cipher : Algorithm) (h : Held) (x : Channel) (coming : Challenges) (i : Instruction Management) (c : Apdu) → Counts (length coming) (is_updating i) (ruled own_rule cipher (model h (entered x i) coming) (used_up x i) i c)
rule_counts cipher h x coming Select c = kept_counts coming (model h Closed coming, selected h c) refl
rule_counts cipher h x coming InitializeUpdate c = update_counts cipher h coming c
rule_counts cipher h x coming ExternalAuthenticate c =
    kept_counts coming (authenticated cipher (model h Closed coming) (waiting x) c) (authenticate_keeps cipher (model h Closed coming) (waiting x) c)
rule_counts cipher h x coming (Manage i) c =
    kept_counts coming (managed own_rule cipher (model h x coming) x i c) (managed_keeps cipher (model h x coming) x i c)

-- the instruction is INITIALIZE UPDATE and the class its own, just where it is admitted management_of as such
update_told : (c : Apdu) (i : Instruction Management) → eqb c.instruction 0x50 ≡ is_updating i → owns i c.class ≡ true → (eqb c.instruction 0x50 && eqb c.class 0x80) ≡ is_updating i
update_told c Select is own = rw is
update_told c InitializeUpdate is own = rw (is, own)
update_told c ExternalAuthenticate is own = rw is
update_told c (Manage i) is own = rw is

performed_counts : (cipher : Algorithm) (m : Model) (r : Result (Instruction Management) StatusWord) (c : Apdu) → Admits c r → Counts (length m.coming) (eqb c.instruction 0x50 && eqb c.class 0x80) (performed own_rule cipher m r c)
performed_counts cipher m (Err status) c a = refusal_counts (eqb c.instruction 0x50 && eqb c.class 0x80) m (only status) a
performed_counts cipher m (Ok i) c a =
    let out = performed own_rule cipher m (Ok i) c in
    let P : Bool → Type 0 = λ b. Counts (length m.coming) b out in
    subst P (sym (update_told c i (updating c.instruction i a.0) a.1)) (rule_counts cipher m.contents m.channel m.coming i c)

and_regrouped : (a b c : Bool) → (a && (b && c)) ≡ ((a && b) && c)
and_regrouped true b c = refl
and_regrouped false b c = refl

taken_counts : (cipher : Algorithm) (m : Model) (o : Option Apdu) → length m.coming ≡ update_answered o (reply_bytes (taken management_of own_rule cipher m o).1) + length (taken management_of own_rule cipher m o).0.coming
taken_counts cipher m None = omega arith
taken_counts cipher m (Some c) =
    let out = taken management_of own_rule cipher m (Some c) in
    let a = eqb c.instruction 0x50 in
    let b = eqb c.class 0x80 in
    let P : Bool → Type 0 = λ x. length m.coming ≡ cond x 1 0 + length out.0.coming in
    let told : (a && (b && is9000 (reply_bytes out.1))) ≡ ((a && b) && is_success out.1.status) =
    ap (λ (x : Bool). a && (b && x)) (tells_success out.1) ∙ and_regrouped a b (is_success out.1.status)
    in
    subst P (sym told) (performed_counts cipher m (admitted management_of m.contents.state c) c (admits m.contents.state c))

event_counts : (cipher : Algorithm) (m : Model) (e : Event) → Gives cipher m e → length m.coming ≡ challenges_taken e + length (after cipher m e).coming
event_counts cipher m reset g = omega arith
event_counts cipher m (answered cmd answer) g =
    let P : List ℕ → Type 0 = λ a. length m.coming ≡ update_answered (apdu cmd) a + length (responded management_of own_rule cipher m cmd).0.coming in
    subst P (sym g) (taken_counts cipher m (apdu cmd))

-- a run takes one challenge for each INITIALIZE UPDATE answered 9000, and no other
pub drawn_count : {cipher : Algorithm} {m n : Model} {es : List Event} → Ran cipher m es n → length m.coming ≡ updates_answered es + length n.coming
drawn_count (runs.begun fit) = omega arith
drawn_count {cipher} {m} (then {es} {n} e r g fit) =
    let more = fold_push (λ (k : ℕ) (e : Event). k + challenges_taken e) 0 es e in
    let before = drawn_count r in
    let here = event_counts cipher n e g in
    rw more (omega arith)
