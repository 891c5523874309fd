-- Each bare command that a terminal sends inside a channel is answered by its rule.
use Rattle.std.proofs.Common.{◌≡◌, ℕ, ◌+◌, ◌-◌, ◌<◌, Bool, true, false, cond, ◌&&◌, eqb, ltb, List, [], ◌∷◌, ◌++◌, map, length, get_or, take, drop, is_some, Some, None, Ok, Err, Option, sym, refl, ap, ◌∙◌, subst, true≢false, arith, Bor}
use native.Mathlib.Nat.{sub-zero}
use Rattle.std.specs.Option.{option_map}
use Rattle.std.proofs.lemmas.List.{take_at, map_push, map_more}
use Rattle.answers.specs.declared.Refusal.{Refusal}
use Rattle.answers.specs.declared.Refusal.TheVariants.{IllArgument}
use Rattle.answers.specs.declared.StatusWord.TheVariants.{ConditionsNotSatisfied, ClassUnknown}
use Rattle.answers.specs.Areas.{fronted}
use Rattle.answers.specs.Replies.{Reply, only, reply_bytes}
use Rattle.apdu.specs.declared.Management.{Management}
use Rattle.apdu.specs.Apdu.{Apdu, apdu, headed, with_field, management_of, known_class, instruction_of}
use Rattle.card.specs.Admitting.{is_terminated, in_own_class}
use Rattle.card.specs.declared.channel.Channel.TheVariants.{Open}
use Rattle.card.specs.Inside.{kept_open}
use Rattle.card.specs.Models.{Model}
use Rattle.card.specs.Taking.{taken, performed, responded}
use Rattle.cipher.specs.Blocks.{Algorithm, Undoes}
use Rattle.cipher.proofs.Xors.{small_take}
use Rattle.contents.specs.Held.{Held}
use Rattle.scp01.specs.declared.Level.{Level}
use Rattle.scp01.specs.declared.Session.{Session}
use Rattle.cipher.specs.declared.Keys.{Keys}
use Rattle.scp01.specs.Levels.{session}
use Rattle.scp01.specs.Understanding.{Bytewise, Understood}
use Rattle.scp01.specs.Wrapping.{command_bytes, sent_at, chain_sent, wrappable, wrapped}
use Rattle.scp01.proofs.Understanding.{unwraps}
use Rattle.terminal.specs.declared.Phase.{Phase}
use Rattle.terminal.specs.declared.Phase.TheVariants as phase
use Rattle.terminal.specs.Sides as terminal
use Rattle.terminal.specs.Sides.{Side, Outcome, in_phase, sends, refused_as}
use Rattle.runs.specs.declared.turns.Served.{Served}
use Rattle.runs.specs.Conversing.{blank}
use Rattle.runs.specs.Laws.{is_plain}
use Rattle.runs.specs.Sending.{bare_in, served_in, sendable, sendable_as, sent_of, SentBy, Sent, Answered, Answers}
use Rattle.runs.specs.Serving.{Sending, Serves, unasked, refused, rule_of}
use Rattle.runs.specs.Turns.{Pair, HandedIn}
use Rattle.runs.proofs.Conversing.{small_drop}
use Rattle.runs.proofs.Reaching.{none_behind, noted_as}
use Rattle.runs.proofs.Serving.{wrapped_answered, wrapped_keyed, wrapped_serves}
use Rattle.rules.specs.Own.{own_rule}

-- A command of bytes has parts of bytes.

abbrev Small : List ℕ → Type 0
Small bs = (i : ℕ) → get_or bs i 0 < 256

abbrev OfBytes : Option Apdu → Type 0
OfBytes None = Unit {0}
OfBytes (Some c) = Bytewise c

head_bytes : (bs field : List ℕ) (le : Option ℕ) → Small bs → Small field → Bytewise (headed bs field le)
head_bytes bs field le small f = record { instruction = small 1; p1 = small 2; p2 = small 3; field = record { long = refl; small = f } }

small_none : Small []
small_none i = omega arith

field_bytes : (bs : List ℕ) (lc : ℕ) → Small bs → OfBytes (with_field bs lc)
field_bytes bs lc small =
    let field = take lc (drop 5 bs) in
    let f : Small field = small_take lc (drop 5 bs) (small_drop 5 bs small) in
    let last : Bool → Option Apdu = λ b. cond b (Some (headed bs field (Some (get_or bs (5 + lc) 0)))) None in
    let middle : Bool → Option Apdu = λ b. cond b (Some (headed bs field None)) (last (eqb (length bs) (6 + lc))) in
    elim (eqb lc 0) as (λ b. OfBytes (cond b None (middle (eqb (length bs) (5 + lc))))) [
      | true ↦ tt
      | false ↦ elim (eqb (length bs) (5 + lc)) as (λ b. OfBytes (middle b)) [
        | true ↦ head_bytes bs field None small f
        | false ↦ elim (eqb (length bs) (6 + lc)) as (λ b. OfBytes (last b)) [
          | true ↦ head_bytes bs field (Some (get_or bs (5 + lc) 0)) small f
          | false ↦ tt
        ]
      ]
    ]

command_of_bytes : (bs : List ℕ) → Small bs → OfBytes (apdu bs)
command_of_bytes bs small =
    let lc = get_or bs 4 0 in
    let third : Bool → Option Apdu = λ b. cond b (Some (headed bs [] (Some lc))) (with_field bs lc) in
    let second : Bool → Option Apdu = λ b. cond b (Some (headed bs [] None)) (third (eqb (length bs) 5)) in
    elim (ltb (length bs) 4) as (λ b. OfBytes (cond b None (second (eqb (length bs) 4)))) [
      | true ↦ tt
      | false ↦ elim (eqb (length bs) 4) as (λ b. OfBytes (second b)) [
        | true ↦ head_bytes bs [] None small small_none
        | false ↦ elim (eqb (length bs) 5) as (λ b. OfBytes (third b)) [
          | true ↦ head_bytes bs [] (Some lc) small small_none
          | false ↦ field_bytes bs lc small
        ]
      ]
    ]

read_bytes : (bs : List ℕ) (c : Apdu) → Small bs → apdu bs ≡ Some c → Bytewise c
read_bytes bs c small is = let P : Option Apdu → Type 0 = λ o. OfBytes o in subst P is (command_of_bytes bs small)

-- One command more among those that are sent, or passed over.

sent_behind : (level : Level) (commands : List (List ℕ)) (command : List ℕ) → sent_of level (commands ++ command ∷ []) ≡ sent_of level commands ++ cond (sendable level command) (command ∷ []) []
sent_behind level [] command = refl
sent_behind level (first ∷ commands) command =
    let more = sent_behind level commands command in
    let here : Bool → List (List ℕ) → List (List ℕ) = λ b rest. cond b (first ∷ rest) rest in
    let put : (b : Bool) (xs ys : List (List ℕ)) → here b (xs ++ ys) ≡ here b xs ++ ys = λ b xs ys. elim b as (λ v. here v (xs ++ ys) ≡ here v xs ++ ys) [ true ↦ refl | false ↦ refl ] in
    ap (here (sendable level first)) more ∙ put (sendable level first) (sent_of level commands) (cond (sendable level command) (command ∷ []) [])

-- the terminal refused: nothing moved
passed_over : (cipher : Algorithm) (level : Level) (keys : Keys) (start : Held) (n n' : Model) (u u' : Side) (commands : List (List ℕ)) (command : List ℕ) (pairs : List Sending) (noted : Option Sending) (e : Refusal) → Answered cipher level keys start n u commands pairs → Sent cipher n n' u u' command noted → terminal.wraps cipher u command blank ≡ refused_as u blank e → sendable level command ≡ false → Answered cipher level keys start n' u' (commands ++ command ∷ []) (pairs ++ noted_as noted)
passed_over cipher level keys start n n' u u' commands command pairs noted e a s out no' =
    let P : Outcome → Type 0 = λ o. SentBy cipher n n' command o noted in
    let p = subst P out s.card in
    let left : u' ≡ u = s.terminal ∙ ap (λ (o : Outcome). o.1) out in
    let none : pairs ++ noted_as noted ≡ pairs = ap (λ (o : Option Sending). pairs ++ noted_as o) p.0 ∙ none_behind pairs in
    let same : sent_of level (commands ++ command ∷ []) ≡ sent_of level commands = sent_behind level commands command ∙ ap (λ (b : Bool). sent_of level commands ++ cond b (command ∷ []) []) no' ∙ none_behind (sent_of level commands) in
    let Q : Model → Type 0 = λ x. Answered cipher level keys start x u' (commands ++ command ∷ []) (pairs ++ noted_as noted) in
    let R : Side → Type 0 = λ x. Answered cipher level keys start n x (commands ++ command ∷ []) (pairs ++ noted_as noted) in
    let S : List Sending → Type 0 = λ x. Answered cipher level keys start n u (commands ++ command ∷ []) x in
    subst Q (sym p.1) (subst R (sym left) (subst S (sym none) (record { shares = a.shares; serves = a.serves; sent = a.sent ∙ sym same })))

-- a TERMINATED card takes no command
terminated_answered : (cipher : Algorithm) (m : Model) (bytes : List ℕ) (sent : Apdu) → is_terminated m.contents.state ≡ true → apdu bytes ≡ Some sent → responded management_of own_rule cipher m bytes ≡ (m, only ConditionsNotSatisfied)
terminated_answered cipher m bytes sent dead read =
    let own = in_own_class sent.class (instruction_of management_of sent.instruction) in
    ap (taken management_of own_rule cipher m) read
    ∙ ap (λ (b : Bool). performed own_rule cipher m (cond b (Err ConditionsNotSatisfied) (cond (known_class sent.class) own (Err ClassUnknown))) sent) dead

-- what one command that was sent leaves
record Moved (cipher : Algorithm) (level : Level) (keys : Keys) (start : Held) (n : Model) (command bytes chain : List ℕ) (pairs : List Sending) : Type 0 where
  serves : Serves cipher keys.kek start (pairs ++ (command, bytes, reply_bytes (responded management_of own_rule cipher n bytes).1) ∷ []) (responded management_of own_rule cipher n bytes).0.contents
  card : is_terminated (responded management_of own_rule cipher n bytes).0.contents.state ≡ false → (responded management_of own_rule cipher n bytes).0.channel ≡ Open (session level keys chain)

kept_open_is : (h : Held) (s : Session) → is_terminated h.state ≡ false → kept_open h.state s ≡ Open s
kept_open_is h s alive = rw alive

moved_alive : (cipher : Algorithm) (level : Level) (keys : Keys) (chain : List ℕ) (start : Held) (n : Model) (command : List ℕ) (c : Apdu) (i : Management) (bytes next : List ℕ) (pairs : List Sending) → n.channel ≡ Open (session level keys chain) → is_terminated n.contents.state ≡ false → is_plain level ≡ false → apdu command ≡ Some c → management_of c.instruction ≡ Some i → Understood cipher (session level keys chain) c bytes next → Serves cipher keys.kek start pairs n.contents → Moved cipher level keys start n command bytes next pairs
moved_alive cipher level keys chain start n command c i bytes next pairs channel alive coded read is u before =
    let s = session level keys chain in
    let held = (rule_of cipher keys.kek n.contents i c).0 in
    let out = wrapped_answered cipher n s c i bytes next channel alive coded is u in
    record {
      serves = wrapped_serves cipher n s c i start pairs command bytes next channel alive coded read is u before;
      card = λ still. ap (λ (o : Model × Reply). o.0.channel) out ∙ kept_open_is held (session level keys next) (ap (λ (o : Model × Reply). is_terminated o.0.contents.state) (sym out) ∙ still);
    }

moved_dead : (cipher : Algorithm) (level : Level) (keys : Keys) (start : Held) (n : Model) (command bytes next : List ℕ) (sent : Apdu) (pairs : List Sending) → is_terminated n.contents.state ≡ true → apdu bytes ≡ Some sent → Serves cipher keys.kek start pairs n.contents → Moved cipher level keys start n command bytes next pairs
moved_dead cipher level keys start n command bytes next sent pairs dead read before =
    let out = terminated_answered cipher n bytes sent dead read in
    let P : Model × Reply → Type 0 = λ o. Serves cipher keys.kek start (pairs ++ (command, bytes, reply_bytes o.1) ∷ []) o.0.contents in
    record {
      serves = subst P (sym out) (refused command bytes (reply_bytes (only ConditionsNotSatisfied)) before dead refl);
      card = λ still. absurd (true≢false (sym dead ∙ ap (λ (o : Model × Reply). is_terminated o.0.contents.state) (sym out) ∙ still));
    }

moved : (cipher : Algorithm) (level : Level) (keys : Keys) (chain : List ℕ) (start : Held) (n : Model) (command : List ℕ) (c : Apdu) (i : Management) (bytes next : List ℕ) (pairs : List Sending) → (is_terminated n.contents.state ≡ false → n.channel ≡ Open (session level keys chain)) → is_plain level ≡ false → apdu command ≡ Some c → management_of c.instruction ≡ Some i → Understood cipher (session level keys chain) c bytes next → Serves cipher keys.kek start pairs n.contents → Moved cipher level keys start n command bytes next pairs
moved cipher level keys chain start n command c i bytes next pairs channel coded read is u before =
    elim (is_terminated n.contents.state) as (λ b. is_terminated n.contents.state ≡ b → Moved cipher level keys start n command bytes next pairs) [
      | true ↦ λ dead. moved_dead cipher level keys start n command bytes next u.sent pairs dead u.read before
      | false ↦ λ alive. moved_alive cipher level keys chain start n command c i bytes next pairs (channel alive) alive coded read is u before
    ] refl

-- the terminal wrapped it: it was handed in
sent_on : (cipher : Algorithm) → Undoes cipher.enc cipher.dec → (level : Level) (keys : Keys) (start : Held) (n n' : Model) (u u' : Side) (commands : List (List ℕ)) (command : List ℕ) (c : Apdu) (i : Management) (w : List ℕ × List ℕ) (pairs : List Sending) (noted : Option Sending) → (a : Answered cipher level keys start n u commands pairs) → Sent cipher n n' u u' command noted → is_plain level ≡ false → Small command → apdu command ≡ Some c → management_of c.instruction ≡ Some i → wrapped cipher (session level keys a.shares.chain) c ≡ Some w → terminal.wraps cipher u command blank ≡ sends (in_phase u (phase.Open (session level keys w.1))) blank w.0 → sendable level command ≡ true → Answered cipher level keys start n' u' (commands ++ command ∷ []) (pairs ++ noted_as noted)
sent_on cipher laws level keys start n n' u u' commands command c i w pairs noted a s coded small read is made out yes' =
    let old = session level keys a.shares.chain in
    let bytewise = read_bytes command c small read in
    let understood = unwraps cipher laws old c w a.shares.keyed bytewise made in
    let P : Outcome → Type 0 = λ o. SentBy cipher n n' command o noted in
    let p = subst P out s.card in
    let cut : take (length w.0) (fronted blank w.0) ≡ w.0 = take_at w.0 (drop (length w.0) blank) (length w.0) refl in
    let entry : Sending = (command, w.0, reply_bytes (responded management_of own_rule cipher n w.0).1) in
    let is-noted : noted ≡ Some entry = p.0 ∙ ap (λ (b : List ℕ). Some (command, b, reply_bytes (responded management_of own_rule cipher n b).1)) cut in
    let is-next : n' ≡ (responded management_of own_rule cipher n w.0).0 = p.1 ∙ ap (λ (b : List ℕ). (responded management_of own_rule cipher n b).0) cut in
    let left : u' ≡ in_phase u (phase.Open (session level keys w.1)) = s.terminal ∙ ap (λ (o : Outcome). o.1) out in
    let m = moved cipher level keys a.shares.chain start n command c i w.0 w.1 pairs a.shares.card coded read is understood a.serves in
    let more : pairs ++ noted_as noted ≡ pairs ++ entry ∷ [] = ap (λ (o : Option Sending). pairs ++ noted_as o) is-noted in
    let names : map (λ (q : Sending). q.0) (pairs ++ entry ∷ []) ≡ sent_of level (commands ++ command ∷ []) =
    map_push (λ (q : Sending). q.0) pairs entry ∙ ap (λ (xs : List (List ℕ)). xs ++ command ∷ []) a.sent ∙ ap (λ (b : Bool). sent_of level commands ++ cond b (command ∷ []) []) (sym yes') ∙ sym (sent_behind level commands command)
    in
    let Q : Model → Type 0 = λ x. Answered cipher level keys start x u' (commands ++ command ∷ []) (pairs ++ noted_as noted) in
    let R : Side → Type 0 = λ x. Answered cipher level keys start (responded management_of own_rule cipher n w.0).0 x (commands ++ command ∷ []) (pairs ++ noted_as noted) in
    let S : List Sending → Type 0 = λ x. Answered cipher level keys start (responded management_of own_rule cipher n w.0).0 (in_phase u (phase.Open (session level keys w.1))) (commands ++ command ∷ []) x in
    subst Q (sym is-next) (subst R (sym left) (subst S (sym more) (record {
      shares = record { chain = w.1; keyed = wrapped_keyed cipher laws old c w a.shares.keyed bytewise made; terminal = refl; card = m.card };
      serves = m.serves;
      sent = names;
    })))

-- The terminal's cases.

wraps_opened : (cipher : Algorithm) (u : Side) (s : Session) (command : List ℕ) → u.phase ≡ phase.Open s → terminal.wraps cipher u command blank ≡ terminal.wraps_in cipher u s (apdu command) blank
wraps_opened cipher u s command opened = ap (λ (p : Phase). terminal.wraps_when cipher u p command blank) opened

one_more : (cipher : Algorithm) → Undoes cipher.enc cipher.dec → (level : Level) (keys : Keys) (start : Held) (n n' : Model) (u u' : Side) (commands : List (List ℕ)) (command : List ℕ) (pairs : List Sending) (noted : Option Sending) → Answered cipher level keys start n u commands pairs → Sent cipher n n' u u' command noted → is_plain level ≡ false → Small command → Answered cipher level keys start n' u' (commands ++ command ∷ []) (pairs ++ noted_as noted)
one_more cipher laws level keys start n n' u u' commands command pairs noted a s coded small =
    let Goal : Type 0 = Answered cipher level keys start n' u' (commands ++ command ∷ []) (pairs ++ noted_as noted) in
    let old = session level keys a.shares.chain in
    let opened = wraps_opened cipher u old command a.shares.terminal in
    let over : (e : Refusal) → terminal.wraps cipher u command blank ≡ refused_as u blank e → sendable level command ≡ false → Goal = λ e. passed_over cipher level keys start n n' u u' commands command pairs noted e a s in
    let room : (c : Apdu) (i : Management) → apdu command ≡ Some c → management_of c.instruction ≡ Some i → (b : Bool) → wrappable c level ≡ b → Goal = λ c i read is b.
    let w : List ℕ × List ℕ = (command_bytes (sent_at cipher old c level), chain_sent cipher old c level) in
    let as' : Bool → Option (List ℕ × List ℕ) = λ b. cond b (Some w) None in
    let reach : terminal.wraps cipher u command blank ≡ terminal.wraps_as u old (as' (wrappable c level)) blank =
    opened ∙ ap (λ (o : Option Apdu). terminal.wraps_in cipher u old o blank) read ∙ ap (λ (o : Option Management). terminal.wraps_for cipher u old c o blank) is
    in
    let sends' : sendable level command ≡ wrappable c level = ap (sendable_as level) read ∙ ap (λ (o : Option Management). is_some o && wrappable c level) is in
    elim b as (λ v. wrappable c level ≡ v → Goal) [
      | true ↦ λ yes'. sent_on cipher laws level keys start n n' u u' commands command c i w pairs noted a s coded small read is (ap as' yes') (reach ∙ ap (λ (v : Bool). terminal.wraps_as u old (as' v) blank) yes') (sends' ∙ yes')
      | false ↦ λ no'. over IllArgument (reach ∙ ap (λ (v : Bool). terminal.wraps_as u old (as' v) blank) no') (sends' ∙ no')
    ]
    in
    let known : (c : Apdu) → apdu command ≡ Some c → (o : Option Management) → management_of c.instruction ≡ o → Goal = λ c read o.
    elim o as (λ v. management_of c.instruction ≡ v → Goal) [
      | None ↦ λ no'. over IllArgument (opened ∙ ap (λ (o : Option Apdu). terminal.wraps_in cipher u old o blank) read ∙ ap (λ (o : Option Management). terminal.wraps_for cipher u old c o blank) no') (ap (sendable_as level) read ∙ ap (λ (o : Option Management). is_some o && wrappable c level) no')
      | Some i ↦ λ is. room c i read is (wrappable c level) refl
    ]
    in
    elim (apdu command) as (λ o. apdu command ≡ o → Goal) [
      | None ↦ λ no'. over IllArgument (opened ∙ ap (λ (o : Option Apdu). terminal.wraps_in cipher u old o blank) no') (ap (sendable_as level) no')
      | Some c ↦ λ read. known c read (management_of c.instruction) refl
    ] refl

-- Nothing is sent yet; one command more.

pub answers_none : (cipher : Algorithm) (m : Model) (t : Side) (pairs : List Sending) → pairs ≡ [] → Answers cipher m t m t [] pairs
answers_none cipher m t pairs none =
    λ level keys coded shares.
    let P : List Sending → Type 0 = λ x. Answered cipher level keys m.contents m t [] x in
    subst P (sym none) (record { shares = shares; serves = unasked; sent = refl })

pub answers_more : (cipher : Algorithm) → Undoes cipher.enc cipher.dec → (m n n' : Model) (t u u' : Side) (commands : List (List ℕ)) (command : List ℕ) (pairs : List Sending) (noted : Option Sending) → Answers cipher m t n u commands pairs → Sent cipher n n' u u' command noted → Small command → Answers cipher m t n' u' (commands ++ command ∷ []) (pairs ++ noted_as noted)
answers_more cipher laws m n n' t u u' commands command pairs noted before s small =
    λ level keys coded shares. one_more cipher laws level keys m.contents n n' u u' commands command pairs noted (before level keys coded shares) s coded small

-- What one sending is, from its parts.

pub sent_from : (cipher : Algorithm) (m n : Model) (t u : Side) (command given area : List ℕ) (k : ℕ) (x : Pair) → (Ok k, u, area) ≡ terminal.wraps cipher t command blank → HandedIn cipher m n (take (k - 0) area) x → given ≡ command → Sent cipher m n t u command (Some (given, x.0, x.1))
sent_from cipher m n t u command given area k x is h g =
    let cut : take (k - 0) area ≡ take k area = ap (λ (i : ℕ). take i area) (sub-zero k) in
    let P : Outcome → Type 0 = λ o. SentBy cipher m n command o (Some (given, x.0, x.1)) in
    let entry : List ℕ → Sending = λ b. (command, b, reply_bytes (responded management_of own_rule cipher m b).1) in
    let e₀ = h.command in
    let e₁ = h.answer in
    let first : (given, x.0, x.1) ≡ entry (take (k - 0) area) = cc in
    record {
      terminal = ap (λ (o : Outcome). o.1) is;
      card = subst P is (ap (λ (y : Sending). Some y) (first ∙ ap entry cut), h.model ∙ ap (λ (b : List ℕ). (responded management_of own_rule cipher m b).0) cut);
    }

-- one command more of the list
pub answers_step : (cipher : Algorithm) → Undoes cipher.enc cipher.dec → (m n n' : Model) (t u u' : Side) (list : List (Bor (List ℕ))) (k : ℕ) (d : Bor (List ℕ)) (pairs all : List Sending) (noted : Option Sending) → Answers cipher m t n u (bare_in (take k list)) pairs → Sent cipher n n' u u' (get_or list k d).now noted → Small (get_or list k d).now → k < length list → all ≡ pairs ++ noted_as noted → Answers cipher m t n' u' (bare_in (take (k + 1) list)) all
answers_step cipher laws m n n' t u u' list k d pairs all noted before s small lt is =
    let command = (get_or list k d).now in
    let more : bare_in (take (k + 1) list) ≡ bare_in (take k list) ++ command ∷ [] = map_more (λ (c : Bor (List ℕ)). c.now) list k d lt in
    let P : List (List ℕ) → Type 0 = λ x. Answers cipher m t n' u' x all in
    let Q : List Sending → Type 0 = λ x. Answers cipher m t n' u' (bare_in (take k list) ++ command ∷ []) x in
    subst P (sym more) (subst Q (sym is) (answers_more cipher laws m n n' t u u' (bare_in (take k list)) command pairs noted before s small))

-- what is noted, as the bytes of what is kept
pub noted_more : (old new : List Served) (o : Option Served) (x : Served) → new ≡ old ++ x ∷ [] → o ≡ Some x → map served_in new ≡ map served_in old ++ noted_as (option_map served_in o)
noted_more old new o x more is =
    ap (map served_in) more ∙ map_push served_in old x ∙ ap (λ (v : Option Served). map served_in old ++ noted_as (option_map served_in v)) (sym is)

pub noted_none : (old new : List Served) (o : Option Served) → new ≡ old → o ≡ None → map served_in new ≡ map served_in old ++ noted_as (option_map served_in o)
noted_none old new o same is =
    ap (map served_in) same ∙ sym (none_behind (map served_in old)) ∙ ap (λ (v : Option Served). map served_in old ++ noted_as (option_map served_in v)) (sym is)
