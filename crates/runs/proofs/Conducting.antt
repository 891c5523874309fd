-- A terminal that has a set of the card's is served.
use Rattle.std.proofs.Common.{◌≡◌, ℕ, ◌≤◌, Bool, true, false, cond, ◌&&◌, eqb, leb, List, [], ◌∷◌, ◌++◌, map, length, is_some, Some, None, Ok, Err, Option, Result, sym, refl, ap, ◌∙◌, subst, true≢false, arith}
use Rattle.std.proofs.lemmas.Bool.{and_parts, leb-true}
use Rattle.answers.specs.declared.Refusal.{Refusal}
use Rattle.answers.specs.declared.Refusal.TheVariants.{IllArgument}
use Rattle.answers.specs.declared.StatusWord.TheVariants.{Success}
use Rattle.answers.specs.Numbers.{status_bytes}
use Rattle.answers.specs.Replies.{reply_bytes}
use Rattle.card.specs.declared.channel.Channel.TheVariants.{Closed}
use Rattle.card.specs.Models.{Model, model}
use Rattle.card.specs.Opening.{keys_of}
use Rattle.challenge.specs.Draws.{Challenges}
use Rattle.cipher.specs.Blocks.{Algorithm}
use Rattle.contents.specs.declared.records.KeySet.{KeySet}
use Rattle.contents.specs.Held.{Held}
use Rattle.contents.specs.Image.{read_image}
use Rattle.scp01.specs.declared.Level.{Level}
use Rattle.scp01.specs.Levels.{level_value}
use Rattle.terminal.specs.Sides.{Side, fit_for, fresh, made_of, authenticate_command}
use Rattle.runs.specs.declared.conduct.Talk.{Talk}
use Rattle.runs.specs.Conducting.{Said, said_events, Conversed, Run, Conducted, unmade_of, refused_for, refusal}
use Rattle.runs.specs.Conversing.{Opened, Opens, is_answered}
use Rattle.runs.specs.Events.{Event, Input, input_of}
use Rattle.runs.specs.Runs.{Onward}
use Rattle.runs.specs.Sending.{bare_in, Shares, Answers}
use Rattle.runs.specs.Serving.{HasSet, Sending, Serves, challenged, cryptogram_to, code_to}
use Rattle.runs.specs.Turns.{Pair, Played}
use Rattle.runs.proofs.Reaching.{played_on}
use Rattle.runs.proofs.Serving.{drawn_count}
use Rattle.runs.proofs.Statuses.{tells_success}
use Rattle.runs.proofs.Telling.{told}

-- both ends share the session that was opened
shares_opened : (cipher : Algorithm) (m n : Model) (t u : Side) (k : KeySet) (host drawn : List ℕ) (rest : Challenges) (level : Level) (o : Pair × Option Pair) → Opened cipher m n t u k host drawn rest level o → Shares level (keys_of cipher k host drawn) n u
shares_opened cipher m n t u k host drawn rest level o op = record {
  chain = code_to cipher k host drawn level;
  keyed = op.keyed;
  terminal = ap (λ (x : Side). x.phase) op.terminal;
  card = λ alive. ap (λ (x : Model). x.channel) op.card;
}

pub conversed : (cipher : Algorithm) (m mid n : Model) (t over u : Side) (talk : Talk) (o : Pair × Option Pair) (sendings : List Sending) → Opens cipher m mid t over talk.set talk.host talk.level o → Answers cipher mid over n u (bare_in talk.commands.now) sendings → Conversed cipher m n t talk (record { opening = o; served = Some sendings })
conversed cipher m mid n t over u talk o sendings opens answers =
    λ drawn rest has w.
    let op = opens drawn rest has w in
    let set = talk.set in
    let host = talk.host in
    let reply = (challenged cipher m.contents set host drawn rest).1 in
    let a = answers talk.level (keys_of cipher set host drawn) w.coded (shares_opened cipher m mid t over set host drawn rest talk.level o op) in
    let P : Held → Type 0 = λ h. Serves cipher set.keys.kek h sendings n.contents in
    record {
      answer = reply_bytes reply;
      update = op.update;
      success = tells_success reply;
      authenticate = op.authenticate ∙ ap (λ (d : List ℕ). Some (authenticate_command (level_value talk.level) (cryptogram_to cipher set host d) (code_to cipher set host d talk.level), status_bytes Success)) (sym op.shown);
      sendings = sendings;
      opened = refl;
      sent = a.sent;
      serves = subst P (ap (λ (x : Model). x.contents) op.card) a.serves;
    }

pub not_conversed : (cipher : Algorithm) (m n : Model) (t u : Side) (talk : Talk) (o : Pair × Option Pair) (b : Bool) → b ≡ is_answered o.1 → b ≡ false → Opens cipher m n t u talk.set talk.host talk.level o → Conversed cipher m n t talk (record { opening = o; served = None })
not_conversed cipher m n t u talk o b is no' opens =
    λ drawn rest has w. absurd (true≢false (sym (ap is_answered (opens drawn rest has w).authenticate) ∙ sym is ∙ no'))

-- A terminal that could be made has the key set, and its version is not 00.

pub record Fresh (t : Side) (k : KeySet) : Type 0 where
  pub has : HasSet t k
  pub version : 1 ≤ k.version

abbrev MadeSo : KeySet → Result Side Refusal → Type 0
MadeSo k (Ok t) = Fresh t k
MadeSo k (Err e) = Unit {0}

made_so : (k : KeySet) → MadeSo k (made_of k.version k.keys.enc k.keys.mac k.keys.kek)
made_so k =
    let t = fresh k.version k.keys.enc k.keys.mac k.keys.kek in
    let others = leb k.version 0x7F && (eqb (length k.keys.enc) 16 && (eqb (length k.keys.mac) 16 && eqb (length k.keys.kek) 16)) in
    elim (fit_for k.version k.keys.enc k.keys.mac k.keys.kek) as (λ b. fit_for k.version k.keys.enc k.keys.mac k.keys.kek ≡ b → MadeSo k (cond b (Ok t) (Err IllArgument))) [
      | true ↦ λ fit. record { has = record { version = refl; enc = refl; mac = refl; kek = refl }; version = leb-true 1 k.version (and_parts (leb 1 k.version) others fit).0 }
      | false ↦ λ no'. tt
    ] refl

pub fresh_set : (t : Side) (k : KeySet) → Ok t ≡ made_of k.version k.keys.enc k.keys.mac k.keys.kek → Fresh t k
fresh_set t k is = let P : Result Side Refusal → Type 0 = λ r. MadeSo k r in subst P (sym is) (made_so k)

-- A source that is not spent has a challenge to come.

pub record Coming (coming : Challenges) : Type 0 where
  pub first : List ℕ
  pub rest : Challenges
  pub is : coming ≡ first ∷ rest

coming_some : (coming : Challenges) → 1 ≤ length coming → Coming coming
coming_some [] some = absurd (omega arith)
coming_some (c ∷ rest) some = record { first = c; rest = rest; is = refl }

-- the turns, and then the conversation
ran_all : (cipher : Algorithm) (h : Held) (coming : Challenges) (mid n : Model) (t : Side) (handed : List Input) (talk : Talk) (events : List Event) (said : Said) → Ok t ≡ made_of talk.set.version talk.set.keys.enc talk.set.keys.mac talk.set.keys.kek → Played cipher (model h Closed coming) mid handed events → Conversed cipher mid n t talk said → Onward cipher mid (said_events said) n → is_some said.served ≡ is_answered said.opening.1 → Run cipher h coming n handed talk events said
ran_all cipher h coming mid n t handed talk events said is p c on told-open =
    let m = model h Closed coming in
    let count = drawn_count p.ran in
    let f = fresh_set t talk.set is in
    record {
      played = mid;
      turns = told cipher m mid handed events refl p;
      all = told cipher m n (handed ++ map input_of (said_events said)) (events ++ said_events said) refl (played_on cipher m mid n handed events (said_events said) p on);
      ran = on m events p.ran;
      channelled = told-open;
      count = count;
      channel = λ alive left set coded. let some = coming_some mid.coming (omega arith) in c some.first some.rest f.has (record { alive = alive; coming = some.is; version = f.version; set = set; coded = coded });
    }

-- the image and the key set were accepted
accepted : (image : List ℕ) (h : Held) (t : Side) (k : KeySet) → read_image image ≡ Ok h → Ok t ≡ made_of k.version k.keys.enc k.keys.mac k.keys.kek → refusal image k ≡ None
accepted image h t k read made = ap (λ (r : Result Held Refusal). refused_for r k) read ∙ ap unmade_of (sym made)

pub conducted : (cipher : Algorithm) (image : List ℕ) (coming : Challenges) (h : Held) (m mid n : Model) (t : Side) (handed : List Input) (talk : Talk) (events : List Event) (said : Said) → read_image image ≡ Ok h → m ≡ model h Closed coming → Ok t ≡ made_of talk.set.version talk.set.keys.enc talk.set.keys.mac talk.set.keys.kek → Played cipher m mid handed events → Conversed cipher mid n t talk said → Onward cipher mid (said_events said) n → is_some said.served ≡ is_answered said.opening.1 → Conducted cipher image coming n handed talk events said
conducted cipher image coming h m mid n t handed talk events said read is made p c on told-open =
    let P : Model → Type 0 = λ x. Played cipher x mid handed events in
    record { start = h; read = read; accepted = accepted image h t talk.set read made; run = ran_all cipher h coming mid n t handed talk events said made (subst P is p) c on told-open }
