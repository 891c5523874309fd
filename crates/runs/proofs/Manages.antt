-- The channel commands keep the plain card beside the card.
use Rattle.std.proofs.Common.{◌≡◌, ℕ, Bool, true, false, cond, ◌&&◌, List, Some, None, Option, sym, refl, ap, ◌∙◌, subst}
use Rattle.answers.specs.declared.StatusWord.TheVariants as sw
use Rattle.answers.specs.Replies.{only, reply_bytes}
use Rattle.apdu.specs.declared.Management.{Management}
use Rattle.apdu.specs.Apdu.{Apdu, changing}
use Rattle.card.specs.Admitting.{is_terminated}
use Rattle.card.specs.declared.channel.Channel.{Channel}
use Rattle.card.specs.declared.channel.Channel.TheVariants.{Closed, Waiting, Open}
use Rattle.card.specs.Channels.{plain_allowed}
use Rattle.card.specs.Inside.{managed, obeyed, kept_open}
use Rattle.card.specs.Models.{model}
use Rattle.challenge.specs.Draws.{Challenges}
use Rattle.cipher.specs.Blocks.{Algorithm}
use Rattle.contents.specs.Held.{Held}
use Rattle.rules.specs.Own.{own_rule, change_of, applied}
use Rattle.rules.proofs.Moves.{rule_moves}
use Rattle.scp01.specs.declared.Level.{Level}
use Rattle.scp01.specs.declared.Session.{Session}
use Rattle.cipher.specs.declared.Keys.{Keys}
use Rattle.scp01.specs.Inside.{unwrapped}
use Rattle.scp01.specs.Levels.{session}
use Rattle.runs.specs.Plain.{plain_card, Line, idle, asked, talking, Message, message, code_over, found_right, session_of, changed, read_as, in_channel}
use Rattle.runs.specs.Laws.{Follows, Matches}
use Rattle.runs.proofs.Statuses.{tells_success}
use Rattle.runs.proofs.Unwrapping.{read_how, chain_over}

-- what a command moves is what the plain card hears of it
pub change_heard : (cipher : Algorithm) (keys : Keys) (h : Held) (i : Management) (c : Apdu) (body : List ℕ) → changed cipher keys h i c body (reply_bytes (own_rule cipher keys.kek h i c.p1 c.p2 body).1) ≡ (own_rule cipher keys.kek h i c.p1 c.p2 body).0
change_heard cipher keys h i c body =
    let out = own_rule cipher keys.kek h i c.p1 c.p2 body in
    ap (λ (b : Bool). cond (changing i && b) (applied h (change_of cipher keys.kek i c.p1 c.p2 body)) h) (tells_success out.1)
    ∙ sym (rule_moves cipher keys.kek h i c.p1 c.p2 body)

-- the channel that is kept
kept_follows : (cipher : Algorithm) (g : Held) (coming : Challenges) (level : Level) (keys : Keys) (chain : List ℕ) (ms : List Message) → chain ≡ code_over cipher.enc keys.mac ms → Follows cipher (model g (kept_open g.state (session level keys chain)) coming) (plain_card g (cond (is_terminated g.state) idle (talking level keys ms)))
kept_follows cipher g coming level keys chain ms is =
    let x : Bool → Channel = λ b. cond b Closed (Open (session level keys chain)) in
    let l : Bool → Line = λ b. cond b idle (talking level keys ms) in
    elim (is_terminated g.state) as (λ b. Follows cipher (model g (x b) coming) (plain_card g (l b))) [
      | true ↦ record { line = idle; is = refl; channel = refl }
      | false ↦ record { line = talking level keys ms; is = refl; channel = record { messages = ms; line = refl; chain = is } }
    ]

obeyed_follows : (cipher : Algorithm) (h : Held) (x : Channel) (coming : Challenges) (s : Session) (ms : List Message) (i : Management) (c : Apdu) (o : Option (List ℕ × List ℕ)) → s.chain ≡ code_over cipher.enc s.keys.mac ms → unwrapped cipher s (plain_allowed h.state) c s.level ≡ o → Follows cipher (obeyed own_rule cipher (model h x coming) s i c o).0 (read_as cipher h s.level s.keys ms i c (reply_bytes (obeyed own_rule cipher (model h x coming) s i c o).1) o)
obeyed_follows cipher h x coming s ms i c None chain e = record { line = idle; is = refl; channel = refl }
obeyed_follows cipher h x coming s ms i c (Some read) chain e =
    let how = read_how cipher s (plain_allowed h.state) c read e in
    let out = own_rule cipher s.keys.kek h i c.p1 c.p2 read.0 in
    let next = found_right s.level ms (message c read.0) in
    let P : Held → Type 0 = λ g. Follows cipher (model out.0 (kept_open out.0.state (session s.level s.keys read.1)) coming) (plain_card g (cond (is_terminated g.state) idle (talking s.level s.keys next))) in
    subst P (sym (change_heard cipher s.keys h i c read.0))
    (kept_follows cipher out.0 coming s.level s.keys read.1 next (chain_over cipher s c ms read s.level chain how.chain))

pub manage_follows : (cipher : Algorithm) (h : Held) (x : Channel) (coming : Challenges) (l : Line) (i : Management) (c : Apdu) → Matches cipher x l → Follows cipher (managed own_rule cipher (model h x coming) x i c).0 (in_channel cipher h l i c (reply_bytes (managed own_rule cipher (model h x coming) x i c).1))
manage_follows cipher h Closed coming l i c e =
    let P : Line → Type 0 = λ l. Follows cipher (model h Closed coming) (in_channel cipher h l i c (reply_bytes (only sw.SecurityNotSatisfied))) in
    subst P (sym e) (record { line = idle; is = refl; channel = refl })
manage_follows cipher h (Waiting w) coming l i c e =
    let P : Line → Type 0 = λ l. Follows cipher (model h (Waiting w) coming) (in_channel cipher h l i c (reply_bytes (only sw.SecurityNotSatisfied))) in
    subst P (sym e.line) (record { line = asked e.set w.challenges.host w.challenges.card; is = refl; channel = record { set = e.set; line = refl; keys = e.keys } })
manage_follows cipher h (Open s) coming l i c e =
    let plain = plain_allowed h.state in
    let out = managed own_rule cipher (model h (Open s) coming) (Open s) i c in
    let P : Line → Type 0 = λ l. Follows cipher out.0 (in_channel cipher h l i c (reply_bytes out.1)) in
    let same : s ≡ session_of cipher s.level s.keys e.messages = ap (λ (x : List ℕ). session s.level s.keys x) e.chain in
    let Q : Session → Type 0 = λ t. Follows cipher out.0 (read_as cipher h s.level s.keys e.messages i c (reply_bytes out.1) (unwrapped cipher t plain c s.level)) in
    subst P (sym e.line) (subst Q same (obeyed_follows cipher h (Open s) coming s e.messages i c (unwrapped cipher s plain c s.level) e.chain refl))
