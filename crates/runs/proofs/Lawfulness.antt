-- Every changing command answered 9000 came inside a channel, with the right code.
use Rattle.std.proofs.Common.{◌≡◌, ℕ, Bool, true, false, cond, ◌⊎◌, List, [], ◌∷◌, ◌++◌, length, Some, None, Ok, Err, Option, Result, sym, refl, ap, ◌∙◌, subst, inl, inr, ⊎_elim, append_assoc, arith, length-append}
use Rattle.std.proofs.lemmas.List.{same_from_push}
use Rattle.answers.specs.declared.StatusWord.{StatusWord}
use Rattle.answers.specs.declared.StatusWord.TheVariants as sw
use Rattle.answers.specs.Replies.{Reply, reply_bytes}
use Rattle.apdu.specs.declared.Instruction.{Instruction}
use Rattle.apdu.specs.declared.Instruction.TheVariants.{Manage}
use Rattle.apdu.specs.declared.Management.{Management}
use Rattle.apdu.specs.Apdu.{Apdu, apdu, known_class, instruction_of, owns, management_of}
use Rattle.card.specs.Admitting.{admitted, is_terminated, in_own_class}
use Rattle.card.specs.declared.channel.Channel.{Channel}
use Rattle.card.specs.declared.channel.Channel.TheVariants.{Closed, Waiting, Open}
use Rattle.card.specs.Channels.{plain_allowed}
use Rattle.card.specs.Inside.{managed, obeyed}
use Rattle.card.specs.Models.{Model, model}
use Rattle.card.specs.Taking.{performed, taken, responded}
use Rattle.challenge.specs.Draws.{Challenges}
use Rattle.cipher.specs.Blocks.{Algorithm}
use Rattle.contents.specs.Held.{Held}
use Rattle.rules.specs.Own.{is_success, own_rule}
use Rattle.scp01.specs.declared.Level.{Level}
use Rattle.scp01.specs.declared.Level.TheVariants.{Plain, Mac, MacEncrypted}
use Rattle.scp01.specs.declared.Session.{Session}
use Rattle.cipher.specs.declared.Keys.{Keys}
use Rattle.scp01.specs.Levels.{session}
use Rattle.scp01.specs.Inside.{unwrapped, code_in, chain_after, takes_class}
use Rattle.runs.specs.Events.{Event, answered, is9000}
use Rattle.runs.specs.Histories.{History}
use Rattle.runs.specs.Plain.{PlainCard, plain_card, Line, idle, talking, Message, message, code_over, session_of, observed}
use Rattle.runs.specs.Runs.{Gives, Ran, begun, then}
use Rattle.runs.specs.Laws.{Follows, Matches, Talking, Inside, Lawful, is_plain}
use Rattle.runs.proofs.Following.{ran_follows}
use Rattle.runs.proofs.Statuses.{tells_success}
use Rattle.runs.proofs.Since.{ran_since}
use Rattle.runs.proofs.Unwrapping.{same_of, read_how, chain_over, code_right}

-- a level without codes is for cards that allow it
coded_is_not_plain : (plain : Bool) (class : ℕ) (level : Level) → takes_class plain class level ≡ true → plain ≡ false → is_plain level ≡ false
coded_is_not_plain true class Plain e n = let z : ◌≡◌ {A = ℕ} 0 1 = cc in absurd (omega arith)
coded_is_not_plain false class Plain e n = let z : ◌≡◌ {A = ℕ} 0 1 = cc in absurd (omega arith)
coded_is_not_plain plain class Mac e n = refl
coded_is_not_plain plain class MacEncrypted e n = refl

-- the code that stands in a data field is the one over the messages, this one last
code_shown : (cipher : Algorithm) (s : Session) (c : Apdu) (ms : List Message) (read : List ℕ × List ℕ) (level : Level) → s.chain ≡ code_over cipher.enc s.keys.mac ms → chain_after cipher s c read.0 level ≡ Some read.1 → is_plain level ≡ false → code_in c.field ≡ code_over cipher.enc s.keys.mac (ms ++ message c read.0 ∷ [])
code_shown cipher s c ms read Plain chain e n = let z : ◌≡◌ {A = ℕ} 0 1 = cc in absurd (omega arith)
code_shown cipher s c ms read Mac chain e n = same_of _ _ (code_right cipher s c read.0 read.1 e).shown ∙ chain_over cipher s c ms read Mac chain e
code_shown cipher s c ms read MacEncrypted chain e n = same_of _ _ (code_right cipher s c read.0 read.1 e).shown ∙ chain_over cipher s c ms read MacEncrypted chain e

-- what the plain card says of a command that was read: its channel, the body, and the code
pub record InChannel (cipher : Algorithm) (p : PlainCard) (c : Apdu) : Type 0 where
  pub level : Level
  pub keys : Keys
  pub messages : List Message
  pub body : List ℕ
  pub next : List ℕ
  pub channel : p.line ≡ talking level keys messages
  pub read : unwrapped cipher (session_of cipher level keys messages) (plain_allowed p.contents.state) c level ≡ Some (body, next)
  pub strict : plain_allowed p.contents.state ≡ false → is_plain level ≡ false
  pub code : is_plain level ≡ false → code_in c.field ≡ code_over cipher.enc keys.mac (messages ++ message c body ∷ [])

read_inside : (cipher : Algorithm) (h : Held) (x : Channel) (coming : Challenges) (s : Session) (l : Line) (i : Management) (c : Apdu) (o : Option (List ℕ × List ℕ)) → Talking cipher s l → unwrapped cipher s (plain_allowed h.state) c s.level ≡ o → is_success (obeyed own_rule cipher (model h x coming) s i c o).1.status ≡ true → InChannel cipher (plain_card h l) c
read_inside cipher h x coming s l i c None t e done = let z : ◌≡◌ {A = ℕ} 0 1 = cc in absurd (omega arith)
read_inside cipher h x coming s l i c (Some read) t e done =
    let how = read_how cipher s (plain_allowed h.state) c read e in
    record {
      level = s.level;
      keys = s.keys;
      messages = t.messages;
      body = read.0;
      next = read.1;
      channel = t.line;
      read = ap (λ (x : List ℕ). unwrapped cipher (session s.level s.keys x) (plain_allowed h.state) c s.level) (sym t.chain) ∙ e;
      strict = coded_is_not_plain (plain_allowed h.state) c.class s.level how.class;
      code = code_shown cipher s c t.messages read s.level t.chain how.chain;
    }

managed_inside : (cipher : Algorithm) (h : Held) (x : Channel) (coming : Challenges) (l : Line) (i : Management) (c : Apdu) → Matches cipher x l → is_success (managed own_rule cipher (model h x coming) x i c).1.status ≡ true → InChannel cipher (plain_card h l) c
managed_inside cipher h Closed coming l i c e done = let z : ◌≡◌ {A = ℕ} 0 1 = cc in absurd (omega arith)
managed_inside cipher h (Waiting w) coming l i c e done = let z : ◌≡◌ {A = ℕ} 0 1 = cc in absurd (omega arith)
managed_inside cipher h (Open s) coming l i c e done =
    read_inside cipher h (Open s) coming s l i c (unwrapped cipher s (plain_allowed h.state) c s.level) e refl done

-- what the checks of taking a command refuse is not answered 9000
pub performed_inside : (cipher : Algorithm) (h : Held) (x : Channel) (coming : Challenges) (l : Line) (i : Management) (c : Apdu) → Matches cipher x l → instruction_of management_of c.instruction ≡ Some (Manage i) → is_success (performed own_rule cipher (model h x coming) (admitted management_of h.state c) c).1.status ≡ true → InChannel cipher (plain_card h l) c
performed_inside cipher h x coming l i c e is =
    let P : Result (Instruction Management) StatusWord → Type 0 = λ r. is_success (performed own_rule cipher (model h x coming) r c).1.status ≡ true → InChannel cipher (plain_card h l) c in
    let refuses : (s : StatusWord) → is_success s ≡ false → P (Err s) = λ s no' yes'. let z : ◌≡◌ {A = ℕ} 0 1 = cc in absurd (omega arith) in
    let own : Bool → Result (Instruction Management) StatusWord = λ b. cond b (Ok (Manage i)) (Err sw.ClassUnknown) in
    let known : Bool → Result (Instruction Management) StatusWord = λ b. cond b (own (owns (Manage i) c.class)) (Err sw.ClassUnknown) in
    let ended : Bool → Result (Instruction Management) StatusWord = λ b. cond b (Err sw.ConditionsNotSatisfied) (known (known_class c.class)) in
    let same : ended (is_terminated h.state) ≡ admitted management_of h.state c =
    ap (λ (o : Option (Instruction Management)). cond (is_terminated h.state) (Err sw.ConditionsNotSatisfied) (cond (known_class c.class) (in_own_class c.class o) (Err sw.ClassUnknown))) (sym is)
    in
    subst P same
    (elim (is_terminated h.state) as (λ b. P (ended b)) [
      | true ↦ refuses sw.ConditionsNotSatisfied refl
      | false ↦ elim (known_class c.class) as (λ b. P (known b)) [
        | true ↦ elim (owns (Manage i) c.class) as (λ b. P (own b)) [
          | true ↦ managed_inside cipher h x coming l i c e
          | false ↦ refuses sw.ClassUnknown refl
        ]
        | false ↦ refuses sw.ClassUnknown refl
      ]
    ])

-- the event that comes next, where it is a changing command answered 9000
next_inside : (cipher : Algorithm) (n : Model) (p : PlainCard) (e : Event) (cmd answer : List ℕ) (c : Apdu) (i : Management) → Follows cipher n p → Gives cipher n e → e ≡ answered cmd answer → apdu cmd ≡ Some c → instruction_of management_of c.instruction ≡ Some (Manage i) → is9000 answer ≡ true → InChannel cipher p c
next_inside cipher n p e cmd answer c i f g is parsed ins done =
    let given : answer ≡ reply_bytes (responded management_of own_rule cipher n cmd).1 = subst (Gives cipher n) is g in
    let read : responded management_of own_rule cipher n cmd ≡ performed own_rule cipher n (admitted management_of n.contents.state c) c = ap (taken management_of own_rule cipher n) parsed in
    let status : is_success (performed own_rule cipher n (admitted management_of n.contents.state c) c).1.status ≡ true =
    ap (λ (o : Model × Reply). is_success o.1.status) (sym read) ∙ sym (tells_success (responded management_of own_rule cipher n cmd).1) ∙ ap is9000 (sym given) ∙ done
    in
    let P : PlainCard → Type 0 = λ q. InChannel cipher q c in
    subst P (sym f.is) (performed_inside cipher n.contents n.channel n.coming f.line i c f.channel ins status)

-- and by the history of that channel
inside_since : (cipher : Algorithm) (start : Held) (es : List Event) (c : Apdu) → InChannel cipher (observed cipher (plain_card start idle) es) c → History cipher start es (observed cipher (plain_card start idle) es).line → Inside cipher start es c
inside_since cipher start es c i h = record {
  level = i.level;
  keys = i.keys;
  messages = i.messages;
  body = i.body;
  next = i.next;
  opened = subst (History cipher start es) i.channel h;
  read = i.read;
  strict = i.strict;
  code = i.code;
}

-- a list is empty, or has a last element
ends_how : {X : Type 0} (xs : List X) → (xs ≡ []) ⊎ ((ys : List X) × ((y : X) × (xs ≡ ys ++ y ∷ [])))
ends_how [] = inl refl
ends_how (x ∷ xs) =
    ⊎_elim
    (λ (e : xs ≡ []). inr ([], (x, ap (λ l. x ∷ l) e)))
    (λ h. inr (x ∷ h.0, (h.1.0, ap (λ l. x ∷ l) h.1.1)))
    (ends_how xs)

-- one event more: a cut of the events is at it, or before it
lawful_more : (cipher : Algorithm) (start : Held) (es : List Event) (e : Event) → Lawful cipher start es → ((cmd answer : List ℕ) (c : Apdu) (i : Management) → e ≡ answered cmd answer → apdu cmd ≡ Some c → instruction_of management_of c.instruction ≡ Some (Manage i) → is9000 answer ≡ true → Inside cipher start es c) → Lawful cipher start (es ++ e ∷ [])
lawful_more cipher start es e was here before later cmd answer c i cut parsed ins moves done =
    let said = answered cmd answer in
    ⊎_elim
    (λ (none : later ≡ []).
    let both = same_from_push es before e said (cut ∙ ap (λ l. before ++ said ∷ l) none) in
    let P : List Event → Type 0 = λ l. Inside cipher start l c in
    subst P both.0 (here cmd answer c i both.1 parsed ins done))
    (λ h.
    let both = same_from_push es (before ++ said ∷ h.0) e h.1.0 (cut ∙ ap (λ l. before ++ said ∷ l) h.1.1 ∙ sym (append_assoc before (said ∷ h.0) (h.1.0 ∷ []))) in
    was before h.0 cmd answer c i both.0 parsed ins moves done)
    (ends_how later)

no_event : {X : Type 0} (before later : List X) (x : X) → [] ≡ before ++ x ∷ later → ⊥
no_event before later x e = omega (arith, ap length e ∙ length-append before (x ∷ later))

pub ran_lawful : {cipher : Algorithm} {m n : Model} {es : List Event} → m.channel ≡ Closed → Ran cipher m es n → Lawful cipher m.contents es
ran_lawful closed (begun fit) = λ before later cmd answer c i cut parsed ins moves done. absurd (no_event before later (answered cmd answer) cut)
ran_lawful {cipher} {m} closed (then {es} {n} e r g fit) =
    lawful_more cipher m.contents es e (ran_lawful closed r)
    (λ cmd answer c i is parsed ins done. inside_since cipher m.contents es c (next_inside cipher n (observed cipher (plain_card m.contents idle) es) e cmd answer c i (ran_follows closed r) g is parsed ins done) (ran_since r))
