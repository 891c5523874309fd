-- The plain card's contents are altered by the changes alone.
use Rattle.std.proofs.Common.{◌≡◌, ℕ, Bool, true, false, cond, ◌&&◌, List, [], ◌∷◌, ◌++◌, Some, None, Ok, Err, Option, Result, sym, refl, ap, ◌∙◌}
use Rattle.answers.specs.declared.StatusWord.{StatusWord}
use Rattle.apdu.specs.declared.Instruction.{Instruction}
use Rattle.apdu.specs.declared.Instruction.TheVariants.{Select, InitializeUpdate, ExternalAuthenticate, Manage}
use Rattle.apdu.specs.declared.Management.{Management}
use Rattle.apdu.specs.Apdu.{Apdu, apdu, changing, management_of}
use Rattle.card.specs.Admitting.{admitted}
use Rattle.card.specs.Channels.{plain_allowed}
use Rattle.cipher.specs.Blocks.{Algorithm}
use Rattle.contents.specs.Held.{Held}
use Rattle.rules.specs.Own.{Change, applied}
use Rattle.scp01.specs.declared.Level.{Level}
use Rattle.cipher.specs.declared.Keys.{Keys}
use Rattle.scp01.specs.Inside.{unwrapped}
use Rattle.runs.specs.Events.{Event, reset, answered, is9000}
use Rattle.runs.specs.Plain.{PlainCard, Line, idle, asked, talking, Message, session_of, read_as, in_channel, noted_as, noted_if, noted, observe, observed}
use Rattle.runs.specs.Laws.{read_change, change_inside, change_as, change_if, change_by, change_in, changes_in, altered}

none_or_none : (h : Held) (b : Bool) → h ≡ altered h (cond b [] [])
none_or_none h true = refl
none_or_none h false = refl

read_alters : (cipher : Algorithm) (h : Held) (level : Level) (keys : Keys) (ms : List Message) (i : Management) (c : Apdu) (answer : List ℕ) (b : Bool) (o : Option (List ℕ × List ℕ)) → changing i && is9000 answer ≡ b → (read_as cipher h level keys ms i c answer o).contents ≡ altered h (cond b (read_change cipher i c keys o) [])
read_alters cipher h level keys ms i c answer b None e = none_or_none h b
read_alters cipher h level keys ms i c answer true (Some read) e = rw e refl
read_alters cipher h level keys ms i c answer false (Some read) e = rw e refl

inside_alters : (cipher : Algorithm) (h : Held) (l : Line) (i : Management) (c : Apdu) (answer : List ℕ) → (in_channel cipher h l i c answer).contents ≡ altered h (cond (changing i && is9000 answer) (change_inside cipher h l i c) [])
inside_alters cipher h idle i c answer = none_or_none h (changing i && is9000 answer)
inside_alters cipher h (asked k host card) i c answer = none_or_none h (changing i && is9000 answer)
inside_alters cipher h (talking level keys ms) i c answer =
    read_alters cipher h level keys ms i c answer (changing i && is9000 answer) (unwrapped cipher (session_of cipher level keys ms) (plain_allowed h.state) c level) refl

as_alters : (cipher : Algorithm) (p : PlainCard) (i : Instruction Management) (c : Apdu) (answer : List ℕ) → (noted_as cipher p i c answer).contents ≡ altered p.contents (change_as cipher p i c answer)
as_alters cipher p Select c answer = refl
as_alters cipher p InitializeUpdate c answer = refl
as_alters cipher p ExternalAuthenticate c answer = refl
as_alters cipher p (Manage i) c answer = inside_alters cipher p.contents p.line i c answer

if_alters : (cipher : Algorithm) (p : PlainCard) (r : Result (Instruction Management) StatusWord) (c : Apdu) (answer : List ℕ) → (noted_if cipher p r c answer).contents ≡ altered p.contents (change_if cipher p r c answer)
if_alters cipher p (Err status) c answer = refl
if_alters cipher p (Ok i) c answer = as_alters cipher p i c answer

by_alters : (cipher : Algorithm) (p : PlainCard) (o : Option Apdu) (answer : List ℕ) → (noted cipher p o answer).contents ≡ altered p.contents (change_by cipher p o answer)
by_alters cipher p None answer = refl
by_alters cipher p (Some c) answer = if_alters cipher p (admitted management_of p.contents.state c) c answer

event_alters : (cipher : Algorithm) (p : PlainCard) (e : Event) → (observe cipher p e).contents ≡ altered p.contents (change_in cipher p e)
event_alters cipher p reset = refl
event_alters cipher p (answered cmd answer) = by_alters cipher p (apdu cmd) answer

altered_more : (h : Held) (xs ys : List Change) → altered h (xs ++ ys) ≡ altered (altered h xs) ys
altered_more h [] ys = refl
altered_more h (x ∷ xs) ys = altered_more (applied h x) xs ys

pub events_alter : (cipher : Algorithm) (p : PlainCard) (es : List Event) → (observed cipher p es).contents ≡ altered p.contents (changes_in cipher p es)
events_alter cipher p [] = refl
events_alter cipher p (e ∷ es) =
    events_alter cipher (observe cipher p e) es
    ∙ ap (λ (h : Held). altered h (changes_in cipher (observe cipher p e) es)) (event_alters cipher p e)
    ∙ sym (altered_more p.contents (change_in cipher p e) (changes_in cipher (observe cipher p e) es))
