-- After every run the card is what the plain card says.
use Rattle.std.proofs.Common.{◌≡◌, ℕ, true, List, length, Some, None, Ok, Err, Option, Result, sym, refl, subst, arith}
use Rattle.std.proofs.lemmas.List.Sums.{fold_push}
use Rattle.std.proofs.lemmas.Bool.Decides.{nat_tests}
use Rattle.answers.specs.declared.StatusWord.{StatusWord}
use Rattle.answers.specs.Replies.{reply_bytes}
use Rattle.apdu.specs.declared.Instruction.{Instruction}
use Rattle.apdu.specs.declared.Instruction.TheVariants.{Select, InitializeUpdate, ExternalAuthenticate, Manage}
use Rattle.apdu.specs.Apdu.{Apdu, apdu, management_of}
use Rattle.card.specs.Admitting.{admitted}
use Rattle.card.specs.declared.channel.Channel.{Channel}
use Rattle.card.specs.declared.channel.Channel.TheVariants.{Closed}
use Rattle.card.specs.Channels.{sized_channel, entered, used_up}
use Rattle.card.specs.Models.{Model, Fit, model}
use Rattle.card.specs.Taking.{ruled, performed, taken, responded}
use Rattle.challenge.specs.Draws.{Challenges}
use Rattle.cipher.specs.Blocks.{Algorithm}
use Rattle.contents.specs.Held.{Held, sound}
use Rattle.runs.specs.Events.{Event, reset, answered}
use Rattle.runs.specs.Plain.{PlainCard, plain_card, Line, idle, noted_as, noted_if, noted, observe, observed}
use Rattle.runs.specs.Runs.{after, Gives, Ran, begun, then}
use Rattle.runs.specs.Laws.{Follows, Matches}
use Rattle.runs.proofs.Manages.{manage_follows}
use Rattle.runs.proofs.Opens.{update_follows, authenticate_follows}
use Rattle.rules.specs.Own.{own_rule}
use Rattle.apdu.specs.declared.Management.{Management}

rule_follows : (cipher : Algorithm) (h : Held) (x : Channel) (coming : Challenges) (l : Line) (i : Instruction Management) (c : Apdu) → Matches cipher x l → length h.diversification ≡ 10 → sized_channel (ruled own_rule cipher (model h (entered x i) coming) (used_up x i) i c).0.channel ≡ true → Follows cipher (ruled own_rule cipher (model h (entered x i) coming) (used_up x i) i c).0 (noted_as cipher (plain_card h l) i c (reply_bytes (ruled own_rule cipher (model h (entered x i) coming) (used_up x i) i c).1))
rule_follows cipher h x coming l Select c e ten fit = record { line = idle; is = refl; channel = refl }
rule_follows cipher h x coming l InitializeUpdate c e ten fit = update_follows cipher h coming c ten fit
rule_follows cipher h x coming l ExternalAuthenticate c e ten fit = authenticate_follows cipher h coming x l c e
rule_follows cipher h x coming l (Manage i) c e ten fit = manage_follows cipher h x coming l i c e

performed_follows : (cipher : Algorithm) (h : Held) (x : Channel) (coming : Challenges) (l : Line) (r : Result (Instruction Management) StatusWord) (c : Apdu) → Matches cipher x l → length h.diversification ≡ 10 → sized_channel (performed own_rule cipher (model h x coming) r c).0.channel ≡ true → Follows cipher (performed own_rule cipher (model h x coming) r c).0 (noted_if cipher (plain_card h l) r c (reply_bytes (performed own_rule cipher (model h x coming) r c).1))
performed_follows cipher h x coming l (Err status) c e ten fit = record { line = l; is = refl; channel = e }
performed_follows cipher h x coming l (Ok i) c e ten fit = rule_follows cipher h x coming l i c e ten fit

taken_follows : (cipher : Algorithm) (h : Held) (x : Channel) (coming : Challenges) (l : Line) (o : Option Apdu) → Matches cipher x l → length h.diversification ≡ 10 → sized_channel (taken management_of own_rule cipher (model h x coming) o).0.channel ≡ true → Follows cipher (taken management_of own_rule cipher (model h x coming) o).0 (noted cipher (plain_card h l) o (reply_bytes (taken management_of own_rule cipher (model h x coming) o).1))
taken_follows cipher h x coming l None e ten fit = record { line = l; is = refl; channel = e }
taken_follows cipher h x coming l (Some c) e ten fit = performed_follows cipher h x coming l (admitted management_of h.state c) c e ten fit

-- a card's diversification data has ten bytes
pub ten_bytes : (h : Held) → sound h ≡ true → length h.diversification ≡ 10
ten_bytes h s = grind (arith, nat_tests)

pub event_follows : (cipher : Algorithm) (m : Model) (p : PlainCard) (e : Event) → Follows cipher m p → Fit m → Gives cipher m e → Fit (after cipher m e) → Follows cipher (after cipher m e) (observe cipher p e)
event_follows cipher m p reset f fit g next =
    let P : PlainCard → Type 0 = λ q. Follows cipher (after cipher m reset) (observe cipher q reset) in
    subst P (sym f.is) (record { line = idle; is = refl; channel = refl })
event_follows cipher m p (answered cmd answer) f fit g next =
    let P : PlainCard → Type 0 = λ q. Follows cipher (responded management_of own_rule cipher m cmd).0 (observe cipher q (answered cmd answer)) in
    let Q : List ℕ → Type 0 = λ a. Follows cipher (responded management_of own_rule cipher m cmd).0 (observe cipher (plain_card m.contents f.line) (answered cmd a)) in
    subst P (sym f.is)
    (subst Q (sym g) (taken_follows cipher m.contents m.channel m.coming f.line (apdu cmd) f.channel (ten_bytes m.contents fit.contents) next.channel))

pub ran_fit : {cipher : Algorithm} {m n : Model} {es : List Event} → Ran cipher m es n → Fit n
ran_fit (begun fit) = fit
ran_fit (then e r g fit) = fit

pub ran_follows : {cipher : Algorithm} {m n : Model} {es : List Event} → m.channel ≡ Closed → Ran cipher m es n → Follows cipher n (observed cipher (plain_card m.contents idle) es)
ran_follows {cipher} {m} closed (begun fit) =
    let P : Channel → Type 0 = λ x. Matches cipher x idle in
    record { line = idle; is = refl; channel = subst P (sym closed) refl }
ran_follows {cipher} {m} closed (then {es} {n} e r g fit) =
    let P : PlainCard → Type 0 = λ q. Follows cipher (after cipher n e) q in
    subst P (sym (fold_push (observe cipher) (plain_card m.contents idle) es e))
    (event_follows cipher n (observed cipher (plain_card m.contents idle) es) e (ran_follows closed r) (ran_fit r) g fit)
