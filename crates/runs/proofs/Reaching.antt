-- What is handed in takes a card's run on.
use Rattle.std.proofs.Common.{◌≡◌, ℕ, List, [], ◌∷◌, ◌++◌, map, take, Some, None, Ok, Err, Option, Result, sym, refl, ap, ◌∙◌, subst, append_assoc}
use Rattle.answers.specs.declared.Refusal.{Refusal}
use Rattle.answers.specs.Replies.{reply_bytes}
use Rattle.card.specs.Models.{Model, Fit}
use Rattle.card.specs.Taking.{responded}
use Rattle.cipher.specs.Blocks.{Algorithm}
use Rattle.terminal.specs.Sides.{Side, Outcome, update_command, wraps}
use Rattle.runs.specs.Conversing.{Began, CarriedAs, Carried, events_if, opening_events, blank}
use Rattle.runs.specs.Events.{Event, Input, command, input_of}
use Rattle.runs.specs.Runs.{Ran, Onward}
use Rattle.runs.specs.Sending.{SentAs, Sent, sending_event}
use Rattle.runs.specs.Serving.{Sending}
use Rattle.runs.specs.Turns.{Pair, event_of, HandedIn, Played}
use Rattle.runs.proofs.Turning.{handed_turned, ran_more}
use Rattle.apdu.specs.Apdu.{management_of}
use Rattle.rules.specs.Own.{own_rule}

pub none_behind : {X : Type 0} (xs : List X) → xs ++ [] ≡ xs
none_behind [] = refl
none_behind {X} (x ∷ xs) = ap (λ (ys : List X). x ∷ ys) (none_behind xs)

map_behind : {X Y : Type 0} (f : X → Y) (xs ys : List X) → map f (xs ++ ys) ≡ map f xs ++ map f ys
map_behind f [] ys = refl
map_behind {X} {Y} f (x ∷ xs) ys = ap (λ (zs : List Y). f x ∷ zs) (map_behind f xs ys)

pub onward_none : (cipher : Algorithm) (m n : Model) → n ≡ m → Onward cipher m [] n
onward_none cipher m n is start es r =
    let P : Model → Type 0 = λ x. Ran cipher start (es ++ []) x in
    let Q : List Event → Type 0 = λ x. Ran cipher start x m in
    subst P (sym is) (subst Q (sym (none_behind es)) r)

onward_by : (cipher : Algorithm) (m n : Model) (cmd : List ℕ) (x : Pair) → HandedIn cipher m n cmd x → Onward cipher m (event_of x ∷ []) n
onward_by cipher m n cmd x h start es r = ran_more cipher start m n es (command cmd) (event_of x) r (handed_turned cipher m n cmd x h)

pub onward_then : (cipher : Algorithm) (m mid n : Model) (xs ys : List Event) → Onward cipher m xs mid → Onward cipher mid ys n → Onward cipher m (xs ++ ys) n
onward_then cipher m mid n xs ys a b start es r =
    let P : List Event → Type 0 = λ x. Ran cipher start x n in
    subst P (append_assoc es xs ys) (b start (es ++ xs) (a start es r))

-- and nothing after them
pub onward_some : (cipher : Algorithm) (m n : Model) (xs : List Event) → Onward cipher m xs n → Onward cipher m (xs ++ []) n
onward_some cipher m n xs a = let P : List Event → Type 0 = λ ys. Onward cipher m ys n in subst P (sym (none_behind xs)) a

-- opening a channel

carried_onward : (cipher : Algorithm) (m n : Model) (k : Result ℕ Refusal) (area : List ℕ) (noted : Option Pair) → CarriedAs cipher m n k area noted → Onward cipher m (events_if noted) n
carried_onward cipher m n (Err e) area noted c =
    let P : Option Pair → Type 0 = λ o. Onward cipher m (events_if o) n in
    subst P (sym c.0) (onward_none cipher m n c.1)
carried_onward cipher m n (Ok k) area noted c =
    let P : Option Pair → Type 0 = λ o. Onward cipher m (events_if o) n in
    subst P (sym c.1) (onward_by cipher m n (take k area) c.0 c.2)

pub opening_onward : (cipher : Algorithm) (m mid n : Model) (t u : Side) (host : List ℕ) (x : Pair) (o : Outcome) (noted : Option Pair) → Began cipher m mid t u host x → Carried cipher mid n o noted → Onward cipher m (opening_events (x, noted)) n
opening_onward cipher m mid n t u host x o noted b c =
    onward_then cipher m mid n (event_of x ∷ []) (events_if noted) (onward_by cipher m mid (update_command t.version host) x b.handed) (carried_onward cipher mid n o.0 o.2 noted c)

-- sending one bare command more

abbrev pub noted_as : Option Sending → List Sending
noted_as None = []
noted_as (Some s) = s ∷ []

sent_as_onward : (cipher : Algorithm) (m n : Model) (bare : List ℕ) (k : Result ℕ Refusal) (area : List ℕ) (noted : Option Sending) → Fit n → SentAs cipher m n bare k area noted → Onward cipher m (map sending_event (noted_as noted)) n
sent_as_onward cipher m n bare (Err e) area noted fit s =
    let P : Option Sending → Type 0 = λ o. Onward cipher m (map sending_event (noted_as o)) n in
    subst P (sym s.0) (onward_none cipher m n s.1)
sent_as_onward cipher m n bare (Ok k) area noted fit s =
    let cmd = take k area in
    let x : Pair = (cmd, reply_bytes (responded management_of own_rule cipher m cmd).1) in
    let P : Option Sending → Type 0 = λ o. Onward cipher m (map sending_event (noted_as o)) n in
    subst P (sym s.0) (onward_by cipher m n cmd x (record { command = refl; answer = refl; model = s.1; fit = fit }))

pub onward_start : (cipher : Algorithm) (m : Model) (sendings : List Sending) → sendings ≡ [] → Onward cipher m (map sending_event sendings) m
onward_start cipher m sendings none =
    let P : List Sending → Type 0 = λ xs. Onward cipher m (map sending_event xs) m in
    subst P (sym none) (onward_none cipher m m refl)

pub sent_onward : (cipher : Algorithm) (start m n : Model) (t u : Side) (bare : List ℕ) (sendings all : List Sending) (noted : Option Sending) → Onward cipher start (map sending_event sendings) m → Fit n → Sent cipher m n t u bare noted → all ≡ sendings ++ noted_as noted → Onward cipher start (map sending_event all) n
sent_onward cipher start m n t u bare sendings all noted before fit s more =
    let o = wraps cipher t bare blank in
    let P : List Event → Type 0 = λ es. Onward cipher start es n in
    subst P (sym (map_behind sending_event sendings (noted_as noted)) ∙ ap (map sending_event) (sym more))
    (onward_then cipher start m n (map sending_event sendings) (map sending_event (noted_as noted)) before (sent_as_onward cipher m n bare o.0 o.2 noted fit s.card))

-- turns, and what came after them
pub played_on : (cipher : Algorithm) (m mid n : Model) (handed : List Input) (events more : List Event) → Played cipher m mid handed events → Onward cipher mid more n → Played cipher m n (handed ++ map input_of more) (events ++ more)
played_on cipher m mid n handed events more p on = record {
  ran = on m events p.ran;
  inputs = map_behind input_of events more ∙ ap (λ (xs : List Input). xs ++ map input_of more) p.inputs;
}
