-- One turn of a card, and one turn more.
use Rattle.std.proofs.Common.{◌≡◌, ℕ, ◌+◌, ◌<◌, ◌≤◌, false, ltb, List, [], ◌∷◌, ◌++◌, map, length, get_or, take, drop, Ok, Err, sym, refl, ap, ◌∙◌, subst, arith, le-ltb}
use native.Mathlib.Nat.{sub-zero}
use Rattle.std.proofs.lemmas.List.{take_at, length-append, map_push, map_more}
use Rattle.answers.specs.declared.Refusal.{Refusal}
use Rattle.answers.specs.Areas.{fronted}
use Rattle.answers.specs.Replies.{reply_bytes}
use Rattle.card.specs.Cards.{Processed, processed}
use Rattle.card.specs.Models.{Model, Fit}
use Rattle.card.specs.Taking.{responded}
use Rattle.cipher.specs.Blocks.{Algorithm}
use Rattle.runs.specs.declared.turns.Turn.{Turn}
use Rattle.runs.specs.Events.{Event, Input, command, input_of}
use Rattle.runs.specs.Runs.{Ran, begun, then}
use Rattle.runs.specs.Turns.{input_in, Pair, event_of, Handed, HandedIn, Turned, Played}
use Rattle.apdu.specs.Apdu.{management_of}
use Rattle.rules.specs.Own.{own_rule}

pub front_within : (before bytes area : List ℕ) (k : ℕ) → area ≡ fronted before bytes → k ≡ length bytes → k ≤ length area
front_within before bytes area k is count = rw (is, length-append bytes (drop (length bytes) before)) (omega arith)

pub handed : (cipher : Algorithm) (m n : Model) (cmd before work area worked : List ℕ) (k : ℕ) → 258 ≤ length before → 256 ≤ length work → Processed (Ok k) n area worked (processed management_of own_rule cipher m cmd before work) → Handed cipher m n cmd area k
handed cipher m n cmd before work area worked k room space p =
    let out = responded management_of own_rule cipher m cmd in
    let a : ltb (length before) 258 ≡ false = le-ltb (length before) 258 room in
    let b : ltb (length work) 256 ≡ false = le-ltb (length work) 256 space in
    let q : Processed (Ok k) n area worked (Ok (length (reply_bytes out.1)), out.0, fronted before (reply_bytes out.1), _) = rw (a, b) at p in
    let count : k ≡ length (reply_bytes out.1) = let r = q.result in cc in
    record {
      answer = ap (λ (j : ℕ). take j area) (sub-zero k) ∙ ap (take k) q.answer ∙ take_at (reply_bytes out.1) _ k (sym count);
      within = front_within before (reply_bytes out.1) area k q.answer count;
      model = q.model;
    }

-- and it is not refused
pub never_cramped : (cipher : Algorithm) (m n : Model) (cmd before work area worked : List ℕ) (e : Refusal) → 258 ≤ length before → 256 ≤ length work → Processed (Err e) n area worked (processed management_of own_rule cipher m cmd before work) → ⊥
never_cramped cipher m n cmd before work area worked e room space p =
    let out = responded management_of own_rule cipher m cmd in
    let a : ltb (length before) 258 ≡ false = le-ltb (length before) 258 room in
    let b : ltb (length work) 256 ≡ false = le-ltb (length work) 256 space in
    let q : Processed (Err e) n area worked (Ok (length (reply_bytes out.1)), out.0, fronted before (reply_bytes out.1), _) = rw (a, b) at p in
    let r = q.result in
    let z : ◌≡◌ {A = ℕ} 0 1 = cc in
    omega arith

-- it is a turn
pub handed_turned : (cipher : Algorithm) (m n : Model) (cmd : List ℕ) (x : Pair) → HandedIn cipher m n cmd x → Turned cipher m n (command cmd) (event_of x)
handed_turned cipher m n cmd x h = record {
  same = ap command h.command;
  gives = h.answer ∙ ap (λ (b : List ℕ). reply_bytes (responded management_of own_rule cipher m b).1) (sym h.command);
  model = h.model ∙ ap (λ (b : List ℕ). (responded management_of own_rule cipher m b).0) (sym h.command);
  fit = h.fit;
}

-- one turn more
pub ran_more : (cipher : Algorithm) (m n n' : Model) (es : List Event) (i : Input) (e : Event) → Ran cipher m es n → Turned cipher n n' i e → Ran cipher m (es ++ e ∷ []) n'
ran_more cipher m n n' es i e r t =
    let P : Model → Type 0 = λ x. Ran cipher m (es ++ e ∷ []) x in
    let Q : Model → Type 0 = λ x. Fit x in
    subst P (sym t.model) (then e r t.gives (subst Q t.model t.fit))

pub inputs_more : (es : List Event) (e : Event) (ts : List Turn) (k : ℕ) (d : Turn) → map input_of es ≡ map input_in (take k ts) → input_of e ≡ input_in (get_or ts k d) → k < length ts → map input_of (es ++ e ∷ []) ≡ map input_in (take (k + 1) ts)
inputs_more es e ts k d was same lt =
    map_push input_of es e ∙ ap (λ (x : List Input). x ++ input_of e ∷ []) was ∙ ap (λ (y : Input). map input_in (take k ts) ++ y ∷ []) same ∙ sym (map_more input_in ts k d lt)

-- nothing is handed in yet
pub played_none : (cipher : Algorithm) (m : Model) (es : List Event) → Fit m → es ≡ [] → Played cipher m m [] es
played_none cipher m es fit none =
    let P : List Event → Type 0 = λ x. Played cipher m m [] x in
    subst P (sym none) (record { ran = begun fit; inputs = refl })

-- one turn more is handed in
pub played_more : (cipher : Algorithm) (m n n' : Model) (es all : List Event) (e : Event) (ts : List Turn) (k : ℕ) (d : Turn) → Played cipher m n (map input_in (take k ts)) es → Turned cipher n n' (input_in (get_or ts k d)) e → k < length ts → all ≡ es ++ e ∷ [] → Played cipher m n' (map input_in (take (k + 1) ts)) all
played_more cipher m n n' es all e ts k d p t lt is =
    let P : List Event → Type 0 = λ x. Played cipher m n' (map input_in (take (k + 1) ts)) x in
    subst P (sym is) (record { ran = ran_more cipher m n n' es (input_in (get_or ts k d)) e p.ran t; inputs = inputs_more es e ts k d p.inputs t.same lt })
