-- What a channel command moves: a changing command answered 9000 its change, and any other nothing.
use Rattle.std.proofs.Common.{◌≡◌, ℕ, Bool, true, false, cond, not, ◌&&◌, eqb, leb, List, [], ◌∷◌, length, get_or, take, drop, Some, None, Ok, Err, Option, sym, refl, ap, ◌∙◌, arith}
use Rattle.std.proofs.lemmas.Bool.{eqb-true}
use Rattle.std.proofs.lemmas.Bool.Decides.{nat_tests}
use Rattle.std.specs.Option.{option_map}
use Rattle.std.specs.Str.{bytes_eq}
use Rattle.answers.specs.declared.StatusWord.{StatusWord}
use Rattle.answers.specs.declared.StatusWord.TheVariants as sw
use Rattle.answers.specs.Replies.{Reply, reply}
use Rattle.apdu.specs.declared.Management.{Management}
use Rattle.apdu.specs.declared.Management.TheVariants.{GetStatus, SetStatus, Install, Delete, PutKey}
use Rattle.apdu.specs.Apdu.{changing}
use Rattle.cipher.specs.Blocks.{Algorithm, zeros}
use Rattle.contents.specs.declared.life.CardState.{CardState}
use Rattle.contents.specs.declared.life.CardState.TheVariants as card
use Rattle.contents.specs.declared.life.EntryState.{EntryState}
use Rattle.contents.specs.declared.life.EntryState.TheVariants as entry
use Rattle.contents.specs.declared.records.Entry.{Entry}
use Rattle.contents.specs.declared.records.KeySet.{KeySet}
use Rattle.contents.specs.Life.{card_state, card_state_value, application_state, entry_state_value}
use Rattle.contents.specs.Held.{Held, any}
use Rattle.contents.specs.Records.{card_manager, has_version, entry_named, is_application}
use Rattle.contents.specs.Changes.{in_card_state, in_state_named, with_application, is_version, borne_by_other}
use Rattle.rules.specs.declared.new_keys.KeyField.{KeyField}
use Rattle.rules.specs.declared.new_keys.NewKeys.{NewKeys}
use Rattle.rules.specs.Rules.{refused, unless_locked, is_locked, and_then}
use Rattle.rules.specs.SetStatus.{of_value, card_steps, application_steps, card_step, application_step, card_stepped, card_set, application_stepped, entry_set, application_set, set_status}
use Rattle.rules.specs.Install.{Asked, state_by_p1, installation_in, installed_by, installed_in, installed}
use Rattle.rules.specs.Delete.{deleted}
use Rattle.rules.specs.NewKeys.{field_of}
use Rattle.rules.specs.PutKey.{unwrapped, own_algorithm, with_set_put, set_put, placed_put, keys_put, body_put, key_put}
use Rattle.rules.specs.Own.{own_rule, is_success, change_of, changed_by, with_status, with_installed, without_deleted, with_keys, keys_for, applied}

-- with 9000 the contents are those of the change, and with another status word nothing has moved
record Moves (h g : Held) (out : Held × Reply) : Type 0 where
  contents : out.0 ≡ cond (is_success out.1.status) g h

refuses : (h g : Held) (status : StatusWord) → is_success status ≡ false → Moves h g (refused h status)
refuses h g status e = record { contents = sym (ap (λ (b : Bool). cond b g h) e) }

answers : (h g : Held) (text : List ℕ) → Moves h g (g, reply text sw.Success)
answers h g text = record { contents = refl }

answers_same : (h f g : Held) (text : List ℕ) → f ≡ g → Moves h g (f, reply text sw.Success)
answers_same h f g text e = record { contents = e }

moves_either : (h g : Held) (b : Bool) (x y : Held × Reply) → Moves h g x → Moves h g y → Moves h g (cond b x y)
moves_either h g true x y p q = p
moves_either h g false x y p q = q

moves_unlocked : (h g : Held) (out : Held × Reply) → Moves h g out → Moves h g (unless_locked h out)
moves_unlocked h g out p = moves_either h g (is_locked h.state) _ _ (refuses h g sw.ConditionsNotSatisfied refl) p

-- SET STATUS

abbrev Each : {S : Type 0} → (S → Type 0) → List S → Type 0
Each P [] = Unit {0}
Each P (s ∷ ss) = P s × Each P ss

-- a step leads to the state that its value names
step_named : {S : Type 0} (value : S → ℕ) (named : ℕ → Option S) (v : ℕ) (ss : List S) → Each (λ t. named (value t) ≡ Some t) ss → (s : S) → of_value value v ss ≡ Some s → named v ≡ Some s
step_named value named v [] each s e = let z : ◌≡◌ {A = ℕ} 0 1 = cc in absurd (omega arith)
step_named {S} value named v (t ∷ ss) each s e =
    let P : Bool → Type 0 = λ b. eqb v (value t) ≡ b → cond b (Some t) (of_value value v ss) ≡ Some s → named v ≡ Some s in
    elim (eqb v (value t)) as P [
      | true ↦ λ same f. ap named (eqb-true v (value t) same) ∙ each.0 ∙ f
      | false ↦ λ other f. step_named value named v ss each.1 s f
    ] refl e

card_named : (from : CardState) → Each (λ t. card_state (card_state_value t) ≡ Some t) (card_steps from)
card_named card.OpReady = (refl, (refl, tt))
card_named card.Initialized = (refl, (refl, tt))
card_named card.Secured = (refl, (refl, tt))
card_named card.CmLocked = (refl, (refl, tt))
card_named card.Terminated = (refl, tt)

application_named : (from : EntryState) → Each (λ t. application_state (entry_state_value t) ≡ Some t) (application_steps from)
application_named entry.Loaded = tt
application_named entry.Installed = (refl, tt)
application_named entry.Selectable = (refl, (refl, tt))
application_named entry.Personalized = (refl, tt)
application_named entry.Blocked = (refl, tt)

card_moves : (h : Held) (p2 : ℕ) (o : Option CardState) → ((s : CardState) → o ≡ Some s → card_state p2 ≡ Some s) → Moves h (changed_by in_card_state (card_state p2) h) (card_stepped h o)
card_moves h p2 None named = refuses h _ sw.WrongData refl
card_moves h p2 (Some s) named = answers_same h _ _ [] (ap (λ (o : Option CardState). changed_by in_card_state o h) (sym (named s refl)))

application_moves : (h : Held) (p2 : ℕ) (name : List ℕ) (o : Option EntryState) → ((s : EntryState) → o ≡ Some s → application_state p2 ≡ Some s) → Moves h (changed_by (in_state_named name) (application_state p2) h) (application_stepped h name o)
application_moves h p2 name None named = refuses h _ sw.WrongData refl
application_moves h p2 name (Some s) named = answers_same h _ _ [] (ap (λ (o : Option EntryState). changed_by (in_state_named name) o h) (sym (named s refl)))

entry_moves : (h : Held) (p2 : ℕ) (name : List ℕ) (o : Option Entry) → Moves h (changed_by (in_state_named name) (application_state p2) h) (entry_set h p2 name o)
entry_moves h p2 name None = refuses h _ sw.NotFound refl
entry_moves h p2 name (Some e) =
    moves_either h _ (is_application e) _ _
    (application_moves h p2 name (application_step e.state p2) (step_named entry_state_value application_state p2 (application_steps e.state) (application_named e.state)))
    (refuses h _ sw.NotFound refl)

by_p1 : (h f g : Held) (b d : Bool) (x y : Held × Reply) → Moves h f x → Moves h g y → Moves h (cond b f g) (cond b x (cond d y (refused h sw.WrongParameters)))
by_p1 h f g b d x y p q = record { contents = grind (arith, nat_tests, p.contents, q.contents) }

status_moves : (h : Held) (p1 p2 : ℕ) (body : List ℕ) → Moves h (with_status p1 p2 body h) (set_status h p1 p2 body)
unfolding set_status
status_moves h p1 p2 body =
    by_p1 h _ _ (eqb p1 0x80) (eqb p1 0x40) (card_set h p2 body) (unless_locked h (application_set h p2 body))
    (moves_either h _ (bytes_eq body card_manager) _ _ (card_moves h p2 (card_step h.state p2) (step_named card_state_value card_state p2 (card_steps h.state) (card_named h.state))) (refuses h _ sw.NotFound refl))
    (moves_unlocked h _ _ (entry_moves h p2 body (entry_named body h.entries)))

-- INSTALL

asked_moves : (h : Held) (s : EntryState) (o : Option Asked) → Moves h (changed_by (λ x. with_application x.name s x.privileges) o h) (installed_by h s o)
asked_moves h s None = refuses h _ sw.WrongData refl
asked_moves h s (Some x) = record { contents = grind (arith, nat_tests) }

in_state_moves : (h : Held) (o : Option EntryState) (body : List ℕ) → Moves h (changed_by (λ (x : Asked). changed_by (λ s. with_application x.name s x.privileges) o) (installation_in body) h) (installed_in h o body)
in_state_moves h None body = refuses h _ sw.WrongParameters refl
in_state_moves h (Some s) body = record { contents = grind (arith, nat_tests, (asked_moves h s (installation_in body)).contents) }

by_p2 : (h g : Held) (b : Bool) (o : Option EntryState) (body : List ℕ) → Moves h g (installed_in h o body) → Moves h g (installed_in h (cond b o None) body)
by_p2 h g b o body p = record { contents = grind (arith, nat_tests, p.contents) }

install_moves : (h : Held) (p1 p2 : ℕ) (body : List ℕ) → Moves h (with_installed p1 body h) (installed h p1 p2 body)
unfolding installed
install_moves h p1 p2 body = by_p2 h _ (eqb p2 0x00) (state_by_p1 p1) body (in_state_moves h (state_by_p1 p1) body)

-- DELETE

delete_moves : (h : Held) (p1 p2 : ℕ) (body : List ℕ) → Moves h (without_deleted body h) (deleted h p1 p2 body)
unfolding deleted
delete_moves h p1 p2 body = record { contents = grind (arith, nat_tests) }

-- PUT KEY

abbrev comes : ℕ → KeyField → KeyField → KeyField → NewKeys
comes version e m k = record { version = version; enc = e; mac = m; kek = k }

-- the set of the deciphered keys
abbrev unwrapped_set : (List ℕ → List ℕ) → NewKeys → KeySet
unwrapped_set dec n =
    record { version = n.version; keys = record { enc = unwrapped dec n.enc.key; mac = unwrapped dec n.mac.key; kek = unwrapped dec n.kek.key } }

-- a set of three keys, where three checks are passed
abbrev set_if : ℕ → List ℕ → List ℕ → List ℕ → Bool → Bool → Bool → Option KeySet
set_if version e m k a b d =
    and_then (cond a (Some e) None)
    (λ e. and_then (cond b (Some m) None)
    (λ m. option_map (λ k. record { version = version; keys = record { enc = e; mac = m; kek = k } }) (cond d (Some k) None)))

set_moves : (h : Held) (p1 : ℕ) (n : NewKeys) (version : ℕ) (e m k : List ℕ) (a b d : Bool) → Moves h (with_set_put p1 (record { version = version; keys = record { enc = e; mac = m; kek = k } }) h) (set_put h p1 n (set_if version e m k a b d))
set_moves h p1 n version e m k a b d = record { contents = grind (arith, nat_tests) }

abbrev passes : Algorithm → (List ℕ → List ℕ) → KeyField → Bool
passes cipher dec f = bytes_eq (take 3 (cipher.enc (unwrapped dec f.key) zeros)) f.check

checked_moves : (cipher : Algorithm) (kek : List ℕ) (h : Held) (p1 : ℕ) (n : NewKeys) → Moves h (with_set_put p1 (unwrapped_set (cipher.dec kek) n) h) (placed_put cipher kek h p1 n (Ok tt))
checked_moves cipher kek h p1 n =
    let dec = cipher.dec kek in
    set_moves h p1 n n.version (unwrapped dec n.enc.key) (unwrapped dec n.mac.key) (unwrapped dec n.kek.key) (passes cipher dec n.enc) (passes cipher dec n.mac) (passes cipher dec n.kek)

placed_moves : (cipher : Algorithm) (kek : List ℕ) (h g : Held) (p1 : ℕ) (n : NewKeys) (a b d : Bool) → Moves h g (placed_put cipher kek h p1 n (Ok tt)) → Moves h g (placed_put cipher kek h p1 n (cond a (Err sw.NotFound) (cond b (Err sw.WrongData) (cond d (Err sw.NotEnoughSpace) (Ok tt)))))
placed_moves cipher kek h g p1 n a b d p = record { contents = grind (arith, nat_tests, p.contents) }

keys_moves : (cipher : Algorithm) (kek : List ℕ) (h : Held) (p1 : ℕ) (n : NewKeys) → Moves h (with_set_put p1 (unwrapped_set (cipher.dec kek) n) h) (keys_put cipher kek h p1 n)
keys_moves cipher kek h p1 n =
    let ks = h.sets in
    moves_either h _ (own_algorithm cipher.identifier n) _ _
    (placed_moves cipher kek h _ p1 n (not (eqb p1 0x00) && not (any (has_version p1) ks)) (borne_by_other p1 n.version ks) (eqb p1 0x00 && leb 4 (length ks)) (checked_moves cipher kek h p1 n))
    (refuses h _ sw.AlgorithmUnknown refl)

-- the fields of three keys, where four checks are passed
abbrev comes_if : ℕ → KeyField → KeyField → KeyField → Bool → Bool → Bool → Bool → Option NewKeys
comes_if version e m k t a b d =
    cond t (and_then (cond a (Some e) None) (λ e. and_then (cond b (Some m) None) (λ m. option_map (λ k. record { version = version; enc = e; mac = m; kek = k }) (cond d (Some k) None)))) None

body_moves : (cipher : Algorithm) (kek : List ℕ) (h g : Held) (p1 version : ℕ) (e m k : KeyField) (t a b d : Bool) → Moves h g (keys_put cipher kek h p1 (comes version e m k)) → Moves h g (body_put cipher kek h p1 (comes_if version e m k t a b d))
body_moves cipher kek h g p1 version e m k t a b d p = record { contents = grind (arith, nat_tests, p.contents) }

-- whether a field has its two lengths
abbrev formed : List ℕ → Bool
formed f = eqb (get_or f 1 0) 0x10 && eqb (get_or f 18 0) 0x03

key_moves : (cipher : Algorithm) (kek : List ℕ) (h : Held) (p1 p2 : ℕ) (body : List ℕ) → Moves h (with_keys p1 body (keys_for cipher kek PutKey body) h) (key_put cipher kek h p1 p2 body)
unfolding key_put
key_moves cipher kek h p1 p2 body =
    let e = take 22 (drop 1 body) in
    let m = take 22 (drop 23 body) in
    let k = take 22 (drop 45 body) in
    let version = get_or body 0 0 in
    moves_either h _ (leb p1 0x7F && eqb p2 0x81) _ _
    (moves_unlocked h _ _ (body_moves cipher kek h _ p1 version (field_of e) (field_of m) (field_of k) (eqb (length body) 67 && is_version version) (formed e) (formed m) (formed k) (keys_moves cipher kek h p1 (comes version (field_of e) (field_of m) (field_of k)))))
    (refuses h _ sw.WrongParameters refl)

pub rule_moves : (cipher : Algorithm) (kek : List ℕ) (h : Held) (i : Management) (p1 p2 : ℕ) (body : List ℕ) → (own_rule cipher kek h i p1 p2 body).0 ≡ cond (changing i && is_success (own_rule cipher kek h i p1 p2 body).1.status) (applied h (change_of cipher kek i p1 p2 body)) h
unfolding own_rule applied
rule_moves cipher kek h GetStatus p1 p2 body = refl
rule_moves cipher kek h SetStatus p1 p2 body = (status_moves h p1 p2 body).contents
rule_moves cipher kek h Install p1 p2 body = (install_moves h p1 p2 body).contents
rule_moves cipher kek h Delete p1 p2 body = (delete_moves h p1 p2 body).contents
rule_moves cipher kek h PutKey p1 p2 body = (key_moves cipher kek h p1 p2 body).contents
