-- What may be changed of what a card holds, and what each change leaves as it was.
use Rattle.std.specs.Prelude.{ℕ, Bool, false, not, ◌&&◌, List, [], ◌∷◌, ◌++◌, length, replicate, is_some, Some, None, Option, ◌==◌, nat_le, nat_lt, slice_index_or, slice_set}
use Rattle.std.specs.List.{remove}
use Rattle.std.specs.Str.{bytes_eq}
use Rattle.answers.specs.Areas.{fronted}
use Rattle.contents.specs.declared.life.CardState.{CardState}
use Rattle.contents.specs.declared.life.EntryKind.TheVariants.{Application}
use Rattle.contents.specs.declared.life.EntryState.{EntryState}
use Rattle.contents.specs.declared.records.Aid.{Aid}
use Rattle.contents.specs.declared.records.Entry.{Entry}
use Rattle.contents.specs.declared.records.KeySet.{KeySet}
use Rattle.contents.specs.Search.{first_of}
use Rattle.contents.specs.Records.{no_entry, card_manager, bears, has_version, is_application}
use Rattle.contents.specs.Held.{Held, any, state_fits}

abbrev pub with_entries : List Entry → Held → Held
with_entries es h = record { state = h.state; diversification = h.diversification; sets = h.sets; entries = es }

abbrev pub with_sets : List KeySet → Held → Held
with_sets ks h = record { state = h.state; diversification = h.diversification; sets = ks; entries = h.entries }

-- a card in another state
abbrev pub in_card_state : CardState → Held → Held
in_card_state s h = record { state = s; diversification = h.diversification; sets = h.sets; entries = h.entries }

-- an entry in another state
abbrev pub in_state : EntryState → Entry → Entry
in_state s e = record { kind = e.kind; aid = e.aid; state = s; privileges = e.privileges }

-- the entry at a place is in another state, the other entries are as they were
abbrev pub state_set : List Entry → ℕ → EntryState → List Entry
state_set es i s = slice_set es i (in_state s (slice_index_or es i no_entry))

abbrev pub state_set_at : Option ℕ → EntryState → List Entry → List Entry
state_set_at None s es = es
state_set_at (Some i) s es = state_set es i s

-- the entry of this name is in another state
abbrev pub state_set_named : List ℕ → EntryState → List Entry → List Entry
state_set_named name s es = state_set_at (first_of (bears name) es) s es

abbrev pub in_state_named : List ℕ → EntryState → Held → Held
in_state_named name s h = with_entries (state_set_named name s h.entries) h

-- whether an entry is an application, and the state one that an application may have
abbrev pub takes_state : EntryState → Option Entry → Bool
takes_state s None = false
takes_state s (Some e) = is_application e && state_fits Application s

-- a name has five to sixteen bytes
abbrev pub is_name : List ℕ → Bool
is_name name = nat_le 5 (length name) && nat_le (length name) 16

-- the AID of a name, which stands at the front of sixteen bytes 00
abbrev pub aid_of : List ℕ → Aid
aid_of name = record { bytes = fronted (replicate 16 0) name; len = length name }

abbrev pub new_application : List ℕ → EntryState → ℕ → Entry
new_application name s privileges = record { kind = Application; aid = aid_of name; state = s; privileges = privileges }

-- whether an application of this name may be added in this state: the name is not the card manager's and not in use, and
-- there are fewer than twelve entries
abbrev pub admits : List ℕ → EntryState → List Entry → Bool
admits name s es =
    (is_name name && not (bytes_eq name card_manager))
    && ((not (any (bears name) es) && state_fits Application s) && nat_lt (length es) 12)

-- the application comes last
abbrev pub with_application : List ℕ → EntryState → ℕ → Held → Held
with_application name s privileges h = with_entries (h.entries ++ new_application name s privileges ∷ []) h

abbrev pub removed_at : {X : Type 0} → Option ℕ → List X → List X
removed_at None xs = xs
removed_at (Some i) xs = remove xs i

-- the entry of this name is gone, the others are as they were and in their order
abbrev pub without_named : List ℕ → List Entry → List Entry
without_named name es = removed_at (first_of (bears name) es) es

abbrev pub without_entry : List ℕ → Held → Held
without_entry name h = with_entries (without_named name h.entries) h

-- a version is 01 to 7F
abbrev pub is_version : ℕ → Bool
is_version v = nat_le 0x01 v && nat_le v 0x7F

-- whether a key set of this version may be added: no set has it, and there are fewer than four
abbrev pub admits_set : ℕ → List KeySet → Bool
admits_set v ks = (is_version v && not (any (has_version v) ks)) && nat_lt (length ks) 4

-- the key set comes last
abbrev pub with_new_set : KeySet → Held → Held
with_new_set k h = with_sets (h.sets ++ k ∷ []) h

-- whether a set other than that of one version has a new version
abbrev pub borne_by_other : ℕ → ℕ → List KeySet → Bool
borne_by_other v new ks = not (new == v) && any (has_version new) ks

-- whether the set of one version may be replaced by one of a new version
abbrev pub replaces_set : ℕ → ℕ → List KeySet → Bool
replaces_set v new ks = is_version new && (not (borne_by_other v new ks) && is_some (first_of (has_version v) ks))

abbrev pub replaced_at : {X : Type 0} → Option ℕ → X → List X → List X
replaced_at None x xs = xs
replaced_at (Some i) x xs = slice_set xs i x

-- the key set stands in the place of the one of this version, the others are as they were
abbrev pub replaced_named : ℕ → KeySet → List KeySet → List KeySet
replaced_named v k ks = replaced_at (first_of (has_version v) ks) k ks

abbrev pub with_replaced_set : ℕ → KeySet → Held → Held
with_replaced_set v k h = with_sets (replaced_named v k h.sets) h
