-- Key sets and registry entries: their names, and which of them a card may hold.
use Rattle.std.specs.Prelude.{ℕ, Bool, true, false, cond, List, [], ◌∷◌, take, Some, None, Option, ◌==◌, slice_index_or}
use Rattle.std.specs.Option.{option_map}
use Rattle.std.specs.Str.{bytes_eq}
use Rattle.contents.specs.Search.{first_of}
use Rattle.contents.specs.declared.life.EntryKind.{EntryKind}
use Rattle.contents.specs.declared.life.EntryKind.TheVariants.{LoadFile, Application}
use Rattle.contents.specs.declared.life.EntryState.TheVariants.{Loaded}
use Rattle.contents.specs.declared.records.Aid.{Aid}
use Rattle.contents.specs.declared.records.Entry.{Entry}
use Rattle.contents.specs.declared.records.KeySet.{KeySet}
use Rattle.contents.specs.declared.table.Table.{Table}

-- the bytes of an AID, without what fills its sixteen places
abbrev pub aid_bytes : Aid → List ℕ
aid_bytes a = take a.len a.bytes

abbrev pub name_of : Entry → List ℕ
name_of e = aid_bytes e.aid

-- the card manager's own AID, which no entry bears
abbrev pub card_manager : List ℕ
card_manager = 0xA0 ∷ 0x00 ∷ 0x00 ∷ 0x00 ∷ 0x03 ∷ 0x00 ∷ 0x00 ∷ 0x00 ∷ []

abbrev pub bears : List ℕ → Entry → Bool
bears name e = bytes_eq (name_of e) name

abbrev pub has_version : ℕ → KeySet → Bool
has_version v k = k.version == v

abbrev pub is_application_kind : EntryKind → Bool
is_application_kind LoadFile = false
is_application_kind Application = true

abbrev pub is_application : Entry → Bool
is_application e = is_application_kind e.kind

-- what stands at a place that is not in use
abbrev pub no_entry : Entry
no_entry = record { kind = LoadFile; aid = record { bytes = []; len = 0 }; state = Loaded; privileges = 0 }

abbrev pub no_key_set : KeySet
no_key_set = record { version = 0; keys = record { enc = []; mac = []; kek = [] } }

-- the records at the places that are in use, in order
abbrev pub listed : {R : Type 0} {N : ℕ} → Table R N → List R
listed t = take t.count t.records

-- the record at a place that a search found
abbrev pub set_at : List KeySet → Option ℕ → Option KeySet
set_at ks at = option_map (λ i. slice_index_or ks i no_key_set) at

abbrev pub entry_at : List Entry → Option ℕ → Option Entry
entry_at es at = option_map (λ i. slice_index_or es i no_entry) at

abbrev pub first_set : List KeySet → Option KeySet
first_set [] = None
first_set (k ∷ ks) = Some k

abbrev pub set_of_version : ℕ → List KeySet → Option KeySet
set_of_version v ks = set_at ks (first_of (has_version v) ks)

-- the key set that a version asks for, where 00 asks for the first
abbrev pub chosen_set : ℕ → List KeySet → Option KeySet
chosen_set v ks = cond (v == 0) (first_set ks) (set_of_version v ks)

abbrev pub entry_named : List ℕ → List Entry → Option Entry
entry_named name es = entry_at es (first_of (bears name) es)
