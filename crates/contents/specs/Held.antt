-- What a card holds, and what always holds of it.
use Rattle.std.specs.Prelude.{ℕ, ◌-◌, Bool, true, false, not, ◌&&◌, List, [], ◌∷◌, ◌++◌, length, replicate, ◌==◌, nat_le}
use Rattle.std.specs.List.{list_all, list_any}
use Rattle.std.specs.Str.{bytes_eq}
use Rattle.contents.specs.declared.life.CardState.{CardState}
use Rattle.contents.specs.declared.life.EntryKind.{EntryKind}
use Rattle.contents.specs.declared.life.EntryKind.TheVariants.{LoadFile, Application}
use Rattle.contents.specs.declared.life.EntryState.{EntryState}
use Rattle.contents.specs.declared.life.EntryState.TheVariants.{Loaded, Installed, Selectable, Personalized, Blocked}
use Rattle.contents.specs.declared.records.Aid.{Aid}
use Rattle.contents.specs.declared.records.Entry.{Entry}
use Rattle.contents.specs.declared.records.KeySet.{KeySet}
use Rattle.contents.specs.Records.{aid_bytes, name_of, card_manager, bears, has_version}

pub record Held : Type 0 where
  pub state : CardState
  pub diversification : List ℕ
  pub sets : List KeySet
  pub entries : List Entry

-- the bytes of a name, and 00 at the other places of sixteen
abbrev pub filled_name : Aid → List ℕ
filled_name a = aid_bytes a ++ replicate (16 - a.len) 0

-- five to sixteen bytes, and 00 at the other places
abbrev pub sound_aid : Aid → Bool
sound_aid a =
    (length a.bytes == 16)
    && (nat_le 5 a.len && (nat_le a.len 16 && bytes_eq a.bytes (filled_name a)))

-- a load file is loaded, an application is not
abbrev pub state_fits : EntryKind → EntryState → Bool
state_fits LoadFile Loaded = true
state_fits LoadFile Installed = false
state_fits LoadFile Selectable = false
state_fits LoadFile Personalized = false
state_fits LoadFile Blocked = false
state_fits Application Loaded = false
state_fits Application Installed = true
state_fits Application Selectable = true
state_fits Application Personalized = true
state_fits Application Blocked = true

-- a load file has no privileges
abbrev pub privileges_fit : EntryKind → ℕ → Bool
privileges_fit LoadFile p = p == 0
privileges_fit Application p = true

abbrev pub sound_entry : Entry → Bool
sound_entry e =
    sound_aid e.aid
    && (state_fits e.kind e.state && (privileges_fit e.kind e.privileges && not (bytes_eq (name_of e) card_manager)))

-- a version from 01 to 7F, and three keys of sixteen bytes
abbrev pub sound_key_set : KeySet → Bool
sound_key_set k =
    nat_le 1 k.version
    && (nat_le k.version 0x7F && (length k.keys.enc == 16 && (length k.keys.mac == 16 && length k.keys.kek == 16)))

abbrev pub all : {X : Type 0} → (X → Bool) → List X → Bool
all p xs = list_all p xs

abbrev pub any : {X : Type 0} → (X → Bool) → List X → Bool
any p xs = list_any p xs

-- no element is the same as a later one
abbrev pub distinct : {X : Type 0} → (X → X → Bool) → List X → Bool
distinct same [] = true
distinct same (x ∷ xs) = not (any (same x) xs) && distinct same xs

abbrev pub same_name : Entry → Entry → Bool
same_name e f = bears (name_of e) f

abbrev pub same_version : KeySet → KeySet → Bool
same_version j k = has_version j.version k

-- ten bytes of diversification data; one to four key sets, each sound, no two of one version; at most twelve entries, each
-- sound, no two of one name
abbrev pub sound_sets : List KeySet → Bool
sound_sets ks = nat_le 1 (length ks) && (nat_le (length ks) 4 && (all sound_key_set ks && distinct same_version ks))

abbrev pub sound_entries : List Entry → Bool
sound_entries es = nat_le (length es) 12 && (all sound_entry es && distinct same_name es)

abbrev pub sound : Held → Bool
sound h = length h.diversification == 10 && (sound_sets h.sets && sound_entries h.entries)
