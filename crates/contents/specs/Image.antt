-- The image of what a card holds: how it is written, and what reading one gives.
use Rattle.std.specs.Prelude.{ℕ, zero, suc, Bool, cond, ◌&&◌, List, [], ◌∷◌, ◌++◌, length, take, drop, Some, None, Ok, Err, Option, Result, ◌==◌, nat_lt, slice_index}
use Rattle.std.specs.List.{flat_map}
use Rattle.answers.specs.Areas.{fronted}
use Rattle.answers.specs.declared.Refusal.{Refusal}
use Rattle.answers.specs.declared.Refusal.TheVariants.{RecordKind, ImageEndsEarly, FieldValue, Duplicate, TrailingBytes, AreaTooShort}
use Rattle.contents.specs.declared.life.CardState.{CardState}
use Rattle.contents.specs.declared.life.EntryKind.{EntryKind}
use Rattle.contents.specs.declared.life.EntryState.{EntryState}
use Rattle.contents.specs.declared.records.Entry.{Entry}
use Rattle.contents.specs.declared.records.KeySet.{KeySet}
use Rattle.contents.specs.declared.image.draft.Kind.{Kind}
use Rattle.contents.specs.declared.image.draft.Kind.TheVariants.{Keys, Registered, End}
use Rattle.contents.specs.Life.{card_state_value, card_state, kind_value, entry_kind, entry_state_value, entry_state}
use Rattle.contents.specs.Records.{name_of, bears, has_version}
use Rattle.contents.specs.Held.{Held, any, sound_key_set, sound_entry}

-- Writing. Each record is a byte of kind and a body.

abbrev pub header_bytes : CardState → List ℕ → List ℕ
header_bytes state diversification = 0x01 ∷ card_state_value state ∷ diversification

abbrev pub key_set_bytes : KeySet → List ℕ
key_set_bytes k = 0x02 ∷ k.version ∷ (k.keys.enc ++ (k.keys.mac ++ k.keys.kek))

abbrev pub entry_bytes : Entry → List ℕ
entry_bytes e =
    0x03 ∷ kind_value e.kind ∷ e.aid.len ∷ (e.aid.bytes ++ (entry_state_value e.state ∷ e.privileges ∷ []))

-- the header, the key sets, the entries, and the last record, which has no body
unfoldable pub image_bytes : Held → List ℕ
image_bytes h =
    header_bytes h.state h.diversification
    ++ (flat_map key_set_bytes h.sets ++ (flat_map entry_bytes h.entries ++ 0x00 ∷ []))

-- what writing an image answers, and the area after it: at least 465 bytes, the length of the longest image
abbrev pub image_written : Held → List ℕ → Result ℕ Refusal × List ℕ
image_written h area =
    cond (nat_lt (length area) 465)
    (Err AreaTooShort, area)
    (Ok (length (image_bytes h)), fronted area (image_bytes h))

-- Reading. What a body's bytes say, if every value is allowed.

abbrev pub allowed : {X : Type 0} → (X → Bool) → X → Option X
allowed p x = cond (p x) (Some x) None

abbrev pub and_then : {X Y : Type 0} → Option X → (X → Option Y) → Option Y
and_then None f = None
and_then (Some x) f = f x

-- 49 bytes: the version and the three keys
abbrev pub key_set_of : List ℕ → KeySet
key_set_of body =
    record { version = slice_index body 0; keys = record { enc = take 16 (drop 1 body); mac = take 16 (drop 17 body); kek = take 16 (drop 33 body) } }

abbrev pub key_set_in : List ℕ → Option KeySet
key_set_in body = allowed sound_key_set (key_set_of body)

-- 20 bytes: load file or application, the name's length, the name's sixteen places, state and privileges
abbrev pub entry_of : EntryKind → EntryState → List ℕ → Entry
entry_of kind state body =
    record { kind = kind; aid = record { bytes = take 16 (drop 2 body); len = slice_index body 1 }; state = state; privileges = slice_index body 19 }

abbrev pub entry_in : List ℕ → Option Entry
entry_in body =
    and_then (entry_kind (slice_index body 0))
    (λ kind. and_then (entry_state kind (slice_index body 18)) (λ state. allowed sound_entry (entry_of kind state body)))

abbrev pub is_empty : {X : Type 0} → List X → Bool
is_empty xs = length xs == 0

-- the kind that a byte names, where a record of that kind may stand behind what has been read: one to four key sets, then
-- up to twelve entries, then the last record
abbrev pub next_kind : ℕ → Held → Option Kind
next_kind b h =
    cond (b == 0x02 && (is_empty h.entries && nat_lt (length h.sets) 4)) (Some Keys)
    (cond (b == 0x03 && (nat_lt 0 (length h.sets) && nat_lt (length h.entries) 12)) (Some Registered)
    (cond (b == 0x00 && nat_lt 0 (length h.sets)) (Some End)
    None))

abbrev pub with_key_set : Held → KeySet → Held
with_key_set h k = record { state = h.state; diversification = h.diversification; sets = h.sets ++ k ∷ []; entries = h.entries }

abbrev pub with_entry : Held → Entry → Held
with_entry h e = record { state = h.state; diversification = h.diversification; sets = h.sets; entries = h.entries ++ e ∷ [] }

-- what one record does: it is refused, it is the last, or what has been read grows and other bytes follow
pub data Step : Type 0 where
  fault : Refusal → Step
  last : Step
  next : Held → List ℕ → Step

-- the bytes behind the record, if any may follow
abbrev pub behind : Step → Result (Option (List ℕ)) Refusal
behind (fault e) = Err e
behind last = Ok None
behind (next h rest) = Ok (Some rest)

-- what has been read with the record
abbrev pub grown_by : Step → Held → Held
grown_by (fault e) h = h
grown_by last h = h
grown_by (next more rest) h = more

-- a body of a size: too few bytes, then a value that is not allowed, then a name or a version that stands in an earlier
-- record
abbrev pub read_fields : {X : Type 0} → ℕ → List ℕ → (List ℕ → Option X) → (X → Bool) → (X → Held) → Step
read_fields size body value twice grown =
    cond (nat_lt (length body) size) (fault ImageEndsEarly)
    (elim (value body) [
      | None ↦ fault FieldValue
      | Some x ↦ cond (twice x) (fault Duplicate) (next (grown x) (drop size body))
    ])

abbrev pub read_key_set : Held → List ℕ → Step
read_key_set h body = read_fields 49 body key_set_in (λ k. any (has_version k.version) h.sets) (with_key_set h)

abbrev pub read_entry : Held → List ℕ → Step
read_entry h body = read_fields 20 body entry_in (λ e. any (bears (name_of e)) h.entries) (with_entry h)

abbrev pub read_body : Option Kind → Held → List ℕ → Step
read_body None h body = fault RecordKind
read_body (Some Keys) h body = read_key_set h body
read_body (Some Registered) h body = read_entry h body
read_body (Some End) h body = cond (is_empty body) last (fault TrailingBytes)

abbrev pub read_record : Held → List ℕ → Step
read_record h [] = fault ImageEndsEarly
read_record h (b ∷ body) = read_body (next_kind b h) h body

-- the records behind the header, of which there are at most n
unfoldable pub read_records : ℕ → Held → List ℕ → Result Held Refusal
read_records zero h bytes = Err ImageEndsEarly
read_records (suc n) h bytes =
    elim (read_record h bytes) [ fault e ↦ Err e | last ↦ Ok h | next more rest ↦ read_records n more rest ]

-- there are no more records than bytes
unfoldable pub read_rest : Held → List ℕ → Result Held Refusal
read_rest h rest = read_records (length rest) h rest

abbrev pub headed : Option CardState → List ℕ → Result Held Refusal
headed None diversification = Err FieldValue
headed (Some state) diversification = Ok (record { state = state; diversification = diversification; sets = []; entries = [] })

-- 11 bytes: the card's state and ten bytes of diversification data
abbrev pub header_in : List ℕ → Result Held Refusal
header_in body = cond (nat_lt (length body) 11) (Err ImageEndsEarly) (headed (card_state (slice_index body 0)) (take 10 (drop 1 body)))

-- the first record is the header, and no other is
abbrev pub read_header : List ℕ → Result Held Refusal
read_header [] = Err ImageEndsEarly
read_header (b ∷ body) = cond (b == 0x01) (header_in body) (Err RecordKind)

-- what a card made of an image holds, or the lowest number of the first bad record
unfoldable pub read_image : List ℕ → Result Held Refusal
read_image image =
    elim (read_header image) [ Err e ↦ Err e | Ok h ↦ read_rest h (drop 12 image) ]
