-- GET STATUS: P1 is 40 for applications, 20 for load files, P2 is 00, or 6A86; the body is 4F00, or 6A80. Of each such entry,
-- in order: the name's length, the name, the state and the privileges. Where there is none, 6A88.
use Rattle.std.specs.Prelude.{ℕ, Bool, true, false, cond, List, [], ◌∷◌, ◌++◌, length, Some, None, Option, ◌==◌}
use Rattle.std.specs.List.{flat_map}
use Rattle.std.specs.Str.{bytes_eq}
use Rattle.answers.specs.declared.StatusWord.TheVariants.{Success, WrongParameters, WrongData, NotFound}
use Rattle.answers.specs.Replies.{Reply, reply, only}
use Rattle.contents.specs.declared.life.EntryKind.{EntryKind}
use Rattle.contents.specs.declared.life.EntryKind.TheVariants.{LoadFile, Application}
use Rattle.contents.specs.declared.records.Entry.{Entry}
use Rattle.contents.specs.Life.{entry_state_value}
use Rattle.contents.specs.Records.{name_of}
use Rattle.contents.specs.Held.{Held, any}

abbrev pub kind_asked : ℕ → Option EntryKind
kind_asked p1 = cond (p1 == 0x40) (Some Application) (cond (p1 == 0x20) (Some LoadFile) None)

abbrev pub asked_kind : ℕ → ℕ → Option EntryKind
asked_kind p1 p2 = cond (p2 == 0x00) (kind_asked p1) None

-- an empty name, which stands for every name
abbrev pub every_name : List ℕ
every_name = 0x4F ∷ 0x00 ∷ []

abbrev pub same_kind : EntryKind → EntryKind → Bool
same_kind LoadFile LoadFile = true
same_kind LoadFile Application = false
same_kind Application LoadFile = false
same_kind Application Application = true

abbrev pub is_of_kind : EntryKind → Entry → Bool
is_of_kind kind e = same_kind kind e.kind

abbrev pub record_of : Entry → List ℕ
record_of e = length (name_of e) ∷ (name_of e ++ entry_state_value e.state ∷ e.privileges ∷ [])

abbrev pub shown : EntryKind → Entry → List ℕ
shown kind e = cond (is_of_kind kind e) (record_of e) []

-- the records of the entries of this kind, in order
abbrev pub status_records : EntryKind → List Entry → List ℕ
status_records kind es = flat_map (shown kind) es

abbrev pub status_listed : EntryKind → List Entry → Reply
status_listed kind es = cond (any (is_of_kind kind) es) (reply (status_records kind es) Success) (only NotFound)

abbrev pub status_of : Option EntryKind → List Entry → List ℕ → Reply
status_of None es body = only WrongParameters
status_of (Some kind) es body = cond (bytes_eq body every_name) (status_listed kind es) (only WrongData)

unfoldable pub got_status : Held → ℕ → ℕ → List ℕ → Reply
got_status h p1 p2 body = status_of (asked_kind p1 p2) h.entries body
