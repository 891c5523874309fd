-- INSTALL: P1 is 04 or 0C, P2 is 00, or 6A86; a card in CM_LOCKED answers 6985. The body is the names of load file, module and
-- application, each behind its length; 01 and the privileges; parameters behind their length; 00; and no more, or 6A80. Without
-- a load file of the first name, 6A88; where the application's name is in use or the card manager's, 6A80; where there are
-- twelve entries, 6A84. The application comes last, in state 03 by P1 04 and 07 by P1 0C. The answer is 00.
use Rattle.std.specs.Prelude.{ℕ, ◌+◌, Bool, false, cond, not, ◌&&◌, ◌||◌, List, [], ◌∷◌, length, Some, None, Option, ◌==◌, nat_lt, slice_index}
use Rattle.std.specs.Option.{option_map}
use Rattle.std.specs.Str.{bytes_eq}
use Rattle.answers.specs.declared.StatusWord.TheVariants.{Success, WrongParameters, WrongData, NotFound, NotEnoughSpace}
use Rattle.answers.specs.Replies.{Reply, reply}
use Rattle.contents.specs.declared.life.EntryState.{EntryState}
use Rattle.contents.specs.declared.life.EntryState.TheVariants.{Installed, Selectable}
use Rattle.contents.specs.declared.records.Entry.{Entry}
use Rattle.contents.specs.Records.{card_manager, bears, is_application, entry_named}
use Rattle.contents.specs.Held.{Held, any}
use Rattle.contents.specs.Changes.{with_application}
use Rattle.rules.specs.Rules.{refused, unless_locked, and_then}
use Rattle.rules.specs.Names.{name_ahead}

abbrev pub state_by_p1 : ℕ → Option EntryState
state_by_p1 p1 = cond (p1 == 0x04) (Some Installed) (cond (p1 == 0x0C) (Some Selectable) None)

abbrev pub state_asked : ℕ → ℕ → Option EntryState
state_asked p1 p2 = cond (p2 == 0x00) (state_by_p1 p1) None

-- 01 and the privileges; n and n bytes; 00; and no more
abbrev pub privileges_before : ℕ → List ℕ → Option ℕ
privileges_before n rest =
    cond (slice_index rest 0 == 0x01 && (length rest == n + 4 && slice_index rest (n + 3) == 0x00)) (Some (slice_index rest 1)) None

abbrev pub privileges_in : List ℕ → Option ℕ
privileges_in rest = privileges_before (slice_index rest 2) rest

-- what a body asks for
pub record Asked : Type 0 where
  pub file : List ℕ
  pub name : List ℕ
  pub privileges : ℕ

-- of the three names, the module's is only read
abbrev pub installation_in : List ℕ → Option Asked
installation_in body =
    and_then (name_ahead body)
    (λ file. and_then (name_ahead file.1)
    (λ unit. and_then (name_ahead unit.1)
    (λ name. option_map (λ p. record { file = file.0; name = name.0; privileges = p }) (privileges_in name.1))))

abbrev pub is_load_file : Option Entry → Bool
is_load_file None = false
is_load_file (Some e) = not (is_application e)

abbrev pub installed_as : Held → EntryState → List ℕ → List ℕ → ℕ → Held × Reply
installed_as h s file name privileges =
    cond (is_load_file (entry_named file h.entries))
    (cond (bytes_eq name card_manager || any (bears name) h.entries) (refused h WrongData)
    (cond (nat_lt (length h.entries) 12) (with_application name s privileges h, reply (0x00 ∷ []) Success)
    (refused h NotEnoughSpace)))
    (refused h NotFound)

abbrev pub installed_by : Held → EntryState → Option Asked → Held × Reply
installed_by h s None = refused h WrongData
installed_by h s (Some x) = installed_as h s x.file x.name x.privileges

abbrev pub installed_in : Held → Option EntryState → List ℕ → Held × Reply
installed_in h None body = refused h WrongParameters
installed_in h (Some s) body = unless_locked h (installed_by h s (installation_in body))

unfoldable pub installed : Held → ℕ → ℕ → List ℕ → Held × Reply
installed h p1 p2 body = installed_in h (state_asked p1 p2) body
