-- The life cycle states of a card and of what is registered on it, and their values.
use Rattle.std.specs.Prelude.{◌≡◌, ℕ, cond, Some, None, Option, Result, MatchResult, ◌==◌}
use Rattle.contents.specs.declared.life.CardState.{CardState}
use Rattle.contents.specs.declared.life.CardState.TheVariants.{OpReady, Initialized, Secured, CmLocked, Terminated}
use Rattle.contents.specs.declared.life.EntryKind.{EntryKind}
use Rattle.contents.specs.declared.life.EntryKind.TheVariants.{LoadFile, Application}
use Rattle.contents.specs.declared.life.EntryState.{EntryState}
use Rattle.contents.specs.declared.life.UnknownValue.{UnknownValue}
use Rattle.contents.specs.declared.life.EntryState.TheVariants.{Loaded, Installed, Selectable, Personalized, Blocked}

-- the result is what a byte names, or says which byte names nothing
abbrev pub Names : {X : Type 0} → ℕ → Option X → Result X UnknownValue → Type 0
Names value named r = MatchResult r (λ x. named ≡ Some x) (λ e. (named ≡ None) × (e.0 ≡ value))

abbrev pub card_state_value : CardState → ℕ
card_state_value OpReady = 0x01
card_state_value Initialized = 0x07
card_state_value Secured = 0x0F
card_state_value CmLocked = 0x7F
card_state_value Terminated = 0xFF

-- the state that a byte names
abbrev pub card_state : ℕ → Option CardState
card_state v =
    cond (v == 0x01) (Some OpReady)
    (cond (v == 0x07) (Some Initialized)
    (cond (v == 0x0F) (Some Secured)
    (cond (v == 0x7F) (Some CmLocked)
    (cond (v == 0xFF) (Some Terminated)
    None))))

abbrev pub kind_value : EntryKind → ℕ
kind_value LoadFile = 0x01
kind_value Application = 0x02

abbrev pub entry_kind : ℕ → Option EntryKind
entry_kind v = cond (v == 0x01) (Some LoadFile) (cond (v == 0x02) (Some Application) None)

abbrev pub entry_state_value : EntryState → ℕ
entry_state_value Loaded = 0x01
entry_state_value Installed = 0x03
entry_state_value Selectable = 0x07
entry_state_value Personalized = 0x0F
entry_state_value Blocked = 0x7F

-- the state of an application that a byte names
abbrev pub application_state : ℕ → Option EntryState
application_state v =
    cond (v == 0x03) (Some Installed)
    (cond (v == 0x07) (Some Selectable)
    (cond (v == 0x0F) (Some Personalized)
    (cond (v == 0x7F) (Some Blocked)
    None)))

-- the state that a byte names for an entry of this kind: a load file is always loaded
abbrev pub entry_state : EntryKind → ℕ → Option EntryState
entry_state LoadFile v = cond (v == 0x01) (Some Loaded) None
entry_state Application v = application_state v
