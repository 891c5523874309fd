-- SET STATUS: P1 is 80 for the card or 40 for an application, or 6A86; P2 is the value of the new state. A card in CM_LOCKED
-- answers 6985 to P1 40. The body is the card manager's name, or an application's, or 6A88. A step that the table below does
-- not have, to a value that is no state's too, is 6A80. Nothing moves but that one state.
use Rattle.std.specs.Prelude.{ℕ, cond, List, [], ◌∷◌, Some, None, Option, ◌==◌}
use Rattle.std.specs.Str.{bytes_eq}
use Rattle.answers.specs.declared.StatusWord.TheVariants.{Success, WrongParameters, WrongData, NotFound}
use Rattle.answers.specs.Replies.{Reply, only}
use Rattle.contents.specs.declared.life.CardState.{CardState}
use Rattle.contents.specs.declared.life.CardState.TheVariants.{OpReady, Initialized, Secured, CmLocked, Terminated}
use Rattle.contents.specs.declared.life.EntryState.{EntryState}
use Rattle.contents.specs.declared.life.EntryState.TheVariants.{Loaded, Installed, Selectable, Personalized, Blocked}
use Rattle.contents.specs.declared.records.Entry.{Entry}
use Rattle.contents.specs.Life.{card_state_value, entry_state_value}
use Rattle.contents.specs.Records.{card_manager, is_application, entry_named}
use Rattle.contents.specs.Held.{Held}
use Rattle.contents.specs.Changes.{in_card_state, in_state_named}
use Rattle.rules.specs.Rules.{refused, unless_locked}

-- the states that may follow each state of a card
abbrev pub card_steps : CardState → List CardState
card_steps OpReady = Initialized ∷ Terminated ∷ []
card_steps Initialized = Secured ∷ Terminated ∷ []
card_steps Secured = CmLocked ∷ Terminated ∷ []
card_steps CmLocked = Secured ∷ Terminated ∷ []
card_steps Terminated = Terminated ∷ []

-- the states that may follow each state of an application
abbrev pub application_steps : EntryState → List EntryState
application_steps Loaded = []
application_steps Installed = Selectable ∷ []
application_steps Selectable = Personalized ∷ Blocked ∷ []
application_steps Personalized = Blocked ∷ []
application_steps Blocked = Selectable ∷ []

-- the one of these states that has a value
abbrev pub of_value : {S : Type 0} → (S → ℕ) → ℕ → List S → Option S
of_value value v [] = None
of_value value v (s ∷ ss) = cond (v == value s) (Some s) (of_value value v ss)

abbrev pub card_step : CardState → ℕ → Option CardState
card_step from p2 = of_value card_state_value p2 (card_steps from)

abbrev pub application_step : EntryState → ℕ → Option EntryState
application_step from p2 = of_value entry_state_value p2 (application_steps from)

abbrev pub card_stepped : Held → Option CardState → Held × Reply
card_stepped h None = refused h WrongData
card_stepped h (Some s) = (in_card_state s h, only Success)

abbrev pub card_set : Held → ℕ → List ℕ → Held × Reply
card_set h p2 name =
    cond (bytes_eq name card_manager) (card_stepped h (card_step h.state p2)) (refused h NotFound)

abbrev pub application_stepped : Held → List ℕ → Option EntryState → Held × Reply
application_stepped h name None = refused h WrongData
application_stepped h name (Some s) = (in_state_named name s h, only Success)

abbrev pub entry_set : Held → ℕ → List ℕ → Option Entry → Held × Reply
entry_set h p2 name None = refused h NotFound
entry_set h p2 name (Some e) =
    cond (is_application e) (application_stepped h name (application_step e.state p2)) (refused h NotFound)

abbrev pub application_set : Held → ℕ → List ℕ → Held × Reply
application_set h p2 name = entry_set h p2 name (entry_named name h.entries)

unfoldable pub set_status : Held → ℕ → ℕ → List ℕ → Held × Reply
set_status h p1 p2 body =
    cond (p1 == 0x80) (card_set h p2 body)
    (cond (p1 == 0x40) (unless_locked h (application_set h p2 body))
    (refused h WrongParameters))
