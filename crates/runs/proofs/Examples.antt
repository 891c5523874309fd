-- The worked examples hold.
use Rattle.std.proofs.Common.{◌≡◌, ℕ, Bool, cond, List, length, Some, None, Option, refl, ap, ◌∙◌, arith, le-ltb}
use Rattle.answers.specs.declared.Refusal.TheVariants.{AreaTooShort, IllArgument}
use Rattle.answers.specs.declared.StatusWord.TheVariants.{Success, WrongData}
use Rattle.answers.specs.Replies.{only}
use Rattle.apdu.specs.declared.Management.{Management}
use Rattle.apdu.specs.Apdu.{Apdu, management_of}
use Rattle.cipher.specs.Blocks.{Algorithm}
use Rattle.contents.specs.declared.life.CardState.{CardState}
use Rattle.contents.specs.declared.life.CardState.TheVariants.{OpReady, Initialized, Secured, CmLocked, Terminated}
use Rattle.contents.specs.Changes.{in_card_state}
use Rattle.contents.specs.Held.{Held}
use Rattle.contents.specs.Life.{card_state_value}
use Rattle.contents.specs.Records.{card_manager}
use Rattle.rules.specs.SetStatus.{set_status}
use Rattle.scp01.specs.declared.Session.{Session}
use Rattle.scp01.specs.Wrapping.{wrapped}
use Rattle.scp01.proofs.Examples.{channel_rows}
use Rattle.terminal.specs.declared.Phase.{Phase}
use Rattle.terminal.specs.Sides as terminal
use Rattle.terminal.specs.Sides.{Side, refused_as}
use Rattle.runs.specs.WorkedRows.{RefusedWith, WorkedRows}

secured : (s : CardState) → card_state_value s ≡ 0x0F → s ≡ Secured
secured OpReady e = absurd (omega arith)
secured Initialized e = absurd (omega arith)
secured Secured e = refl
secured CmLocked e = absurd (omega arith)
secured Terminated e = absurd (omega arith)

locked : (h : Held) → card_state_value h.state ≡ 0x0F → set_status h 0x80 0x7F card_manager ≡ (in_card_state CmLocked h, only Success)
unfolding set_status
locked h e = let s = secured h.state e in rw s refl

kept : (h : Held) → card_state_value h.state ≡ 0x0F → set_status h 0x80 0x07 card_manager ≡ (h, only WrongData)
unfolding set_status
kept h e = let s = secured h.state e in rw s refl

-- the terminal refuses what it cannot wrap, a channel command or not
not_wrapped : (cipher : Algorithm) (t : Side) (s : Session) (c : Apdu) (area : List ℕ) (o : Option Management) → wrapped cipher s c ≡ None → terminal.wraps_for cipher t s c o area ≡ refused_as t area IllArgument
not_wrapped cipher t s c area None none = refl
not_wrapped cipher t s c area (Some i) none = ap (λ (w : Option (List ℕ × List ℕ)). terminal.wraps_as t s w area) none

longer : RefusedWith 240 IllArgument
longer cipher t s command area c phase level room read long =
    let enough = le-ltb (length area) 261 room in
    let none = channel_rows.longer cipher s c level long in
    ap (λ (b : Bool). cond b (refused_as t area AreaTooShort) (terminal.wraps_when cipher t t.phase command area)) enough
    ∙ ap (λ (p : Phase). terminal.wraps_when cipher t p command area) phase
    ∙ ap (λ (o : Option Apdu). terminal.wraps_in cipher t s o area) read
    ∙ not_wrapped cipher t s c area (management_of c.instruction) none

pub worked_rows : WorkedRows
worked_rows = record { channel = channel_rows; longer = longer; longer_number = refl; locked = locked; locked_state = refl; locked_answer = refl; kept = kept; kept_answer = refl }
