-- SELECT.
use Rattle.std.specs.Prelude.{cond, ◌&&◌, ◌||◌, length, Some, None, Option, ◌==◌, nat_lt}
use Rattle.std.specs.Str.{bytes_eq}
use Rattle.answers.specs.declared.StatusWord.{StatusWord}
use Rattle.answers.specs.declared.StatusWord.TheVariants.{Success, SelectedLocked, WrongLength, FunctionNotSupported, FileNotFound, WrongParameters}
use Rattle.contents.specs.declared.life.CardState.{CardState}
use Rattle.contents.specs.declared.life.CardState.TheVariants.{OpReady, Initialized, Secured, CmLocked, Terminated}
use Rattle.contents.specs.declared.records.Entry.{Entry}
use Rattle.contents.specs.Held.{Held}
use Rattle.contents.specs.Records.{card_manager, entry_named, is_application}
use Rattle.apdu.specs.Apdu.{Apdu}
use Rattle.answers.specs.Replies.{Reply, reply, only}
use Rattle.card.specs.Replies.{manager_data}

-- a locked card warns
abbrev pub manager_status : CardState → StatusWord
manager_status OpReady = Success
manager_status Initialized = Success
manager_status Secured = Success
manager_status CmLocked = SelectedLocked
manager_status Terminated = Success

-- applications cannot be selected, load files are not there to be
abbrev pub found_status : Option Entry → StatusWord
found_status None = FileNotFound
found_status (Some e) = cond (is_application e) FunctionNotSupported FileNotFound

-- P1 04 and P2 00, and a name of five to sixteen bytes
abbrev pub selected : Held → Apdu → Reply
selected h c =
    cond (c.p1 == 0x04 && c.p2 == 0x00)
    (cond (nat_lt (length c.field) 5 || nat_lt 16 (length c.field)) (only WrongLength)
    (cond (bytes_eq c.field card_manager) (reply manager_data (manager_status h.state))
    (only (found_status (entry_named c.field h.entries)))))
    (only WrongParameters)
