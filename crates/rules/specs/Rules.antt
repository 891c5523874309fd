-- What the rules of the channel commands share. A rule goes from what the card holds and the command to what the card holds
-- then, and the reply.
use Rattle.std.specs.Prelude.{ℕ, Bool, true, false, cond, List, [], Some, None, Ok, Err, Option, Result}
use Rattle.answers.specs.declared.StatusWord.{StatusWord}
use Rattle.answers.specs.declared.StatusWord.TheVariants.{Success, ConditionsNotSatisfied}
use Rattle.answers.specs.Replies.{Reply, reply, only}
use Rattle.contents.specs.declared.life.CardState.{CardState}
use Rattle.contents.specs.declared.life.CardState.TheVariants.{OpReady, Initialized, Secured, CmLocked, Terminated}
use Rattle.contents.specs.Held.{Held}

-- the reply that a call's result stands for: data and 9000, or another status word alone
abbrev pub replied : {X : Type 0} → (X → List ℕ) → Result X StatusWord → Reply
replied bytes (Ok x) = reply (bytes x) Success
replied bytes (Err status) = only status

-- no data
abbrev pub nothing : Unit {0} → List ℕ
nothing u = []

-- data that a call gives as they are
abbrev pub itself : List ℕ → List ℕ
itself bytes = bytes

abbrev pub and_then : {X Y : Type 0} → Option X → (X → Option Y) → Option Y
and_then None f = None
and_then (Some x) f = f x

-- a status word, and nothing moves
abbrev pub refused : Held → StatusWord → Held × Reply
refused h status = (h, only status)

abbrev pub is_locked : CardState → Bool
is_locked OpReady = false
is_locked Initialized = false
is_locked Secured = false
is_locked CmLocked = true
is_locked Terminated = false

-- whether a card in this state takes changes of its registry and keys
abbrev pub unlocked : CardState → Result (Unit {0}) StatusWord
unlocked state = cond (is_locked state) (Err ConditionsNotSatisfied) (Ok tt)

-- a card in CM_LOCKED answers 6985
abbrev pub unless_locked : Held → Held × Reply → Held × Reply
unless_locked h out = cond (is_locked h.state) (refused h ConditionsNotSatisfied) out
