-- The checks that come before anything else is done with a command.
use Rattle.std.specs.Prelude.{ℕ, Bool, true, false, cond, Some, None, Ok, Err, Option, Result}
use Rattle.answers.specs.declared.StatusWord.{StatusWord}
use Rattle.answers.specs.declared.StatusWord.TheVariants.{ConditionsNotSatisfied, InstructionUnknown, ClassUnknown}
use Rattle.apdu.specs.declared.Instruction.{Instruction}
use Rattle.apdu.specs.Apdu.{Apdu, instruction_of, owns, known_class}
use Rattle.contents.specs.declared.life.CardState.{CardState}
use Rattle.contents.specs.declared.life.CardState.TheVariants.{OpReady, Initialized, Secured, CmLocked, Terminated}

abbrev pub is_terminated : CardState → Bool
is_terminated OpReady = false
is_terminated Initialized = false
is_terminated Secured = false
is_terminated CmLocked = false
is_terminated Terminated = true

abbrev pub in_own_class : {M : Type 0} → ℕ → Option (Instruction M) → Result (Instruction M) StatusWord
in_own_class cla None = Err InstructionUnknown
in_own_class cla (Some i) = cond (owns i cla) (Ok i) (Err ClassUnknown)

-- the instruction of a well-formed command that a card in this state takes, or why it does not; `named` are the card's commands
-- inside a channel, by their instruction bytes
abbrev pub admitted : {M : Type 0} → (ℕ → Option M) → CardState → Apdu → Result (Instruction M) StatusWord
admitted named state c =
    cond (is_terminated state) (Err ConditionsNotSatisfied)
    (cond (known_class c.class) (in_own_class c.class (instruction_of named c.instruction))
    (Err ClassUnknown))
