-- The number of each refusal, and the value of each status word.
use Rattle.std.specs.Prelude.{ℕ, ◌/◌, ◌%◌, List, [], ◌∷◌}
use Rattle.answers.specs.declared.Refusal.{Refusal}
use Rattle.answers.specs.declared.Refusal.TheVariants.{RecordKind, ImageEndsEarly, FieldValue, Duplicate, TrailingBytes, AreaTooShort, WrongAnswer, WrongCryptogram, OutOfOrder, IllArgument}
use Rattle.answers.specs.declared.StatusWord.{StatusWord}
use Rattle.answers.specs.declared.StatusWord.TheVariants.{Success, SelectedLocked, CryptogramRejected, WrongLength, SecurityNotSatisfied, ConditionsNotSatisfied, WrongData, FunctionNotSupported, FileNotFound, NotEnoughSpace, WrongParameters, NotFound, InstructionUnknown, ClassUnknown, NoDiagnosis, AlgorithmUnknown, CheckValueWrong}

abbrev pub refusal_number : Refusal → ℕ
refusal_number RecordKind = 1
refusal_number ImageEndsEarly = 2
refusal_number FieldValue = 3
refusal_number Duplicate = 4
refusal_number TrailingBytes = 5
refusal_number AreaTooShort = 6
refusal_number WrongAnswer = 7
refusal_number WrongCryptogram = 8
refusal_number OutOfOrder = 9
refusal_number IllArgument = 10

abbrev pub status_value : StatusWord → ℕ
status_value Success = 0x9000
status_value SelectedLocked = 0x6283
status_value CryptogramRejected = 0x6300
status_value WrongLength = 0x6700
status_value SecurityNotSatisfied = 0x6982
status_value ConditionsNotSatisfied = 0x6985
status_value WrongData = 0x6A80
status_value FunctionNotSupported = 0x6A81
status_value FileNotFound = 0x6A82
status_value NotEnoughSpace = 0x6A84
status_value WrongParameters = 0x6A86
status_value NotFound = 0x6A88
status_value InstructionUnknown = 0x6D00
status_value ClassUnknown = 0x6E00
status_value NoDiagnosis = 0x6F00
status_value AlgorithmUnknown = 0x9484
status_value CheckValueWrong = 0x9485

-- SW1 and SW2, the two bytes that end an answer
abbrev pub status_bytes : StatusWord → List ℕ
status_bytes s = status_value s / 256 ∷ status_value s % 256 ∷ []
