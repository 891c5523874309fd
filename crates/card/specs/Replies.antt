-- The forms of a card's answers.
use Rattle.std.specs.Prelude.{ℕ, List, [], ◌∷◌, ◌++◌, Ok, Err, Result}
use Rattle.answers.specs.declared.StatusWord.{StatusWord}
use Rattle.answers.specs.declared.StatusWord.TheVariants.{Success}
use Rattle.answers.specs.Replies.{Reply, reply, only}
use Rattle.rules.specs.Own.{receipt_bytes}
use Rattle.card.specs.declared.answer.Answer.{Answer}
use Rattle.card.specs.declared.answer.Answer.TheVariants.{Status, Manager, Updated, Received}

-- what SELECT tells of the card manager: 6F, 84 with its AID, A5 with 9F65 and FF
abbrev pub manager_data : List ℕ
manager_data =
    0x6F ∷ 0x10 ∷ 0x84 ∷ 0x08 ∷ 0xA0 ∷ 0x00 ∷ 0x00 ∷ 0x00 ∷ 0x03 ∷ 0x00 ∷ 0x00 ∷ 0x00 ∷ 0xA5 ∷ 0x04 ∷ 0x9F ∷ 0x65 ∷ 0x01 ∷ 0xFF ∷ []

-- diversification data, version, 01 for SCP01, card challenge, card cryptogram
abbrev pub update_data : List ℕ → ℕ → List ℕ → List ℕ → List ℕ
update_data diversification version challenge cryptogram = diversification ++ (version ∷ 0x01 ∷ []) ++ challenge ++ cryptogram

abbrev pub said : Answer → Reply
said (Status s) = only s
said (Manager s) = reply manager_data s
said (Updated u) = reply (update_data u.diversification u.version u.challenge u.cryptogram) Success
said (Received r) = reply (receipt_bytes r) Success

-- what is answered: a refusal is a status word alone
abbrev pub replied : Result Answer StatusWord → Reply
replied (Ok a) = said a
replied (Err status) = only status
