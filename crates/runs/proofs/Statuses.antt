-- The status word at the end of an answer.
use Rattle.std.proofs.Common.{◌≡◌, ℕ, ◌-◌, List, [], ◌∷◌, length, drop, refl, ap, ◌∙◌, arith, length-append}
use Rattle.std.proofs.lemmas.List.{drop_at}
use Rattle.std.specs.Str.{bytes_eq}
use Rattle.answers.specs.declared.StatusWord.{StatusWord}
use Rattle.answers.specs.declared.StatusWord.TheVariants as sw
use Rattle.answers.specs.Numbers.{status_bytes}
use Rattle.answers.specs.Replies.{Reply, reply_bytes}
use Rattle.rules.specs.Own.{is_success}
use Rattle.runs.specs.Events.{status_in, is9000}

bytes_tell : (s : StatusWord) → bytes_eq (status_bytes s) (0x90 ∷ 0x00 ∷ []) ≡ is_success s
bytes_tell sw.Success = refl
bytes_tell sw.SelectedLocked = refl
bytes_tell sw.CryptogramRejected = refl
bytes_tell sw.WrongLength = refl
bytes_tell sw.SecurityNotSatisfied = refl
bytes_tell sw.ConditionsNotSatisfied = refl
bytes_tell sw.WrongData = refl
bytes_tell sw.FunctionNotSupported = refl
bytes_tell sw.FileNotFound = refl
bytes_tell sw.NotEnoughSpace = refl
bytes_tell sw.WrongParameters = refl
bytes_tell sw.NotFound = refl
bytes_tell sw.InstructionUnknown = refl
bytes_tell sw.ClassUnknown = refl
bytes_tell sw.NoDiagnosis = refl
bytes_tell sw.AlgorithmUnknown = refl
bytes_tell sw.CheckValueWrong = refl

-- the last two bytes of an answer are its status word
pub status_last : (r : Reply) → status_in (reply_bytes r) ≡ status_bytes r.status
status_last r =
    let two : length (status_bytes r.status) ≡ 2 = refl in
    let n : length (reply_bytes r) - 2 ≡ length r.text = simp length-append (omega arith) in
    ap (λ (k : ℕ). drop k (reply_bytes r)) n ∙ drop_at r.text (status_bytes r.status) (length r.text) refl

pub tells_success : (r : Reply) → is9000 (reply_bytes r) ≡ is_success r.status
tells_success r = ap (λ (b : List ℕ). bytes_eq b (0x90 ∷ 0x00 ∷ [])) (status_last r) ∙ bytes_tell r.status
