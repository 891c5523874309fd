-- What a card says: the data of an answer, and its status word.
use Rattle.std.specs.Prelude.{ℕ, List, [], ◌++◌}
use Rattle.answers.specs.declared.StatusWord.{StatusWord}
use Rattle.answers.specs.Numbers.{status_bytes}

pub record Reply : Type 0 where
  pub text : List ℕ
  pub status : StatusWord

abbrev pub reply : List ℕ → StatusWord → Reply
reply text status = record { text = text; status = status }

-- a status word alone
abbrev pub only : StatusWord → Reply
only status = reply [] status

-- the bytes of an answer
abbrev pub reply_bytes : Reply → List ℕ
reply_bytes r = r.text ++ status_bytes r.status
