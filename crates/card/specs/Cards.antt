-- A card behind its interface.
use Rattle.std.specs.Prelude.{◌≡◌, ℕ, Bool, cond, ◌||◌, List, ◌++◌, length, drop, replicate, Ok, Err, Option, Result, nat_lt}
use Rattle.answers.specs.declared.Refusal.{Refusal}
use Rattle.answers.specs.declared.Refusal.TheVariants.{AreaTooShort}
use Rattle.answers.specs.Areas.{fronted}
use Rattle.challenge.specs.Draws.{Challenges}
use Rattle.cipher.specs.Blocks.{Algorithm}
use Rattle.contents.specs.Contents.{held}
use Rattle.card.specs.declared.card.Card.{Card}
use Rattle.rules.specs.Own.{Rule}
use Rattle.card.specs.Models.{Model, model}
use Rattle.answers.specs.Replies.{Reply, reply_bytes}
use Rattle.card.specs.Taking.{responded}

abbrev pub view : {C S M : Type 0} → (S → Challenges) → Card C S M → Model
view coming card = model (held card.contents) card.channel (coming card.source)

-- whether the answer area has 258 bytes and the work area 256
abbrev pub cramped : List ℕ → List ℕ → Bool
cramped answer work = nat_lt (length answer) 258 || nat_lt (length work) 256

-- the work area, its first 256 bytes 00
abbrev pub wiped : List ℕ → List ℕ
wiped work = replicate 256 0 ++ drop 256 work

-- what handing in a command leaves: the result, the model, the answer area and the work area
pub record Processed (r : Result ℕ Refusal) (after : Model) (area worked : List ℕ) (is : Result ℕ Refusal × Model × List ℕ × List ℕ) : Type 0 where
  pub result : r ≡ is.0
  pub model : after ≡ is.1
  pub answer : area ≡ is.2
  pub work : worked ≡ is.3

abbrev pub answered : Model × Reply → List ℕ → List ℕ → Result ℕ Refusal × Model × List ℕ × List ℕ
answered out answer work = (Ok (length (reply_bytes out.1)), out.0, fronted answer (reply_bytes out.1), wiped work)

-- refused with 6 where an area is too short, and then nothing moves
abbrev pub processed : {M : Type 0} → (ℕ → Option M) → Rule M → Algorithm → Model → List ℕ → List ℕ → List ℕ → Result ℕ Refusal × Model × List ℕ × List ℕ
processed named rule cipher m command answer work =
    cond (cramped answer work) (Err AreaTooShort, m, answer, work) (answered (responded named rule cipher m command) answer work)
