-- A command that is handed in with room for its answer.
use Rattle.std.proofs.Common.{◌≡◌, ℕ, ◌≤◌, false, ltb, List, ◌++◌, length, drop, replicate, Ok, Option, ap, ◌∙◌, le-ltb}
use Rattle.answers.specs.Areas.{fronted}
use Rattle.cipher.specs.Blocks.{Algorithm}
use Rattle.rules.specs.Own.{Rule}
use Rattle.card.specs.declared.answer.Answer.{Answer}
use Rattle.card.specs.Cards.{Processed, processed}
use Rattle.card.specs.Models.{Model, Answered}
use Rattle.answers.specs.Replies.{Reply, reply_bytes}
use Rattle.card.specs.Replies.{said}
use Rattle.card.specs.Taking.{responded}

pub handed : {M : Type 0} (named : ℕ → Option M) (rule : Rule M) (cipher : Algorithm) (m after : Model) (a : Answer) (command before area work wiped : List ℕ) (n : ℕ) → 258 ≤ length before → 256 ≤ length work → Answered (responded named rule cipher m command) after a → area ≡ fronted before (reply_bytes (said a)) → n ≡ length (reply_bytes (said a)) → wiped ≡ replicate 256 0 → Processed (Ok n) after area (wiped ++ drop 256 work) (processed named rule cipher m command before work)
handed named rule cipher m after a command before area work wiped n room space did written count zeros =
    let p : ltb (length before) 258 ≡ false = le-ltb (length before) 258 room in
    let q : ltb (length work) 256 ≡ false = le-ltb (length work) 256 space in
    rw (p, q)
    (record {
      result = ap Ok (count ∙ ap (λ (r : Reply). length (reply_bytes r)) did.reply);
      model = did.model;
      answer = written ∙ ap (λ (r : Reply). fronted before (reply_bytes r)) did.reply;
      work = ap (λ (z : List ℕ). z ++ drop 256 work) zeros;
    })
