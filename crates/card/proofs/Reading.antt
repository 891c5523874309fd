-- A command whose text was deciphered first is one inside the open channel.
use Rattle.std.proofs.Common.{◌≡◌, ℕ, List, Some, None, Option, Result, sym, refl, ap, ◌∙◌}
use Rattle.answers.specs.Replies.{Reply}
use Rattle.answers.specs.declared.StatusWord.{StatusWord}
use Rattle.rules.specs.Own.{Rule}
use Rattle.apdu.specs.Apdu.{Apdu}
use Rattle.cipher.specs.Blocks.{Algorithm}
use Rattle.scp01.specs.declared.Session.{Session}
use Rattle.scp01.specs.Inside.{unwrapped}
use Rattle.card.specs.declared.answer.Answer.{Answer}
use Rattle.card.specs.declared.channel.Channel.{Channel}
use Rattle.card.specs.declared.channel.Channel.TheVariants.{Closed, Open}
use Rattle.card.specs.Channels.{plain_allowed}
use Rattle.card.specs.Inside.{obeyed, managed}
use Rattle.card.specs.Models.{Model, Did, with_channel}

-- the rule sees nothing of the channel that the command came in
closed_before : {M : Type 0} (rule : Rule M) (cipher : Algorithm) (m : Model) (s : Session) (i : M) (c : Apdu) (r : Option (List ℕ × List ℕ)) → obeyed rule cipher (with_channel m Closed) s i c r ≡ obeyed rule cipher m s i c r
closed_before rule cipher m s i c None = refl
closed_before rule cipher m s i c (Some read) = refl

pub managed_read : {M : Type 0} (rule : Rule M) (cipher : Algorithm) (m : Model) (x : Channel) (s : Session) (i : M) (c : Apdu) (r : Option (List ℕ × List ℕ)) (after : Model) (answer : Result Answer StatusWord) → x ≡ Open s → r ≡ unwrapped cipher s (plain_allowed m.contents.state) c s.level → Did (obeyed rule cipher (with_channel m Closed) s i c r) after answer → Did (managed rule cipher m x i c) after answer
managed_read rule cipher m x s i c r after answer is whole did =
    let out : obeyed rule cipher (with_channel m Closed) s i c r ≡ managed rule cipher m x i c =
    closed_before rule cipher m s i c r ∙ ap (obeyed rule cipher m s i c) whole ∙ ap (λ (y : Channel). managed rule cipher m y i c) (sym is)
    in
    record { model = did.model ∙ ap (λ (o : Model × Reply). o.0) out; reply = did.reply ∙ ap (λ (o : Model × Reply). o.1) out }
