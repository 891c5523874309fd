-- Making a card of an image and a source.
use Rattle.std.specs.Prelude.{◌≡◌, ℕ, List, Ok, Err, Result}
use Rattle.challenge.specs.Draws.{Challenges}
use Rattle.contents.specs.Held.{Held}
use Rattle.contents.specs.Image.{read_image}
use Rattle.card.specs.declared.card.Card.{Card}
use Rattle.card.specs.declared.card.make.Unmade.{Unmade}
use Rattle.card.specs.declared.channel.Channel.TheVariants.{Closed}
use Rattle.card.specs.Cards.{view}
use Rattle.card.specs.Models.{model}

-- the card holds what the image says, has no channel, and draws from the source
abbrev pub Made : {C S M : Type 0} → (S → Challenges) → List ℕ → S → Result (Card C S M) (Unmade S) → Type 0
Made coming image source (Ok card) =
    (h : Held) × (read_image image ≡ Ok h) × (view coming card ≡ model h Closed (coming source)) × (card.source ≡ source)
Made coming image source (Err u) = (read_image image ≡ Err u.refusal) × (u.source ≡ source)
