-- What has been read of an image, as a record of lists, and what the calls that read it say.
use Rattle.std.specs.Prelude.{◌≡◌, ℕ, List, Ok, Err, Option, Result, MatchResult}
use Rattle.std.specs.Borrow.{Bor}
use Rattle.std.specs.Option.{option_map}
use Rattle.answers.specs.declared.Refusal.{Refusal}
use Rattle.contents.specs.declared.image.draft.Draft.{Draft}
use Rattle.contents.specs.Held.{Held}
use Rattle.contents.specs.Image.{Step, behind}
use Rattle.contents.specs.Records.{listed}

abbrev pub drafted : Draft → Held
drafted d = record { state = d.state; diversification = d.diversification; sets = listed d.sets; entries = listed d.registry }

-- a draft, or a refusal, as a reading gives it
abbrev pub Drafts : Result Draft Refusal → Result Held Refusal → Type 0
Drafts r reading = MatchResult r (λ d. Ok (drafted d) ≡ reading) (λ e. Err e ≡ reading)

-- the bytes behind a record, or a refusal, as its step leaves them
abbrev pub Leaves : Result (Option (Bor (List ℕ))) Refusal → Step → Type 0
Leaves r step = MatchResult r (λ rest. Ok (option_map (λ x. x.now) rest) ≡ behind step) (λ e. Err e ≡ behind step)
