-- The security levels of a channel, and an open channel.
use Rattle.std.specs.Prelude.{ℕ, cond, List, Some, None, Option, ◌==◌}
use Rattle.scp01.specs.declared.Level.{Level}
use Rattle.scp01.specs.declared.Level.TheVariants.{Plain, Mac, MacEncrypted}
use Rattle.scp01.specs.declared.Session.{Session}
use Rattle.cipher.specs.declared.Keys.{Keys}

abbrev pub level_value : Level → ℕ
level_value Plain = 0x00
level_value Mac = 0x01
level_value MacEncrypted = 0x03

abbrev pub level_of : ℕ → Option Level
level_of v = cond (v == 0x00) (Some Plain) (cond (v == 0x01) (Some Mac) (cond (v == 0x03) (Some MacEncrypted) None))

abbrev pub session : Level → Keys → List ℕ → Session
session level keys chain = record { level = level; keys = keys; chain = chain }
