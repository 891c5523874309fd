-- What an expanded key makes of a block.
use Rattle.std.specs.Prelude.{ℕ, List, ◌∷◌}
use Rattle.bits.specs.Octets.{value, octets}
use Rattle.present.specs.Present.{rounds, inv_rounds}
use Rattle.present.specs.declared.schedule.RoundKeys.{RoundKeys}

unfoldable pub enciphering : RoundKeys → List ℕ → List ℕ
enciphering s block = octets 8 (rounds (s.first ∷ s.later) (value block))

unfoldable pub deciphering : RoundKeys → List ℕ → List ℕ
deciphering s block = octets 8 (inv_rounds (s.first ∷ s.later) (value block))
