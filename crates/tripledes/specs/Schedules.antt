-- What expanded keys make of a block.
use Rattle.std.specs.Prelude.{ℕ, List, map}
use Rattle.bits.specs.Octets.{value, octets}
use Rattle.tripledes.specs.Des.{crypt}
use Rattle.tripledes.specs.Round.{held}
use Rattle.tripledes.specs.declared.Schedules.{Schedules}

-- three passes, each under its round keys, the first list first
unfoldable pub passes : List ℕ → List ℕ → List ℕ → List ℕ → List ℕ
passes ks ls ms block = octets 8 (crypt ms (crypt ls (crypt ks (value block))))

-- K1 forwards, K2 backwards, K1 forwards
unfoldable pub enciphering : Schedules → List ℕ → List ℕ
enciphering s block = passes (map held s.first.forward) (map held s.second.backward) (map held s.first.forward) block

-- K1 backwards, K2 forwards, K1 backwards
unfoldable pub deciphering : Schedules → List ℕ → List ℕ
deciphering s block = passes (map held s.first.backward) (map held s.second.forward) (map held s.first.backward) block
