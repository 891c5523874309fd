-- The steps in the order in which the code makes them: the first round key is added before the rounds, and each round ends with
-- its key.
use Rattle.std.specs.Prelude.{ℕ, zero, suc, ◌*◌, ◌/◌, ◌%◌, ◌^◌, List, [], ◌∷◌, bit_xor}
use Rattle.present.specs.Present.{replaced, s_box_layer, inv_s_box_layer, p_layer, inv_p_layer, update}
use Rattle.present.specs.Tables.{SBOX}

-- the n round keys behind the first
unfoldable pub later_keys : ℕ → ℕ → ℕ → List ℕ
later_keys zero i k = []
later_keys (suc n) i k = update i k / 2 ^ 64 ∷ later_keys n (suc i) (update i k)

-- a round for each of the keys behind the first
unfoldable pub run : List ℕ → ℕ → ℕ
run [] x = x
run (k ∷ ks) x = run ks (bit_xor (p_layer (s_box_layer x)) k)

-- the same rounds undone, the last first
unfoldable pub run_back : List ℕ → ℕ → ℕ
run_back [] x = x
run_back (k ∷ ks) x = inv_s_box_layer (inv_p_layer (bit_xor (run_back ks x) k))

-- what the two layers of a round make of byte s of the state, the lowest 0, in its place
unfoldable pub piece : ℕ → ℕ → ℕ
piece s x = p_layer (replaced 16 SBOX 2 (x / 2 ^ (8 * s) % 256) * 2 ^ (8 * s))
