use Rattle.std.proofs.Common.{◌≡◌, ℕ, List, [], get_or, map, reverse, ap, ◌∙◌, ap₂}
use Rattle.bits.specs.Octets.{value}
use Rattle.tripledes.specs.Des.{round_keys, des, undes}
use Rattle.tripledes.specs.Round.{held}
use Rattle.tripledes.specs.Schedules.{passes, enciphering, deciphering}
use Rattle.tripledes.specs.TripleDes.{k1, k2, encipher, decipher}
use Rattle.tripledes.proofs.TripleDesCipher.expand.Goals as goal

pub returns : goal.returns
unfolding passes enciphering deciphering encipher decipher des undes k1 k2
returns c =
    let j : c.value_of.result ≡ k1 c.args.key.now = c.value_of.ensures ∙ ap (λ (l : List (List ℕ)). value (get_or l 0 [])) c.halves.ensures in
    let k : c.value_of-2.result ≡ k2 c.args.key.now = c.value_of-2.ensures ∙ ap (λ (l : List (List ℕ)). value (get_or l 1 [])) c.halves.ensures in
    let f1 : map held c.expanded.result.forward ≡ round_keys (k1 c.args.key.now) = c.expanded.ensures.forward ∙ ap round_keys j in
    let b1 : map held c.expanded.result.backward ≡ reverse (round_keys (k1 c.args.key.now))
    = c.expanded.ensures.backward ∙ ap (λ (n : ℕ). reverse (round_keys n)) j in
    let f2 : map held c.expanded-2.result.forward ≡ round_keys (k2 c.args.key.now) = c.expanded-2.ensures.forward ∙ ap round_keys k in
    let b2 : map held c.expanded-2.result.backward ≡ reverse (round_keys (k2 c.args.key.now))
    = c.expanded-2.ensures.backward ∙ ap (λ (n : ℕ). reverse (round_keys n)) k in
    record {
      enc = ap₂ (λ (p q : List ℕ). passes p q p) f1 b2;
      dec = ap₂ (λ (p q : List ℕ). passes p q p) b1 f2;
    }
