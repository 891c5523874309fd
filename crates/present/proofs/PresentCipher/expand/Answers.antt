use Rattle.std.proofs.Common.{◌≡◌, ℕ, List, ◌∷◌, sym, ap, ◌∙◌, ap₂}
use Rattle.bits.specs.Octets.{value, octets}
use Rattle.present.specs.Present.{round_keys, rounds, inv_rounds, present, inv_present, encipher, decipher}
use Rattle.present.specs.Schedule.{enciphering, deciphering}
use Rattle.present.specs.Runs.{keys_are}
use Rattle.present.proofs.PresentCipher.expand.Goals as goal

pub returns : goal.returns
unfolding enciphering deciphering encipher decipher present inv_present
returns c =
    let k : c.expanded.result.first ∷ c.expanded.result.later ≡ round_keys 31 1 (value c.args.key.now)
    = ap₂ (λ (n : ℕ) (ns : List ℕ). n ∷ ns) c.expanded.ensures.first c.expanded.ensures.later ∙ sym (keys_are 31 1 (value c.args.key.now)) in
    let forth : List ℕ → List ℕ → List ℕ = λ ks block. octets 8 (rounds ks (value block)) in
    let back : List ℕ → List ℕ → List ℕ = λ ks block. octets 8 (inv_rounds ks (value block)) in
    record { enc = ap forth k; dec = ap back k }
