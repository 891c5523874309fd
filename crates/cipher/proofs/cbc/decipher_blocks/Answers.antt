use Rattle.cipher.specs.Cbc.{ChainUndone}
use Rattle.cipher.proofs.Chains.{chain_undone}
use Rattle.cipher.proofs.cbc.decipher_blocks.Given as given
use Rattle.cipher.proofs.cbc.decipher_blocks.Goals as goal

by-laws : (g : given.Over) → ChainUndone g.C.Cipher.algorithm.enc g.C.Cipher.algorithm.dec
by-laws g =
    chain_undone _ _ (record { enciphered = g.met.C.Cipher.enciphered; undone = g.met.C.Cipher.undone })

pub returns-then-not-fits-clause-undone : goal.returns-then-not-fits-clause-undone
returns-then-not-fits-clause-undone g c = by-laws g

pub returns-clause-undone : goal.returns-clause-undone
returns-clause-undone g c = by-laws g
