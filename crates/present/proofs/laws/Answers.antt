use Rattle.std.proofs.Common.{refl}
use Rattle.present.specs.Inverse.{layers, deciphers, enciphers}
use Rattle.present.proofs.Vectors as vectors
use Rattle.present.proofs.laws.Goals as goal

pub returns : goal.returns
returns c = record { answer = refl; layers = layers; undone = deciphers; redone = enciphers; published = vectors.published }
