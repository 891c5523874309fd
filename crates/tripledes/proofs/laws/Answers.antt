use Rattle.std.proofs.Common.{refl}
use Rattle.tripledes.specs.Feistel.{undoes}
use Rattle.tripledes.specs.Inverse.{deciphers, enciphers, parity_free}
use Rattle.tripledes.proofs.Vectors as vectors
use Rattle.tripledes.proofs.laws.Goals as goal

pub returns : goal.returns
returns c = record {
  answer = refl;
  backwards = undoes;
  undone = deciphers;
  redone = enciphers;
  parity = parity_free;
  published = vectors.published;
}
