use Rattle.counting.specs.Counted.{Distinct}
use Rattle.counting.proofs.Counts.{distinct}
use Rattle.counting.proofs.Counting.make.Given as given
use Rattle.counting.proofs.Counting.make.Goals as goal

by-laws : (g : given.Over) → Distinct g.C.Cipher.algorithm.enc
by-laws g = distinct g.C.Cipher.algorithm.enc g.C.Cipher.algorithm.dec g.met.C.Cipher.undone

pub returns-in_err-key-clause-distinct : goal.returns-in_err-key-clause-distinct
returns-in_err-key-clause-distinct g c = by-laws g

pub returns-in_err-start-clause-distinct : goal.returns-in_err-start-clause-distinct
returns-in_err-start-clause-distinct g c = by-laws g

pub returns-clause-distinct : goal.returns-clause-distinct
returns-clause-distinct g c = by-laws g
