-- What a closure that runs the file of a name answered.
use Rattle.std.specs.Prelude.{◌≡◌, ◌⊎◌, Bool, false, ℕ, List, Result, Ok, Err}
use Rattle.std.specs.declared.io.Error.{Error}
use Rattle.std.specs.Fn.{FnReturns}
use denote.Param.Members.{Shared}
use denote.Ref.{Bor}

-- it was called at the name, and may answer so
pub record Ran {F H : Type 0} (calls : Shared F (Bor H × (Bor (List ℕ) × Unit {0})) (Result Bool Error)) (run_named : F) (name : List ℕ) (answer : Result Bool Error) : Type 0 where
  pub handle : Bor H
  pub text : Bor (List ℕ)
  pub named : text.now ≡ name
  pub answered : FnReturns calls run_named (handle, (text, tt)) answer

-- not every row of the file agreed, or it was not run to its end
abbrev pub Failed : {F H : Type 0} → Shared F (Bor H × (Bor (List ℕ) × Unit {0})) (Result Bool Error) → F → List ℕ → Type 0
Failed calls run_named name = Ran calls run_named name (Ok false) ⊎ ((why : Error) × Ran calls run_named name (Err why))
