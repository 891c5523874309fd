-- What a closure that plays the script of a name answered.
use Rattle.std.specs.Prelude.{◌≡◌, ℕ, List}
use Rattle.std.specs.Fn.{FnReturns}
use denote.Param.Members.{Shared}
use denote.Ref.{Bor}

-- it was called at the name and a script's bytes, and may answer so
pub record Played {F R : Type 0} (calls : Shared F (Bor (List ℕ) × (Bor (List ℕ) × Unit {0})) R) (rows_of : F) (name : List ℕ) (answer : R) : Type 0 where
  pub text : Bor (List ℕ)
  pub script : Bor (List ℕ)
  pub named : text.now ≡ name
  pub answered : FnReturns calls rows_of (text, (script, tt)) answer
