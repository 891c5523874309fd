-- What is known of the files that were run.
use Rattle.std.proofs.Common.{◌≡◌, inl, inr, ℕ, Bool, true, false, ◌&&◌, List, [], ◌∷◌, ◌++◌, Result, Ok, Err, String, string_bytes, IfErr, refl, sym, subst, get_or, length, ◌<◌}
use Rattle.std.specs.List.{All, Contains}
use Rattle.std.specs.declared.io.Error.{Error}
use Rattle.std.specs.declared.alloc.Global.{Global}
use Rattle.std.proofs.lemmas.List.Elements.{All-nil, All-push, Contains-append_left, Contains-push, Contains-get_or}
use Rattle.std.proofs.lemmas.Fn.{says}
use denote.Param.Members.{Shared}
use denote.Ref.{Bor}
use Rattle.vector_files.specs.Runs.{Ran, Failed}

module _ {F H : Type 0} (calls : Shared F (Bor H × (Bor (List ℕ) × Unit {0})) (Result Bool Error)) (run_named : F) where
  abbrev pub Good : String Global → Type 0
  Good name = Ran calls run_named (string_bytes name) (Ok true)

  abbrev pub Bad : List (String Global) → Type 0
  Bad seen = (name : String Global) × Contains seen name × Failed calls run_named (string_bytes name)

  pub record Told (seen : List (String Global)) (all : Bool) : Type 0 where
    pub good : all ≡ true → All Good seen
    pub bad : all ≡ false → Bad seen

  pub told_none : Told [] true
  told_none = record { good = λ _. All-nil Good; bad = λ h. cc h }

  still_bad : (seen : List (String Global)) (name : String Global) → Bad seen → Bad (seen ++ (name ∷ []))
  still_bad seen name b = (b.0, Contains-append_left seen (name ∷ []) b.0 b.1, b.2)

  pub told_more : (seen : List (String Global)) (name : String Global) (all ran : Bool) → Ran calls run_named (string_bytes name) (Ok ran) → Told seen all
      → Told (seen ++ (name ∷ [])) (all && ran)
  told_more seen name true true r t = record { good = λ _. All-push Good seen name (t.good refl) r; bad = λ h. cc h }
  told_more seen name true false r t = record { good = λ h. cc h; bad = λ _. (name, Contains-push seen name, inl r) }
  told_more seen name false ran r t = record { good = λ h. cc h; bad = λ _. still_bad seen name (t.bad refl) }

  -- a call, by what it answered
  pub ran_as : (handle : Bor H) (text : Bor (List ℕ)) (name : String Global) (r answer : Result Bool Error) → calls.post run_named (handle, (text, tt)) r → r ≡ answer
      → text.now ≡ string_bytes name → Ran calls run_named (string_bytes name) answer
  ran_as handle text name r answer called is named = record { handle = handle; text = text; named = named; answered = says calls called is }

  -- a name that was not run to its end
  pub bad_at : (names : List (String Global)) (name : String Global) (why : Error) → Contains names name → Ran calls run_named (string_bytes name) (Err why) → Bad names
  bad_at names name why at r = (name, at, inr (why, r))

pub turn_in : {X : Type 0} (all : List X) (i : ℕ) (x : X) → (i < length all) × (x ≡ get_or all i x) → Contains all x
turn_in all i x t = subst (λ y. Contains all y) (sym t.1) (Contains-get_or all i x t.0)

pub whatever_err : {A E P : Type 0} (r : Result A E) → P → IfErr r (λ _. P)
whatever_err (Ok x) p = tt
whatever_err (Err e) p = p
