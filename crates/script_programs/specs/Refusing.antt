-- Which refusal comes of what.
use Rattle.std.specs.Prelude.{◌≡◌, ℕ, ◌++◌, List, Some, None, Option, String, codes}
use Rattle.std.specs.declared.alloc.Global.{Global}
use Rattle.std.specs.declared.io.Error.{Error}
use Rattle.script_programs.specs.declared.refused.Refused.{Refused}
use Rattle.script_programs.specs.declared.refused.Refused.TheVariants.{Arguments, Misused, Input, File, Output, Memory}
use Rattle.script_programs.specs.Asking.{misuse_text}

-- a script that cannot be read: the file's name and why, or why standard input cannot
abbrev pub OfReading : Option (String Global) → Refused → Type 0
OfReading (Some name) refused = (why : Error) × (refused ≡ File name why)
OfReading None refused = (why : Error) × (refused ≡ Input why)

-- rows that cannot be written
abbrev pub OfWriting : Refused → Type 0
OfWriting refused = (why : Error) × (refused ≡ Output why)

-- why no row is printed, in words; the system's own words say why a file or an output cannot be read or written
abbrev pub refused_text : Refused → Option (List ℕ)
refused_text Arguments = Some (codes "the arguments cannot be read")
refused_text (Misused misuse accepted) = Some (misuse_text misuse ++ (codes ": " ++ accepted.now))
refused_text (Input why) = None
refused_text (File name why) = None
refused_text (Output why) = None
refused_text Memory = Some (codes "not enough memory")
