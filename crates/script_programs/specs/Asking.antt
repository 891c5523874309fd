-- What the words of a command line ask for, behind the options.
use Rattle.std.specs.Prelude.{ℕ, ◌++◌, Bool, true, false, cond, List, ◌==◌, slice_index, Some, None, Option, Result, Ok, Err, String, string_bytes, bytes_eq, codes}
use Rattle.std.specs.declared.alloc.Global.{Global}
use Rattle.script_programs.specs.declared.command_line.Asked.{Asked}
use Rattle.script_programs.specs.declared.command_line.Asked.TheVariants.{Help, Play}
use Rattle.script_programs.specs.declared.command_line.Misuse.{Misuse}
use Rattle.script_programs.specs.declared.command_line.Misuse.TheVariants.{UnknownOption, NoCipher, UnknownCipher, TooManyArguments}

-- one word: the help; the script on standard input; no option that there is, as it begins with the sign - (45); or a file's name
abbrev pub word_asks : String Global → Result Asked Misuse
word_asks word =
    cond (bytes_eq (string_bytes word) (codes "--help")) (Ok Help)
    (cond (bytes_eq (string_bytes word) (codes "-")) (Ok (Play None))
    (cond (slice_index (string_bytes word) 0 == 45) (Err (UnknownOption word)) (Ok (Play (Some word)))))

-- the first word, and whether more stand behind it: without a word the script on standard input, and never two words
abbrev pub words_ask : Option (String Global) → Bool → Result Asked Misuse
words_ask None more = Ok (Play None)
words_ask (Some word) true = Err TooManyArguments
words_ask (Some word) false = word_asks word

-- what is wrong, in words
abbrev pub misuse_text : Misuse → List ℕ
misuse_text (UnknownOption word) = codes "unknown option " ++ string_bytes word
misuse_text NoCipher = codes "no cipher behind --cipher"
misuse_text (UnknownCipher word) = codes "unknown cipher " ++ string_bytes word
misuse_text TooManyArguments = codes "too many arguments"
