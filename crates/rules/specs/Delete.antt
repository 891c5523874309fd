-- DELETE: P1 and P2 are 00, or 6A86; a card in CM_LOCKED answers 6985. The body is 4F, the length of a name, the name, and no
-- more, or 6A80. Without an entry of that name, load file or application, 6A88. That entry alone goes; the others keep their
-- order. The answer is 00.
use Rattle.std.specs.Prelude.{ℕ, cond, ◌&&◌, List, [], ◌∷◌, length, drop, is_some, Some, None, Option, ◌==◌, slice_index}
use Rattle.answers.specs.declared.StatusWord.TheVariants.{Success, WrongParameters, WrongData, NotFound}
use Rattle.answers.specs.Replies.{Reply, reply}
use Rattle.contents.specs.Search.{first_of}
use Rattle.contents.specs.Records.{bears}
use Rattle.contents.specs.Held.{Held}
use Rattle.contents.specs.Changes.{without_entry}
use Rattle.rules.specs.Rules.{refused, unless_locked}
use Rattle.rules.specs.Names.{name_ahead}

-- a name behind which nothing follows
abbrev pub alone : Option (List ℕ × List ℕ) → Option (List ℕ)
alone None = None
alone (Some p) = cond (length p.1 == 0) (Some p.0) None

abbrev pub deleted_name : List ℕ → Option (List ℕ)
deleted_name body = cond (slice_index body 0 == 0x4F) (alone (name_ahead (drop 1 body))) None

abbrev pub deleted_named : Held → Option (List ℕ) → Held × Reply
deleted_named h None = refused h WrongData
deleted_named h (Some name) =
    cond (is_some (first_of (bears name) h.entries)) (without_entry name h, reply (0x00 ∷ []) Success) (refused h NotFound)

unfoldable pub deleted : Held → ℕ → ℕ → List ℕ → Held × Reply
deleted h p1 p2 body =
    cond (p1 == 0x00 && p2 == 0x00) (unless_locked h (deleted_named h (deleted_name body))) (refused h WrongParameters)
