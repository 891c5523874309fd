-- From the lines of a script to what is printed for it.
use Rattle.std.proofs.Common.{◌≡◌, ℕ, List, [], map, get_or, take, drop, Ok, Err, sym, ap, ◌∙◌, ap₂, Option}
use Rattle.std.proofs.lemmas.List.{drop-drop, get_or-drop}
use Rattle.answers.specs.declared.Refusal.{Refusal}
use Rattle.challenge.specs.Draws.{Challenges, groups}
use Rattle.cipher.specs.Blocks.{Algorithm}
use Rattle.rules.specs.Own.{Rule}
use Rattle.contents.specs.Held.{Held}
use Rattle.contents.specs.Image.{read_image}
use Rattle.card.specs.declared.channel.Channel.TheVariants.{Closed}
use Rattle.card.specs.Models.{Model, model}
use Rattle.script.specs.declared.row.Row.TheVariants.{ImageRefused}
use Rattle.script.specs.Digits.{line_bytes, pairs_of}
use Rattle.script.specs.Lines.{Line, lines_of}
use Rattle.script.specs.Rows.{row_bytes}
use Rattle.script.specs.Turns.{turn_of, rows_from}
use Rattle.script.specs.Printed.{printed, printed_by, image_in, challenges_in}

-- a missing line counts as empty
pub no_bytes : (lines : List Line) → lines ≡ [] → [] ≡ line_bytes (get_or lines 0 [])
unfolding pairs_of
no_bytes lines is = rw is

-- a card is made
pub printed_rows : {M : Type 0} (named : ℕ → Option M) (rule : Rule M) (cipher : Algorithm) (script image : List ℕ) (behind rest : List Line) (coming : Challenges) (h : Held) (m : Model)
    → image ≡ line_bytes (get_or (lines_of script) 0 []) → behind ≡ drop 1 (lines_of script) → rest ≡ drop 1 behind
    → coming ≡ groups (line_bytes (get_or behind 0 [])) → read_image image ≡ Ok h → m ≡ model h Closed coming
    → rows_from named rule cipher m 1 (map turn_of (take 4096 rest)) ≡ printed named rule cipher script
unfolding printed
printed_rows named rule cipher script image behind rest coming h m first one two come read made =
    let d : rest ≡ drop 2 (lines_of script) = two ∙ ap (drop 1) one ∙ drop-drop 1 1 (lines_of script) in
    let s : coming ≡ groups (challenges_in (lines_of script)) =
    come ∙ ap (λ (ls : List Line). groups (line_bytes (get_or ls 0 []))) one
    ∙ ap (λ (l : Line). groups (line_bytes l)) (get_or-drop 1 (lines_of script) 0 []) in
    let r : read_image (image_in (lines_of script)) ≡ Ok h = ap read_image (sym first) ∙ read in
    ap₂ (λ (n : Model) (ls : List Line). rows_from named rule cipher n 1 (map turn_of (take 4096 ls))) (made ∙ ap (model h Closed) s) d
    ∙ sym (ap (printed_by named rule cipher (lines_of script)) r)

-- no card is made
pub printed_refusal : {M : Type 0} (named : ℕ → Option M) (rule : Rule M) (cipher : Algorithm) (script image : List ℕ) (refusal : Refusal)
    → image ≡ line_bytes (get_or (lines_of script) 0 []) → read_image image ≡ Err refusal
    → row_bytes (ImageRefused refusal) ≡ printed named rule cipher script
unfolding printed
printed_refusal named rule cipher script image refusal first read =
    sym (ap (printed_by named rule cipher (lines_of script)) (ap read_image (sym first) ∙ read))
