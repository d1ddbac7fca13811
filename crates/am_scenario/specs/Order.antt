-- The order of refusals of one line.
use Rattle.std.specs.Prelude.{ℕ, not, ◌&&◌, ◌||◌, ◌==◌, nat_lt, List, [], ◌∷◌, if◌then◌else◌, Result, Ok, Err}
use Rattle.std.specs.Option.{is_some}
use Rattle.std.specs.List.{slice_index}
use Rattle.am_lexer.specs.declared.what.What.{What}
use Rattle.am_lexer.specs.declared.what.What.TheVariants.{UnknownWord, Missing, NotText, OutOfPlace}
use Rattle.am_lexer.specs.Text.{words_of, is_text_line}
use Rattle.am_lexer.specs.Fields.{◌>>=◌, or_else}
use Rattle.am_scenario_types.specs.declared.parts.Form.{Form}
use Rattle.am_scenario.specs.Drafts.Said.{Said, with_line}
use Rattle.am_scenario.specs.declared.lines.head.Head.{Head}
use Rattle.am_scenario.specs.Lines.Heads.{head_of, section_of, is_of_form}
use Rattle.am_scenario.specs.Lines.Lines.{words_say}

-- the refusals of a line whose first word is known, before its other words are read
unfoldable pub placed : Form → Said → Head → Result Head What
placed form said head =
    if said.section == 0 && not (section_of head == 1) then Err Missing else
    if nat_lt (section_of head) said.section || not (is_of_form form head) then Err OutOfPlace else
    if nat_lt 2 (section_of head) && not (is_some said.settings.network && is_some said.settings.nodes) then Err Missing else Ok head

-- what is said after a line that is no comment, by its first word and the words behind it
abbrev pub after_named : Form → ℕ → Said → List ℕ → List (List ℕ) → Result Said What
after_named form number said first words = do
  named ← or_else UnknownWord (head_of said.version first)
  head ← placed form said named
  line ← words_say form said head words
  Ok (with_line number (record said { section = section_of head }) line)

-- what is said after a line of words; a line without words, and one whose first word begins with #, says nothing
unfoldable pub after_words : Form → ℕ → Said → List (List ℕ) → Result Said What
after_words form number said [] = Ok said
after_words form number said (first ∷ words) =
    if slice_index first 0 == 35 then Ok said else (do
      named ← or_else UnknownWord (head_of said.version first)
      head ← placed form said named
      line ← words_say form said head words
      Ok (with_line number (record said { section = section_of head }) line))

-- what is said after a line
unfoldable pub after_line : Form → ℕ → Said → List ℕ → Result Said What
after_line form number said line = if is_text_line line then after_words form number said (words_of line) else Err NotText
