-- What the journal in a page is to a browser, which reads it up to the first `</script`, and otherwise behind a `<!--`; and the text of the changes,
-- which it reads up to the first `<`.
use Rattle.std.specs.Prelude.{◌≡◌, ℕ, Bool, false, ◌||◌, List, [], ◌∷◌, codes}
use Rattle.am_lab_xml.specs.Escaped.{escaped}
use Rattle.am_lab_xml.specs.Reading.{begins}
use Rattle.am_office_entries.specs.declared.Entry.{Entry}
use Rattle.am_lab_page.specs.Json.Objects.{json_of}

-- whether a text has another somewhere
abbrev pub has : List ℕ → List ℕ → Bool
has part [] = begins part []
has part (byte ∷ text) = begins part (byte ∷ text) || has part text

pub record EndsNoScript (text : List ℕ) : Type 0 where
  pub ends_none : has (codes "</script") text ≡ false
  pub comments_none : has (codes "<!--") text ≡ false
  pub begins_none : has (codes "<") text ≡ false

abbrev pub JournalsEndNoScript : Type 0
JournalsEndNoScript = (journal : List Entry) → EndsNoScript (json_of journal)

-- whatever text it is, none of it begins a tag
abbrev pub ChangesBeginNoTag : Type 0
ChangesBeginNoTag = (text : List ℕ) → has (codes "<") (escaped text) ≡ false
