-- What the JSON of a journal is to whoever reads it.
use Rattle.std.specs.Prelude.{◌≡◌, ℕ, Bool, true, ◌&&◌, ◌||◌, ◌==◌, nat_le, List, [], ◌∷◌, length}
use Rattle.std.specs.List.{list_all}
use Rattle.am_lab_picture.specs.Rows.{row}
use Rattle.am_lab_picture.specs.declared.data.Row.{Row}
use Rattle.am_lemmas.specs.Numbered.{numbered}
use Rattle.am_lexer.specs.Text.{lines_of}
use Rattle.am_office_entries.specs.declared.Entry.{Entry}
use Rattle.am_office_text.specs.EntryLines.Lines.{outcome, what, who}
use Rattle.am_lab_page.specs.Json.Objects.{json_of, object_of, spread}

-- the objects of a journal's entries, in order
abbrev pub objects_of : List Entry → List (List ℕ)
objects_of journal = numbered (λ number x. object_of number (row journal x) ∷ []) 3 journal

-- each entry has its line, and no line is another's
pub record HasItsLines (journal : List Entry) : Type 0 where
  pub lines : lines_of (json_of journal) ≡ objects_of journal
  pub count : length (lines_of (json_of journal)) ≡ length journal

abbrev pub EachEntryHasItsLine : Type 0
EachEntryHasItsLine = (journal : List Entry) → HasItsLines journal

-- a digit, a lower-case letter, a space, a full stop or a hyphen
abbrev pub is_plain : ℕ → Bool
is_plain byte = (nat_le 48 byte && nat_le byte 57) || ((nat_le 97 byte && nat_le byte 122) || (byte == 32 || (byte == 46 || byte == 45)))

abbrev pub are_plain : List ℕ → Bool
are_plain text = list_all is_plain text

-- the texts of an entry are as they stand in the report
pub record IsPlain (x : Entry) : Type 0 where
  pub actor : are_plain (who x.event) ≡ true
  pub event : are_plain (spread (what x.event)) ≡ true
  pub outcome' : are_plain (spread (outcome x.outcome)) ≡ true

abbrev pub NothingIsEscaped : Type 0
NothingIsEscaped = (x : Entry) → IsPlain x

-- such a byte, or one of " , : { }
abbrev pub is_of_object : ℕ → Bool
is_of_object byte = is_plain byte || (byte == 34 || (byte == 44 || (byte == 58 || (byte == 123 || byte == 125))))

-- so an object has no byte that could begin a tag, or end a line
abbrev pub ObjectsAreInert : Type 0
ObjectsAreInert = (number : ℕ) (r : Row) → list_all is_of_object (object_of number r) ≡ true
