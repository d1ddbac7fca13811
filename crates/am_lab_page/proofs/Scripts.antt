-- A text without `<` has neither `</script` nor `<!--`.
use Rattle.std.proofs.Common.{◌≡◌, ℕ, ◌+◌, Bool, true, false, ◌&&◌, ◌||◌, ◌==◌, eqb, not, List, [], ◌∷◌, codes, refl}
use Rattle.std.specs.List.{list_all}
use Rattle.am_lab_picture.specs.Rows.{row}
use Rattle.am_lab_xml.proofs.Bools.{all_of_both, all_weaker, apart, first, not_so, second}
use Rattle.am_lab_xml.proofs.Found.{escaped_begins_none}
use Rattle.am_lab_xml.specs.Escaped.{escaped}
use Rattle.am_lab_xml.specs.Reading.{begins}
use Rattle.am_lemmas.specs.Numbered.{numbered}
use Rattle.am_office_entries.specs.declared.Entry.{Entry}
use Rattle.am_lab_page.specs.Json.Laws.{is_of_object}
use Rattle.am_lab_page.specs.Json.Objects.{json_of, object_line, object_of}
use Rattle.am_lab_page.specs.Page.Laws.{ChangesBeginNoTag, JournalsEndNoScript, has}
use Rattle.am_lab_page.proofs.Lines.{objects_are_inert}

is_other : ℕ → Bool
is_other byte = not (eqb byte 60)

HasNone : List ℕ → Type 0
HasNone text = list_all is_other text ≡ true

of_not : (a : Bool) → a ≡ false → not a ≡ true
of_not false h = refl
of_not true h = absurd (cc)

neither : (a b c : Bool) → a ≡ false → c ≡ false → ((a && b) || c) ≡ false
neither false b false h k = refl
neither true b c h k = absurd (cc)
neither false b true h k = absurd (cc)

-- what begins with `<` isn't there
absent : (rest text : List ℕ) → HasNone text → has (60 ∷ rest) text ≡ false
unfolding HasNone is_other
absent rest [] h = refl
absent rest (byte ∷ text) h =
    neither (byte == 60) (begins rest text) (has (60 ∷ rest) text) (not_so (eqb byte 60) (first (is_other byte) (list_all is_other text) h))
    (absent rest text (second (is_other byte) (list_all is_other text) h))

of_objects : (text : List ℕ) → list_all is_of_object text ≡ true → HasNone text
unfolding HasNone is_other
of_objects text h = all_weaker is_of_object is_other (λ byte p. of_not (eqb byte 60) (apart is_of_object byte 60 p refl)) text h

module _ {X : Type 0} (give : ℕ → X → List ℕ) (each : (number : ℕ) (x : X) → HasNone (give number x)) where
  of_all : (number : ℕ) (xs : List X) → HasNone (numbered give number xs)
  unfolding HasNone
  of_all number [] = refl
  of_all number (x ∷ xs) = all_of_both is_other (give number x) (numbered give (number + 1) xs) (each number x) (of_all (number + 1) xs)

of_line : (journal : List Entry) (number : ℕ) (x : Entry) → HasNone (object_line number (row journal x))
unfolding HasNone is_other
of_line journal number x =
    let r = row journal x in
    all_of_both is_other (object_of number r) (codes "\n") (of_objects (object_of number r) (objects_are_inert number r)) refl

of_journal : (journal : List Entry) → HasNone (json_of journal)
of_journal journal = of_all (λ number x. object_line number (row journal x)) (of_line journal) 3 journal

pub journals_end_no_script : JournalsEndNoScript
journals_end_no_script journal =
    let none = of_journal journal in
    record {
      ends_none = absent (codes "/script") (json_of journal) none;
      comments_none = absent (codes "!--") (json_of journal) none;
      begins_none = absent [] (json_of journal) none;
    }

-- ---- the changes

of_escaped : (text : List ℕ) → HasNone (escaped text)
unfolding HasNone is_other
of_escaped text = escaped_begins_none text

pub changes_begin_no_tag : ChangesBeginNoTag
changes_begin_no_tag text = absent [] (escaped text) (of_escaped text)
