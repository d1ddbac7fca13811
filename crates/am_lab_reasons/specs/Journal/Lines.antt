-- The lines of a journal, from which it is made again.
use Rattle.std.specs.Prelude.{◌≡◌, ℕ, ◌+◌, true, None, Some, List, [], ◌++◌, drop, length, map}
use Rattle.am_lexer.specs.Text.{lines_of}
use Rattle.am_office_entries.specs.declared.Entry.{Entry}
use Rattle.am_model.specs.Layout.{Layout}
use Rattle.am_model.specs.History.{EachAfter, is_in_range}
use Rattle.am_model.specs.Steps.{stop}
use Rattle.am_model_drain.specs.Made.{next_entry}
use Rattle.am_check_lines.specs.Grammar.{printed}
use Rattle.am_check_lines.specs.Reading.{event_of}
use Rattle.am_check.specs.Verdict.{count_of}

-- an entry is made again by its line: the line tells its event, nothing stops that, and it is what the machine makes of it
pub record IsMadeAgain (layout : Layout) (past : List Entry) (x : Entry) : Type 0 where
  pub in_range : is_in_range layout x.event ≡ true
  pub unstopped : stop layout past x.event ≡ None
  pub made : x ≡ next_entry layout past x.event
  pub told : event_of (printed x) ≡ Some x.event

-- The first lines are those of this journal, each entry of which is made again by its line. These are left.
pub record AreLines (layout : Layout) (lines : List (List ℕ)) (journal : List Entry) (left : List (List ℕ)) : Type 0 where
  pub each : EachAfter (IsMadeAgain layout) [] journal
  pub lines' : lines ≡ map printed journal ++ left

-- the first so many lines are those of some journal
pub record HasLines (layout : Layout) (lines : List (List ℕ)) (count : ℕ) : Type 0 where
  pub journal : List Entry
  pub left : List (List ℕ)
  pub are : AreLines layout lines journal left
  pub count' : length journal ≡ count

-- The line with this number, counted from 1, stands behind the lines of some journal.
pub record IsBehindLines (layout : Layout) (bytes : List ℕ) (number : ℕ) : Type 0 where
  pub journal : List Entry
  pub left : List (List ℕ)
  pub are : AreLines layout (drop 2 (lines_of bytes)) journal left
  pub number' : number ≡ length journal + 3

-- The second line tells how many lines the journal has.
pub record HasEnd (layout : Layout) (bytes : List ℕ) : Type 0 where
  pub journal : List Entry
  pub left : List (List ℕ)
  pub are : AreLines layout (drop 2 (lines_of bytes)) journal left
  pub count : count_of (lines_of bytes) ≡ Some (length journal)
