-- One step after the other of shrinking: what is known of the lines that are kept.
use Rattle.std.specs.Prelude.{◌≡◌, ◌⊎◌, ℕ, ◌<◌, ◌≤◌, true, false, List, length, remove}
use Rattle.std.specs.List.{remove_range}
use Rattle.am_lab_shrink.specs.declared.reports.Making.{Making}
use Rattle.am_lab_shrink.specs.Lines.{IsSubsequence, text_of}
use Rattle.am_lab_shrink.specs.Reports.{TellsWhether}

-- the report of some lines has a line that begins with the words, or hasn't
abbrev pub HaveLine : (making : Making) (words : List ℕ) → List (List ℕ) → Type 0
HaveLine making words lines = TellsWhether making words (text_of lines) true

abbrev pub LackLine : (making : Making) (words : List ℕ) → List (List ℕ) → Type 0
LackLine making words lines = TellsWhether making words (text_of lines) false

-- none from this place on can be left out alone
abbrev pub IsLeastFrom : (making : Making) (words : List ℕ) (from : ℕ) → List (List ℕ) → Type 0
IsLeastFrom making words from lines = (place : ℕ) → from ≤ place → place < length lines → LackLine making words (remove lines place)

-- the lines of a part are left out if the rest has such a line; else all stay
abbrev pub IsTried : (making : Making) (words : List ℕ) (from to : ℕ) (old new : List (List ℕ)) → Type 0
IsTried making words from to old new =
    ((new ≡ old) × LackLine making words (remove_range old from to)) ⊎ ((new ≡ remove_range old from to) × HaveLine making words new)

-- some lines of others, whose report still has such a line
pub record Shrinks (making : Making) (words : List ℕ) (old new : List (List ℕ)) : Type 0 where
  pub lines : IsSubsequence new old
  pub fewer : length new ≤ length old
  pub have : HaveLine making words new

-- each part of this size was tried, from the last to the one at this place; where each line was tried and all stay, none can be left out
pub record IsPassed (making : Making) (words : List ℕ) (size from : ℕ) (old new : List (List ℕ)) : Type 0 where
  pub shrinks : Shrinks making words old new
  pub least : size ≡ 1 → length new ≡ length old → IsLeastFrom making words from new

-- the text is that of lines which stay when none can be left out any more
pub record IsLeastText (making : Making) (words : List ℕ) (lines : List (List ℕ)) (text : List ℕ) : Type 0 where
  pub kept : List (List ℕ)
  pub text' : text ≡ text_of kept
  pub shrinks : Shrinks making words lines kept
  pub least : IsLeastFrom making words 0 kept
