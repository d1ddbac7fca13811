-- At which byte of its line a fault is shown.
use Rattle.std.specs.Prelude.{ℕ, ◌+◌, Bool, true, false, not, ◌&&◌, ◌==◌, nat_le, List, [], ◌∷◌, ◌++◌, length, take, if◌then◌else◌, Option, Some, None}
use Rattle.std.specs.List.{position}
use Rattle.am_lexer.specs.declared.what.What.{What}
use Rattle.am_lexer.specs.declared.what.What.TheVariants as Whats
use Rattle.am_scenario_types.specs.declared.parts.Form.{Form}
use Rattle.am_lab_reasons.specs.Refusals.Faults.{fault_in, is_taken, reads_on}

-- a word ends in front of these bytes
abbrev pub is_end : List ℕ → Bool
is_end [] = true
is_end (byte ∷ bytes) = byte == 32

-- Where the word begins with which a line that is cut behind it can't be taken any more: the first of the words that end here or later, of
-- which the one at hand begins at `start`.
unfoldable pub word_from : Form → ℕ → (before line : List ℕ) → (start at : ℕ) → List ℕ → Option ℕ
word_from form number before line start at [] = None
word_from form number before line start at (byte ∷ bytes) =
    if byte == 32 then word_from form number before line (at + 1) (at + 1) bytes else
    if is_end bytes && not (is_taken (fault_in form number (before ++ take (at + 1) line))) then Some start else
    word_from form number before line start (at + 1) bytes

-- the first word of a line that can't be taken where it stands, behind these bytes
abbrev pub wrong_word : Form → ℕ → (before line : List ℕ) → Option ℕ
wrong_word form number before line = word_from form number before line 0 0 line

-- the first byte of a line that isn't a space
abbrev pub first_word : List ℕ → Option ℕ
first_word line = position (λ byte. not (byte == 32)) line

-- the first byte that may not stand in a line
abbrev pub wrong_byte : List ℕ → Option ℕ
wrong_byte line = position (λ byte. not (nat_le 0x20 byte && nat_le byte 0x7e)) line

-- where a word is missing: behind the line, if it may stand there and is too short
abbrev pub missing_word : Bool → List ℕ → Option ℕ
missing_word true line = Some (length line + 1)
missing_word false line = first_word line

-- THE PLACE of a fault in its line: the byte that may not stand there; where the line as a whole may not, its first word; where a word is
-- missing, behind the line; else the first word that can't be taken
abbrev pub place : Form → ℕ → (before line : List ℕ) → What → Option ℕ
place form number before line Whats.NotText = wrong_byte line
place form number before line Whats.Twice = first_word line
place form number before line Whats.TooMany = first_word line
place form number before line Whats.Missing = missing_word (reads_on form number (before ++ line)) line
place form number before line what = wrong_word form number before line
