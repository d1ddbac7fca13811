-- What is told of a text that spells no scenario, behind the line that tells its first fault.
use Rattle.std.specs.Prelude.{ℕ, ◌-◌, Bool, true, false, ◌&&◌, nat_le, nat_lt, List, [], ◌++◌, codes, map, replicate, slice_get, take}
use Rattle.std.specs.Prelude.{if◌then◌else◌, Option, Some, None, Result, Ok, Err}
use Rattle.am_lexer.specs.declared.what.What.{What}
use Rattle.am_lexer.specs.declared.what.What.TheVariants as Whats
use Rattle.am_lexer.specs.Text.{has_bytes, lines_of}
use Rattle.am_scenario.specs.Grammar.{grammar}
use Rattle.am_scenario_types.specs.declared.faults.ScenarioFault.{ScenarioFault}
use Rattle.am_scenario_types.specs.declared.parts.Form.{Form}
use Rattle.am_scenario_types.specs.declared.parts.Form.TheVariants.{Step, Run}
use Rattle.am_scenario_types.specs.Lists.{ScenarioLists}
use Rattle.am_lab_reasons.specs.Refusals.Faults.{reads_on}
use Rattle.am_lab_reasons.specs.Refusals.Lines.{lines_before}
use Rattle.am_lab_reasons.specs.Refusals.Places.{first_word, place}
use Rattle.am_lab_reasons.specs.Refusals.Stands.{stands}

-- ---- the line, and the place in it

-- a byte as it is shown
abbrev pub shown : ℕ → ℕ
shown byte = if nat_le 0x20 byte && nat_le byte 0x7e then byte else 63

-- a line of the text, behind two spaces
unfoldable pub shown_line : List ℕ → List ℕ
shown_line line = codes "  " ++ map shown line ++ codes "\n"

-- the mark under a byte of that line
unfoldable pub mark : ℕ → List ℕ
mark at = codes "  " ++ replicate at 32 ++ codes "^\n"

abbrev pub mark_if : Option ℕ → List ℕ
mark_if None = []
mark_if (Some at) = mark at

abbrev pub source_of : Option (List ℕ) → List ℕ
source_of None = []
source_of (Some line) = shown_line line ++ mark_if (first_word line)

-- THE LINE of a text with this number, counted from 1, and the mark under its first word
unfoldable pub source_text : ℕ → List ℕ → List ℕ
source_text number text = source_of (slice_get (lines_of text) (number - 1))

-- ---- what might stand there

-- which words might stand in place of the one that begins at a byte of the line
abbrev pub stands_for : Form → ℕ → (before line : List ℕ) → ℕ → List ℕ
stands_for form number before line at = stands form number (before ++ take at line)

-- which words might stand behind the line, or in place of its first one
abbrev pub stands_missing : Form → ℕ → (before line : List ℕ) → ℕ → Bool → List ℕ
stands_missing form number before line at true = stands form number (before ++ line ++ codes " ")
stands_missing form number before line at false = stands_for form number before line at

-- Of a word at fault: which might stand in its place. Where a word is missing: which might stand behind the line, if the line may stand there.
abbrev pub stands_at : Form → ℕ → (before line : List ℕ) → What → ℕ → List ℕ
stands_at form number before line Whats.UnknownWord at = stands_for form number before line at
stands_at form number before line Whats.BadNumber at = stands_for form number before line at
stands_at form number before line Whats.OutOfRange at = stands_for form number before line at
stands_at form number before line Whats.Undeclared at = stands_for form number before line at
stands_at form number before line Whats.OutOfPlace at = stands_for form number before line at
stands_at form number before line Whats.Missing at = stands_missing form number before line at (reads_on form number (before ++ line))
stands_at form number before line what at = []

abbrev pub told_place : Form → ℕ → (before line : List ℕ) → What → Option ℕ → List ℕ
told_place form number before line what None = []
told_place form number before line what (Some at) = mark at ++ stands_at form number before line what at

-- the line, the mark under the place of its fault, and which words might stand there; or that the text ended before
abbrev pub told_line : Form → ℕ → (before : List ℕ) → Option (List ℕ) → What → List ℕ
told_line form number before None what = codes "the text ends there: each scenario has an am2 line, a network line and a nodes line\n"
told_line form number before (Some line) what = shown_line line ++ told_place form number before line what (place form number before line what)

-- ---- the usual mistakes

abbrev pub other_form : Form → Form
other_form Step = Run
other_form Run = Step

-- a reader finds no fault up to the end of a line
abbrev pub is_read_on : ℕ → Result ScenarioLists ScenarioFault → Bool
is_read_on number (Ok scenario) = true
is_read_on number (Err fault) = nat_lt number fault.line

-- that the other form's reader finds none
abbrev pub form_sentence : Form → Bool → List ℕ
form_sentence form false = []
form_sentence Step true = codes "run reads on there: the text may be the scenario of a run\n"
form_sentence Run true = codes "step reads on there: the text may be a step script\n"

abbrev pub sentence_by : Form → (has_text reads : Bool) → List ℕ
sentence_by form false reads = codes "there is no scenario: the text is empty, or begins with a report\n"
sentence_by form true reads = form_sentence form reads

-- what the text may be instead
abbrev pub sentence : Form → ℕ → List ℕ → List ℕ
sentence form number bytes = sentence_by form (has_bytes bytes) (is_read_on number (grammar (other_form form) bytes))

-- ---- all of it

-- WHAT IS TOLD of a text and its first fault
unfoldable pub refusal_text : Form → List ℕ → ScenarioFault → List ℕ
refusal_text form bytes fault =
    told_line form fault.line (lines_before fault.line bytes) (slice_get (lines_of bytes) (fault.line - 1)) fault.what ++ sentence form fault.line bytes
