-- What is wrong in one line of a text, whatever stands behind it.
use Rattle.std.specs.Prelude.{ℕ, Bool, true, false, not, ◌&&◌, ◌==◌, List, ◌++◌, codes, if◌then◌else◌, Option, Some, None, Result, Ok, Err}
use Rattle.am_lexer.specs.declared.what.What.{What}
use Rattle.am_lexer.specs.declared.what.What.TheVariants as Whats
use Rattle.am_scenario.specs.Grammar.{grammar}
use Rattle.am_scenario_types.specs.declared.faults.ScenarioFault.{ScenarioFault}
use Rattle.am_scenario_types.specs.declared.parts.Form.{Form}
use Rattle.am_scenario_types.specs.Lists.{ScenarioLists}

-- what is wrong in the line with this number, if it has the first fault
abbrev pub what_in : ℕ → Result ScenarioLists ScenarioFault → Option What
what_in number (Ok scenario) = None
what_in number (Err fault) = if fault.line == number then Some fault.what else None

-- the same of a line with this number, which ends a text
abbrev pub fault_in : Form → ℕ → List ℕ → Option What
fault_in form number text = what_in number (grammar form text)

-- a fault is that something is missing
abbrev pub is_missing : Option What → Bool
is_missing (Some Whats.Missing) = true
is_missing fault = false

-- A line that ends here has no word that may not stand where it stands: nothing is wrong, more words are missing, or the line as a whole
-- stands there once too often.
abbrev pub is_taken : Option What → Bool
is_taken None = true
is_taken (Some Whats.Missing) = true
is_taken (Some Whats.Twice) = true
is_taken (Some Whats.TooMany) = true
is_taken (Some Whats.UnknownWord) = false
is_taken (Some Whats.BadNumber) = false
is_taken (Some Whats.OutOfRange) = false
is_taken (Some Whats.Undeclared) = false
is_taken (Some Whats.NotText) = false
is_taken (Some Whats.OutOfPlace) = false

-- the word of a reader who looks on: no keyword, and no number
abbrev pub no_word : List ℕ
no_word = codes " ?"

-- Behind the text of a line another word is read: a word that can't be one is told. Where a line may not stand at all, it isn't looked at.
abbrev pub reads_on : Form → ℕ → List ℕ → Bool
reads_on form number text = not (is_missing (fault_in form number (text ++ no_word)))

-- a word may stand behind the text of a line
abbrev pub may_stand : Form → ℕ → List ℕ → List ℕ → Bool
may_stand form number front word = is_taken (fault_in form number (front ++ word)) && reads_on form number (front ++ word)
