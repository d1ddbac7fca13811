-- That the checker's answer is exact.
use Rattle.std.specs.Prelude.{◌≡◌, ◌⊎◌, ℕ, ◌<◌, ◌^◌, Some, List, length, take, drop, Result, Ok, Err}
use Rattle.am_scenario_types.specs.declared.parts.Form.{Form}
use Rattle.am_scenario_types.specs.Lists.{ScenarioLists}
use Rattle.am_scenario.specs.Laws.{Spells}
use Rattle.am_check.specs.declared.faults.CheckStop.{CheckStop}
use Rattle.am_check.specs.declared.faults.CheckStop.TheVariants as Answers
use Rattle.am_check.specs.Cut.{place_of}
use Rattle.am_check.specs.Verdict.{IsReportOf, Checks}

-- A text spells a scenario up to its first report, and from there on it is the report of a journal that follows this scenario.
pub record IsChecked (form : Form) (text : List ℕ) : Type 0 where
  pub place : ℕ
  pub place' : place_of text ≡ Some place
  pub scenario : ScenarioLists
  pub spelled : Spells form (take place text) scenario
  pub report : IsReportOf form scenario (drop place text)

-- the answer is yes only for such a text, and a stop only for another; want of memory says nothing
abbrev pub IsExact : Form → List ℕ → Result (Unit {0}) CheckStop → Type 0
IsExact form text (Ok x) = IsChecked form text
IsExact form text (Err Answers.NoMemory) = Unit {0}
IsExact form text (Err stop) = ¬ (IsChecked form text)

-- two answers are the same, or one of them is want of memory
abbrev pub AreSame : Result (Unit {0}) CheckStop → Result (Unit {0}) CheckStop → Type 0
AreSame one other = (one ≡ other) ⊎ ((one ≡ Err Answers.NoMemory) ⊎ (other ≡ Err Answers.NoMemory))

-- no other answer is right for a text
abbrev pub IsOnly : Form → List ℕ → Result (Unit {0}) CheckStop → Type 0
IsOnly form text answer = (other : Result (Unit {0}) CheckStop) → Checks form text other → AreSame answer other

-- a text has as many bytes as a memory of 64 bits can hold
abbrev pub FitsMemory : List ℕ → Type 0
FitsMemory text = length text < 2 ^ 64

-- every answer is exact
abbrev pub AnswersAreExact : Type 0
AnswersAreExact = (form : Form) (text : List ℕ) (answer : Result (Unit {0}) CheckStop) → FitsMemory text → Checks form text answer → IsExact form text answer

-- just one answer is right for a text, so each stop is given exactly where it is what the text is stopped for
abbrev pub OneAnswer : Type 0
OneAnswer = (form : Form) (text : List ℕ) (answer : Result (Unit {0}) CheckStop) → FitsMemory text → Checks form text answer → IsOnly form text answer
