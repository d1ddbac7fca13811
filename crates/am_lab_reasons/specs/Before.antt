-- What stands in front of a fault of a report: the journal up to there, and what became of a message in that.
use Rattle.std.specs.Prelude.{◌≡◌, ℕ, Bool, true, false, nat_le, Some, List, take, drop}
use Rattle.am_check.specs.Cut.{place_of}
use Rattle.am_check.specs.Verdict.{HasJournal}
use Rattle.am_check.specs.declared.faults.CheckWhat.{CheckWhat}
use Rattle.am_check.specs.declared.faults.CheckWhat.TheVariants as Whats
use Rattle.am_names.specs.declared.Serial.{Serial}
use Rattle.am_office_entries.specs.declared.Entry.{Entry}
use Rattle.am_scenario.specs.Laws.{Spells}
use Rattle.am_scenario_types.specs.declared.parts.Form.{Form}
use Rattle.am_scenario_types.specs.Lists.{ScenarioLists}
use Rattle.am_lab_reasons.specs.Due.Due.{StandsAt}
use Rattle.am_lab_reasons.specs.Reasons.{reasons}

-- whether a fault lies behind the report's journal
abbrev pub is_behind : CheckWhat → Bool
is_behind Whats.Form = false
is_behind (Whats.NotEnabled condition) = false
is_behind Whats.Outcome = false
is_behind Whats.Follows = false
is_behind Whats.Tail = true

-- Whether the report has lines of a journal in front of a fault, or might have: not where no report stands there, and not where its second
-- line doesn't tell how many lines it has.
abbrev pub has_front : ℕ → CheckWhat → Bool
has_front number Whats.Form = nat_le 3 number
has_front number (Whats.NotEnabled condition) = true
has_front number Whats.Outcome = true
has_front number Whats.Follows = true
has_front number Whats.Tail = true

-- The journal is the one whose entries' lines are the report's in front of the fault's line, and it has begun to follow the scenario; where
-- the fault lies behind the journal, it is the whole journal.
abbrev pub StandsBefore : Form → ScenarioLists → List ℕ → ℕ → CheckWhat → List Entry → Type 0
StandsBefore form s bytes number Whats.Tail journal = HasJournal form s bytes journal
StandsBefore form s bytes number what journal = (left : List (List ℕ)) × StandsAt form s bytes number journal left

-- The scenario of a text, and the journal in front of a fault of the report behind it.
pub record IsFrontOf (form : Form) (text : List ℕ) (number : ℕ) (what : CheckWhat) (scenario : ScenarioLists) (journal : List Entry) : Type 0 where
  pub place : ℕ
  pub place' : place_of text ≡ Some place
  pub spelled : Spells form (take place text) scenario
  pub stands : StandsBefore form scenario (drop place text) number what journal

-- What is told of a message of a report that has a fault: what became of it in the journal in front of that.
pub record TellsBefore (form : Form) (text : List ℕ) (number : ℕ) (what : CheckWhat) (s : Serial) (out : List ℕ) : Type 0 where
  pub scenario : ScenarioLists
  pub journal : List Entry
  pub front : IsFrontOf form text number what scenario journal
  pub text' : out ≡ reasons scenario.plan journal s
