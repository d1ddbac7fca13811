-- What was due where a report is stopped.
use Rattle.std.specs.Prelude.{◌≡◌, ℕ, ◌+◌, ◌-◌, true, Some, List, [], ◌∷◌, take, drop, length, slice_get}
use Rattle.am_check.specs.Cut.{place_of}
use Rattle.am_check.specs.Follows.{ids_of}
use Rattle.am_check.specs.Verdict.{HasJournal, Reaches}
use Rattle.am_check.specs.declared.faults.CheckWhat.{CheckWhat}
use Rattle.am_check.specs.declared.faults.CheckWhat.TheVariants as Whats
use Rattle.am_model_drain.specs.Made.{next_entry}
use Rattle.am_check_lines.specs.Reading.{event_of}
use Rattle.am_lexer.specs.Text.{lines_of}
use Rattle.am_model.specs.History.{is_in_range}
use Rattle.am_office_entries.specs.declared.Condition.{Condition}
use Rattle.am_office_entries.specs.declared.Entry.{Entry}
use Rattle.am_office_entries.specs.declared.Event.{Event}
use Rattle.am_office_report.specs.Report.{report}
use Rattle.am_scenario.specs.Laws.{Spells}
use Rattle.am_scenario_types.specs.declared.parts.Form.{Form}
use Rattle.am_scenario_types.specs.Lists.{ScenarioLists}
use Rattle.am_model_scripts.specs.Layout.{layout_of}
use Rattle.am_lab_reasons.specs.Due.Choices.{choices}
use Rattle.am_lab_reasons.specs.Due.Found.{found}
use Rattle.am_lab_reasons.specs.Due.Texts.{due_entry, due_line}

-- The line with this number, counted from 1, stands behind those of this journal, which has begun to follow the scenario. It and
-- the lines behind it are left.
pub record StandsAt (form : Form) (s : ScenarioLists) (bytes : List ℕ) (number : ℕ) (journal : List Entry) (left : List (List ℕ)) : Type 0 where
  pub reached : Reaches form s (drop 2 (lines_of bytes)) journal left
  pub number' : number ≡ length journal + 3

-- a line stands behind some journal
pub record IsBehindJournal (form : Form) (s : ScenarioLists) (bytes : List ℕ) (number : ℕ) : Type 0 where
  pub journal : List Entry
  pub left : List (List ℕ)
  pub at : StandsAt form s bytes number journal left

-- a line tells this event behind this journal
pub record TellsEvent (form : Form) (s : ScenarioLists) (bytes : List ℕ) (number : ℕ) (journal : List Entry) (event : Event) : Type 0 where
  pub line : List ℕ
  pub left : List (List ℕ)
  pub at : StandsAt form s bytes number journal (line ∷ left)
  pub told : event_of line ≡ Some event
  pub in_range : is_in_range (layout_of s) event ≡ true

-- a line tells an event behind some journal
pub record HasEvent (form : Form) (s : ScenarioLists) (bytes : List ℕ) (number : ℕ) : Type 0 where
  pub journal : List Entry
  pub event : Event
  pub tells : TellsEvent form s bytes number journal event

-- what the machine makes of the event of a line
pub record DueEntry (form : Form) (s : ScenarioLists) (bytes : List ℕ) (number : ℕ) (out : List ℕ) : Type 0 where
  pub journal : List Entry
  pub event : Event
  pub tells : TellsEvent form s bytes number journal event
  pub text : out ≡ due_entry (next_entry (layout_of s) journal event)

-- what the event of a line finds for which a condition does not hold
pub record FoundState (form : Form) (s : ScenarioLists) (bytes : List ℕ) (number : ℕ) (condition : Condition) (out : List ℕ) : Type 0 where
  pub journal : List Entry
  pub event : Event
  pub tells : TellsEvent form s bytes number journal event
  pub text : out ≡ found (layout_of s) journal event condition

-- the events that might have come in place of a line
pub record MightCome (form : Form) (s : ScenarioLists) (bytes : List ℕ) (number : ℕ) (out : List ℕ) : Type 0 where
  pub journal : List Entry
  pub left : List (List ℕ)
  pub at : StandsAt form s bytes number journal left
  pub text : out ≡ choices form s journal

-- the line with the number, counted from 1, of the report of the journal that the lines tell
pub record DueLine (form : Form) (s : ScenarioLists) (bytes : List ℕ) (number : ℕ) (out : List ℕ) : Type 0 where
  pub journal : List Entry
  pub has : HasJournal form s bytes journal
  pub text : out ≡ due_line (slice_get (lines_of (report (ids_of s) journal)) (number - 1))

-- What was due at a line of the report of a scenario, by what is wrong there. Of a line that may not stand there at all no more is
-- told.
abbrev pub WasDueOf : Form → ScenarioLists → List ℕ → ℕ → CheckWhat → List ℕ → Type 0
WasDueOf form s bytes number Whats.Form out = out ≡ []
WasDueOf form s bytes number (Whats.NotEnabled condition) out = FoundState form s bytes number condition out
WasDueOf form s bytes number Whats.Outcome out = DueEntry form s bytes number out
WasDueOf form s bytes number Whats.Follows out = MightCome form s bytes number out
WasDueOf form s bytes number Whats.Tail out = DueLine form s bytes number out

-- what was due at a line of a report that stands behind its scenario
pub record WasDueBehind (form : Form) (text : List ℕ) (number : ℕ) (what : CheckWhat) (out : List ℕ) : Type 0 where
  pub place : ℕ
  pub place' : place_of text ≡ Some place
  pub scenario : ScenarioLists
  pub spelled : Spells form (take place text) scenario
  pub due : WasDueOf form scenario (drop place text) number what out

-- what was due at a line of the report in a text
abbrev pub WasDue : Form → List ℕ → ℕ → CheckWhat → List ℕ → Type 0
WasDue form text number Whats.Form out = out ≡ []
WasDue form text number what out = WasDueBehind form text number what out
