-- The lines of a report, and what keeps one of its journal from passing.
use Rattle.std.specs.Prelude.{◌≡◌, ◌⊎◌, ℕ, Bool, true, Some, None, List, [], ◌∷◌, ◌++◌}
use Rattle.am_office_entries.specs.declared.Event.{Event}
use Rattle.am_office_entries.specs.declared.Entry.{Entry}
use Rattle.am_check_lines.specs.Grammar.{IsLineOf, printed}
use Rattle.am_model.specs.History.{failing}
use Rattle.am_model.specs.Steps.{NotEnabled, LogFull, stop}
use Rattle.am_scenario_types.specs.declared.parts.Form.{Form}
use Rattle.am_scenario_types.specs.Lists.{ScenarioLists}
use Rattle.am_model_scripts.specs.Layout.{layout_of}
use Rattle.am_model_drain.specs.Made.{next_entry}
use Rattle.am_model.specs.declared.EntryFault.{EntryFault}
use Rattle.am_model.specs.declared.EntryFault.TheVariants as EntryFaults
use Rattle.am_check.specs.declared.faults.CheckWhat.TheVariants as Whats
use Rattle.am_check.specs.declared.faults.LineStop.{LineStop}
use Rattle.am_check.specs.declared.faults.LineStop.TheVariants as Stops
use Rattle.am_check.specs.Follows.{MayCome, IsEarly, Comes}

-- a line tells an event that may come
pub record TellsOne (form : Form) (s : ScenarioLists) (past : List Entry) (line : List ℕ) (event : Event) : Type 0 where
  pub told : IsLineOf line event
  pub may : MayCome form s past event

-- why a line does not pass after these entries: it is no event's line; its event may not come; its event isn't enabled; its entry
-- would come too early; a log is full; or it isn't the line of the entry that the machine makes
abbrev pub StopsLine : Form → ScenarioLists → List Entry → List ℕ → LineStop → Type 0
StopsLine form s past line (Stops.What Whats.Form) = (event : Event) → ¬ (IsLineOf line event)
StopsLine form s past line (Stops.What Whats.Follows) =
    (event : Event) × IsLineOf line event
    × ((¬ (MayCome form s past event)) ⊎ (MayCome form s past event × (failing (layout_of s) past event ≡ None) × IsEarly form s past (next_entry (layout_of s) past event)))
StopsLine form s past line (Stops.What (Whats.NotEnabled condition)) =
    (event : Event) × TellsOne form s past line event × (stop (layout_of s) past event ≡ Some (NotEnabled condition))
StopsLine form s past line (Stops.LogFull part) =
    (event : Event) × TellsOne form s past line event × (¬ (IsEarly form s past (next_entry (layout_of s) past event))) × (stop (layout_of s) past event ≡ Some (LogFull part))
StopsLine form s past line (Stops.What Whats.Outcome) =
    (event : Event) × TellsOne form s past line event × (¬ (IsEarly form s past (next_entry (layout_of s) past event))) × (stop (layout_of s) past event ≡ None) × (¬ (line ≡ printed (next_entry (layout_of s) past event)))
StopsLine form s past line (Stops.What Whats.Tail) = ⊥
StopsLine form s past line Stops.NoMemory = Unit {0}

-- why the entry of an event that may come after these is not made: the event isn't enabled; its entry would come too early; or a
-- log is full
abbrev pub StopsEvent : Form → ScenarioLists → List Entry → Event → LineStop → Type 0
StopsEvent form s past event (Stops.What Whats.Follows) = (failing (layout_of s) past event ≡ None) × IsEarly form s past (next_entry (layout_of s) past event)
StopsEvent form s past event (Stops.What (Whats.NotEnabled condition)) = stop (layout_of s) past event ≡ Some (NotEnabled condition)
StopsEvent form s past event (Stops.LogFull part) = (¬ (IsEarly form s past (next_entry (layout_of s) past event))) × (stop (layout_of s) past event ≡ Some (LogFull part))
StopsEvent form s past event Stops.NoMemory = Unit {0}
StopsEvent form s past event why = ⊥

-- the entry of an event comes next, and the journal has it then
pub record MakesOne (form : Form) (s : ScenarioLists) (past : List Entry) (event : Event) (x : Entry) (journal : List Entry) : Type 0 where
  pub comes : Comes form s past x
  pub event' : x.event ≡ event
  pub journal' : journal ≡ past ++ x ∷ []

-- a line passes: it is that of the entry that comes after these, which is then made
pub record PassesLine (form : Form) (s : ScenarioLists) (past : List Entry) (line : List ℕ) (journal : List Entry) : Type 0 where
  pub entry : Entry
  pub comes : Comes form s past entry
  pub line' : line ≡ printed entry
  pub journal' : journal ≡ past ++ entry ∷ []

-- why a line does not pass that isn't that of an entry
abbrev pub IsOther : Entry → List ℕ → LineStop → Type 0
IsOther x line (Stops.What Whats.Outcome) = ¬ (line ≡ printed x)
IsOther x line Stops.NoMemory = Unit {0}
IsOther x line stop = ⊥

-- why a line does not pass whose event the machine does not make
abbrev pub stop_of : EntryFault → LineStop
stop_of (EntryFaults.NotEnabled condition) = Stops.What (Whats.NotEnabled condition)
stop_of (EntryFaults.LogFull part) = Stops.LogFull part
stop_of EntryFaults.NoMemory = Stops.NoMemory

-- why an event of a run is not made, where its entry would come too early or not: that comes before a full log
abbrev pub stop_in_run : Bool → EntryFault → LineStop
stop_in_run true (EntryFaults.LogFull part) = Stops.What Whats.Follows
stop_in_run early fault = stop_of fault
