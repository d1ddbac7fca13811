-- Which journals follow their scenario as far as a printed journal can tell: those of a step script follow its lines, and those
-- of a run its scripts, whoever made their entries and in whichever phase.
use Rattle.std.specs.Prelude.{◌≡◌, true, false, Option, Some, None, List, [], length, map, slice_get}
use Rattle.am_names.specs.declared.EndpointId.{EndpointId}
use Rattle.am_office_entries.specs.declared.Event.{Event}
use Rattle.am_office_entries.specs.declared.Entry.{Entry}
use Rattle.am_model.specs.History.{EachAfter, is_in_range}
use Rattle.am_model.specs.Steps.{stop}
use Rattle.am_scenario_types.specs.declared.parts.Form.{Form}
use Rattle.am_scenario_types.specs.declared.parts.Form.TheVariants.{Step, Run}
use Rattle.am_scenario_types.specs.declared.parts.EndLine.{EndLine}
use Rattle.am_scenario_types.specs.declared.parts.ScriptCall.{ScriptCall}
use Rattle.am_scenario_types.specs.Lists.{ScenarioLists}
use Rattle.am_model_scripts.specs.Layout.{layout_of, events_of}
use Rattle.am_model_scripts.specs.Links.{IsReceiptInOrder, is_all_received, next_receipt}
use Rattle.am_model_scripts.specs.Scripts.{KeepsScripts, call_left, call_made}
use Rattle.am_model_scripts.specs.Standings.{IsAtRest}
use Rattle.am_model_scripts.specs.Follows.{is_last, is_of_run}
use Rattle.am_model_drain.specs.Made.{next_entry}

-- the endpoints of a scenario, in their order
abbrev pub ids_of : ScenarioLists → List EndpointId
ids_of s = map (λ (end : EndLine). end.id) s.ends

-- a call of a thread is the next one of its script
abbrev pub IsNextCall : ScenarioLists → List Entry → Option ScriptCall → Type 0
IsNextCall s past None = Unit {0}
IsNextCall s past (Some call) = call_left s past call.thread ≡ Some call

-- an event may come in a run: its numbers are in range and what must be declared is, it is one of a run, a call is the next one
-- of its script, and a receipt takes the next released packet of its link
pub record ComesInRun (s : ScenarioLists) (past : List Entry) (event : Event) : Type 0 where
  pub in_range : is_in_range (layout_of s) event ≡ true
  pub of_run : is_of_run s event ≡ true
  pub next_call : IsNextCall s past (call_made event)
  pub receipt : IsReceiptInOrder s past event

-- an event is the one that a scenario lets come after these entries: that of the next step line, or one that may come in a run
abbrev pub MayCome : Form → ScenarioLists → List Entry → Event → Type 0
MayCome Step s past event = slice_get (events_of s.steps) (length past) ≡ Some event
MayCome Run s past event = ComesInRun s past event

-- an entry comes too early: a last try, while something that was released is not received
abbrev pub IsEarly : Form → ScenarioLists → List Entry → Entry → Type 0
IsEarly Step s past x = ⊥
IsEarly Run s past x = (is_last s past x ≡ true) × (is_all_received s past ≡ false)

-- an entry is the one that comes after these: its event may come, nothing stops it, neither a condition nor a full log, it
-- doesn't come too early, and it is what the machine makes of its event
pub record Comes (form : Form) (s : ScenarioLists) (past : List Entry) (x : Entry) : Type 0 where
  pub may : MayCome form s past x.event
  pub unstopped : stop (layout_of s) past x.event ≡ None
  pub in_time : ¬ (IsEarly form s past x)
  pub made : x ≡ next_entry (layout_of s) past x.event

-- so is each entry of a journal
abbrev pub IsBegun : Form → ScenarioLists → List Entry → Type 0
IsBegun form s journal = EachAfter (Comes form s) [] journal

-- at the end of a run all calls were made, all that was released was received, and all is at rest
pub record IsRunEnded (s : ScenarioLists) (journal : List Entry) : Type 0 where
  pub scripts : KeepsScripts s journal
  pub received : next_receipt s journal ≡ None
  pub rest : IsAtRest s journal

-- a journal is whole: it has an entry for each step line, or its run is at its end
abbrev pub IsEnded : Form → ScenarioLists → List Entry → Type 0
IsEnded Step s journal = length journal ≡ length s.steps
IsEnded Run s journal = IsRunEnded s journal
