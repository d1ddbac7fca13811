-- Why an event of a run is not made.
use Rattle.std.specs.Prelude.{◌↔◌, Err}
use Rattle.std.proofs.Common.{◌≡◌, Bool, true, false, Option, Some, None, List, refl}
use Rattle.am_office_entries.specs.declared.Condition.{Condition}
use Rattle.am_office_entries.specs.declared.Event.{Event}
use Rattle.am_office_entries.specs.declared.Entry.{Entry}
use Rattle.am_office_entries.specs.declared.Part.{Part}
use Rattle.am_model.specs.History.{failing}
use Rattle.am_model.specs.Steps.{LogFull, full_log, stop_by}
use Rattle.am_machine.specs.View.{Applies, ClusterView}
use Rattle.am_model.specs.declared.EntryFault.{EntryFault}
use Rattle.am_model.specs.declared.EntryFault.TheVariants as EntryFaults
use Rattle.am_scenario_types.specs.declared.parts.Form.TheVariants.{Run}
use Rattle.am_scenario_types.specs.Lists.{ScenarioLists}
use Rattle.am_model_scripts.specs.Layout.{layout_of}
use Rattle.am_model_drain.specs.Made.{next_entry}
use Rattle.am_check.specs.Follows.{IsEarly}
use Rattle.am_check.specs.Lines.{StopsEvent, stop_in_run}

unfailing : (f : Option Condition) (l : Option Part) (p : Part) → stop_by f l ≡ Some (LogFull p) → f ≡ None
unfailing None l p h = refl
unfailing (Some c) l p h = absurd (cc)

-- an early event tells it, where nothing keeps it from happening
abbrev pub TellsEarly : ScenarioLists → List Entry → Event → Bool → Type 0
TellsEarly s past event early = failing (layout_of s) past event ≡ None → (early ≡ true) ↔ IsEarly Run s past (next_entry (layout_of s) past event)

pub early_stops : (s : ScenarioLists) (past : List Entry) (new : ClusterView) (event : Event) (early : Bool) (fault : EntryFault) →
    TellsEarly s past event early → Applies (record { layout = layout_of s; journal = past }) new event (Err fault) →
    StopsEvent Run s past event (stop_in_run early fault)
early_stops s past new event true (EntryFaults.LogFull part) tells told =
    let free = unfailing (failing (layout_of s) past event) (full_log (layout_of s) past event) part told.0 in
    (free, (tells free).0 refl)
early_stops s past new event false (EntryFaults.LogFull part) tells told =
    let free = unfailing (failing (layout_of s) past event) (full_log (layout_of s) past event) part told.0 in
    ((λ early. let both : false ≡ true = (tells free).1 early in absurd (cc)), told.0)
early_stops s past new event true (EntryFaults.NotEnabled condition) tells told = told.0
early_stops s past new event false (EntryFaults.NotEnabled condition) tells told = told.0
early_stops s past new event true EntryFaults.NoMemory tells told = tt
early_stops s past new event false EntryFaults.NoMemory tells told = tt
