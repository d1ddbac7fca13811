-- What keeps a work from being done, want of memory aside.
use Rattle.std.specs.Prelude.{◌==◌, Option, Some, None, length, if◌then◌else◌}
use Rattle.am_office_entries.specs.declared.Condition.{Condition}
use Rattle.am_office_entries.specs.declared.Part.{Part}
use Rattle.am_office_entries.specs.declared.Part.TheVariants as Parts
use Rattle.am_model.specs.Endpoint.{State}
use Rattle.am_model.specs.declared.EntryFault.{EntryFault}
use Rattle.am_model.specs.declared.EntryFault.TheVariants as Faults
use Rattle.am_model_parts.specs.declared.work.Work.{Work}
use Rattle.am_model_parts.specs.Interface.{failing_at}
use Rattle.am_endpoint.specs.View.{EndpointView, state_after}
use Rattle.am_iface.specs.View.{InterfaceView, own}

-- the condition that fails, or else the log that is full
abbrev pub refused_by : Option Condition → Option Part → Option EntryFault
refused_by (Some condition) full = Some (Faults.NotEnabled condition)
refused_by None (Some part) = Some (Faults.LogFull part)
refused_by None None = None

-- the interface's log, where it has as many entries as it may
abbrev pub full_here : InterfaceView → Option Part
full_here v = if length v.log == v.settings.log then Some (Parts.Interface v.settings.node) else None

-- the endpoint's log, where it has as many entries as it may, or else the interface's
abbrev pub full_with : InterfaceView → EndpointView → Option Part
full_with v e = if length e.log == e.settings.log then Some (Parts.Endpoint e.settings.id) else full_here v

-- what a work is refused for that touches no endpoint, or one in this state
abbrev pub refusal_alone : InterfaceView → State → Work → Option EntryFault
refusal_alone v s w = refused_by (failing_at (own v) s w) (full_here v)

-- what a work is refused for that touches this endpoint
abbrev pub refusal_with : InterfaceView → EndpointView → Work → Option EntryFault
refusal_with v e w = refused_by (failing_at (own v) (state_after e) w) (full_with v e)
