-- What an event is refused for.
use Rattle.std.specs.Prelude.{Option, option_map}
use Rattle.am_office_entries.specs.declared.Event.{Event}
use Rattle.am_model.specs.Steps.{Stop, NotEnabled, LogFull, stop}
use Rattle.am_model.specs.declared.EntryFault.{EntryFault}
use Rattle.am_model.specs.declared.EntryFault.TheVariants as Faults
use Rattle.am_machine.specs.View.{ClusterView}

abbrev pub fault_of : Stop → EntryFault
fault_of (NotEnabled condition) = Faults.NotEnabled condition
fault_of (LogFull part) = Faults.LogFull part

-- what an event is refused for, want of memory aside: the first of its conditions that isn't met, or else the full log
abbrev pub refusal : ClusterView → Event → Option EntryFault
refusal v event = option_map fault_of (stop v.layout v.journal event)
