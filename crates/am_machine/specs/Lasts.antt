-- Where the entry of an event is read that was made last.
use Rattle.std.specs.Prelude.{Option, Some, None}
use Rattle.am_names.specs.declared.EndpointId.{EndpointId}
use Rattle.am_office_entries.specs.declared.Event.{Event}
use Rattle.am_office_entries.specs.declared.Event.TheVariants as Events

-- the endpoint of a call, a want, a carry or a move: its log gets the entry
abbrev pub end_named : Event → Option EndpointId
end_named (Events.Call actor end call) = Some end
end_named (Events.Want actor end) = Some end
end_named (Events.Carry end) = Some end
end_named (Events.Drain node end) = Some end
end_named (Events.Unload node end) = Some end
end_named (Events.Load node end frame) = Some end
end_named (Events.PageOut node end) = Some end
end_named (Events.PageIn node end) = Some end
end_named event = None
