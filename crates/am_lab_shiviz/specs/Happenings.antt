-- A journal's entries as happenings.
use Rattle.std.specs.Prelude.{ℕ, List, Option, Some, None, map, option_and_then, unwrap_or}
use Rattle.std.specs.Option.{option_map}
use Rattle.am_names.specs.declared.EndpointId.{EndpointId}
use Rattle.am_names.specs.declared.NodeId.{NodeId}
use Rattle.am_office_entries.specs.declared.Entry.{Entry}
use Rattle.am_office_entries.specs.declared.Event.{Event}
use Rattle.am_office_entries.specs.declared.Event.TheVariants as Events
use Rattle.am_office_entries.specs.declared.Outcome.{Outcome}
use Rattle.am_office_entries.specs.declared.Outcome.TheVariants as Out
use Rattle.am_scenario_types.specs.declared.parts.EndLine.{EndLine}
use Rattle.am_scenario_types.specs.Lawful.{node_of}
use Rattle.am_lab_picture.specs.Ways.{emitter, received_way}
use Rattle.am_lab_shiviz.specs.declared.knowledge.Happening.{Happening}

-- the node of an endpoint; node 0 where no line declares it, as in no report
abbrev pub home : List EndLine → EndpointId → NodeId
home ends end = unwrap_or (node_of ends end) (record { 0 = 0 })

-- the node where an event happens: that whose interface or driver acts, and else that of its endpoint
abbrev pub host : List EndLine → Event → NodeId
host ends (Events.Call actor end call) = home ends end
host ends (Events.Want actor end) = home ends end
host ends (Events.Carry end) = home ends end
host ends (Events.Bind node end) = node
host ends (Events.Expire node peer channel) = node
host ends (Events.Receive node peer number) = node
host ends (Events.Drain node end) = node
host ends (Events.Unload node end) = node
host ends (Events.Load node end frame) = node
host ends (Events.PageOut node end) = node
host ends (Events.PageIn node end) = node

-- the endpoint that a carry reaches
abbrev pub reached_end : Event → Outcome → Option EndpointId
reached_end (Events.Carry end) (Out.Accepted m) = Some m.dest
reached_end (Events.Carry end) (Out.Requeued m cause used) = Some m.dest
reached_end (Events.Carry end) (Out.Returned m cause) = Some m.dest
reached_end event outcome = None

-- the place of the entry that emitted the packet which an event receives
abbrev pub emission : List Entry → Event → Option ℕ
emission journal event = option_and_then (emitter journal) (received_way event)

abbrev pub happening : List EndLine → List Entry → Entry → Happening
happening ends journal x =
    record { node = host ends x.event; reached = option_map (home ends) (reached_end x.event x.outcome); hears = emission journal x.event }

-- the entries of a journal, as far as clocks go
abbrev pub happenings_of : List EndLine → List Entry → List Happening
happenings_of ends journal = map (happening ends journal) journal
