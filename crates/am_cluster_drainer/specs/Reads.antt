-- What a drain reads of a machine, and which turns have their numbers in range.
use Rattle.std.specs.Prelude.{Bool, ◌&&◌, nat_lt}
use Rattle.am_names.specs.declared.EndpointId.{EndpointId}
use Rattle.am_names.specs.declared.NodeId.{NodeId}
use Rattle.am_office_entries.specs.declared.Actor.TheVariants.{Thread}
use Rattle.am_office_entries.specs.declared.Event.{Event}
use Rattle.am_office_entries.specs.declared.Event.TheVariants as Events
use Rattle.am_model.specs.Layout.{Layout, declared}
use Rattle.am_model.specs.Endpoint.{front}
use Rattle.am_model.specs.Changes.{has_arrivals}
use Rattle.am_model.specs.History.{is_in_range}
use Rattle.am_scenario_types.specs.declared.parts.ScriptCall.{ScriptCall}
use Rattle.am_model_scripts.specs.Standings.{Standing}
use Rattle.am_model_drain.specs.declared.Turn.{Turn}
use Rattle.am_model_drain.specs.declared.Turn.TheVariants.{Once, Send, Make}
use Rattle.am_model_drain.specs.Rules.{has_reply, Left}
use Rattle.am_cluster_drainer.specs.declared.EndHead.{EndHead}
use Rattle.am_cluster_drainer.specs.declared.EndMail.{EndMail}
use Rattle.am_cluster_drainer.specs.declared.LeftCall.{LeftCall}

abbrev pub head_of : Standing → EndHead
head_of s = record { id = s.setting.id; node = s.setting.node; head = s.state.head }

abbrev pub mail_of : Standing → EndMail
mail_of s =
    record {
      id = s.setting.id;
      node = s.setting.node;
      front = front s.state;
      has_reply = has_reply s;
      has_arrivals = has_arrivals s.state.body;
    }

abbrev pub left_of : LeftCall → Left
left_of l = record { after = l.after; call = l.call }

-- whether an endpoint is declared, and a node is one of the layout
abbrev pub is_seat : Layout → NodeId → EndpointId → Bool
is_seat layout node e = declared layout e && nat_lt node.0 layout.nodes

abbrev pub call_event : ScriptCall → Event
call_event c = Events.Call (Thread c.thread) c.endpoint c.call

-- whether the numbers of a turn are in range
abbrev pub is_turn_in_range : Layout → Turn → Bool
is_turn_in_range layout (Once event) = is_in_range layout event
is_turn_in_range layout (Send node e m) = is_seat layout node e
is_turn_in_range layout (Make c) = is_in_range layout (call_event c)
