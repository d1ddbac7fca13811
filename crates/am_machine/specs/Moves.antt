-- What a driver's move asks of the endpoint that it moves and of the frames, as the machine tells it.
use Rattle.std.specs.Prelude.{ℕ, Bool, true, false, ◌&&◌, Option, None, List}
use Rattle.std.specs.List.{list_any}
use Rattle.am_names.specs.declared.NodeId.{NodeId}
use Rattle.am_names.specs.Names.{same_node}
use Rattle.am_office_entries.specs.declared.Condition.{Condition}
use Rattle.am_office_entries.specs.declared.Event.{Event}
use Rattle.am_office_entries.specs.declared.Event.TheVariants as Events
use Rattle.am_model.specs.Choice.{first_holding}
use Rattle.am_model.specs.Endpoint.{State}
use Rattle.am_model.specs.Tables.{drain_table, load_table, page_in_table, page_out_table, unload_table}
use Rattle.am_model.specs.History.{is_in_frame}
use Rattle.am_endpoint.specs.View.{EndpointView, state_after}

-- whether an endpoint is of the node and lies in the frame
abbrev pub is_in_frame_of : NodeId → ℕ → EndpointView → Bool
is_in_frame_of node frame v = same_node node v.settings.node && is_in_frame frame (state_after v).head.place

-- whether the event loads into a frame in which one of the endpoints lies
abbrev pub is_taken : List EndpointView → Event → Bool
is_taken vs (Events.Load node end frame) = list_any (is_in_frame_of node frame) vs
is_taken vs event = false

-- the first condition of a move that an endpoint of the driver's node, in this state, doesn't meet, where the frame may be taken
abbrev pub failing_on : State → Event → Bool → Option Condition
failing_on s (Events.Drain node end) taken = first_holding (drain_table true s)
failing_on s (Events.Unload node end) taken = first_holding (unload_table true s)
failing_on s (Events.Load node end frame) taken = first_holding (load_table true s taken)
failing_on s (Events.PageOut node end) taken = first_holding (page_out_table true s)
failing_on s (Events.PageIn node end) taken = first_holding (page_in_table true s)
failing_on s event taken = None
