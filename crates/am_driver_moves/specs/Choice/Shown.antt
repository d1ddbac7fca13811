-- Which state a view shows, and which moves are enabled there.
use Rattle.std.specs.Prelude.{◌≡◌, ◌<◌, Bool, true, false, Option, Some, None, List, length}
use Rattle.std.specs.List.{list_any}
use Rattle.am_names.specs.declared.EndpointId.{EndpointId}
use Rattle.am_names.specs.declared.NodeId.{NodeId}
use Rattle.am_names.specs.Names.{same_end}
use Rattle.am_office_entries.specs.declared.Event.{Event}
use Rattle.am_office_entries.specs.declared.Event.TheVariants as Events
use Rattle.am_office_entries.specs.declared.Entry.{Entry}
use Rattle.am_model.specs.Layout.{Layout, AllAre}
use Rattle.am_model.specs.History.{failing, is_home, is_in_range, state_of}
use Rattle.am_driver_moves.specs.declared.choice.EndView.{EndView}
use Rattle.am_driver_moves.specs.declared.choice.Move.{Move}
use Rattle.am_driver_moves.specs.declared.choice.Move.TheVariants as Moves
use Rattle.am_driver_moves.specs.Choice.Lists.{ViewLists}

-- a line shows its endpoint as it is after these entries
pub record ShowsEnd (layout : Layout) (past : List Entry) (node : NodeId) (e : EndView) : Type 0 where
  pub home : is_home layout e.id node ≡ true
  pub place : e.place ≡ (state_of layout past e.id).head.place
  pub wanted : e.wanted ≡ (state_of layout past e.id).head.wanted
  pub draining : e.draining ≡ (state_of layout past e.id).head.draining
  pub closed : e.closed ≡ (state_of layout past e.id).head.closed
  pub in_flight : e.in_flight ≡ length (state_of layout past e.id).body.in_flight

abbrev pub is_line_of : EndpointId → EndView → Bool
is_line_of e line = same_end e line.id

-- a view shows the frames and all endpoints of a node of the packet network, as they are after these entries
pub record Shows (layout : Layout) (past : List Entry) (node : NodeId) (view : ViewLists) : Type 0 where
  pub packet : layout.direct ≡ false
  pub node_declared : node.0 < layout.nodes
  pub frames : view.frames ≡ layout.frames
  pub right : AllAre (ShowsEnd layout past node) view.ends
  pub whole : (e : EndpointId) → is_home layout e node ≡ true → list_any (is_line_of e) view.ends ≡ true

-- the event of a move of the node's driver
abbrev pub event_of : NodeId → Move → Option Event
event_of node (Moves.Drain e) = Some (Events.Drain node e)
event_of node (Moves.Unload e) = Some (Events.Unload node e)
event_of node (Moves.Load e frame) = Some (Events.Load node e frame)
event_of node (Moves.PageOut e) = Some (Events.PageOut node e)
event_of node (Moves.PageIn e) = Some (Events.PageIn node e)
event_of node Moves.Nothing = None

-- an event has its numbers in range, and nothing keeps it from happening after these entries
abbrev pub MayHappen : Layout → List Entry → Option Event → Type 0
MayHappen layout past None = Unit {0}
MayHappen layout past (Some event) = (is_in_range layout event ≡ true) × (failing layout past event ≡ None)

-- wherever the view shows the state, the move is enabled in it
abbrev pub IsEnabledWhereShown : ViewLists → Move → Type 0
IsEnabledWhereShown view move = (layout : Layout) (past : List Entry) (node : NodeId) → Shows layout past node view → MayHappen layout past (event_of node move)
