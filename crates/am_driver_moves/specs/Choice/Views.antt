-- The view that shows a state, and what is least in a view.
use Rattle.std.specs.Prelude.{◌≡◌, ℕ, ◌<◌, ◌≤◌, Bool, true, false, Option, Some, List, [], ◌∷◌, find, filter, map, length}
use Rattle.am_names.specs.declared.EndpointId.{EndpointId}
use Rattle.am_names.specs.declared.NodeId.{NodeId}
use Rattle.am_names.specs.Names.{same_node}
use Rattle.am_office_entries.specs.declared.Entry.{Entry}
use Rattle.am_model.specs.Endpoint.{State}
use Rattle.am_model.specs.Layout.{Layout, EndSetting, AllAre}
use Rattle.am_model.specs.History.{state_of}
use Rattle.am_driver_moves.specs.declared.choice.EndView.{EndView}
use Rattle.am_driver_moves.specs.Choice.Lists.{ViewLists}
use Rattle.am_driver_moves.specs.Choice.Shown.{Shows}

-- the line of an endpoint in this state
abbrev pub line_of : EndpointId → State → EndView
line_of e s =
    record {
      id = e;
      place = s.head.place;
      wanted = s.head.wanted;
      draining = s.head.draining;
      closed = s.head.closed;
      in_flight = length s.body.in_flight;
    }

-- the lines of these endpoints after these entries, where they are of the node
abbrev pub lines_of : Layout → List Entry → NodeId → List EndSetting → List EndView
lines_of layout past node settings =
    map (λ (s : EndSetting). line_of s.id (state_of layout past s.id)) (filter (λ (s : EndSetting). same_node node s.node) settings)

-- the view of a node after these entries
abbrev pub view_of : Layout → List Entry → NodeId → ℕ → Option EndpointId → ViewLists
view_of layout past node keep last =
    record { ends = lines_of layout past node layout.ends; frames = layout.frames; keep = keep; last = last }

-- every state of a node on the packet network is shown by a view
abbrev pub EachStateIsShown : Type 0
EachStateIsShown =
    (layout : Layout) (past : List Entry) (node : NodeId) (keep : ℕ) (last : Option EndpointId)
    → layout.direct ≡ false → node.0 < layout.nodes → Shows layout past node (view_of layout past node keep last)

-- the numbers of the lines rise
abbrev pub IsAscending : List EndView → Type 0
IsAscending [] = Unit {0}
IsAscending (e ∷ more) = AllAre (λ (x : EndView). e.id.0 < x.id.0) more × IsAscending more

-- the first line that passes, where the numbers rise, has the least number of those that pass
abbrev pub FirstIsLeast : Type 0
FirstIsLeast =
    (p : EndView → Bool) (ends : List EndView) (e : EndView)
    → IsAscending ends → find p ends ≡ Some e → AllAre (λ (x : EndView). p x ≡ true → e.id.0 ≤ x.id.0) ends
