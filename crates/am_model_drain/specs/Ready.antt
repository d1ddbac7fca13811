-- Making endpoints ready to send and to receive: off disk, not draining, in a frame.
use Rattle.std.specs.Prelude.{ℕ, zero, suc, ◌+◌, Bool, true, false, ◌&&◌, not, nat_lt, Option, Some, None, is_none, List, length, find, filter}
use Rattle.std.specs.List.{list_any, range_with_len}
use Rattle.am_names.specs.declared.EndpointId.{EndpointId}
use Rattle.am_names.specs.declared.NodeId.{NodeId}
use Rattle.am_names.specs.Names.{same_end}
use Rattle.am_office_entries.specs.declared.Event.TheVariants as Events
use Rattle.am_office_entries.specs.declared.Entry.{Entry}
use Rattle.am_model.specs.Endpoint.{State, is_on_disk, is_on_host, is_in_a_frame}
use Rattle.am_model.specs.Layout.{Layout, home}
use Rattle.am_model.specs.History.{state_of, is_in_frame}
use Rattle.am_model_scripts.specs.Standings.{Standing, standings, is_standing_of, is_of_node}
use Rattle.am_model_drain.specs.Made.{after_event, after_event_if}

-- page-ins of an endpoint until one does not fail, and at most so many
abbrev pub paged_in : ℕ → Layout → NodeId → EndpointId → List Entry → List Entry
paged_in zero layout node e past = past
paged_in (suc more) layout node e past =
    paged_in more layout node e (after_event_if (is_on_disk (state_of layout past e).head.place) layout (Events.PageIn node e) past)

-- an endpoint is no longer on disk: no more page calls fail than there are faults
abbrev pub off_disk : Layout → NodeId → EndpointId → List Entry → List Entry
off_disk layout node e past = paged_in (length layout.faults + 1) layout node e past

abbrev pub off_disk_at : Option NodeId → Layout → EndpointId → List Entry → List Entry
off_disk_at None layout e past = past
off_disk_at (Some node) layout e past = off_disk layout node e past

abbrev pub is_draining_in_frame : State → Bool
is_draining_in_frame s = is_in_a_frame s.head.place && s.head.draining

-- an endpoint in a frame is not draining
abbrev pub not_draining : Layout → NodeId → EndpointId → List Entry → List Entry
not_draining layout node e past = after_event_if (is_draining_in_frame (state_of layout past e)) layout (Events.Unload node e) past

abbrev pub holds_frame : NodeId → ℕ → Standing → Bool
holds_frame node frame s = is_of_node node s && is_in_frame frame s.state.head.place

-- the least free frame of a node
abbrev pub free_frame : Layout → NodeId → List Standing → Option ℕ
free_frame layout node ends = find (λ (frame : ℕ). not (list_any (holds_frame node frame) ends)) (range_with_len 0 layout.frames)

abbrev pub is_neither : EndpointId → EndpointId → Standing → Bool
is_neither source dest s = not (is_standing_of source s) && not (is_standing_of dest s)

-- whether an endpoint of the node may leave its frame for a message
abbrev pub may_leave : NodeId → EndpointId → EndpointId → Standing → Bool
may_leave node source dest s = is_of_node node s && (is_in_a_frame s.state.head.place && is_neither source dest s)

-- an endpoint leaves its frame, and drains before if it does not yet
abbrev pub unloaded : Layout → Option Standing → List Entry → List Entry
unloaded layout None past = past
unloaded layout (Some s) past =
    after_event layout (Events.Unload s.setting.node s.setting.id) (after_event_if (not s.state.head.draining) layout (Events.Drain s.setting.node s.setting.id) past)

abbrev pub is_open_on_host : NodeId → Standing → Bool
is_open_on_host node s = is_of_node node s && (is_on_host s.state.head.place && not s.state.head.closed)

abbrev pub paged_out : Layout → Option Standing → List Entry → List Entry
paged_out layout None past = past
paged_out layout (Some s) past = after_event layout (Events.PageOut s.setting.node s.setting.id) past

abbrev pub spare_of : Bool → (Standing → Bool) → List Standing → Option Standing
spare_of false p ends = None
spare_of true p ends = find p ends

-- the endpoint that goes to disk for a message, where more than `keep` open ones of the node are on the host
abbrev pub spare : ℕ → NodeId → EndpointId → EndpointId → List Standing → Option Standing
spare keep node source dest ends =
    let here = filter (is_open_on_host node) ends in
    spare_of (nat_lt keep (length here)) (is_neither source dest) here

abbrev pub kept : Layout → ℕ → NodeId → EndpointId → EndpointId → List Entry → List Entry
kept layout keep node source dest past = paged_out layout (spare keep node source dest (standings layout past)) past

-- a frame of the node is emptied for a message: the least endpoint that may leave its frame does, and then one may go to disk
abbrev pub emptied : Layout → ℕ → NodeId → EndpointId → EndpointId → List Entry → List Entry
emptied layout keep node source dest past =
    kept layout keep node source dest (unloaded layout (find (may_leave node source dest) (standings layout past)) past)

abbrev pub emptied_if : Bool → Layout → ℕ → NodeId → EndpointId → EndpointId → List Entry → List Entry
emptied_if true layout keep node source dest past = emptied layout keep node source dest past
emptied_if false layout keep node source dest past = past

-- there is a free frame for an endpoint on the host
abbrev pub with_frame : Layout → ℕ → NodeId → EndpointId → EndpointId → EndpointId → List Entry → List Entry
with_frame layout keep node e source dest past =
    emptied_if
    (is_on_host (state_of layout past e).head.place && is_none (free_frame layout node (standings layout past)))
    layout
    keep
    node
    source
    dest
    past

abbrev pub loaded_into : Option ℕ → Layout → NodeId → EndpointId → List Entry → List Entry
loaded_into None layout node e past = past
loaded_into (Some frame) layout node e past =
    after_event_if (is_on_host (state_of layout past e).head.place) layout (Events.Load node e frame) past

-- an endpoint on the host goes into the least free frame
abbrev pub loaded : Layout → NodeId → EndpointId → List Entry → List Entry
loaded layout node e past = loaded_into (free_frame layout node (standings layout past)) layout node e past

-- the endpoint e of a node is ready for a message from `source` to `dest`
abbrev pub ready : Layout → ℕ → NodeId → EndpointId → EndpointId → EndpointId → List Entry → List Entry
ready layout keep node e source dest past =
    loaded layout node e (with_frame layout keep node e source dest (not_draining layout node e (off_disk layout node e past)))

abbrev pub ready_at : Option NodeId → Layout → ℕ → EndpointId → EndpointId → List Entry → List Entry
ready_at None layout keep source dest past = past
ready_at (Some node) layout keep source dest past = ready layout keep node dest source dest past

abbrev pub ready_dest_if : Bool → Layout → ℕ → EndpointId → EndpointId → List Entry → List Entry
ready_dest_if true layout keep source dest past = ready_at (home layout dest) layout keep source dest past
ready_dest_if false layout keep source dest past = past

-- the destination is ready too, unless it is closed or is the source
abbrev pub ready_dest : Layout → ℕ → EndpointId → EndpointId → List Entry → List Entry
ready_dest layout keep source dest past =
    ready_dest_if (not (same_end source dest) && not (state_of layout past dest).head.closed) layout keep source dest past
