-- What an endpoint is looked for, as the drain tells it from what it reads.
use Rattle.std.specs.Prelude.{Bool, ◌&&◌, not, Option, Some, None, List, find, option_map}
use Rattle.am_names.specs.declared.EndpointId.{EndpointId}
use Rattle.am_names.specs.declared.NodeId.{NodeId}
use Rattle.am_names.specs.Names.{same_end, same_node}
use Rattle.am_office_entries.specs.declared.Event.TheVariants as Events
use Rattle.am_office_entries.specs.declared.Entry.{Entry}
use Rattle.am_model.specs.declared.Queued.{Queued}
use Rattle.am_model.specs.Endpoint.{is_on_host, is_in_a_frame}
use Rattle.am_model.specs.Layout.{Layout}
use Rattle.am_scenario_types.specs.Lists.{ScenarioLists}
use Rattle.am_model_scripts.specs.Layout.{layout_of}
use Rattle.am_model_scripts.specs.Standings.{Standing}
use Rattle.am_model_drain.specs.declared.Turn.{Turn}
use Rattle.am_model_drain.specs.declared.Turn.TheVariants.{Send}
use Rattle.am_model_drain.specs.Made.{after_event, after_event_if}
use Rattle.am_model_drain.specs.Ready.{ready_dest}
use Rattle.am_model_drain.specs.Rules.{finds_room}
use Rattle.am_cluster_drainer.specs.declared.EndHead.{EndHead}
use Rattle.am_cluster_drainer.specs.declared.EndMail.{EndMail}
use Rattle.am_cluster_drainer.specs.declared.frames.HeadTest.{HeadTest}
use Rattle.am_cluster_drainer.specs.declared.frames.HeadTest.TheVariants.{Leaver, Spare}

abbrev pub is_open_on_host : NodeId → EndHead → Bool
is_open_on_host node h = same_node node h.node && (is_on_host h.head.place && not h.head.closed)

abbrev pub is_neither : EndpointId → EndpointId → EndHead → Bool
is_neither source dest h = not (same_end source h.id) && not (same_end dest h.id)

abbrev pub passes_head : HeadTest → EndHead → Bool
passes_head (Leaver node source dest) h = same_node node h.node && (is_in_a_frame h.head.place && is_neither source dest h)
passes_head (Spare node source dest) h = is_open_on_host node h && is_neither source dest h

-- whether the front message of an endpoint finds room where it goes
abbrev pub sends_request : List Standing → EndMail → Bool
sends_request ends m = finds_room ends m.front

-- what is read of the first endpoint that passes
abbrev pub first_read : {X : Type 0} → (Standing → X) → (X → Bool) → List Standing → Option X
first_read read passes ends = option_map read (find (λ (s : Standing). passes (read s)) ends)

-- the send of an endpoint's front message
abbrev pub send_by : EndMail → Option Queued → Option Turn
send_by m None = None
send_by m (Some q) = Some (Send m.node m.id q.message)

-- the journal after an endpoint left its frame, or went to disk, if there is one
abbrev pub unloaded_by : Layout → Option EndHead → List Entry → List Entry
unloaded_by layout None past = past
unloaded_by layout (Some h) past =
    after_event layout (Events.Unload h.node h.id) (after_event_if (not h.head.draining) layout (Events.Drain h.node h.id) past)

abbrev pub paged_out_by : Layout → Option EndHead → List Entry → List Entry
paged_out_by layout None past = past
paged_out_by layout (Some h) past = after_event layout (Events.PageOut h.node h.id) past

-- the journal after the front message of an endpoint was sent, once the destination is ready
abbrev pub sent_to : ScenarioLists → NodeId → EndpointId → EndpointId → List Entry → List Entry
sent_to s node source dest past = after_event (layout_of s) (Events.Bind node source) (ready_dest (layout_of s) s.keep source dest past)
