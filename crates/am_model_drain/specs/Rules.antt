-- The six rules of the drain, and the turn that the first of them gives.
use Rattle.std.specs.Prelude.{ℕ, Bool, false, ◌==◌, ◌||◌, not, nat_lt, Option, Some, None, List, [], ◌∷◌, map, length, find, filter_map, count_by, fold}
use Rattle.std.specs.Prelude.{slice_get, option_map, if◌then◌else◌}
use Rattle.std.specs.List.{range_with_len}
use Rattle.am_names.specs.declared.NodeId.{NodeId}
use Rattle.am_names.specs.Names.{is_request}
use Rattle.am_office_entries.specs.declared.Actor.TheVariants.{Outside}
use Rattle.am_office_entries.specs.declared.Call.TheVariants as Calls
use Rattle.am_office_entries.specs.declared.Event.TheVariants as Events
use Rattle.am_office_entries.specs.declared.Entry.{Entry}
use Rattle.am_model.specs.declared.Queued.{Queued}
use Rattle.am_model.specs.Endpoint.{front}
use Rattle.am_model.specs.Changes.{has_arrivals}
use Rattle.am_model.specs.History.{is_bound, channel_to}
use Rattle.am_scenario_types.specs.declared.parts.ThreadLine.{ThreadLine}
use Rattle.am_scenario_types.specs.declared.parts.ScriptCall.{ScriptCall}
use Rattle.am_scenario_types.specs.Lists.{ScenarioLists}
use Rattle.am_model_scripts.specs.Layout.{layout_of}
use Rattle.am_model_scripts.specs.Links.{first_some, nodes_of, next_receipt}
use Rattle.am_model_scripts.specs.Scripts.{calls_of, call_left}
use Rattle.am_model_scripts.specs.Standings.{Standing, standings, is_standing_of, is_missed}
use Rattle.am_model_drain.specs.declared.Turn.{Turn}
use Rattle.am_model_drain.specs.declared.Turn.TheVariants.{Once, Send, Make}

-- the time-out of a channel, where it is bound
abbrev pub time_out : NodeId → NodeId → List Entry → ℕ → Option Turn
time_out node peer past channel =
    if is_bound (channel_to node peer channel) past then Some (Once (Events.Expire node peer channel)) else None

abbrev pub time_out_to : ScenarioLists → List Entry → NodeId → NodeId → Option Turn
time_out_to scenario past node peer = first_some (map (time_out node peer past) (range_with_len 0 scenario.channels))

abbrev pub time_out_at : ScenarioLists → List Entry → NodeId → Option Turn
time_out_at scenario past node = first_some (map (time_out_to scenario past node) (nodes_of scenario))

-- the time-out of the least bound channel, by node, peer and number
abbrev pub next_time_out : ScenarioLists → List Entry → Option Turn
next_time_out scenario past = first_some (map (time_out_at scenario past) (nodes_of scenario))

abbrev pub page_in_of : Standing → Turn
page_in_of s = Once (Events.PageIn s.setting.node s.setting.id)

-- the page-in of the least endpoint on disk that is wanted
abbrev pub next_page_in : List Standing → Option Turn
next_page_in ends = option_map page_in_of (find is_missed ends)

abbrev pub has_reply : Standing → Bool
has_reply s = not (length s.state.body.replies == 0)

-- whether a destination is closed or has fewer than 16 received requests
abbrev pub has_room : Option Standing → Bool
has_room None = false
has_room (Some s) = s.state.head.closed || nat_lt (count_by is_request s.state.body.received) 16

abbrev pub finds_room : List Standing → Option Queued → Bool
finds_room ends None = false
finds_room ends (Some q) = has_room (find (is_standing_of q.message.dest) ends)

-- whether the front request of an endpoint has such a destination
abbrev pub has_request : List Standing → Standing → Bool
has_request ends s = finds_room ends (slice_get s.state.body.requests 0)

-- the least endpoint with a reply, or else the least with a request that finds room
abbrev pub next_sender : List Standing → Option Standing
next_sender ends = first_some (find has_reply ends ∷ find (has_request ends) ends ∷ [])

abbrev pub send_front : Standing → Option Queued → Option Turn
send_front s None = None
send_front s (Some q) = Some (Send s.setting.node s.setting.id q.message)

abbrev pub send_of : Option Standing → Option Turn
send_of None = None
send_of (Some s) = send_front s (front s.state)

abbrev pub next_send : List Standing → Option Turn
next_send ends = send_of (next_sender ends)

-- a call that is left to a thread, after so many that it made
pub record Left : Type 0 where
  pub after : ℕ
  pub call : ScriptCall

abbrev pub left_after : ℕ → Option ScriptCall → Option Left
left_after after None = None
left_after after (Some c) = Some (record { after = after; call = c })

abbrev pub left_to : ScenarioLists → List Entry → ThreadLine → Option Left
left_to scenario past t = left_after (length (calls_of t.id past)) (call_left scenario past t.id)

abbrev pub fewer : Option Left → Left → Option Left
fewer None l = Some l
fewer (Some best) l = Some (if nat_lt l.after best.after then l else best)

abbrev pub make_of : Left → Turn
make_of l = Make l.call

-- the next call of the thread that has made the fewest, the least among equals
abbrev pub next_call : ScenarioLists → List Entry → Option Turn
next_call scenario past = option_map make_of (fold fewer None (filter_map (left_to scenario past) scenario.threads))

abbrev pub is_pollable : Standing → Bool
is_pollable s = has_arrivals s.state.body

abbrev pub poll_of : Standing → Turn
poll_of s = Once (Events.Call Outside s.setting.id Calls.Poll)

-- the poll of the least endpoint with something to poll
abbrev pub next_poll : List Standing → Option Turn
next_poll ends = option_map poll_of (find is_pollable ends)

-- the turn of the first rule that applies: receive, time out, page in, send, script, poll
abbrev pub next_turn : ScenarioLists → List Entry → Option Turn
next_turn scenario past =
    let ends = standings (layout_of scenario) past in
    first_some (
    option_map Once (next_receipt scenario past)
    ∷ next_time_out scenario past
    ∷ next_page_in ends
    ∷ next_send ends
    ∷ next_call scenario past
    ∷ next_poll ends
    ∷ [])
