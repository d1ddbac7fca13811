-- Following the lines of a step script.
use Rattle.std.specs.Prelude.{◌≡◌, ◌+◌, Bool, nat_le, nat_lt, Option, Some, None, List, [], ◌∷◌, ◌++◌, map, length, filter, if◌then◌else◌}
use Rattle.std.specs.List.{range_with_len}
use Rattle.am_names.specs.declared.EndpointId.{EndpointId}
use Rattle.am_names.specs.declared.NodeId.{NodeId}
use Rattle.am_office_entries.specs.declared.Condition.{Condition}
use Rattle.am_office_entries.specs.declared.Event.{Event}
use Rattle.am_office_entries.specs.declared.Entry.{Entry}
use Rattle.am_office_entries.specs.declared.Part.{Part}
use Rattle.am_office_entries.specs.declared.Part.TheVariants as Parts
use Rattle.am_office_entries.specs.Entries.{touches, touches_node, ends_touched, node_touched}
use Rattle.am_model.specs.Layout.{Layout}
use Rattle.am_model.specs.History.{failing, outcome_of}

-- a journal follows the events of a script, with one stamp after the other
pub record FollowsSteps (events : List Event) (journal : List Entry) : Type 0 where
  pub in_order : map (λ (x : Entry). x.event) journal ≡ events
  pub stamped : map (λ (x : Entry). x.stamp) journal ≡ range_with_len 1 (length journal)

-- whether the log of an endpoint has as many entries as it may
abbrev pub is_end_full : Layout → List Entry → EndpointId → Bool
is_end_full layout past e = nat_le layout.log (length (filter (touches e) past))

-- whether the log of an interface has as many entries as it may
abbrev pub is_node_full : Layout → List Entry → NodeId → Bool
is_node_full layout past node = nat_le layout.log (length (filter (touches_node node) past))

abbrev pub lesser : EndpointId → Option EndpointId → EndpointId
lesser e None = e
lesser e (Some f) = if nat_lt f.0 e.0 then f else e

-- the endpoint with the least number among those that pass
abbrev pub least_such : (EndpointId → Bool) → List EndpointId → Option EndpointId
least_such p [] = None
least_such p (e ∷ es) = if p e then Some (lesser e (least_such p es)) else least_such p es

abbrev pub full_by : Layout → List Entry → Option EndpointId → Option NodeId → Option Part
full_by layout past (Some e) interface = Some (Parts.Endpoint e)
full_by layout past None (Some node) = if is_node_full layout past node then Some (Parts.Interface node) else None
full_by layout past None None = None

-- the full log that an event's entry would have to go into: an endpoint's before an interface's, each by number
abbrev pub full_log : Layout → List Entry → Event → Option Part
full_log layout past event =
    full_by layout past (least_such (is_end_full layout past) (ends_touched event (outcome_of layout past event))) (node_touched event)

-- what keeps a step from being made
pub data Stop : Type 0 where
  NotEnabled : Condition → Stop
  LogFull : Part → Stop

abbrev pub stop_by : Option Condition → Option Part → Option Stop
stop_by (Some condition) full = Some (NotEnabled condition)
stop_by None (Some part) = Some (LogFull part)
stop_by None None = None

-- what keeps an event from being made after these entries, if anything: a condition first, and then a full log
abbrev pub stop : Layout → List Entry → Event → Option Stop
stop layout past event = stop_by (failing layout past event) (full_log layout past event)

-- the entry of a step
abbrev pub step_entry : Layout → List Entry → Event → Entry
step_entry layout past event = record { stamp = length past + 1; event = event; outcome = outcome_of layout past event }

-- the entries of the steps that could be made, and what stopped the next one, if anything did
pub record Made : Type 0 where
  pub journal : List Entry
  pub stopped : Option Stop

abbrev pub made_by : Option Stop → List Entry → Made → Made
made_by (Some why) past rest = record { journal = past; stopped = Some why }
made_by None past rest = rest

-- what the steps make of these entries
abbrev pub made_from : Layout → List Entry → List Event → Made
made_from layout past [] = record { journal = past; stopped = None }
made_from layout past (event ∷ events) =
    made_by (stop layout past event) past (made_from layout (past ++ step_entry layout past event ∷ []) events)

-- what the steps of a script make
abbrev pub made : Layout → List Event → Made
made layout events = made_from layout [] events
