-- A node's driver by its settings and its own log, which has the node's driver entries: what its next move comes to, and
-- what keeps it from being made. It reads the state of the endpoint that it moves, and nothing of other parts.
use Rattle.std.specs.Prelude.{ℕ, ◌+◌, Bool, false, ◌==◌, Option, Some, None, List}
use Rattle.std.specs.List.{list_any}
use Rattle.am_names.specs.declared.EndpointId.{EndpointId}
use Rattle.am_names.specs.declared.NodeId.{NodeId}
use Rattle.am_names.specs.Names.{same_end}
use Rattle.am_office_entries.specs.declared.Condition.{Condition}
use Rattle.am_office_entries.specs.declared.Event.{Event}
use Rattle.am_office_entries.specs.declared.Event.TheVariants as Events
use Rattle.am_office_entries.specs.declared.Outcome.{Outcome}
use Rattle.am_office_entries.specs.declared.Outcome.TheVariants as Out
use Rattle.am_office_entries.specs.declared.Entry.{Entry}
use Rattle.am_model.specs.Choice.{first_holding}
use Rattle.am_model.specs.Endpoint.{State}
use Rattle.am_model.specs.Tables.{drain_table, load_table, page_in_table, page_out_table, page_ended, unload_table}
use Rattle.am_model.specs.Channels.{last_such}
use Rattle.am_model.specs.History.{page_calls}

-- what a driver begins with: its node, the node's endpoints, and the numbers of its page calls that fail
pub record DriverSettings : Type 0 where
  pub node : NodeId
  pub ends : List EndpointId
  pub faults : List ℕ

-- a driver, as its callers see it
pub record DriverLog : Type 0 where
  pub settings : DriverSettings
  pub log : List Entry

-- the endpoint that a driver's event is about
abbrev pub end_moved : Event → Option EndpointId
end_moved (Events.Drain node end) = Some end
end_moved (Events.Unload node end) = Some end
end_moved (Events.Load node end frame) = Some end
end_moved (Events.PageOut node end) = Some end
end_moved (Events.PageIn node end) = Some end
end_moved event = None

-- whether the endpoint is loaded or unloaded here
abbrev pub changes_frame : EndpointId → Event → Bool
changes_frame e (Events.Load node end frame) = same_end e end
changes_frame e (Events.Unload node end) = same_end e end
changes_frame e event = false

abbrev pub is_load_into : ℕ → Event → Bool
is_load_into frame (Events.Load node end other) = frame == other
is_load_into frame event = false

abbrev pub is_loaded_by : ℕ → Option Entry → Bool
is_loaded_by frame None = false
is_loaded_by frame (Some x) = is_load_into frame x.event

-- whether the endpoint lies in the frame by these entries: its last load or unload is a load into it
abbrev pub lies_in : List Entry → ℕ → EndpointId → Bool
lies_in log frame e = is_loaded_by frame (last_such (λ (x : Entry). changes_frame e x.event) log)

-- whether an endpoint of the node lies in the frame
abbrev pub is_frame_held_by : DriverLog → ℕ → Bool
is_frame_held_by d frame = list_any (lies_in d.log frame) d.settings.ends

-- whether the endpoint is of the driver's node
abbrev pub is_end_of : DriverLog → EndpointId → Bool
is_end_of d e = list_any (same_end e) d.settings.ends

-- the number of the next page call, counted from 1
abbrev pub page_number : DriverLog → ℕ
page_number d = page_calls d.settings.node d.log + 1

-- what comes of the next page call
abbrev pub page_at : DriverLog → Outcome
page_at d = page_ended (list_any (λ (number : ℕ). number == page_number d) d.settings.faults)

-- the first condition that keeps a move from being made, where its endpoint is in this state
abbrev pub failing_move : DriverLog → State → Event → Option Condition
failing_move d s (Events.Drain node end) = first_holding (drain_table (is_end_of d end) s)
failing_move d s (Events.Unload node end) = first_holding (unload_table (is_end_of d end) s)
failing_move d s (Events.Load node end frame) = first_holding (load_table (is_end_of d end) s (is_frame_held_by d frame))
failing_move d s (Events.PageOut node end) = first_holding (page_out_table (is_end_of d end) s)
failing_move d s (Events.PageIn node end) = first_holding (page_in_table (is_end_of d end) s)
failing_move d s event = None

-- what comes of a move
abbrev pub outcome_move : DriverLog → Event → Outcome
outcome_move d (Events.PageOut node end) = page_at d
outcome_move d (Events.PageIn node end) = page_at d
outcome_move d event = Out.Silent
