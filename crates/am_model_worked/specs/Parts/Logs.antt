-- The logs of the parts in worked journals: which of the journal's entries stand in each.
use Rattle.std.specs.Prelude.{ℕ, ◌-◌, Some, List, [], ◌∷◌, map, slice_index_or}
use Rattle.am_names.specs.declared.NodeId.{NodeId}
use Rattle.am_names.specs.declared.Packet.{Packet}
use Rattle.am_names.specs.declared.Packet.TheVariants as Packets
use Rattle.am_names.specs.declared.Verdict.TheVariants as Verdicts
use Rattle.am_office_entries.specs.declared.Actor.TheVariants.{Outside}
use Rattle.am_office_entries.specs.declared.Call.TheVariants as Calls
use Rattle.am_office_entries.specs.declared.Event.TheVariants as Events
use Rattle.am_office_entries.specs.declared.Outcome.TheVariants as Out
use Rattle.am_office_entries.specs.declared.Part.TheVariants as Parts
use Rattle.am_office_entries.specs.declared.Entry.{Entry}
use Rattle.am_model.specs.Layout.{end_at, node_at}
use Rattle.am_model_parts.specs.Driver.{DriverLog}
use Rattle.am_model_parts.specs.Interface.{InterfaceLog, InterfaceSettings}
use Rattle.am_model_merge.specs.Merged.{PartLog}
use Rattle.am_model_worked.specs.FailedRead as failed_read
use Rattle.am_model_worked.specs.Frames as frames
use Rattle.am_model_worked.specs.LostAcknowledgement as lost

abbrev pub call_at_first : Entry
call_at_first = record { stamp = 1; event = Events.Call Outside (end_at 0) Calls.Poll; outcome = Out.Empty }

-- the entries of a journal at these positions, counted from 1
abbrev pub picked : List Entry → List ℕ → List Entry
picked journal positions = map (λ (position : ℕ). slice_index_or journal (position - 1) call_at_first) positions

-- ---- a lost acknowledgement: two endpoints, each on a node of its own

abbrev pub at_end_0 : List Entry
at_end_0 = picked lost.journal (2 ∷ 3 ∷ 5 ∷ 6 ∷ 10 ∷ [])

abbrev pub at_end_1 : List Entry
at_end_1 = picked lost.journal (1 ∷ 4 ∷ 7 ∷ 11 ∷ [])

abbrev pub at_node_0 : List Entry
at_node_0 = picked lost.journal (6 ∷ 8 ∷ 10 ∷ 12 ∷ [])

abbrev pub at_node_1 : List Entry
at_node_1 = picked lost.journal (7 ∷ 9 ∷ [])

-- the same without the last entry, an answer that counts for nothing, which node 0's interface alone has
abbrev pub parts_before : List PartLog
parts_before =
    record { part = Parts.Endpoint (end_at 0); log = at_end_0 }
    ∷ record { part = Parts.Endpoint (end_at 1); log = at_end_1 }
    ∷ record { part = Parts.Interface (node_at 0); log = picked lost.journal (6 ∷ 8 ∷ 10 ∷ []) }
    ∷ record { part = Parts.Interface (node_at 1); log = at_node_1 }
    ∷ []

abbrev pub last_entry : Entry
last_entry = slice_index_or lost.journal 11 call_at_first

abbrev pub two_nodes : NodeId → InterfaceSettings
two_nodes at = record { node = at; channels = 1; tries = 3; bounces = 2; homes = Some (node_at 0) ∷ Some (node_at 1) ∷ [] }

-- node 1's interface when it has accepted the message, and its acknowledgement was lost
abbrev pub receiver : InterfaceLog
receiver = record { settings = two_nodes (node_at 1); log = picked lost.journal (7 ∷ []) }

-- the message sent again
abbrev pub second_try : Packet
second_try =
    Packets.Parcel (record { from = node_at 0; to = node_at 1; channel = 0; seq = 1; attempt = 1; number = 2; stamp = 8; message = lost.m1 })

-- node 0's interface when it has sent the message again
abbrev pub sender : InterfaceLog
sender = record { settings = two_nodes (node_at 0); log = picked lost.journal (6 ∷ 8 ∷ []) }

-- the acknowledgement of the second try
abbrev pub acknowledgement : Packet
acknowledgement =
    Packets.Answer (record { from = node_at 1; to = node_at 0; channel = 0; seq = 1; attempt = 1; number = 2; stamp = 9; verdict = Verdicts.Accepted })

-- the same, as a link that held it gives it
abbrev pub held_acknowledgement : Packet
held_acknowledgement =
    Packets.Answer (record { from = node_at 1; to = node_at 0; channel = 0; seq = 1; attempt = 1; number = 2; stamp = 40; verdict = Verdicts.Accepted })

-- ---- frames: three endpoints of one node

-- the driver of the node after so many entries, all of which it made
abbrev pub driver_after : List ℕ → DriverLog
driver_after positions =
    record { settings = record { node = node_at 0; ends = end_at 0 ∷ end_at 1 ∷ end_at 2 ∷ []; faults = [] }; log = picked frames.journal positions }

-- ---- entries with one stamp

abbrev pub poll_of : ℕ → Entry
poll_of number = record { stamp = 5; event = Events.Call Outside (end_at number) Calls.Poll; outcome = Out.Empty }

abbrev pub try_of : ℕ → Entry
try_of number = record { stamp = 5; event = Events.Expire (node_at number) (node_at 9) 0; outcome = Out.Sent lost.m1 (node_at 9) 0 1 1 2 }

-- ---- a failing page call: one endpoint, and the second page call fails

abbrev pub pager_after : List ℕ → DriverLog
pager_after positions =
    record { settings = record { node = node_at 0; ends = end_at 0 ∷ []; faults = 2 ∷ [] }; log = picked failed_read.journal positions }
