-- Which entries stand in the log of a part, and which a node's driver makes.
use Rattle.std.specs.Prelude.{ℕ, ◌-◌, ◌<◌, Bool, Option, Some, None, List, length, slice_get}
use Rattle.am_names.specs.declared.NodeId.{NodeId}
use Rattle.am_office_entries.specs.declared.Event.{Event}
use Rattle.am_office_entries.specs.declared.Event.TheVariants as Events
use Rattle.am_office_entries.specs.declared.Entry.{Entry}
use Rattle.am_office_entries.specs.declared.Part.{Part}
use Rattle.am_office_entries.specs.declared.Part.TheVariants as Parts
use Rattle.am_office_entries.specs.Entries.{is_node, touches, touches_node}
use Rattle.am_model.specs.Layout.{AllAre}

-- whether an entry stands in the log of a part
abbrev pub touches_part : Part → Entry → Bool
touches_part (Parts.Endpoint e) x = touches e x
touches_part (Parts.Interface node) x = touches_node node x

-- the node whose driver makes the event, if a driver does
abbrev pub driver_of : Event → Option NodeId
driver_of (Events.Drain node end) = Some node
driver_of (Events.Unload node end) = Some node
driver_of (Events.Load node end frame) = Some node
driver_of (Events.PageOut node end) = Some node
driver_of (Events.PageIn node end) = Some node
driver_of event = None

-- whether the node's driver makes the entry
abbrev pub is_by_driver : NodeId → Entry → Bool
is_by_driver node x = is_node node (driver_of x.event)

abbrev pub stamp_by : Option Entry → ℕ
stamp_by None = 0
stamp_by (Some x) = x.stamp

-- the stamp of the last entry, and 0 where there is none
abbrev pub last_stamp : List Entry → ℕ
last_stamp log = stamp_by (slice_get log (length log - 1))

-- each stamp is below this number
abbrev pub AreBelow : ℕ → List Entry → Type 0
AreBelow n xs = AllAre (λ (x : Entry). x.stamp < n) xs
