-- The parts of the nodes of a cluster.
use Rattle.std.specs.Prelude.{List, [], ◌∷◌, ◌++◌, map}
use Rattle.am_office_entries.specs.declared.Entry.{Entry}
use Rattle.am_endpoint.specs.View.{EndpointView}
use Rattle.am_iface.specs.View.{InterfaceView}
use Rattle.am_swap_device.specs.Memory.{Store}
use Rattle.am_model_merge.specs.Merged.{merged}
use Rattle.am_machine.specs.declared.node.NodePart.{NodePart}
use Rattle.am_machine.specs.declared.node.shells.Shell.{Shell}

-- the part of a node that has this shell, interface and disk
abbrev pub part_of : Shell → InterfaceView → Store → NodePart
part_of s i w = record { node = s.node; ends = s.ends; iface = i; swap = w; emitted = s.emitted; received = s.received }

-- the parts of several nodes, as long as there are shells, interfaces and disks
abbrev pub parts_of : List Shell → List InterfaceView → List Store → List NodePart
parts_of (s ∷ ss) (i ∷ is) (w ∷ ws) = part_of s i w ∷ parts_of ss is ws
parts_of (s ∷ ss) (i ∷ is) [] = []
parts_of (s ∷ ss) [] ws = []
parts_of [] is ws = []

abbrev pub log_of : EndpointView → List Entry
log_of e = e.log

-- the logs of a node: those of its endpoints, and then its interface's
abbrev pub logs_of_part : NodePart → List (List Entry)
logs_of_part p = map log_of p.ends.items ++ p.iface.log ∷ []

abbrev pub all_logs : List NodePart → List (List Entry)
all_logs [] = []
all_logs (p ∷ ps) = logs_of_part p ++ all_logs ps

-- the journal that the parts' logs merge into
abbrev pub journal_of : List NodePart → List Entry
journal_of parts = merged (all_logs parts)
