-- The parts of nodes whose phase is over.
use Rattle.std.specs.Prelude.{◌≡◌, ℕ, ◌≤◌, Some, List, length, map, slice_get}
use Rattle.std.specs.Global.{Vec}
use Rattle.am_names.specs.declared.Packet.{Packet}
use Rattle.am_machine.specs.Node.Shells.{AreCounts}
use Rattle.am_machine.specs.declared.node.NodePart.{NodePart}
use Rattle.am_wire.specs.declared.closing.LinkRecord.{LinkRecord}
use Rattle.am_cluster_running.specs.declared.ended.NodeEnded.{NodeEnded}
use Rattle.am_workers_laws.specs.Books.Ends.{end_in}

abbrev pub emitted_in : LinkRecord → Vec Packet
emitted_in r = r.emitted

-- the part has what the node has, what went over its links, and how many packets of each node its interface received
pub record IsPartOf (nodes : ℕ) (n : NodeEnded) (records : List LinkRecord) (p : NodePart) : Type 0 where
  pub is_node : p.node ≡ n.node
  pub ends' : p.ends.items ≡ map end_in n.books.items
  pub interface : p.iface ≡ n.interface
  pub disk : p.swap ≡ n.swap
  pub emitted' : p.emitted.items ≡ map emitted_in records
  pub counts : AreCounts n.interface.log n.node nodes p.received.items
  pub few : length n.interface.log ≤ n.interface.settings.log

pub record ArePartsOf (nodes : ℕ) (all : List NodeEnded) (records : List (Vec LinkRecord)) (parts : List NodePart) : Type 0 where
  pub all_parts : length parts ≡ length all
  pub each : (k : ℕ) (n : NodeEnded) (rs : Vec LinkRecord) (p : NodePart) → slice_get all k ≡ Some n → slice_get records k ≡ Some rs → slice_get parts k ≡ Some p → IsPartOf nodes n rs.items p
