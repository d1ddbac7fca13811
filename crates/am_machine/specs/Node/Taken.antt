-- The endpoints, interfaces and disks of several nodes.
use Rattle.std.specs.Prelude.{◌≡◌, ℕ, ◌+◌, ◌≤◌, List, [], ◌∷◌, ◌++◌, map, reverse, vec_capacity, vec_len}
use Rattle.std.specs.Global.{Vec}
use Rattle.am_endpoint.specs.View.{EndpointView}
use Rattle.am_iface.specs.View.{InterfaceView}
use Rattle.am_swap_device.specs.Memory.{Store}
use Rattle.am_machine.specs.declared.node.NodePart.{NodePart}
use Rattle.am_machine.specs.declared.node.taking.TakenParts.{TakenParts}

abbrev pub ends_of : Vec EndpointView → List EndpointView
ends_of ends = ends.items

-- the endpoints of a part, from the last to the first
abbrev pub turned : NodePart → List EndpointView
turned p = reverse p.ends.items

abbrev pub iface_of : NodePart → InterfaceView
iface_of p = p.iface

abbrev pub swap_of : NodePart → Store
swap_of p = p.swap

-- nothing is taken
pub record IsEmpty (t : TakenParts) : Type 0 where
  pub ends' : t.ends.items ≡ []
  pub interfaces' : t.interfaces.items ≡ []
  pub swaps' : t.swaps.items ≡ []

-- there is room for so many nodes more
pub record HasRoomFor (n : ℕ) (t : TakenParts) : Type 0 where
  pub ends' : vec_len t.ends + n ≤ vec_capacity t.ends
  pub interfaces' : vec_len t.interfaces + n ≤ vec_capacity t.interfaces
  pub swaps' : vec_len t.swaps + n ≤ vec_capacity t.swaps

-- what a node has is taken, and comes last
pub record IsTaken (old : TakenParts) (p : NodePart) (new : TakenParts) : Type 0 where
  pub ends' : map ends_of new.ends.items ≡ map ends_of old.ends.items ++ turned p ∷ []
  pub interfaces' : new.interfaces.items ≡ old.interfaces.items ++ p.iface ∷ []
  pub swaps' : new.swaps.items ≡ old.swaps.items ++ p.swap ∷ []

-- just what these nodes have is taken, in their order
pub record IsTakenFrom (parts : List NodePart) (t : TakenParts) : Type 0 where
  pub ends' : map ends_of t.ends.items ≡ map turned parts
  pub interfaces' : t.interfaces.items ≡ map iface_of parts
  pub swaps' : t.swaps.items ≡ map swap_of parts
