-- The nodes of a block.
use Rattle.std.specs.Prelude.{◌≡◌, ℕ, ◌<◌, ◌≤◌, List, length, map, slice_get, Option, Some}
use Rattle.am_block.specs.Places.{somes}
use Rattle.am_block_row.specs.Ownership.{place_at}
use Rattle.am_block.specs.Links.{Links}
use Rattle.am_block.specs.declared.nodes.Node.{Node}
use Rattle.am_block.specs.declared.nodes.Link.{Link}
use Rattle.am_block.specs.contracts.nodes.Node.{the_row as node_row}
use denote.RawPtr.{Ptr}
use Rattle.am_block.specs.declared.nodes.Nodes.TheInside.{Inside}

-- the link points to the node of its slot, one of n
pub record IsLink (at : Ptr) (n : ℕ) (k : Link) : Type 0 where
  pub points : k.node.ptr ≡ place_at node_row at k.slot
  pub within : k.slot < n

-- each link does
abbrev pub AreLinked : Ptr → ℕ → List Node → Type 0
AreLinked at n ns = (k : ℕ) (x : Node) → slice_get ns k ≡ Some x → IsLink at n x.prev × IsLink at n x.next

abbrev pub links_of : List Node → Links
links_of ns = record {
  next = map (λ x. x.next.slot) ns;
  prev = map (λ x. x.prev.slot) ns;
  lists = map (λ x. x.list) ns;
  descriptors = map (λ x. x.descriptor) ns;
}

-- n places, each with a node, whose links point to such places
pub record Good (at : Ptr) (n : ℕ) (cs : List (Option Node)) : Type 0 where
  pub full : cs ≡ map Some (somes cs)
  pub linked : AreLinked at n (somes cs)
  pub len : length cs ≡ n

-- the memory holds such nodes, whose numbers are bytes, and can be given back
pub record IsNodes (n : Inside) : Type 0 where
  pub at : n.base.ptr ≡ n.row.at
  pub good : Good n.row.at n.len n.row.places
  pub deed_at : n.deed.at ≡ n.base.ptr
  pub deed_len : n.deed.len ≡ n.len
  pub deed_alloc : n.deed.alloc ≡ n.alloc
  pub few : n.len ≤ 255
