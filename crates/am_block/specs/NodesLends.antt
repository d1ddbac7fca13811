-- What the nodes end as, once the `&mut` to a descriptor has ended.
use Rattle.std.specs.Prelude.{ℕ}
use Rattle.std.specs.Borrow.{Lends, Fml, MutBor}
use Rattle.am_block.specs.Links.{Links, with_descriptor}
use Rattle.am_block.specs.declared.Descriptor.{Descriptor}
use Rattle.am_block.specs.contracts.Descriptor.{the_row as descriptor_row}
use Rattle.am_block.specs.contracts.nodes.Nodes.{the_row as nodes_row}

abbrev pub LendsDescriptor : MutBor Links → ℕ → MutBor Descriptor → Fml
LendsDescriptor n s r = Lends nodes_row descriptor_row n r (with_descriptor n.now s)
