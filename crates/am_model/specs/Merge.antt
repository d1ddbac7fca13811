-- Which journal some logs make.
use Rattle.std.specs.Prelude.{◌≡◌, ℕ, ◌+◌, Bool, true, ◌==◌, ◌&&◌, ◌||◌, nat_lt, Option, Some, None, List, [], ◌∷◌, filter}
use Rattle.std.specs.List.{list_all}
use Rattle.am_names.specs.declared.EndpointId.{EndpointId}
use Rattle.am_names.specs.declared.NodeId.{NodeId}
use Rattle.am_office_entries.specs.declared.Entry.{Entry}
use Rattle.am_office_entries.specs.Entries.{touches, touches_node, ends_touched, node_touched}

-- a number for the part that an entry is listed under: its first endpoint, or else its interface
abbrev pub rank_of_node : Option NodeId → ℕ
rank_of_node None = 0
rank_of_node (Some node) = 256 + node.0

abbrev pub rank_by : List EndpointId → Option NodeId → ℕ
rank_by (e ∷ es) at = e.0
rank_by [] at = rank_of_node at

abbrev pub rank : Entry → ℕ
rank x = rank_by (ends_touched x.event x.outcome) (node_touched x.event)

-- whether an entry is listed before another
abbrev pub is_before : Entry → Entry → Bool
is_before x y = nat_lt x.stamp y.stamp || ((x.stamp == y.stamp) && nat_lt (rank x) (rank y))

abbrev pub is_ordered : List Entry → Bool
is_ordered [] = true
is_ordered (x ∷ xs) = list_all (is_before x) xs && is_ordered xs

-- the journal has each entry of the logs once, by stamp and then by part
pub record IsMerged (end_log : EndpointId → List Entry) (node_log : NodeId → List Entry) (journal : List Entry) : Type 0 where
  pub ordered : is_ordered journal ≡ true
  pub of_ends : (e : EndpointId) → filter (touches e) journal ≡ end_log e
  pub of_nodes : (node : NodeId) → filter (touches_node node) journal ≡ node_log node
