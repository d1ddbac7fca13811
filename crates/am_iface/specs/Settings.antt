-- What an interface begins with.
use Rattle.std.specs.Prelude.{◌≡◌, ℕ, ◌<◌, ◌≤◌, Option, List, length, All, IfSome}
use Rattle.am_names.specs.declared.NodeId.{NodeId}

-- its node, the sizes and limits of the cluster, and the home of the endpoint with each number
pub record SettingsView : Type 0 where
  pub node : NodeId
  pub nodes : ℕ
  pub channels : ℕ
  pub tries : ℕ
  pub bounces : ℕ
  pub log : ℕ
  pub homes : List (Option NodeId)

-- the numbers are in range, and each of the 256 homes is one of the nodes
pub record AreLawful (set : SettingsView) : Type 0 where
  pub node : set.node.0 < set.nodes
  pub nodes : set.nodes ≤ 16
  pub channels : (1 ≤ set.channels) × (set.channels ≤ 4)
  pub tries : (2 ≤ set.tries) × (set.tries ≤ 16)
  pub bounces : set.bounces ≤ 16
  pub log : (1 ≤ set.log) × (set.log ≤ 65536)
  pub places : length set.homes ≡ 256
  pub homes : All (λ home. IfSome home (λ (node : NodeId). node.0 < set.nodes)) set.homes
