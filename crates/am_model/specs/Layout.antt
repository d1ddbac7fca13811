-- What a cluster begins with.
use Rattle.std.specs.Prelude.{◌≡◌, ℕ, ◌≤◌, ◌<◌, ◌^◌, ◌==◌, Bool, true, false, ◌&&◌, Option, Some, None, List, [], ◌∷◌, length, find, count_by}
use Rattle.std.specs.List.{list_any}
use Rattle.am_names.specs.declared.EndpointId.{EndpointId}
use Rattle.am_names.specs.declared.NodeId.{NodeId}
use Rattle.am_names.specs.declared.Tag.{Tag}
use Rattle.am_office_entries.specs.declared.Place.{Place}
use Rattle.am_office_entries.specs.declared.Place.TheVariants.{Host, Disk, Direct}
use Rattle.am_names.specs.Names.{same_end, same_node}
use Rattle.am_model.specs.Endpoint.{State, fresh}

-- the node with this number
abbrev pub node_at : ℕ → NodeId
node_at number = record { 0 = number }

-- the endpoint with this number
abbrev pub end_at : ℕ → EndpointId
end_at number = record { 0 = number }

-- an endpoint as it is declared
pub record EndSetting : Type 0 where
  pub id : EndpointId
  pub node : NodeId
  pub tag : Tag
  pub disk : Bool

-- a page call of a node that fails, by its number there
pub record Fault : Type 0 where
  pub node : NodeId
  pub number : ℕ

-- What a cluster begins with: the direct network or that of packets; how many nodes, frames of an interface, and channels from a node to
-- another; how often a message is tried in one binding, and put back; the pool of credits, if there is one; how many entries a log takes;
-- the endpoints, and the page calls that fail.
pub record Layout : Type 0 where
  pub direct : Bool
  pub nodes : ℕ
  pub frames : ℕ
  pub channels : ℕ
  pub tries : ℕ
  pub bounces : ℕ
  pub pool : Option ℕ
  pub log : ℕ
  pub ends : List EndSetting
  pub faults : List Fault

abbrev pub has_id : EndpointId → EndSetting → Bool
has_id e setting = same_end e setting.id

abbrev pub declared : Layout → EndpointId → Bool
declared layout e = list_any (has_id e) layout.ends

abbrev pub opening_place : Bool → Bool → Place
opening_place true disk = Direct
opening_place false true = Disk
opening_place false false = Host

abbrev pub opening_by : Layout → Option EndSetting → State
opening_by layout None = fresh (record { 0 = 0 }) Host
opening_by layout (Some setting) = fresh setting.tag (opening_place layout.direct setting.disk)

-- the state in which an endpoint begins
abbrev pub opening : Layout → EndpointId → State
opening layout e = opening_by layout (find (has_id e) layout.ends)

abbrev pub home_by : Option EndSetting → Option NodeId
home_by None = None
home_by (Some setting) = Some setting.node

-- the node of an endpoint
abbrev pub home : Layout → EndpointId → Option NodeId
home layout e = home_by (find (has_id e) layout.ends)

-- each element passes
abbrev pub AllAre : {X : Type 0} → (X → Type 0) → List X → Type 0
AllAre P [] = Unit {0}
AllAre P (x ∷ xs) = P x × AllAre P xs

-- no two elements stand so to each other
abbrev pub AreApart : {X : Type 0} → (X → X → Bool) → List X → Type 0
AreApart same [] = Unit {0}
AreApart same (x ∷ xs) = (list_any (same x) xs ≡ false) × AreApart same xs

pub record IsSettingLawful (layout : Layout) (setting : EndSetting) : Type 0 where
  pub id : setting.id.0 < 256
  pub node : setting.node.0 < layout.nodes
  pub tag : setting.tag.0 < 2 ^ 64
  pub disk : layout.direct ≡ true → setting.disk ≡ false

pub record IsFaultLawful (layout : Layout) (fault : Fault) : Type 0 where
  pub node : fault.node.0 < layout.nodes
  pub number : (1 ≤ fault.number) × (fault.number ≤ 65536)

abbrev pub IsPoolLawful : Option ℕ → Type 0
IsPoolLawful None = Unit {0}
IsPoolLawful (Some pool) = pool ≤ 32

-- a layout that a scenario may have
pub record IsLawful (layout : Layout) : Type 0 where
  pub nodes : (1 ≤ layout.nodes) × (layout.nodes ≤ 16)
  pub frames : (2 ≤ layout.frames) × (layout.frames ≤ 16)
  pub channels : (1 ≤ layout.channels) × (layout.channels ≤ 4)
  pub tries : (2 ≤ layout.tries) × (layout.tries ≤ 16)
  pub bounces : layout.bounces ≤ 16
  pub pool : IsPoolLawful layout.pool
  pub log : (1 ≤ layout.log) × (layout.log ≤ 65536)
  pub ends : AllAre (IsSettingLawful layout) layout.ends
  pub ids : AreApart (λ (s t : EndSetting). same_end s.id t.id) layout.ends
  pub room : (node : NodeId) → count_by (λ (s : EndSetting). same_node node s.node) layout.ends ≤ 64
  pub faults : AllAre (IsFaultLawful layout) layout.faults
  pub numbers : AreApart (λ (f g : Fault). same_node f.node g.node && (f.number == g.number)) layout.faults
  pub few : length layout.faults ≤ 64
