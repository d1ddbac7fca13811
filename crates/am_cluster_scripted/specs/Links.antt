-- What a link has released and what it holds back, by the numbers of its packets.
use Rattle.std.specs.Prelude.{◌≡◌, ℕ, ◌+◌, ◌*◌, ◌≤◌, ◌<◌, Option, Some, List, [], ◌++◌, map, length, slice_get, slice_set, slice_index_or}
use Rattle.am_names.specs.declared.NodeId.{NodeId}
use Rattle.am_names.specs.declared.Packet.{Packet}
use Rattle.am_office_entries.specs.declared.Entry.{Entry}
use Rattle.am_model.specs.Channels.{emitted}
use Rattle.am_model.specs.Layout.{node_at}
use Rattle.am_scenario_plan.specs.declared.plan.LinkFault.{LinkFault}
use Rattle.am_scenario_plan.specs.declared.plan.PlanLine.{PlanLine}
use Rattle.am_scenario_plan.specs.Shape.{fault_at, number_of, shape}
use Rattle.am_wire_release.specs.declared.stage.LateItem.{LateItem}
use Rattle.am_wire_release.specs.Staged.{Staged}
use Rattle.am_wire_release.specs.Stages.{freed, held_after, held_then}
use Rattle.am_cluster_scripted.specs.declared.links.LinkTable.{LinkTable}

-- the numbers that a link released, and those that it will release later
pub record Released : Type 0 where
  pub numbers : List ℕ
  pub held : List (LateItem ℕ)

abbrev pub released_in : Staged ℕ → Released
released_in l = record { numbers = l.released; held = l.held }

-- there is room for what one emission releases and holds back
abbrev pub HasSpare : Staged ℕ → Type 0
HasSpare l = 1 ≤ l.spare

-- so on the link at a place, and on each link
abbrev pub HasSpareAt : List (Staged ℕ) → ℕ → Type 0
HasSpareAt links k = (l : Staged ℕ) → slice_get links k ≡ Some l → HasSpare l

abbrev pub HasAllRoom : List (Staged ℕ) → Type 0
HasAllRoom links = (k : ℕ) → HasSpareAt links k

-- so on each link but the one that took the last packet
pub record IsSpared (t : LinkTable) : Type 0 where
  pub within : t.last < length t.all.items
  pub others : (k : ℕ) → (k ≡ t.last → ⊥) → HasSpareAt t.all.items k

-- one emission more, at this place
abbrev pub fed : ℕ → Option LinkFault → ℕ → Released → Released
fed place fault number r = record { numbers = r.numbers ++ freed place fault number r.held; held = held_then place fault number r.held }

-- what the emissions on a link released, and what they hold back that was not released
abbrev pub released_of : List PlanLine → NodeId → NodeId → List Packet → Released
released_of plan from to sent = record { numbers = map number_of (shape plan from to sent); held = held_after (fault_at plan from to) (map number_of sent) }

-- a link that released nothing
abbrev pub nothing : Released
nothing = record { numbers = []; held = [] }

-- one emission more on the link at a place among them
abbrev pub fed_at : ℕ → ℕ → Option LinkFault → ℕ → List Released → List Released
fed_at k place fault number rs = slice_set rs k (fed place fault number (slice_index_or rs k nothing))

-- each link of 16 nodes, sixteen to a node, has what the emissions in a journal release and hold back
pub record AreFed (plan : List PlanLine) (past : List Entry) (links : List Released) : Type 0 where
  pub all : length links ≡ 256
  pub each : (from to : ℕ) (r : Released) → to < 16 → slice_get links (16 * from + to) ≡ Some r → r ≡ released_of plan (node_at from) (node_at to) (emitted (node_at from) (node_at to) past)
