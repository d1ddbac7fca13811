-- The links between nodes, as they are made.
use Rattle.std.specs.Prelude.{◌≡◌, ℕ, ◌≤◌, ◌==◌, ◌&&◌, Bool, Some, List, [], ◌∷◌, ◌++◌, filter, length, slice_get}
use Rattle.std.specs.Global.{Vec}
use Rattle.am_names.specs.declared.NodeId.{NodeId}
use Rattle.am_names.specs.declared.Packet.{Packet}
use Rattle.am_model.specs.Layout.{node_at}
use Rattle.am_scenario_plan.specs.Shape.{shape}
use Rattle.am_scenario_plan.specs.declared.plan.PlanLine.{PlanLine}
use Rattle.am_wire.specs.Links.{IsLink, emitted, pumped, received, spare}
use Rattle.am_wire.specs.declared.receiving.LinkIn.{LinkIn}
use Rattle.am_wire.specs.declared.sending.LinkOut.{LinkOut}
use Rattle.am_wire.specs.declared.all_links.Links.{Links}

-- whether the line is one of the link from a node to a node
abbrev pub is_of_link : NodeId → NodeId → PlanLine → Bool
is_of_link from to line = (from.0 == line.from.0) && (to.0 == line.to.0)

-- what the plan says of the link
abbrev pub plan_of : List PlanLine → NodeId → NodeId → List PlanLine
plan_of plan from to = filter (is_of_link from to) plan

-- the end of a link that emits: it releases what the plan says, has room for a packet, and sent nothing
pub record IsOutOpened (plan : List PlanLine) (from to : NodeId) (o : LinkOut) : Type 0 where
  pub from_is : o.from ≡ from
  pub to_is : o.to ≡ to
  pub planned : (packets : List Packet) → shape o.plan.items from to packets ≡ shape plan from to packets
  pub room : 1 ≤ spare o
  pub sent : (emitted o ≡ []) × (pumped o ≡ [])

-- the two ends of a link of which nothing was sent and nothing taken
pub record IsOpened (plan : List PlanLine) (from to : NodeId) (o : LinkOut) (i : LinkIn) : Type 0 where
  pub out : IsOutOpened plan from to o
  pub taken : received i ≡ []
  pub link : IsLink o i

-- the links from a node to each of so many nodes, by their two ends
pub record IsRow (plan : List PlanLine) (from : NodeId) (count : ℕ) (outs : List LinkOut) (ins : List LinkIn) : Type 0 where
  pub all_outs : length outs ≡ count
  pub all_ins : length ins ≡ count
  pub each : (k : ℕ) (o : LinkOut) (i : LinkIn) → slice_get outs k ≡ Some o → slice_get ins k ≡ Some i → IsOpened plan from (node_at k) o i

-- each of these ends was put last in the list with its place
pub record AreSpread (ends : List LinkIn) (old new : List (Vec LinkIn)) : Type 0 where
  pub all : length new ≡ length old
  pub each : (k : ℕ) (i : LinkIn) (before after : Vec LinkIn) → slice_get ends k ≡ Some i → slice_get old k ≡ Some before → slice_get new k ≡ Some after → after.items ≡ before.items ++ i ∷ []

-- the links from the first so many nodes to all nodes: by the node from which they come, and by the node to which they go
pub record AreWoven (plan : List PlanLine) (nodes count : ℕ) (outs : List (Vec LinkOut)) (ins : List (Vec LinkIn)) : Type 0 where
  pub rows : length outs ≡ count
  pub columns : length ins ≡ nodes
  pub row : (from : ℕ) (os : Vec LinkOut) → slice_get outs from ≡ Some os → length os.items ≡ nodes
  pub column : (to : ℕ) (is : Vec LinkIn) → slice_get ins to ≡ Some is → length is.items ≡ count
  pub out : (from to : ℕ) (os : Vec LinkOut) (o : LinkOut) → slice_get outs from ≡ Some os → slice_get os.items to ≡ Some o → IsOutOpened plan (node_at from) (node_at to) o
  pub taken : (from to : ℕ) (is : Vec LinkIn) (i : LinkIn) → slice_get ins to ≡ Some is → slice_get is.items from ≡ Some i → received i ≡ []
  pub link : (from to : ℕ) (os : Vec LinkOut) (is : Vec LinkIn) (o : LinkOut) (i : LinkIn) → slice_get outs from ≡ Some os → slice_get ins to ≡ Some is → slice_get os.items to ≡ Some o → slice_get is.items from ≡ Some i → IsLink o i

-- the links between all of so many nodes
abbrev pub AreLinks : List PlanLine → ℕ → Links → Type 0
AreLinks plan nodes l = AreWoven plan nodes nodes l.outs.items l.ins.items
