-- What a run has at the end of its phase: what each worker of each node keeps, the books as they were taken out, and the links as
-- closing them tells. A worker may have stopped at any of its turns.
use Rattle.std.specs.Prelude.{◌≡◌, ◌≢◌, ◌⊎◌, ℕ, ◌<◌, ◌≤◌, true, Option, Some, None, List, [], ◌∷◌, ◌++◌, map, length, Contains, slice_get, if◌then◌else◌}
use Rattle.atomic_table.specs.Table.{Me}
use Rattle.am_names.specs.declared.EndpointId.{EndpointId}
use Rattle.am_names.specs.declared.NodeId.{NodeId}
use Rattle.am_names.specs.declared.Packet.{Packet}
use Rattle.am_names.specs.Names.{same_end}
use Rattle.am_office_entries.specs.declared.Entry.{Entry}
use Rattle.am_swap_device.specs.Memory.{Store, device_of}
use Rattle.am_model.specs.Layout.{AllAre, home}
use Rattle.am_model_parts.specs.Together.{ends_of}
use Rattle.am_model_merge.specs.Logs.{Logs}
use Rattle.am_scenario_plan.specs.Shape.{shape}
use Rattle.am_scenario_types.specs.Lists.{ScenarioLists}
use Rattle.am_scenario_types.specs.Lawful.{IsLawful}
use Rattle.am_model_scripts.specs.Follows.{is_thread}
use Rattle.am_model_scripts.specs.Links.{nodes_of}
use Rattle.am_model_scripts.specs.Layout.{layout_of}
use Rattle.am_driver_moves.specs.Choice.Lists.{ViewLists}
use Rattle.am_places.specs.Rule.{Comes, HasGathered, gathered, known_at}
use Rattle.am_places.specs.declared.board.Tenure.{Tenure}
use Rattle.am_workers_laws.specs.declared.books.EndBook.{EndBook}
use Rattle.am_workers_laws.specs.Books.Books.{moves, stands_at}
use Rattle.am_workers_laws.specs.Phases.Makers.{Driver, Interface, Maker, Thread}
use Rattle.am_workers_laws.specs.Phases.Tenures.{IsSeat}
use Rattle.am_workers_laws.specs.Invariants.Seats.{EndPass, Ids}
use Rattle.am_workers_laws.specs.Invariants.Works.{DriverWorks, Hand, InterfaceWorks, ThreadWorks}

-- ---- what there is

-- a worker, and what its seat knows
pub record Worker : Type 0 where
  pub maker : Maker
  pub pass : EndPass

-- the workers of a node, one of whom gathers the seats of the others, and the books that it then takes out, in the order of places
pub record NodeEnd : Type 0 where
  pub keeper : Worker
  pub others : List Worker
  pub books : List EndBook
  pub disk : Store

-- what each maker made, each node, and what was sent into each link, was taken out of it, and was left in it
pub record RunEnd : Type 0 where
  pub made : Maker → List Entry
  pub nodes : NodeId → NodeEnd
  pub sent : NodeId → NodeId → List Packet
  pub taken : NodeId → NodeId → List Packet
  pub left : NodeId → NodeId → List Packet

abbrev pub workers : NodeEnd → List Worker
workers n = n.keeper ∷ n.others

-- what a pass is that gathers those of these workers, one after the other
abbrev pub gathering : EndPass → List Worker → EndPass
gathering v [] = v
gathering v (w ∷ ws) = gathering (gathered v w.pass) ws

-- what the keeper knows when it has gathered all seats
abbrev pub whole_pass : NodeEnd → EndPass
whole_pass n = gathering n.keeper.pass n.others

-- ---- the workers

pub record ThreadEnd (s : ScenarioLists) (ids : Ids) (t : ℕ) (made : List Entry) (v : EndPass) : Type 0 where
  pub turns : ℕ
  pub next : ℕ
  pub clock : ℕ
  pub within : turns ≤ s.turns
  pub declared : is_thread s t ≡ true
  pub works : ThreadWorks s ids t turns next clock v
  pub same : works.made ≡ made

pub record InterfaceEnd (s : ScenarioLists) (ids : Ids) (node : NodeId) (log : List Entry) (sent taken : NodeId → List Packet) (v : EndPass) : Type 0 where
  pub turns : ℕ
  pub hand : Hand
  pub within : turns ≤ s.turns
  pub works : InterfaceWorks s ids node turns log sent taken hand v

pub record DriverEnd (s : ScenarioLists) (ids : Ids) (node : NodeId) (made : List Entry) (disk : Store) (v : EndPass) : Type 0 where
  pub turns : ℕ
  pub clock : ℕ
  pub view : ViewLists
  pub within : turns ≤ s.turns
  pub works : DriverWorks s ids node turns clock view (device_of disk) v
  pub same : works.made ≡ made

-- the worker of the node keeps what its kind keeps
abbrev pub KeepsAs : ScenarioLists → RunEnd → NodeId → Maker → EndPass → Type 0
KeepsAs s r node (Thread t) v = ThreadEnd s (ends_of (layout_of s) node) t (r.made (Thread t)) v
KeepsAs s r node (Interface n) v = (n ≡ node) × InterfaceEnd s (ends_of (layout_of s) node) node (r.made (Interface node)) (r.sent node) (λ (from : NodeId). r.taken from node) v
KeepsAs s r node (Driver n) v = (n ≡ node) × DriverEnd s (ends_of (layout_of s) node) node (r.made (Driver node)) (r.nodes node).disk v

abbrev pub Keeps : ScenarioLists → RunEnd → NodeId → Worker → Type 0
Keeps s r node w = KeepsAs s r node w.maker w.pass

-- no two of them have one seat
abbrev pub HaveSeats : List Worker → Type 0
HaveSeats [] = Unit {0}
HaveSeats (w ∷ ws) = AllAre (λ (u : Worker). w.pass.mark ≢ u.pass.mark) ws × HaveSeats ws

-- ---- the books

-- what it is to come to the book b, where its history is `log`
abbrev pub ComesTo : ℕ → Me (Option EndBook) EndPass → List (Tenure Entry) → EndBook → Type 0
ComesTo k me log b = Comes (λ (c : EndBook). c.end.value.log) (λ (c : EndBook). c.end.value.settings) (λ (c : EndBook). stands_at c.end.value) moves k me log b

-- the keeper knows of the endpoint k what it knew when it had gathered all
pub record KnowsAll (v : EndPass) (k : ℕ) (w : EndPass) : Type 0 where
  pub known : known_at k w ≡ known_at k v
  pub keeps : w.keeps ≡ v.keeps
  pub seats : w.seats ≡ v.seats
  pub births : w.births ≡ v.births

-- the keeper took the book b out of the place k
pub record IsTakenOut (v : EndPass) (k : ℕ) (b : EndBook) : Type 0 where
  pub me : Me (Option EndBook) EndPass
  pub log : List (Tenure Entry)
  pub knows : KnowsAll v k me.0
  pub comes : ComesTo k me log b

-- ---- a node, and the run

pub record IsNodeEnd (s : ScenarioLists) (r : RunEnd) (node : NodeId) : Type 0 where
  pub keeps : AllAre (Keeps s r node) (workers (r.nodes node))
  pub seats : AllAre (λ (w : Worker). IsSeat (r.nodes node).keeper.pass.seats w.pass.mark) (workers (r.nodes node))
  pub apart : HaveSeats (workers (r.nodes node))
  pub gathered' : HasGathered (whole_pass (r.nodes node))
  pub all : length (r.nodes node).books ≡ length (ends_of (layout_of s) node)
  pub taken : (k : ℕ) (b : EndBook) → slice_get (r.nodes node).books k ≡ Some b → IsTakenOut (whole_pass (r.nodes node)) k b

-- the maker is a worker of a node
pub record IsAtWork (s : ScenarioLists) (r : RunEnd) (k : Maker) : Type 0 where
  pub node : NodeId
  pub worker : Worker
  pub declared : node.0 < s.nodes
  pub there : Contains (workers (r.nodes node)) worker
  pub maker : worker.maker ≡ k

-- what was taken out of a link, and then what was left in it, is the shape of what was sent
abbrev pub IsClosed : ScenarioLists → RunEnd → NodeId → NodeId → Type 0
IsClosed s r from to = r.taken from to ++ r.left from to ≡ shape s.plan from to (r.sent from to)

pub record IsEnded (s : ScenarioLists) (r : RunEnd) : Type 0 where
  pub lawful : IsLawful s
  pub nodes : (node : NodeId) → node.0 < s.nodes → IsNodeEnd s r node
  pub makers : (k : Maker) → (r.made k ≡ []) ⊎ IsAtWork s r k
  pub interfaces : (node : NodeId) → node.0 < s.nodes → IsAtWork s r (Interface node)
  pub closed : (from to : NodeId) → from.0 < s.nodes → to.0 < s.nodes → IsClosed s r from to
  pub strange : (from to : NodeId) → s.nodes ≤ from.0 → r.taken from to ≡ []

-- ---- the logs

-- the log of the endpoint among these, whose books are these
abbrev pub log_among : List EndpointId → List EndBook → EndpointId → List Entry
log_among [] bs e = []
log_among (i ∷ is) [] e = []
log_among (i ∷ is) (b ∷ bs) e = if same_end e i then b.end.value.log else log_among is bs e

abbrev pub log_at : ScenarioLists → RunEnd → Option NodeId → EndpointId → List Entry
log_at s r None e = []
log_at s r (Some node) e = log_among (ends_of (layout_of s) node) (r.nodes node).books e

-- the logs of all parts
abbrev pub logs_at : ScenarioLists → RunEnd → Logs
logs_at s r = record { end = λ (e : EndpointId). log_at s r (home (layout_of s) e) e; node = λ (node : NodeId). r.made (Interface node); driver = λ (node : NodeId). r.made (Driver node) }

-- the logs of a node: those of its endpoints, and then its interface's
abbrev pub node_lists : RunEnd → NodeId → List (List Entry)
node_lists r node = map (λ (b : EndBook). b.end.value.log) (r.nodes node).books ++ r.made (Interface node) ∷ []

abbrev pub lists_of : RunEnd → List NodeId → List (List Entry)
lists_of r [] = []
lists_of r (n ∷ ns) = node_lists r n ++ lists_of r ns

abbrev pub all_lists : ScenarioLists → RunEnd → List (List Entry)
all_lists s r = lists_of r (nodes_of s)
