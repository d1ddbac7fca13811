-- The workers of each node at the end of the phase, node by node, and the run that they make.
use Rattle.std.specs.Prelude.{if◌then◌else◌, ◌≡◌, ℕ, ◌+◌, ◌≤◌, ◌==◌, Bool, Option, Some, None, List, [], ◌∷◌, ◌++◌, drop, length, map, slice_get}
use Rattle.std.specs.List.{filter}
use Rattle.std.specs.Global.{Vec}
use Rattle.am_names.specs.declared.NodeId.{NodeId}
use Rattle.am_names.specs.declared.Packet.{Packet}
use Rattle.am_names.specs.Names.{same_node}
use Rattle.am_office_entries.specs.declared.Entry.{Entry}
use Rattle.am_swap_device.specs.Memory.{Store}
use Rattle.am_machine_journal.specs.Index.View.{receipts}
use Rattle.am_model_parts.specs.Together.{ends_of}
use Rattle.am_machine.specs.Parts.{CanUnite}
use Rattle.am_model.specs.Layout.{AllAre, node_at}
use Rattle.am_machine.specs.declared.node.NodePart.{NodePart}
use Rattle.am_machine.specs.Node.Parts.{journal_of}
use Rattle.am_scenario_plan.specs.Shape.{shape}
use Rattle.am_scenario_types.specs.declared.parts.Network.TheVariants as Networks
use Rattle.am_scenario_types.specs.declared.parts.ThreadLine.{ThreadLine}
use Rattle.am_scenario_types.specs.Lists.{ScenarioLists}
use Rattle.am_scenario_types.specs.Lawful.{IsLawful}
use Rattle.am_model_scripts.specs.Scripts.{calls_of}
use Rattle.am_model_drain.specs.Follows.{IsGoodPhase}
use Rattle.am_model_scripts.specs.Layout.{layout_of}
use Rattle.am_places.specs.Rule.{Begins, HasGathered, spent}
use Rattle.am_workers_laws.specs.declared.books.EndBook.{EndBook}
use Rattle.am_workers_laws.specs.Phases.Makers.{Driver, Interface, Maker, Thread}
use Rattle.am_workers_laws.specs.Invariants.Seats.{EndPass, Ids, setting_by}
use Rattle.am_workers_laws.specs.Invariants.Works.{Hand, InterfaceWorks, held_from}
use Rattle.am_workers_laws.specs.Ended.{DriverEnd, InterfaceEnd, IsEnded, IsTakenOut, NodeEnd, RunEnd, ThreadEnd, Worker, whole_pass}
use Rattle.am_cluster_running.specs.Uniting.Ended.{IsSetTo}
use Rattle.am_workers_laws.specs.Books.Ends.{end_in}
use Rattle.am_machine.specs.Node.Gathered.{is_declared_at}

-- ---- what there is

-- an application thread: its number, what it made, and what its seat knows
pub record TeamThread : Type 0 where
  pub thread : ℕ
  pub made : List Entry
  pub pass : EndPass

-- the workers of a node: its threads, its interface with its log and its links, and its driver, which took out the books and has the disk.
-- `sent` is what was emitted to each node, and `taken` what was taken out of the link from each
pub record Team : Type 0 where
  pub threads : List TeamThread
  pub log : List Entry
  pub interface : EndPass
  pub sent : NodeId → List Packet
  pub taken : NodeId → List Packet
  pub driven : List Entry
  pub driver : EndPass
  pub books : List EndBook
  pub disk : Store

abbrev pub thread_of : TeamThread → ℕ
thread_of w = w.thread

abbrev pub worker_of_thread : TeamThread → Worker
worker_of_thread w = record { maker = Thread w.thread; pass = w.pass }

-- those whose seats the driver gathers, in this order, and the driver
abbrev pub gathered_in : NodeId → Team → List Worker
gathered_in node t = map worker_of_thread t.threads ++ record { maker = Interface node; pass = t.interface } ∷ []

abbrev pub keeper_in : NodeId → Team → Worker
keeper_in node t = record { maker = Driver node; pass = t.driver }

abbrev pub node_end : NodeId → Team → NodeEnd
node_end node t = record { keeper = keeper_in node t; others = gathered_in node t; books = t.books; disk = t.disk }

-- ---- the run that the teams of all nodes make

abbrev pub all_threads : List Team → List TeamThread
all_threads [] = []
all_threads (t ∷ ts) = t.threads ++ all_threads ts

-- what the thread with the number made
abbrev pub made_among : ℕ → List TeamThread → List Entry
made_among t [] = []
made_among t (w ∷ ws) = if w.thread == t then w.made else made_among t ws

abbrev pub log_in : Option Team → List Entry
log_in None = []
log_in (Some t) = t.log

abbrev pub driven_in : Option Team → List Entry
driven_in None = []
driven_in (Some t) = t.driven

abbrev pub made_in : List Team → Maker → List Entry
made_in teams (Thread t) = made_among t (all_threads teams)
made_in teams (Interface node) = log_in (slice_get teams node.0)
made_in teams (Driver node) = driven_in (slice_get teams node.0)

-- a node that isn't there has no workers
abbrev pub node_in : NodeId → Option Team → NodeEnd
node_in node None = record { keeper = record { maker = Driver node; pass = spent }; others = []; books = []; disk = record { held = []; fails = []; calls = 0; faults = 0 } }
node_in node (Some t) = node_end node t

abbrev pub sent_in : Option Team → NodeId → List Packet
sent_in None to = []
sent_in (Some t) to = t.sent to

abbrev pub taken_in : Option Team → NodeId → List Packet
taken_in None from = []
taken_in (Some t) from = t.taken from

-- what the link still has
abbrev pub left_in : ScenarioLists → List Team → NodeId → NodeId → List Packet
left_in s teams from to = drop (length (taken_in (slice_get teams to.0) from)) (shape s.plan from to (sent_in (slice_get teams from.0) to))

abbrev pub run_of : ScenarioLists → List Team → RunEnd
run_of s teams =
    record {
      made = made_in teams;
      nodes = λ (node : NodeId). node_in node (slice_get teams node.0);
      sent = λ (from : NodeId). sent_in (slice_get teams from.0);
      taken = λ (from to : NodeId). taken_in (slice_get teams to.0) from;
      left = left_in s teams;
    }

-- ---- what is asked of them

-- the seats of a node's workers have their numbers in order: the threads', the interface's, the driver's, which is the last
abbrev pub AreSeated : NodeId → Team → Type 0
AreSeated node t = (k : ℕ) (w : Worker) → slice_get (gathered_in node t ++ keeper_in node t ∷ []) k ≡ Some w → w.pass.mark ≡ k + 1

-- each worker of the node keeps what its kind keeps
pub record IsTeam (s : ScenarioLists) (node : NodeId) (t : Team) : Type 0 where
  pub threads' : AllAre (λ (w : TeamThread). ThreadEnd s (ends_of (layout_of s) node) w.thread w.made w.pass) t.threads
  pub interface' : InterfaceEnd s (ends_of (layout_of s) node) node t.log t.sent t.taken t.interface
  pub driver' : DriverEnd s (ends_of (layout_of s) node) node t.driven t.disk t.driver
  pub seated : AreSeated node t

-- its driver gathered the seats of the others, and then took out each book
pub record AreTakenOut (s : ScenarioLists) (node : NodeId) (t : Team) : Type 0 where
  pub all : length t.books ≡ length (ends_of (layout_of s) node)
  pub each : (k : ℕ) (b : EndBook) → slice_get t.books k ≡ Some b → IsTakenOut (whole_pass (node_end node t)) k b

-- a thread is on the node
abbrev pub is_on : NodeId → ThreadLine → Bool
is_on node line = same_node node line.node

abbrev pub number_of_line : ThreadLine → ℕ
number_of_line line = line.id

-- the threads of the node are those that are declared there, by their numbers
abbrev pub HasThreads : ScenarioLists → NodeId → Team → Type 0
HasThreads s node t = map thread_of t.threads ≡ map number_of_line (filter (is_on node) s.threads)

-- there is a team for each node, and what was taken out of each link between two of them is a beginning of the shape of what was sent
pub record AreTeams (s : ScenarioLists) (teams : List Team) : Type 0 where
  pub lawful : IsLawful s
  pub all : length teams ≡ s.nodes
  pub each : (k : ℕ) (t : Team) → slice_get teams k ≡ Some t → IsTeam s (node_at k) t
  pub threads' : (k : ℕ) (t : Team) → slice_get teams k ≡ Some t → HasThreads s (node_at k) t
  pub out : (k : ℕ) (t : Team) → slice_get teams k ≡ Some t → AreTakenOut s (node_at k) t
  pub closed : (j k : ℕ) (f t : Team) → slice_get teams j ≡ Some f → slice_get teams k ≡ Some t → Begins (shape s.plan (node_at j) (node_at k) (f.sent (node_at k))) (t.taken (node_at j))
  pub strange : (k : ℕ) (t : Team) (from : NodeId) → slice_get teams k ≡ Some t → s.nodes ≤ from.0 → t.taken from ≡ []

-- the part has what the team of the node has
pub record IsPartOfTeam (s : ScenarioLists) (node : NodeId) (t : Team) (p : NodePart) : Type 0 where
  pub is_node : p.node ≡ node
  pub ends' : p.ends.items ≡ map end_in t.books
  pub declared : map setting_by t.driver.births ≡ filter (is_declared_at node) (layout_of s).ends
  pub log : p.iface.log ≡ t.log
  pub set : IsSetTo (layout_of s) node p.iface
  pub disk : p.swap ≡ t.disk
  pub all_emitted : length p.emitted.items ≡ s.nodes
  pub emitted' : (k : ℕ) (ps : Vec Packet) → slice_get p.emitted.items k ≡ Some ps → ps.items ≡ t.sent (node_at k)
  pub all_received : length p.received.items ≡ s.nodes
  pub received' : (k n : ℕ) → slice_get p.received.items k ≡ Some n → n ≡ receipts (node_at k) node t.log

pub record ArePartsOfTeams (s : ScenarioLists) (teams : List Team) (parts : List NodePart) : Type 0 where
  pub packet : s.network ≡ Networks.Packet
  pub all : length parts ≡ s.nodes
  pub each : (k : ℕ) (t : Team) (p : NodePart) → slice_get teams k ≡ Some t → slice_get parts k ≡ Some p → IsPartOfTeam s (node_at k) t p

-- ---- what they come to

-- a driver that gathered the seats of its node's other workers has gathered all
abbrev pub TeamsGather : Type 0
TeamsGather = (s : ScenarioLists) (node : NodeId) (t : Team) → IsTeam s node t → HasGathered (whole_pass (node_end node t))

-- teams that are done end a run
abbrev pub TeamsEnd : Type 0
TeamsEnd = (s : ScenarioLists) (teams : List Team) → AreTeams s teams → IsEnded s (run_of s teams)

-- the parts can be united, and their journal is a phase, in which each thread made its calls
pub record AreUnited (s : ScenarioLists) (teams : List Team) (parts : List NodePart) : Type 0 where
  pub can : CanUnite s parts
  pub good : IsGoodPhase s (journal_of parts)
  pub none : s.turns ≡ 0 → journal_of parts ≡ []
  pub calls : (k j : ℕ) (t : Team) (w : TeamThread) → slice_get teams k ≡ Some t → slice_get t.threads j ≡ Some w → calls_of w.thread (journal_of parts) ≡ calls_of w.thread w.made

abbrev pub TeamsUnite : Type 0
TeamsUnite = (s : ScenarioLists) (teams : List Team) (parts : List NodePart) → AreTeams s teams → ArePartsOfTeams s teams parts → AreUnited s teams parts

-- ---- receipts

-- an interface received on each link what it took out of it, but what is in hand
abbrev pub ReceiptsCount : Type 0
ReceiptsCount =
    (s : ScenarioLists) (ids : Ids) (node : NodeId) (turns : ℕ) (log : List Entry) (sent taken : NodeId → List Packet) (hand : Hand) (v : EndPass) → InterfaceWorks s ids node turns log sent taken hand v → (from : NodeId) → receipts from node log + length (held_from from hand) ≡ length (taken from)
