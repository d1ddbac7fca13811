-- What the crews of all nodes leave at the end of a phase, and what it comes to.
use Rattle.std.specs.Prelude.{◌≡◌, ℕ, ◌+◌, ◌≤◌, Some, List, [], ◌∷◌, ◌++◌, length, map, slice_get, take}
use Rattle.std.specs.Global.{Vec}
use Rattle.am_names.specs.declared.NodeId.{NodeId}
use Rattle.am_names.specs.declared.Packet.{Packet}
use Rattle.am_model.specs.Layout.{node_at}
use Rattle.am_model_drain.specs.Follows.{IsGoodPhase}
use Rattle.am_machine.specs.Parts.{CanUnite}
use Rattle.am_machine.specs.declared.node.NodePart.{NodePart}
use Rattle.am_machine.specs.Node.Parts.{journal_of}
use Rattle.am_scenario_types.specs.Lists.{ScenarioLists}
use Rattle.am_scenario_types.specs.Lawful.{IsLawful}
use Rattle.am_scenario_types.specs.declared.parts.Network.TheVariants as Networks
use Rattle.am_model_scripts.specs.Scripts.{calls_of}
use Rattle.am_workers_laws.specs.declared.books.EndBook.{EndBook}
use Rattle.am_places.specs.Rule.{Begins, HasGathered, gathered}
use Rattle.am_places.specs.Seats.{pass_of}
use Rattle.am_wire.specs.Links.{emitted, received, released}
use Rattle.am_wire.specs.declared.receiving.LinkIn.{LinkIn}
use Rattle.am_wire.specs.declared.sending.LinkOut.{LinkOut}
use Rattle.am_workers_laws.specs.Invariants.Seats.{EndPass}
use Rattle.am_workers_laws.specs.Invariants.Works.{held_from}
use Rattle.am_workers.specs.declared.workers.ThreadWorker.{ThreadWorker}
use Rattle.am_workers_laws.specs.Ended.{IsTakenOut}
use Rattle.am_cluster_opening.specs.Crews.{AreCrews, IsCrew, ids_of}
use Rattle.am_cluster_opening.specs.declared.crew.NodeCrew.{NodeCrew}
use Rattle.am_workers_laws.specs.Books.Ends.{end_in}

-- ---- the seats

abbrev pub thread_pass : ThreadWorker → EndPass
thread_pass w = pass_of w.seat

-- what the seats know that the driver gathers, in this order: the threads', and the interface's
abbrev pub passes_of : NodeCrew → List EndPass
passes_of c = map thread_pass c.threads.items ++ pass_of c.interface.seat ∷ []

-- what a seat knows that has gathered these, one after the other
abbrev pub gathered_all : EndPass → List EndPass → EndPass
gathered_all v [] = v
gathered_all v (w ∷ ws) = gathered_all (gathered v w) ws

-- what the driver's seat knows when it has gathered all
abbrev pub whole_of : NodeCrew → EndPass
whole_of c = gathered_all (pass_of c.driver.seat) (passes_of c)

-- the driver then took out these books, those of all endpoints of its node, in order
pub record AreBooksOf (c : NodeCrew) (books : List EndBook) : Type 0 where
  pub all : length books ≡ length (ids_of c)
  pub each : (k : ℕ) (b : EndBook) → slice_get books k ≡ Some b → IsTakenOut (whole_of c) k b

-- ---- a part

-- the part has the endpoints of these books, the interface and the disk of the crew, for each node what was emitted on the link to it, and how
-- many packets that were taken out of the link from it are not in hand
pub record IsPartOfCrew (s : ScenarioLists) (node : NodeId) (c : NodeCrew) (books : List EndBook) (p : NodePart) : Type 0 where
  pub is_node : p.node ≡ node
  pub ends' : p.ends.items ≡ map end_in books
  pub interface : p.iface ≡ c.interface.interface
  pub few : length p.iface.log ≤ s.log
  pub disk : p.swap ≡ c.driver.swap
  pub all_emitted : length p.emitted.items ≡ s.nodes
  pub emitted' : (k : ℕ) (ps : Vec Packet) (o : LinkOut) → slice_get p.emitted.items k ≡ Some ps → slice_get c.interface.outs.items k ≡ Some o → ps.items ≡ emitted o
  pub all_received : length p.received.items ≡ s.nodes
  pub received' : (k n : ℕ) (i : LinkIn) → slice_get p.received.items k ≡ Some n → slice_get c.interface.ins.items k ≡ Some i → n + length (held_from (node_at k) c.interface.hand) ≡ length (received i)

-- what was received on each link is a beginning of what it released
abbrev pub AreClosed : List NodeCrew → Type 0
AreClosed crews =
    (from to : ℕ) (a b : NodeCrew) (o : LinkOut) (i : LinkIn) → slice_get crews from ≡ Some a → slice_get crews to ≡ Some b → slice_get a.interface.outs.items to ≡ Some o → slice_get b.interface.ins.items from ≡ Some i → Begins (released o) (received i)

-- the crews of all nodes at the end of a phase, the books that they took out, and the parts that were made of them
pub record AreLeft (s : ScenarioLists) (crews : List NodeCrew) (books : List (List EndBook)) (parts : List NodePart) : Type 0 where
  pub lawful : IsLawful s
  pub packet : s.network ≡ Networks.Packet
  pub crews' : AreCrews s s.turns crews
  pub closed : AreClosed crews
  pub all_books : length books ≡ s.nodes
  pub books' : (k : ℕ) (c : NodeCrew) (bs : List EndBook) → slice_get crews k ≡ Some c → slice_get books k ≡ Some bs → AreBooksOf c bs
  pub all_parts : length parts ≡ s.nodes
  pub parts' : (k : ℕ) (c : NodeCrew) (bs : List EndBook) (p : NodePart) → slice_get crews k ≡ Some c → slice_get books k ≡ Some bs → slice_get parts k ≡ Some p → IsPartOfCrew s (node_at k) c bs p

-- ---- what it comes to

abbrev pub CrewsGather : Type 0
CrewsGather = (s : ScenarioLists) (node : NodeId) (turns : ℕ) (c : NodeCrew) → IsCrew s node turns c → turns ≤ s.turns → HasGathered (whole_of c)

-- the thread made the calls that its worker counted
pub record AreUnitedCrews (s : ScenarioLists) (crews : List NodeCrew) (parts : List NodePart) : Type 0 where
  pub can : CanUnite s parts
  pub good : IsGoodPhase s (journal_of parts)
  pub none : s.turns ≡ 0 → journal_of parts ≡ []
  pub calls : (k j : ℕ) (c : NodeCrew) (w : ThreadWorker) → slice_get crews k ≡ Some c → slice_get c.threads.items j ≡ Some w → calls_of w.thread (journal_of parts) ≡ take w.next w.script.items

abbrev pub CrewsUnite : Type 0
CrewsUnite = (s : ScenarioLists) (crews : List NodeCrew) (books : List (List EndBook)) (parts : List NodePart) → AreLeft s crews books parts → AreUnitedCrews s crews parts
