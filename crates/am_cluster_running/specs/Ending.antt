-- What is left of the nodes' crews when their phase is over.
use Rattle.std.specs.Prelude.{◌≡◌, ℕ, ◌+◌, ◌≤◌, Some, List, length, slice_get, vec_capacity}
use Rattle.std.specs.Global.{Vec}
use Rattle.am_workers_laws.specs.declared.books.EndBook.{EndBook}
use Rattle.am_workers_laws.specs.Invariants.Seats.{EndPass}
use Rattle.am_workers_laws.specs.Ended.{IsTakenOut}
use Rattle.am_wire.specs.declared.receiving.LinkIn.{LinkIn}
use Rattle.am_wire.specs.declared.sending.LinkOut.{LinkOut}
use Rattle.am_cluster_opening.specs.declared.crew.NodeCrew.{NodeCrew}
use Rattle.am_cluster_running.specs.Ends.Ends.{AreBooksOf}
use Rattle.am_cluster_running.specs.declared.ended.AllEnded.{AllEnded}
use Rattle.am_cluster_running.specs.declared.ended.Ended.{Ended}
use Rattle.am_cluster_running.specs.declared.ended.NodeEnded.{NodeEnded}

-- the keeper of this pass took out the books of so many places, in order
pub record AreTakenOut (count : ℕ) (v : EndPass) (books : List EndBook) : Type 0 where
  pub all : length books ≡ count
  pub each : (k : ℕ) (b : EndBook) → slice_get books k ≡ Some b → IsTakenOut v k b

-- the node has what its crew had, and the books that the driver took out when it had gathered all seats
pub record IsNodeEndedOf (c : NodeCrew) (n : NodeEnded) : Type 0 where
  pub node : n.node ≡ c.node
  pub interface : n.interface ≡ c.interface.interface
  pub swap : n.swap ≡ c.driver.swap
  pub hand : n.hand ≡ c.interface.hand
  pub taken : AreBooksOf c n.books.items

pub record IsEndedOf (c : NodeCrew) (e : Ended) : Type 0 where
  pub node : IsNodeEndedOf c e.node
  pub outs : e.outs.items ≡ c.interface.outs.items
  pub ins : e.ins.items ≡ c.interface.ins.items

-- each node of these crews is over, and the ends of its links are there beside
pub record AreEnded (crews : List NodeCrew) (all : AllEnded) : Type 0 where
  pub all_nodes : length all.nodes.items ≡ length crews
  pub all_outs : length all.outs.items ≡ length crews
  pub all_ins : length all.ins.items ≡ length crews
  pub node : (k : ℕ) (c : NodeCrew) (n : NodeEnded) → slice_get crews k ≡ Some c → slice_get all.nodes.items k ≡ Some n → IsNodeEndedOf c n
  pub outs : (k : ℕ) (c : NodeCrew) (os : Vec LinkOut) → slice_get crews k ≡ Some c → slice_get all.outs.items k ≡ Some os → os.items ≡ c.interface.outs.items
  pub ins : (k : ℕ) (c : NodeCrew) (is : Vec LinkIn) → slice_get crews k ≡ Some c → slice_get all.ins.items k ≡ Some is → is.items ≡ c.interface.ins.items

-- there is room for so many more
pub record HasRoom (n : ℕ) (all : AllEnded) : Type 0 where
  pub nodes : length all.nodes.items + n ≤ vec_capacity all.nodes
  pub outs : length all.outs.items + n ≤ vec_capacity all.outs
  pub ins : length all.ins.items + n ≤ vec_capacity all.ins
