-- How an interface's entry keeps what its worker keeps.
use Rattle.std.specs.Prelude.{◌≡◌, ◌≢◌, ℕ, ◌+◌, ◌≤◌, ◌^◌, true, List, [], ◌∷◌, ◌++◌, filter}
use Rattle.am_names.specs.declared.EndpointId.{EndpointId}
use Rattle.am_names.specs.declared.NodeId.{NodeId}
use Rattle.am_names.specs.declared.Packet.{Packet}
use Rattle.am_office_entries.specs.declared.Entry.{Entry}
use Rattle.am_model_merge.specs.Logs.{IsRising}
use Rattle.am_model.specs.Channels.{emitted}
use Rattle.am_model.specs.History.{is_in_range}
use Rattle.am_scenario_types.specs.Lists.{ScenarioLists}
use Rattle.am_model_scripts.specs.Layout.{layout_of}
use Rattle.am_places.specs.Rule.{Begins}
use Rattle.am_workers_laws.specs.Phases.Crew.{AreReceipts, is_receipt}
use Rattle.am_workers_laws.specs.Invariants.Seats.{EndPass, Ids, KnowsNode, seen_log}
use Rattle.am_workers_laws.specs.Invariants.Works.{AreSeen, Hand, InterfaceWorks, IsWorkThenHere, held_from}

-- the interface made this entry, knows its node again, and has now received what it took out of a link for it
pub record IsInterfaceStep (s : ScenarioLists) (ids : Ids) (node : NodeId) (log : List Entry) (got now : NodeId → List Packet) (v w : EndPass) (x : Entry) : Type 0 where
  pub births : w.births ≡ v.births
  pub knows : KnowsNode ids (log ++ x ∷ []) w
  pub guest : w.mark ≢ w.seats
  pub grown : (k : ℕ) → Begins (seen_log k w) (seen_log k v)
  pub rising : IsRising (log ++ x ∷ [])
  pub low : x.stamp ≤ 2 ^ 63
  pub ranged : is_in_range (layout_of s) x.event ≡ true
  pub more : (from : NodeId) → Begins (now from) (got from)
  pub receipts : (from : NodeId) → AreReceipts from node (now from) (filter (is_receipt from node) (log ++ x ∷ []))
  pub right : (ends : EndpointId → List Entry) → AreSeen ids w ends → IsWorkThenHere s node ends now (log ++ x ∷ []) x

-- what was sent and taken afterwards: what the entry emits went into its link, and what was taken was received, but what is in hand
pub record HasSettled (node : NodeId) (log : List Entry) (now sent taken : NodeId → List Packet) (hand : Hand) (x : Entry) : Type 0 where
  pub sends : (to : NodeId) → sent to ≡ emitted node to (log ++ x ∷ [])
  pub takes : (from : NodeId) → taken from ≡ now from ++ held_from from hand

-- then its worker keeps its works, with one turn more
abbrev pub InterfacesGoOn : Type 0
InterfacesGoOn =
    (s : ScenarioLists) (ids : Ids) (node : NodeId) (turns : ℕ) (log : List Entry) (sent taken sent_now taken_now now : NodeId → List Packet) (hand hand_now : Hand) (v w : EndPass) (x : Entry) (h : InterfaceWorks s ids node turns log sent taken hand v) → IsInterfaceStep s ids node log h.got now v w x → HasSettled node log now sent_now taken_now hand_now x → InterfaceWorks s ids node (turns + 1) (log ++ x ∷ []) sent_now taken_now hand_now w
