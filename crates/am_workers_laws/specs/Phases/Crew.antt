-- What the workers of a run made, by the lists that they leave: when the journal into which these merge is a phase.
use Rattle.std.specs.Prelude.{◌≡◌, ℕ, ◌+◌, ◌≤◌, ◌<◌, Bool, true, false, ◌==◌, ◌||◌, Some, is_some, List, [], ◌∷◌, ◌++◌, take, length, filter, Contains}
use Rattle.am_names.specs.declared.EndpointId.{EndpointId}
use Rattle.am_names.specs.declared.NodeId.{NodeId}
use Rattle.am_names.specs.declared.Packet.{Packet}
use Rattle.am_office_entries.specs.declared.Event.{Event}
use Rattle.am_office_entries.specs.declared.Event.TheVariants as Events
use Rattle.am_office_entries.specs.declared.Outcome.{Outcome}
use Rattle.am_office_entries.specs.declared.Outcome.TheVariants as Out
use Rattle.am_office_entries.specs.declared.Entry.{Entry}
use Rattle.am_office_entries.specs.Entries.{touches_node}
use Rattle.am_model.specs.Endpoint.{State, front}
use Rattle.am_model.specs.Channels.{emitted}
use Rattle.am_model.specs.Layout.{AllAre}
use Rattle.am_scenario_plan.specs.Shape.{shape, number_of, stamp_of}
use Rattle.am_scenario_types.specs.Lists.{ScenarioLists}
use Rattle.am_model_scripts.specs.Layout.{layout_of}
use Rattle.am_model_merge.specs.Logs.{IsRising, Logs}
use Rattle.am_model_merge.specs.Right.{IsRight, state_before}
use Rattle.am_model_scripts.specs.Links.{number_received}
use Rattle.am_model_scripts.specs.Scripts.{calls_of, script_of}
use Rattle.am_model_scripts.specs.Follows.{is_bounced_out, is_by_thread, is_thread}
use Rattle.am_model.specs.Parts.{is_by_driver}

-- ---- the threads

-- what each thread made, in order: its stamps rise, it made at most so many entries, and its calls are the first of its script
pub record AreThreads (s : ScenarioLists) (made : ℕ → List Entry) : Type 0 where
  pub rising : (t : ℕ) → IsRising (made t)
  pub own : (t : ℕ) → AllAre (λ (x : Entry). is_by_thread t x.event ≡ true) (made t)
  pub few : (t : ℕ) → length (made t) ≤ s.turns
  pub begun : (t : ℕ) → calls_of t (made t) ≡ take (length (calls_of t (made t))) (script_of s t)
  pub declared : (t : ℕ) (x : Entry) → Contains (made t) x → is_thread s t ≡ true

-- ---- the interfaces

-- whether a bind or a time-out is of a kind that is left to the end, where endpoints are in these states
abbrev pub is_last_by : ScenarioLists → (EndpointId → State) → Event → Outcome → Bool
is_last_by s states (Events.Bind node end) (Out.Sent m peer channel seq attempt number) = (attempt + 1 == s.tries) || is_bounced_out s.bounces (front (states end))
is_last_by s states (Events.Expire node peer channel) (Out.Sent m to on seq attempt number) = attempt + 1 == s.tries
is_last_by s states (Events.Expire node peer channel) (Out.Delivered serial) = true
is_last_by s states (Events.Expire node peer channel) (Out.Unknown serial) = true
is_last_by s states event outcome = false

-- the entry is of no such kind, by what the log of the endpoint has below its stamp
abbrev pub IsNotLast : ScenarioLists → Logs → Entry → Type 0
IsNotLast s logs x = is_last_by s (state_before (layout_of s) logs x.stamp) x.event x.outcome ≡ false

-- whether a packet of the link is received here
abbrev pub is_receipt : NodeId → NodeId → Entry → Bool
is_receipt from to x = is_some (number_received from to x.event)

-- these entries receive these packets, one after the other, each stamped above its packet
abbrev pub AreReceipts : NodeId → NodeId → List Packet → List Entry → Type 0
AreReceipts from to [] [] = Unit {0}
AreReceipts from to (p ∷ ps) (x ∷ xs) = (number_received from to x.event ≡ Some (number_of p)) × (stamp_of p < x.stamp) × AreReceipts from to ps xs
AreReceipts from to ps xs = ⊥

-- what came out of a link and was received, and what else its emissions released: a released packet has the stamp of the
-- emission that releases it
pub record IsLinkOf (s : ScenarioLists) (logs : Logs) (from to : NodeId) : Type 0 where
  pub got : List Packet
  pub left : List Packet
  pub shaped : shape s.plan from to (emitted from to (logs.node from)) ≡ got ++ left
  pub receipts : AreReceipts from to got (filter (is_receipt from to) (logs.node to))

pub record AreInterfaces (s : ScenarioLists) (logs : Logs) : Type 0 where
  pub few : (node : NodeId) → length (logs.node node) ≤ s.turns
  pub not_last : (node : NodeId) → AllAre (IsNotLast s logs) (logs.node node)
  pub links : (from to : NodeId) → IsLinkOf s logs from to

-- ---- all together

-- whoever made the entry
pub data IsMade (made : ℕ → List Entry) (x : Entry) : Type 0 where
  ByThread : (t : ℕ) → Contains (made t) x → IsMade made x
  ByInterface : (node : NodeId) → touches_node node x ≡ true → IsMade made x
  ByDriver : (node : NodeId) → is_by_driver node x ≡ true → IsMade made x

pub record IsCrew (s : ScenarioLists) (logs : Logs) (made : ℕ → List Entry) (journal : List Entry) : Type 0 where
  pub threads : AreThreads s made
  pub interfaces : AreInterfaces s logs
  pub drivers : (node : NodeId) → length (logs.driver node) ≤ s.turns
  pub right : AllAre (IsRight (layout_of s) logs) journal
  pub makers : AllAre (IsMade made) journal
  pub whole : (t : ℕ) (x : Entry) → Contains (made t) x → Contains journal x
