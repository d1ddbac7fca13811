-- When a scenario is lawful: ranges, declared numbers, nodes, distinctness, numbers of lines.
use Rattle.std.specs.Prelude.{◌≡◌, ◌≢◌, ℕ, ◌<◌, ◌≤◌, ◌^◌, ◌==◌, IsTrue, List, length, find, count_by, Option, Some, None, IfSome, IsSome}
use Rattle.std.specs.List.{All, AllPairs}
use Rattle.std.specs.Option.{option_map}
use Rattle.am_names.specs.declared.EndpointId.{EndpointId}
use Rattle.am_names.specs.declared.NodeId.{NodeId}
use Rattle.am_names.specs.declared.Serial.{Serial}
use Rattle.am_names.specs.declared.Words.{Words}
use Rattle.am_office_entries.specs.declared.HandlerKind.{HandlerKind}
use Rattle.am_office_entries.specs.declared.HandlerKind.TheVariants.{Note, Echo, Add}
use Rattle.am_office_entries.specs.declared.Call.{Call}
use Rattle.am_office_entries.specs.declared.Call.TheVariants.{Request, Poll, SetTag, Map, Unmap, SetHandler, GiveUp, Close, Test}
use Rattle.am_office_entries.specs.declared.Actor.TheVariants.{Outside}
use Rattle.am_office_entries.specs.declared.Event.{Event}
use Rattle.am_office_entries.specs.declared.Event.TheVariants as event
use Rattle.am_bundle.specs.Lists.{BundleLists}
use Rattle.am_scenario_plan.specs.declared.plan.LinkFault.{LinkFault}
use Rattle.am_scenario_plan.specs.declared.plan.LinkFault.TheVariants.{Lose, Repeat, Late}
use Rattle.am_scenario_plan.specs.declared.plan.PlanLine.{PlanLine}
use Rattle.am_scenario_types.specs.declared.parts.Form.{Form}
use Rattle.am_scenario_types.specs.declared.parts.Form.TheVariants.{Step, Run}
use Rattle.am_scenario_types.specs.declared.parts.Network.{Network}
use Rattle.am_scenario_types.specs.declared.parts.Network.TheVariants.{Packet}
use Rattle.am_scenario_types.specs.declared.parts.EndLine.{EndLine}
use Rattle.am_scenario_types.specs.declared.parts.ThreadLine.{ThreadLine}
use Rattle.am_scenario_types.specs.declared.parts.FaultLine.{FaultLine}
use Rattle.am_scenario_types.specs.declared.parts.ScriptCall.{ScriptCall}
use Rattle.am_scenario_types.specs.Lists.{ScenarioLists}

-- ---- what is declared

abbrev pub IsWithin : ℕ → ℕ → ℕ → Type 0
IsWithin low high n = (low ≤ n) × (n ≤ high)

-- the node of a declared endpoint
abbrev pub node_of : List EndLine → EndpointId → Option NodeId
node_of ends id = option_map (λ end. end.node) (find (λ end. end.id.0 == id.0) ends)

abbrev pub IsDeclared : List EndLine → EndpointId → Type 0
IsDeclared ends id = IsSome (node_of ends id)

-- the endpoint is declared, on this node
abbrev pub IsOn : List EndLine → NodeId → EndpointId → Type 0
IsOn ends node id = node_of ends id ≡ Some node

-- ---- sections 2 and 3

pub record HasLawfulSettings (s : ScenarioLists) : Type 0 where
  pub nodes : IsWithin 1 16 s.nodes
  pub frames : IsWithin 2 16 s.frames
  pub channels : IsWithin 1 4 s.channels
  pub tries : IsWithin 2 16 s.tries
  pub bounces : s.bounces ≤ 16
  pub pool : IfSome s.pool (λ pool. pool ≤ 32)
  pub keep : s.keep ≤ 64
  pub log : IsWithin 1 65_536 s.log
  pub turns : s.turns ≤ 10_000

pub record IsLawfulEnd (network : Network) (nodes : ℕ) (end : EndLine) : Type 0 where
  pub id : end.id.0 ≤ 255
  pub node : end.node.0 < nodes
  pub tag : end.tag.0 < 2 ^ 64
  pub disk : IsTrue end.disk → network ≡ Packet

pub record IsLawfulBundle (ends : List EndLine) (bundle : BundleLists) : Type 0 where
  pub id : bundle.id ≤ 63
  -- all members are declared, on one node
  pub members : (node : NodeId) × All (IsOn ends node) bundle.members
  pub some_member : 0 < length bundle.members
  pub once : AllPairs (λ a b. a.0 ≢ b.0) bundle.members

pub record IsLawfulThread (nodes : ℕ) (thread : ThreadLine) : Type 0 where
  pub id : thread.id ≤ 63
  pub node : thread.node.0 < nodes

abbrev pub IsLawfulFault : LinkFault → Type 0
IsLawfulFault Lose = Unit {0}
IsLawfulFault Repeat = Unit {0}
IsLawfulFault (Late by) = IsWithin 1 16 by

pub record IsLawfulPlanLine (nodes : ℕ) (line : PlanLine) : Type 0 where
  pub from : line.from.0 < nodes
  pub to : line.to.0 < nodes
  pub number : IsWithin 1 65_536 line.number
  pub fault : IsLawfulFault line.fault

-- one link and one number
abbrev pub IsSamePlace : PlanLine → PlanLine → Type 0
IsSamePlace a b = (a.from.0 ≡ b.from.0) × (a.to.0 ≡ b.to.0) × (a.number ≡ b.number)

pub record IsLawfulFaultLine (nodes : ℕ) (line : FaultLine) : Type 0 where
  pub node : line.node.0 < nodes
  pub number : IsWithin 1 65_536 line.number

-- one node and one number
abbrev pub IsSamePageCall : FaultLine → FaultLine → Type 0
IsSamePageCall a b = (a.node.0 ≡ b.node.0) × (a.number ≡ b.number)

-- ---- calls and events

abbrev pub AreWords : Words → Type 0
AreWords w = (w.a < 2 ^ 64) × (w.b < 2 ^ 64) × (w.c < 2 ^ 64) × (w.d < 2 ^ 64)

abbrev pub IsLawfulKind : HandlerKind → Type 0
IsLawfulKind Note = Unit {0}
IsLawfulKind (Echo handler) = IsWithin 1 15 handler
IsLawfulKind (Add handler) = IsWithin 1 15 handler

abbrev pub IsLawfulSerial : Serial → Type 0
IsLawfulSerial serial = (serial.source.0 ≤ 255) × (serial.count < 2 ^ 32)

-- the least number of credits of an index: 1 without pools, 0 with them
abbrev pub least_credits : Option ℕ → ℕ
least_credits None = 1
least_credits (Some pool) = 0

-- a call, where `least` is the least number of credits of an index
abbrev pub IsLawfulCall : List EndLine → ℕ → Call → Type 0
IsLawfulCall ends least (Request index handler words) = (index ≤ 255) × (handler ≤ 255) × AreWords words
IsLawfulCall ends least Poll = Unit {0}
IsLawfulCall ends least (SetTag tag) = tag.0 < 2 ^ 64
IsLawfulCall ends least (Map index name tag credits) = (index ≤ 255) × IsDeclared ends name × (tag.0 < 2 ^ 64) × IsWithin least 8 credits
IsLawfulCall ends least (Unmap index) = index ≤ 255
IsLawfulCall ends least (SetHandler index kind) = (index ≤ 255) × IsLawfulKind kind
IsLawfulCall ends least (GiveUp serial) = IsLawfulSerial serial
IsLawfulCall ends least Close = Unit {0}
IsLawfulCall ends least (Test mask) = Unit {0}

-- the node of a declared thread
abbrev pub thread_node : List ThreadLine → ℕ → Option NodeId
thread_node threads id = option_map (λ thread. thread.node) (find (λ thread. thread.id == id) threads)

-- a call of a declared thread, on an endpoint of its node
pub record IsLawfulScriptCall (ends : List EndLine) (threads : List ThreadLine) (least : ℕ) (made : ScriptCall) : Type 0 where
  pub placed : (node : NodeId) × ((thread_node threads made.thread ≡ Some node) × IsOn ends node made.endpoint)
  pub call : IsLawfulCall ends least made.call

-- an event of a step script; no thread makes a call there
abbrev pub IsLawfulEvent : List EndLine → (nodes frames channels least : ℕ) → Event → Type 0
IsLawfulEvent ends nodes frames channels least (event.Call actor end call) = (actor ≡ Outside) × IsDeclared ends end × IsLawfulCall ends least call
IsLawfulEvent ends nodes frames channels least (event.Want actor end) = (actor ≡ Outside) × IsDeclared ends end
IsLawfulEvent ends nodes frames channels least (event.Carry end) = IsDeclared ends end
IsLawfulEvent ends nodes frames channels least (event.Bind node end) = (node.0 < nodes) × IsDeclared ends end
IsLawfulEvent ends nodes frames channels least (event.Expire node peer channel) = (node.0 < nodes) × (peer.0 < nodes) × (channel < channels)
IsLawfulEvent ends nodes frames channels least (event.Receive node peer number) = (node.0 < nodes) × (peer.0 < nodes) × IsWithin 1 0xffff_ffff number
IsLawfulEvent ends nodes frames channels least (event.Drain node end) = (node.0 < nodes) × IsDeclared ends end
IsLawfulEvent ends nodes frames channels least (event.Unload node end) = (node.0 < nodes) × IsDeclared ends end
IsLawfulEvent ends nodes frames channels least (event.Load node end frame) = (node.0 < nodes) × IsDeclared ends end × (frame < frames)
IsLawfulEvent ends nodes frames channels least (event.PageOut node end) = (node.0 < nodes) × IsDeclared ends end
IsLawfulEvent ends nodes frames channels least (event.PageIn node end) = (node.0 < nodes) × IsDeclared ends end

-- ---- the whole

pub record IsLawful (s : ScenarioLists) : Type 0 where
  pub settings : HasLawfulSettings s
  pub ends : All (IsLawfulEnd s.network s.nodes) s.ends
  pub ends_rise : AllPairs (λ a b. a.id.0 < b.id.0) s.ends
  pub ends_of_a_node : (node : ℕ) → count_by (λ end. end.node.0 == node) s.ends ≤ 64
  pub bundles : All (IsLawfulBundle s.ends) s.bundles
  pub bundles_once : AllPairs (λ a b. a.id ≢ b.id) s.bundles
  pub threads : All (IsLawfulThread s.nodes) s.threads
  pub threads_rise : AllPairs (λ a b. a.id < b.id) s.threads
  pub threads_of_a_node : (node : ℕ) → count_by (λ thread. thread.node.0 == node) s.threads ≤ 4
  pub plan : All (IsLawfulPlanLine s.nodes) s.plan
  pub plan_once : AllPairs (λ a b. ¬ IsSamePlace a b) s.plan
  pub plan_lines : length s.plan ≤ 4096
  pub faults : All (IsLawfulFaultLine s.nodes) s.faults
  pub faults_once : AllPairs (λ a b. ¬ IsSamePageCall a b) s.faults
  pub fault_lines : length s.faults ≤ 64
  pub script : All (IsLawfulScriptCall s.ends s.threads (least_credits s.pool)) s.script
  pub script_calls : length s.script ≤ 16_384
  pub steps : All (λ step. IsLawfulEvent s.ends s.nodes s.frames s.channels (least_credits s.pool) step.event) s.steps
  pub step_lines : length s.steps ≤ 65_536

-- A step script has no plan and no threads' calls; a run goes over packets and has no steps.
abbrev pub IsOfForm : Form → ScenarioLists → Type 0
IsOfForm Step s = (length s.plan ≡ 0) × (length s.script ≡ 0)
IsOfForm Run s = (s.network ≡ Packet) × (length s.steps ≡ 0)
