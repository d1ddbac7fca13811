-- A scenario in the making: what each call adds, and why it may be refused. Of the conditions of a call the first that holds is the cause.
use Rattle.std.specs.Prelude.{◌≡◌, ℕ, ◌^◌, ◌<◌, ◌≤◌, ◌==◌, ◌&&◌, ◌||◌, Bool, true, false, not, nat_le, Option, Some, None, is_none, Result}
use Rattle.std.specs.Prelude.{Ok, Err}
use Rattle.std.specs.Prelude.{◌+◌, List, [], ◌∷◌, ◌++◌, length, count_by, map, slice_get, take}
use Rattle.std.specs.List.{All, list_any, range_with_len}
use Rattle.am_names.specs.declared.EndpointId.{EndpointId}
use Rattle.am_names.specs.declared.NodeId.{NodeId}
use Rattle.am_names.specs.declared.Tag.{Tag}
use Rattle.am_names.specs.declared.Words.{Words}
use Rattle.am_office_entries.specs.declared.Call.{Call}
use Rattle.am_office_entries.specs.declared.Call.TheVariants as Calls
use Rattle.am_office_entries.specs.declared.HandlerKind.{HandlerKind}
use Rattle.am_office_entries.specs.declared.HandlerKind.TheVariants.{Note, Echo, Add}
use Rattle.am_model.specs.Choice.{first_holding}
use Rattle.am_scenario_plan.specs.declared.plan.LinkFault.{LinkFault}
use Rattle.am_scenario_plan.specs.declared.plan.LinkFault.TheVariants.{Lose, Repeat, Late}
use Rattle.am_scenario_plan.specs.declared.plan.PlanLine.{PlanLine}
use Rattle.am_scenario_types.specs.declared.parts.Network.TheVariants.{Packet}
use Rattle.am_scenario_types.specs.declared.parts.EndLine.{EndLine}
use Rattle.am_scenario_types.specs.declared.parts.ThreadLine.{ThreadLine}
use Rattle.am_scenario_types.specs.declared.parts.ScriptCall.{ScriptCall}
use Rattle.am_scenario_types.specs.Lawful.{AreWords, IsLawful, IsLawfulSerial, node_of, thread_node}
use Rattle.am_scenario_types.specs.Lists.{ScenarioLists}
use Rattle.am_library_drafts.specs.declared.draft.DraftFault.{DraftFault}
use Rattle.am_library_drafts.specs.declared.draft.DraftFault.TheVariants as Fault
use Rattle.am_library_drafts.specs.declared.draft.Setting.{Setting}
use Rattle.am_library_drafts.specs.declared.draft.Setting.TheVariants as Set

-- the answer is the first fault, or that there is no memory; Ok comes where there is no fault
abbrev pub IsRefusedFor : {A : Type 0} → Result A DraftFault → Option DraftFault → Type 0
IsRefusedFor (Ok a) fault = fault ≡ None
IsRefusedFor (Err Fault.NoMemory) fault = fault ≡ None
IsRefusedFor (Err other) fault = fault ≡ Some other

-- ---- the beginning, and the settings

abbrev pub started : ℕ → ScenarioLists
started nodes = record {
  network = Packet;
  nodes = nodes;
  frames = 2;
  channels = 1;
  tries = 4;
  bounces = 3;
  pool = None;
  keep = 64;
  log = 65_536;
  turns = 0;
  ends = [];
  bundles = [];
  threads = [];
  plan = [];
  faults = [];
  script = [];
  steps = [];
}

abbrev pub is_within : ℕ → ℕ → ℕ → Bool
is_within low high n = nat_le low n && nat_le n high

abbrev pub start_fault : ℕ → Option DraftFault
start_fault nodes = first_holding ((not (is_within 1 16 nodes), Fault.BadNumber) ∷ [])

-- whether a setting is in its range
abbrev pub is_good_setting : Setting → Bool
is_good_setting (Set.Frames n) = is_within 2 16 n
is_good_setting (Set.Channels n) = is_within 1 4 n
is_good_setting (Set.Tries n) = is_within 2 16 n
is_good_setting (Set.Bounces n) = nat_le n 16
is_good_setting (Set.Keep n) = nat_le n 64
is_good_setting (Set.Log n) = is_within 1 65_536 n
is_good_setting (Set.Turns n) = nat_le n 10_000

abbrev pub setting_fault : Setting → Option DraftFault
setting_fault setting = first_holding ((not (is_good_setting setting), Fault.BadNumber) ∷ [])

abbrev pub with_setting : ScenarioLists → Setting → ScenarioLists
with_setting s (Set.Frames n) = record s { frames = n }
with_setting s (Set.Channels n) = record s { channels = n }
with_setting s (Set.Tries n) = record s { tries = n }
with_setting s (Set.Bounces n) = record s { bounces = n }
with_setting s (Set.Keep n) = record s { keep = n }
with_setting s (Set.Log n) = record s { log = n }
with_setting s (Set.Turns n) = record s { turns = n }

-- ---- endpoints and threads, numbered from 0 on in the order in which they are declared

abbrev pub ends_on : ScenarioLists → NodeId → ℕ
ends_on s node = count_by (λ (end : EndLine). end.node.0 == node.0) s.ends

abbrev pub end_fault : ScenarioLists → NodeId → Option DraftFault
end_fault s node =
    first_holding (
    (nat_le s.nodes node.0, Fault.NoNode)
    ∷ (nat_le 256 (length s.ends), Fault.Full)
    ∷ (nat_le 64 (ends_on s node), Fault.Full)
    ∷ [])

abbrev pub end_line : ScenarioLists → NodeId → Tag → EndLine
end_line s node tag = record { id = record { 0 = length s.ends }; node = node; tag = tag; disk = false }

abbrev pub with_end : ScenarioLists → NodeId → Tag → ScenarioLists
with_end s node tag = record s { ends = s.ends ++ end_line s node tag ∷ [] }

abbrev pub threads_on : ScenarioLists → NodeId → ℕ
threads_on s node = count_by (λ (thread : ThreadLine). thread.node.0 == node.0) s.threads

abbrev pub thread_fault : ScenarioLists → NodeId → Option DraftFault
thread_fault s node =
    first_holding (
    (nat_le s.nodes node.0, Fault.NoNode)
    ∷ (nat_le 64 (length s.threads), Fault.Full)
    ∷ (nat_le 4 (threads_on s node), Fault.Full)
    ∷ [])

abbrev pub thread_line : ScenarioLists → NodeId → ThreadLine
thread_line s node = record { id = length s.threads; node = node }

abbrev pub with_thread : ScenarioLists → NodeId → ScenarioLists
with_thread s node = record s { threads = s.threads ++ thread_line s node ∷ [] }

-- ---- an endpoint and a thread on each of so many nodes

abbrev pub node_numbered : ℕ → NodeId
node_numbered n = record { 0 = n }

abbrev pub end_on : ScenarioLists → Tag → ℕ → EndLine
end_on s tag n = record { id = record { 0 = length s.ends + n }; node = record { 0 = n }; tag = tag; disk = false }

abbrev pub thread_on : ScenarioLists → ℕ → ThreadLine
thread_on s n = record { id = length s.threads + n; node = record { 0 = n } }

abbrev pub with_nodes : ScenarioLists → Tag → ℕ → ScenarioLists
with_nodes s tag count = record s {
  ends = s.ends ++ map (end_on s tag) (range_with_len 0 count);
  threads = s.threads ++ map (thread_on s) (range_with_len 0 count);
}

-- the nodes before one have both, and that one's endpoint is refused, or its thread once the endpoint is there
pub data IsNodeRefused (old : ScenarioLists) (tag : Tag) (new : ScenarioLists) (fault : DraftFault) : Type 0 where
  NoEnd :
      (n : ℕ) → n < old.nodes → new ≡ with_nodes old tag n → IsRefusedFor {A = EndpointId} (Err fault) (end_fault new (node_numbered n)) →
      IsNodeRefused old tag new fault
  NoThread :
      (n : ℕ) → n < old.nodes → new ≡ with_end (with_nodes old tag n) (node_numbered n) tag →
      IsRefusedFor {A = ℕ} (Err fault) (thread_fault new (node_numbered n)) → IsNodeRefused old tag new fault

-- ---- calls

-- whether there are two nodes, and they are one
abbrev pub are_together : Option NodeId → Option NodeId → Bool
are_together (Some node) (Some other) = node.0 == other.0
are_together first second = false

abbrev pub is_good_kind : HandlerKind → Bool
is_good_kind Note = true
is_good_kind (Echo to) = is_within 1 15 to
is_good_kind (Add to) = is_within 1 15 to

-- whether the numbers of a call are in their ranges
abbrev pub is_good_call : Call → Bool
is_good_call (Calls.Map index name tag credits) = is_within 1 8 credits
is_good_call (Calls.SetHandler index kind) = is_good_kind kind
is_good_call call = true

-- the numbers of a call are those of their types
abbrev pub IsTyped : Call → Type 0
IsTyped (Calls.Request index handler words) = (index ≤ 255) × (handler ≤ 255) × AreWords words
IsTyped Calls.Poll = Unit {0}
IsTyped (Calls.SetTag tag) = tag.0 < 2 ^ 64
IsTyped (Calls.Map index name tag credits) = (index ≤ 255) × (tag.0 < 2 ^ 64)
IsTyped (Calls.Unmap index) = index ≤ 255
IsTyped (Calls.SetHandler index kind) = index ≤ 255
IsTyped (Calls.GiveUp serial) = IsLawfulSerial serial
IsTyped Calls.Close = Unit {0}
IsTyped (Calls.Test mask) = Unit {0}

-- whether a call names an endpoint that isn't declared
abbrev pub names_nothing : List EndLine → Call → Bool
names_nothing ends (Calls.Map index name tag credits) = is_none (node_of ends name)
names_nothing ends call = false

abbrev pub call_fault : ScenarioLists → ScriptCall → Option DraftFault
call_fault s made' =
    first_holding (
    (is_none (thread_node s.threads made'.thread), Fault.NoThread)
    ∷ (is_none (node_of s.ends made'.endpoint) || names_nothing s.ends made'.call, Fault.NoEndpoint)
    ∷ (not (are_together (thread_node s.threads made'.thread) (node_of s.ends made'.endpoint)), Fault.OtherNode)
    ∷ (not (is_good_call made'.call), Fault.BadNumber)
    ∷ (nat_le 16_384 (length s.script), Fault.Full)
    ∷ [])

abbrev pub made : ℕ → EndpointId → Call → ScriptCall
made thread endpoint call = record { thread = thread; endpoint = endpoint; call = call }

-- the words of a request that carries two numbers
abbrev pub two_words : ℕ → ℕ → Words
two_words a b = record { a = a; b = b; c = 0; d = 0 }

abbrev pub with_call : ScenarioLists → ScriptCall → ScenarioLists
with_call s made' = record s { script = s.script ++ made' ∷ [] }

-- ---- what becomes of packets

abbrev pub is_good_fault : LinkFault → Bool
is_good_fault Lose = true
is_good_fault Repeat = true
is_good_fault (Late by) = is_within 1 16 by

-- whether two lines are of one packet of a link
abbrev pub is_same_packet : PlanLine → PlanLine → Bool
is_same_packet line other = (other.from.0 == line.from.0) && (other.to.0 == line.to.0) && (other.number == line.number)

abbrev pub plan_fault : ScenarioLists → PlanLine → Option DraftFault
plan_fault s line =
    first_holding (
    (nat_le s.nodes line.from.0 || nat_le s.nodes line.to.0, Fault.NoNode)
    ∷ (not (is_within 1 65_536 line.number && is_good_fault line.fault), Fault.BadNumber)
    ∷ (list_any (is_same_packet line) s.plan, Fault.Planned)
    ∷ (nat_le 4096 (length s.plan), Fault.Full)
    ∷ [])

abbrev pub planned : NodeId → NodeId → ℕ → LinkFault → PlanLine
planned from to number fault = record { from = from; to = to; number = number; fault = fault }

abbrev pub with_plan : ScenarioLists → PlanLine → ScenarioLists
with_plan s line = record s { plan = s.plan ++ line ∷ [] }

-- ---- whole scripts and whole plans

abbrev pub with_calls : ScenarioLists → List ScriptCall → ScenarioLists
with_calls s calls = record s { script = s.script ++ calls }

abbrev pub with_plans : ScenarioLists → List PlanLine → ScenarioLists
with_plans s lines = record s { plan = s.plan ++ lines }

-- what comes before one item is taken, and that one is refused, or there is no memory for it
pub record StopsAt {A : Type 0} (with' : ScenarioLists → List A → ScenarioLists) (fault_of : ScenarioLists → A → Option DraftFault) (old : ScenarioLists)
    (items : List A) (new : ScenarioLists) (fault : DraftFault) : Type 0 where
  pub taken : ℕ
  pub item : A
  pub at : slice_get items taken ≡ Some item
  pub so_far : new ≡ with' old (take taken items)
  pub refused : IsRefusedFor {A = Unit {0}} (Err fault) (fault_of new item)

abbrev pub IsCallRefused : ScenarioLists → List ScriptCall → ScenarioLists → DraftFault → Type 0
IsCallRefused old calls new fault = StopsAt with_calls call_fault old calls new fault

abbrev pub IsLineRefused : ScenarioLists → List PlanLine → ScenarioLists → DraftFault → Type 0
IsLineRefused old lines new fault = StopsAt with_plans plan_fault old lines new fault

-- ---- what is so of every draft: it is lawful as far as it goes, and is numbered as it is declared

pub record IsDraft (s : ScenarioLists) : Type 0 where
  pub lawful : IsLawful s
  pub packet : s.network ≡ Packet
  pub pool : s.pool ≡ None
  pub bundles : s.bundles ≡ []
  pub steps : s.steps ≡ []
  pub ends : All (λ (end : EndLine). end.id.0 < length s.ends) s.ends
  pub threads : All (λ (thread : ThreadLine). thread.id < length s.threads) s.threads
