-- What a draft refuses only for want of memory.
use Rattle.std.specs.Prelude.{◌≡◌, ℕ, ◌<◌, true, false, length, Some, None, Err}
use Rattle.std.specs.List.{list_any}
use Rattle.am_names.specs.declared.NodeId.{NodeId}
use Rattle.am_scenario_plan.specs.declared.plan.PlanLine.{PlanLine}
use Rattle.am_scenario_types.specs.declared.parts.ScriptCall.{ScriptCall}
use Rattle.am_scenario_types.specs.Lawful.{IsOn, IsWithin, thread_node}
use Rattle.am_scenario_types.specs.Lists.{ScenarioLists}
use Rattle.am_library_drafts.specs.declared.draft.DraftFault.{DraftFault}
use Rattle.am_library_drafts.specs.declared.draft.DraftFault.TheVariants as Fault
use Rattle.am_library_drafts.specs.declared.draft.Setting.{Setting}
use Rattle.am_library_drafts.specs.Drafts.{IsRefusedFor, call_fault, end_fault, ends_on, is_good_call, is_good_fault, is_good_setting, is_same_packet}
use Rattle.am_library_drafts.specs.Drafts.{names_nothing, plan_fault, setting_fault, start_fault, thread_fault, threads_on}

-- the thread and the endpoint are declared, on one node, and so is what a map names; the numbers are in their ranges, and there is room
pub record IsWelcomeCall (s : ScenarioLists) (made' : ScriptCall) : Type 0 where
  pub node : NodeId
  pub thread : thread_node s.threads made'.thread ≡ Some node
  pub endpoint : IsOn s.ends node made'.endpoint
  pub names : names_nothing s.ends made'.call ≡ false
  pub numbers : is_good_call made'.call ≡ true
  pub room : length s.script < 16_384

-- the nodes are there, the numbers are in their ranges, the packet has no line, and there is room
pub record IsWelcomeLine (s : ScenarioLists) (line : PlanLine) : Type 0 where
  pub from : line.from.0 < s.nodes
  pub to : line.to.0 < s.nodes
  pub number : IsWithin 1 65_536 line.number
  pub fault : is_good_fault line.fault ≡ true
  pub other : list_any (is_same_packet line) s.plan ≡ false
  pub room : length s.plan < 4096

-- nothing speaks against what is within the limits, and where nothing does, there is no refusal but for want of memory
pub record DraftsWelcome : Type 0 where
  pub starts : (nodes : ℕ) → IsWithin 1 16 nodes → start_fault nodes ≡ None
  pub settings : (setting : Setting) → is_good_setting setting ≡ true → setting_fault setting ≡ None
  pub ends :
      (s : ScenarioLists) (node : NodeId) → node.0 < s.nodes → length s.ends < 256 → ends_on s node < 64 → end_fault s node ≡ None
  pub threads :
      (s : ScenarioLists) (node : NodeId) → node.0 < s.nodes → length s.threads < 64 → threads_on s node < 4 → thread_fault s node ≡ None
  pub calls : (s : ScenarioLists) (made' : ScriptCall) → IsWelcomeCall s made' → call_fault s made' ≡ None
  pub plans : (s : ScenarioLists) (line : PlanLine) → IsWelcomeLine s line → plan_fault s line ≡ None
  pub memory : (fault : DraftFault) → IsRefusedFor {A = Unit {0}} (Err fault) None → fault ≡ Fault.NoMemory
