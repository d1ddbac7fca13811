-- What a line says is lawful, after what the lines before it have said.
use Rattle.std.specs.Prelude.{◌≡◌, ℕ, ◌+◌, ◌<◌, ◌≤◌, ◌==◌, true, false, Bool, List, length, map, count_by, None, Ok}
use Rattle.std.specs.List.{All}
use Rattle.std.specs.Option.{unwrap_or}
use Rattle.am_bundle.specs.Lists.{BundleLists}
use Rattle.am_scenario_plan.specs.declared.plan.PlanLine.{PlanLine}
use Rattle.am_scenario_types.specs.declared.parts.Form.{Form}
use Rattle.am_scenario_types.specs.declared.parts.Form.TheVariants.{Step, Run}
use Rattle.am_scenario_types.specs.declared.parts.Network.{Network}
use Rattle.am_scenario_types.specs.declared.parts.Network.TheVariants.{Direct, Packet}
use Rattle.am_scenario_types.specs.declared.parts.EndLine.{EndLine}
use Rattle.am_scenario_types.specs.declared.parts.ThreadLine.{ThreadLine}
use Rattle.am_scenario_types.specs.declared.parts.FaultLine.{FaultLine}
use Rattle.am_scenario_types.specs.Lawful.{IsWithin, IsLawfulEnd, IsLawfulBundle, IsLawfulThread, IsLawfulPlanLine, IsLawfulFaultLine, IsLawfulScriptCall}
use Rattle.am_scenario_types.specs.Lawful.{IsLawfulEvent}
use Rattle.am_scenario.specs.declared.drafts.settings.Settings.{Settings}
use Rattle.am_scenario.specs.declared.drafts.settings.Setting.{Setting}
use Rattle.am_scenario.specs.declared.drafts.settings.Setting.TheVariants as setting
use Rattle.am_scenario.specs.declared.drafts.line.Line.{Line}
use Rattle.am_scenario.specs.declared.drafts.line.Line.TheVariants as line
use Rattle.am_scenario.specs.Drafts.Said.{Said, node_count, frame_count, channel_count, end_of, thread_of, bundle_of, is_planned, is_faulty, script_call}
use Rattle.am_scenario.specs.declared.lines.head.Head.{Head}
use Rattle.am_scenario.specs.declared.lines.head.Head.TheVariants as head
use Rattle.am_scenario.specs.Lines.Heads.{section_of, is_of_form}
use Rattle.am_scenario.specs.Lines.Calls.{least_share}
use Rattle.am_scenario.specs.Lines.Lines.{words_say}

abbrev pub network_of : Settings → Network
network_of settings = unwrap_or settings.network Direct

-- the section of a line by what it says
abbrev pub section_said : Line → ℕ
section_said (line.Version version) = 1
section_said (line.Setting setting) = 2
section_said (line.End end) = 3
section_said (line.Bundle bundle) = 3
section_said (line.Thread thread) = 3
section_said (line.Plan planned) = 3
section_said (line.Fault fault) = 3
section_said (line.Call call) = 4
section_said (line.Calls thread calls) = 4
section_said (line.Step event) = 4

-- whether what a line says may stand in a text of this form
abbrev pub fits_form : Form → Line → Bool
fits_form Step (line.Plan planned) = false
fits_form Step (line.Call call) = false
fits_form Step (line.Calls thread calls) = false
fits_form Run (line.Step event) = false
fits_form form says = true

-- the kinds of line, by section and form
pub data Kind : Type 0 where
  OfVersion : Kind
  OfSetting : Kind
  OfDeclaration : Kind
  OfPlan : Kind
  OfScript : Kind
  OfStep : Kind

abbrev pub kind_said : Line → Kind
kind_said (line.Version version) = OfVersion
kind_said (line.Setting setting) = OfSetting
kind_said (line.End end) = OfDeclaration
kind_said (line.Bundle bundle) = OfDeclaration
kind_said (line.Thread thread) = OfDeclaration
kind_said (line.Plan planned) = OfPlan
kind_said (line.Fault fault) = OfDeclaration
kind_said (line.Call call) = OfScript
kind_said (line.Calls thread calls) = OfScript
kind_said (line.Step event) = OfStep

abbrev pub kind_of : Head → Kind
kind_of head.Version = OfVersion
kind_of (head.Setting name) = OfSetting
kind_of head.Endpoint = OfDeclaration
kind_of head.Bundle = OfDeclaration
kind_of head.Thread = OfDeclaration
kind_of head.Plan = OfPlan
kind_of head.SwapFault = OfDeclaration
kind_of head.Outside = OfStep
kind_of (head.OfThread number) = OfScript
kind_of (head.OfInterface number) = OfStep
kind_of (head.OfDriver number) = OfStep

abbrev pub section_of_kind : Kind → ℕ
section_of_kind OfVersion = 1
section_of_kind OfSetting = 2
section_of_kind OfDeclaration = 3
section_of_kind OfPlan = 3
section_of_kind OfScript = 4
section_of_kind OfStep = 4

abbrev pub is_kind_of_form : Form → Kind → Bool
is_kind_of_form Step OfPlan = false
is_kind_of_form Step OfScript = false
is_kind_of_form Run OfStep = false
is_kind_of_form form kind = true

-- a run goes over packets
abbrev pub IsNetworkOf : Form → Network → Type 0
IsNetworkOf Step network = Unit {0}
IsNetworkOf Run network = network ≡ Packet

abbrev pub IsLawfulSetting : Form → Setting → Type 0
IsLawfulSetting form (setting.Network network) = IsNetworkOf form network
IsLawfulSetting form (setting.Nodes nodes) = IsWithin 1 16 nodes
IsLawfulSetting form (setting.Frames frames) = IsWithin 2 16 frames
IsLawfulSetting form (setting.Channels channels) = IsWithin 1 4 channels
IsLawfulSetting form (setting.Tries tries) = IsWithin 2 16 tries
IsLawfulSetting form (setting.Bounces bounces) = bounces ≤ 16
IsLawfulSetting form (setting.Pool pool) = pool ≤ 32
IsLawfulSetting form (setting.Keep keep) = keep ≤ 64
IsLawfulSetting form (setting.Log log) = IsWithin 1 65_536 log
IsLawfulSetting form (setting.Turns turns) = turns ≤ 10_000

-- lawful, and not declared so far
abbrev pub IsNewEnd : Said → EndLine → Type 0
IsNewEnd said end = IsLawfulEnd (network_of said.settings) (node_count said.settings) end × (end_of said end.id.0 ≡ None) × (count_by (λ other. other.node.0 == end.node.0) said.ends < 64)

abbrev pub IsNewBundle : Said → BundleLists → Type 0
IsNewBundle said bundle = IsLawfulBundle said.ends bundle × (bundle_of said bundle.id ≡ None)

abbrev pub IsNewThread : Said → ThreadLine → Type 0
IsNewThread said thread = IsLawfulThread (node_count said.settings) thread × (thread_of said thread.id ≡ None) × (count_by (λ other. other.node.0 == thread.node.0) said.threads < 4)

abbrev pub IsNewPlanLine : Said → PlanLine → Type 0
IsNewPlanLine said planned = IsLawfulPlanLine (node_count said.settings) planned × (is_planned said.plan planned.from planned.to planned.number ≡ false) × (length said.plan < 4096)

abbrev pub IsNewFaultLine : Said → FaultLine → Type 0
IsNewFaultLine said fault = IsLawfulFaultLine (node_count said.settings) fault × (is_faulty said.faults fault.node fault.number ≡ false) × (length said.faults < 64)

abbrev pub IsLawfulLine : Form → Said → Line → Type 0
IsLawfulLine form said (line.Version version) = Unit {0}
IsLawfulLine form said (line.Setting setting) = IsLawfulSetting form setting
IsLawfulLine form said (line.End end) = IsNewEnd said end
IsLawfulLine form said (line.Bundle bundle) = IsNewBundle said bundle
IsLawfulLine form said (line.Thread thread) = IsNewThread said thread
IsLawfulLine form said (line.Plan planned) = IsNewPlanLine said planned
IsLawfulLine form said (line.Fault fault) = IsNewFaultLine said fault
IsLawfulLine form said (line.Call call) = IsLawfulScriptCall said.ends said.threads (least_share said.version) call × (length said.script < 16_384)
IsLawfulLine form said (line.Calls thread calls) = All (IsLawfulScriptCall said.ends said.threads (least_share said.version)) (map (script_call thread) calls) × (length said.script + length calls ≤ 16_384)
IsLawfulLine form said (line.Step event) = IsLawfulEvent said.ends (node_count said.settings) (frame_count said.settings) (channel_count said.settings) (least_share said.version) event × (length said.steps < 65_536)

abbrev pub LinesAreLawful : Type 0
LinesAreLawful = (form : Form) (said : Said) (first : Head) (words : List (List ℕ)) (says : Line) → words_say form said first words ≡ Ok says → (section_said says ≡ section_of first) × (fits_form form says ≡ is_of_form form first) × IsLawfulLine form said says
