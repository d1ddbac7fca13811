-- What the lines so far have said is sound: as lawful as a scenario that isn't whole yet can be.
use Rattle.std.specs.Prelude.{◌≡◌, ◌≢◌, ℕ, ◌≤◌, ◌==◌, List, [], length, count_by, IfSome}
use Rattle.std.specs.List.{All, AllPairs}
use Rattle.am_bundle.specs.Lists.{BundleLists}
use Rattle.am_scenario_plan.specs.declared.plan.PlanLine.{PlanLine}
use Rattle.am_scenario_types.specs.declared.parts.Form.{Form}
use Rattle.am_scenario_types.specs.declared.parts.Form.TheVariants.{Step, Run}
use Rattle.am_scenario_types.specs.declared.parts.Network.{Network}
use Rattle.am_scenario_types.specs.declared.parts.EndLine.{EndLine}
use Rattle.am_scenario_types.specs.declared.parts.ThreadLine.{ThreadLine}
use Rattle.am_scenario_types.specs.declared.parts.FaultLine.{FaultLine}
use Rattle.am_scenario_types.specs.declared.parts.ScriptCall.{ScriptCall}
use Rattle.am_scenario_types.specs.declared.parts.StepLine.{StepLine}
use Rattle.am_scenario_types.specs.Lawful.{IsWithin, IsLawfulEnd, IsLawfulBundle, IsLawfulThread, IsLawfulPlanLine, IsSamePlace, IsLawfulFaultLine}
use Rattle.am_scenario_types.specs.Lawful.{IsSamePageCall, IsLawfulScriptCall, IsLawfulEvent}
use Rattle.am_scenario.specs.declared.drafts.settings.Settings.{Settings}
use Rattle.am_scenario.specs.Drafts.Said.{Said, node_count, frame_count, channel_count}
use Rattle.am_scenario.specs.Lines.Calls.{least_share}
use Rattle.am_scenario.specs.LineLaws.LineLaws.{network_of, IsNetworkOf}

pub record SettingsAreSound (form : Form) (settings : Settings) : Type 0 where
  pub network : IfSome settings.network (IsNetworkOf form)
  pub nodes : IfSome settings.nodes (IsWithin 1 16)
  pub frames : IfSome settings.frames (IsWithin 2 16)
  pub channels : IfSome settings.channels (IsWithin 1 4)
  pub tries : IfSome settings.tries (IsWithin 2 16)
  pub bounces : IfSome settings.bounces (λ bounces. bounces ≤ 16)
  pub pool : IfSome settings.pool (λ pool. pool ≤ 32)
  pub keep : IfSome settings.keep (λ keep. keep ≤ 64)
  pub log : IfSome settings.log (IsWithin 1 65_536)
  pub turns : IfSome settings.turns (λ turns. turns ≤ 10_000)

pub record EndsAreSound (network : Network) (nodes : ℕ) (ends : List EndLine) : Type 0 where
  pub each : All (IsLawfulEnd network nodes) ends
  pub once : AllPairs (λ a b. a.id.0 ≢ b.id.0) ends
  pub of_a_node : (node : ℕ) → count_by (λ end. end.node.0 == node) ends ≤ 64

pub record BundlesAreSound (ends : List EndLine) (bundles : List BundleLists) : Type 0 where
  pub each : All (IsLawfulBundle ends) bundles
  pub once : AllPairs (λ a b. a.id ≢ b.id) bundles

pub record ThreadsAreSound (nodes : ℕ) (threads : List ThreadLine) : Type 0 where
  pub each : All (IsLawfulThread nodes) threads
  pub once : AllPairs (λ a b. a.id ≢ b.id) threads
  pub of_a_node : (node : ℕ) → count_by (λ thread. thread.node.0 == node) threads ≤ 4

pub record PlanIsSound (nodes : ℕ) (plan : List PlanLine) : Type 0 where
  pub each : All (IsLawfulPlanLine nodes) plan
  pub once : AllPairs (λ a b. ¬ IsSamePlace a b) plan
  pub lines : length plan ≤ 4096

pub record FaultsAreSound (nodes : ℕ) (faults : List FaultLine) : Type 0 where
  pub each : All (IsLawfulFaultLine nodes) faults
  pub once : AllPairs (λ a b. ¬ IsSamePageCall a b) faults
  pub lines : length faults ≤ 64

pub record ScriptIsSound (ends : List EndLine) (threads : List ThreadLine) (least : ℕ) (script : List ScriptCall) : Type 0 where
  pub each : All (IsLawfulScriptCall ends threads least) script
  pub calls : length script ≤ 16_384

pub record StepsAreSound (ends : List EndLine) (nodes frames channels least : ℕ) (steps : List StepLine) : Type 0 where
  pub each : All (λ step. IsLawfulEvent ends nodes frames channels least step.event) steps
  pub lines : length steps ≤ 65_536

-- nothing is declared
pub record DeclaresNothing (said : Said) : Type 0 where
  pub ends : said.ends ≡ []
  pub bundles : said.bundles ≡ []
  pub threads : said.threads ≡ []
  pub plan : said.plan ≡ []
  pub faults : said.faults ≡ []

-- nothing is to be done
pub record DoesNothing (said : Said) : Type 0 where
  pub script : said.script ≡ []
  pub steps : said.steps ≡ []

-- a step script has no plan and no threads' calls, and a run no steps
abbrev pub HasForm : Form → Said → Type 0
HasForm Step said = (said.plan ≡ []) × (said.script ≡ [])
HasForm Run said = said.steps ≡ []

pub record IsSound (form : Form) (said : Said) : Type 0 where
  pub before_section_3 : said.section ≤ 2 → DeclaresNothing said
  pub before_section_4 : said.section ≤ 3 → DoesNothing said
  pub settings : SettingsAreSound form said.settings
  pub ends : EndsAreSound (network_of said.settings) (node_count said.settings) said.ends
  pub bundles : BundlesAreSound said.ends said.bundles
  pub threads : ThreadsAreSound (node_count said.settings) said.threads
  pub plan : PlanIsSound (node_count said.settings) said.plan
  pub faults : FaultsAreSound (node_count said.settings) said.faults
  pub script : ScriptIsSound said.ends said.threads (least_share said.version) said.script
  pub steps : StepsAreSound said.ends (node_count said.settings) (frame_count said.settings) (channel_count said.settings) (least_share said.version) said.steps
  pub of_form : HasForm form said
