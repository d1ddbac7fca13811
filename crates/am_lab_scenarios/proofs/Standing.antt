-- What is said in the middle of a scenario's text.
use Rattle.std.proofs.Common.{◌≡◌, ℕ, ◌≤◌, List, Option, Some, None, refl}
use Rattle.std.specs.List.{All}
use Rattle.std.proofs.lemmas.List.Elements.{All-weaker}
use Rattle.am_bundle.specs.Lists.{BundleLists}
use Rattle.am_scenario_plan.specs.declared.plan.PlanLine.{PlanLine}
use Rattle.am_scenario_types.specs.declared.parts.EndLine.{EndLine}
use Rattle.am_scenario_types.specs.declared.parts.ThreadLine.{ThreadLine}
use Rattle.am_scenario_types.specs.declared.parts.FaultLine.{FaultLine}
use Rattle.am_scenario_types.specs.declared.parts.ScriptCall.{ScriptCall}
use Rattle.am_scenario_types.specs.declared.parts.StepLine.{StepLine}
use Rattle.am_scenario_types.specs.Lists.{ScenarioLists}
use Rattle.am_scenario_types.specs.Lawful.{IsLawful, IsLawfulEnd, least_credits}
use Rattle.am_scenario.specs.declared.drafts.settings.Version.{Version}
use Rattle.am_scenario.specs.declared.drafts.settings.Version.TheVariants.{One, Two}
use Rattle.am_scenario.specs.declared.drafts.settings.Settings.{Settings}
use Rattle.am_scenario.specs.Drafts.Said.{Said}
use Rattle.am_scenario.specs.Lines.Calls.{least_share}

abbrev pub version_said : Option ℕ → Option Version
version_said None = Some One
version_said (Some pool) = Some Two

abbrev pub settings_said : ScenarioLists → Settings
settings_said s = record {
  network = Some s.network;
  nodes = Some s.nodes;
  frames = Some s.frames;
  channels = Some s.channels;
  tries = Some s.tries;
  bounces = Some s.bounces;
  pool = s.pool;
  keep = Some s.keep;
  log = Some s.log;
  turns = Some s.turns;
}

-- all settings and these lines
abbrev pub standing : ScenarioLists → List EndLine → List BundleLists → List ThreadLine → List PlanLine → List FaultLine → List ScriptCall → List StepLine →
    Said
standing s ends bundles threads plan faults script steps = record {
  section = 0;
  version = version_said s.pool;
  settings = settings_said s;
  ends = ends;
  bundles = bundles;
  threads = threads;
  plan = plan;
  faults = faults;
  script = script;
  steps = steps;
}

pub small_ends : (s : ScenarioLists) → IsLawful s → All (λ end. end.id.0 ≤ 255) s.ends
small_ends s lawful = All-weaker (IsLawfulEnd s.network s.nodes) (λ end. end.id.0 ≤ 255) (λ end h. h.id) s.ends lawful.ends

pub least_is : (pool : Option ℕ) → least_share (version_said pool) ≡ least_credits pool
least_is None = refl
least_is (Some pool) = refl
