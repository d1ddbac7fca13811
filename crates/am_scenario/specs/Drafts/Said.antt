-- What the lines of a text have said so far, and what one line more adds.
use Rattle.std.specs.Prelude.{ℕ, Bool, ◌==◌, ◌&&◌, List, [], ◌∷◌, ◌++◌, map, find, Option, Some, None}
use Rattle.std.specs.Option.{unwrap_or}
use Rattle.std.specs.List.{list_any}
use Rattle.am_names.specs.declared.EndpointId.{EndpointId}
use Rattle.am_names.specs.declared.NodeId.{NodeId}
use Rattle.am_office_entries.specs.declared.Call.{Call}
use Rattle.am_bundle.specs.Lists.{BundleLists}
use Rattle.am_scenario_plan.specs.declared.PlanLine.{PlanLine}
use Rattle.am_scenario_types.specs.declared.parts.EndLine.{EndLine}
use Rattle.am_scenario_types.specs.declared.parts.ThreadLine.{ThreadLine}
use Rattle.am_scenario_types.specs.declared.parts.FaultLine.{FaultLine}
use Rattle.am_scenario_types.specs.declared.parts.ScriptCall.{ScriptCall}
use Rattle.am_scenario_types.specs.declared.parts.StepLine.{StepLine}
use Rattle.am_scenario.specs.declared.drafts.settings.Version.{Version}
use Rattle.am_scenario.specs.declared.drafts.settings.Settings.{Settings}
use Rattle.am_scenario.specs.declared.drafts.settings.Setting.{Setting}
use Rattle.am_scenario.specs.declared.drafts.settings.Setting.TheVariants as setting
use Rattle.am_scenario.specs.declared.drafts.line.Line.{Line}
use Rattle.am_scenario.specs.declared.drafts.line.Line.TheVariants as line

-- ---- settings

abbrev pub unsaid : Settings
unsaid = record { network = None; nodes = None; frames = None; channels = None; tries = None; bounces = None; pool = None; keep = None; log = None; turns = None }

abbrev pub with_setting : Settings → Setting → Settings
with_setting said (setting.Network network) = record said { network = Some network }
with_setting said (setting.Nodes nodes) = record said { nodes = Some nodes }
with_setting said (setting.Frames frames) = record said { frames = Some frames }
with_setting said (setting.Channels channels) = record said { channels = Some channels }
with_setting said (setting.Tries tries) = record said { tries = Some tries }
with_setting said (setting.Bounces bounces) = record said { bounces = Some bounces }
with_setting said (setting.Pool pool) = record said { pool = Some pool }
with_setting said (setting.Keep keep) = record said { keep = Some keep }
with_setting said (setting.Log log) = record said { log = Some log }
with_setting said (setting.Turns turns) = record said { turns = Some turns }

abbrev pub node_count : Settings → ℕ
node_count settings = unwrap_or settings.nodes 0

abbrev pub frame_count : Settings → ℕ
frame_count settings = unwrap_or settings.frames 16

abbrev pub channel_count : Settings → ℕ
channel_count settings = unwrap_or settings.channels 1

-- ---- all that was said

pub record Said : Type 0 where
  -- the section of the last line that said something, or 0
  pub section : ℕ
  pub version : Option Version
  pub settings : Settings
  pub ends : List EndLine
  pub bundles : List BundleLists
  pub threads : List ThreadLine
  pub plan : List PlanLine
  pub faults : List FaultLine
  pub script : List ScriptCall
  pub steps : List StepLine

abbrev pub nothing : Said
nothing = record { section = 0; version = None; settings = unsaid; ends = []; bundles = []; threads = []; plan = []; faults = []; script = []; steps = [] }

-- a thread's call on an endpoint
abbrev pub script_call : ℕ → (EndpointId × Call) → ScriptCall
script_call thread call = record { thread = thread; endpoint = call.0; call = call.1 }

-- what a line adds, by its number
abbrev pub with_line : ℕ → Said → Line → Said
with_line number said (line.Version version) = record said { version = Some version }
with_line number said (line.Setting setting) = record said { settings = with_setting said.settings setting }
with_line number said (line.End end) = record said { ends = said.ends ++ end ∷ [] }
with_line number said (line.Bundle bundle) = record said { bundles = said.bundles ++ bundle ∷ [] }
with_line number said (line.Thread thread) = record said { threads = said.threads ++ thread ∷ [] }
with_line number said (line.Plan planned) = record said { plan = said.plan ++ planned ∷ [] }
with_line number said (line.Fault fault) = record said { faults = said.faults ++ fault ∷ [] }
with_line number said (line.Call call) = record said { script = said.script ++ call ∷ [] }
with_line number said (line.Calls thread calls) = record said { script = said.script ++ map (script_call thread) calls }
with_line number said (line.Step event) = record said { steps = said.steps ++ record { line = number; event = event } ∷ [] }

-- ---- what was declared

-- the line that declared an endpoint
abbrev pub end_of : Said → ℕ → Option EndLine
end_of said id = find (λ end. end.id.0 == id) said.ends

-- the line that declared a thread
abbrev pub thread_of : Said → ℕ → Option ThreadLine
thread_of said id = find (λ thread. thread.id == id) said.threads

abbrev pub bundle_of : Said → ℕ → Option BundleLists
bundle_of said id = find (λ bundle. bundle.id == id) said.bundles

-- whether a link's packet has a plan line
abbrev pub is_planned : List PlanLine → NodeId → NodeId → ℕ → Bool
is_planned plan from to number = list_any (λ line. (line.from.0 == from.0) && (line.to.0 == to.0) && (line.number == number)) plan

-- whether a node's page call has a fault line
abbrev pub is_faulty : List FaultLine → NodeId → ℕ → Bool
is_faulty faults node number = list_any (λ line. (line.node.0 == node.0) && (line.number == number)) faults
