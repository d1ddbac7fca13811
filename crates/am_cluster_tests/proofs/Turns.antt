-- A scenario with other turns.
use Rattle.std.proofs.Common.{ℕ, ◌≤◌}
use Rattle.am_scenario_types.specs.Lists.{ScenarioLists}
use Rattle.am_scenario_types.specs.Lawful.{IsLawful}

-- a lawful scenario stays lawful with another number of turns
pub lawful_with_turns : (s : ScenarioLists) (n : ℕ) → n ≤ 10_000 → IsLawful s → IsLawful (record s { turns = n })
lawful_with_turns s n few lawful = record {
  settings = record {
    nodes = lawful.settings.nodes;
    frames = lawful.settings.frames;
    channels = lawful.settings.channels;
    tries = lawful.settings.tries;
    bounces = lawful.settings.bounces;
    pool = lawful.settings.pool;
    keep = lawful.settings.keep;
    log = lawful.settings.log;
    turns = few;
  };
  ends = lawful.ends;
  ends_rise = lawful.ends_rise;
  ends_of_a_node = lawful.ends_of_a_node;
  bundles = lawful.bundles;
  bundles_once = lawful.bundles_once;
  threads = lawful.threads;
  threads_rise = lawful.threads_rise;
  threads_of_a_node = lawful.threads_of_a_node;
  plan = lawful.plan;
  plan_once = lawful.plan_once;
  plan_lines = lawful.plan_lines;
  faults = lawful.faults;
  faults_once = lawful.faults_once;
  fault_lines = lawful.fault_lines;
  script = lawful.script;
  script_calls = lawful.script_calls;
  steps = lawful.steps;
  step_lines = lawful.step_lines;
}
