-- A scenario without its turns.
use Rattle.std.proofs.Common.{arith}
use Rattle.am_scenario_types.specs.Lawful.{IsLawful}
use Rattle.am_scenario_types.specs.Lists.{ScenarioLists}

-- it is as lawful as with them
pub still_lawful : (s : ScenarioLists) → IsLawful s → IsLawful (record s { turns = 0 })
still_lawful s lawful = record {
  settings =
      record {
        nodes = lawful.settings.nodes;
        frames = lawful.settings.frames;
        channels = lawful.settings.channels;
        tries = lawful.settings.tries;
        bounces = lawful.settings.bounces;
        pool = lawful.settings.pool;
        keep = lawful.settings.keep;
        log = lawful.settings.log;
        turns = omega arith;
      };
  ends = lawful.ends;
  ends_rise = lawful.ends_rise;
  ends_of_a_node = lawful.ends_of_a_node;
  bundles = lawful.bundles;
  bundles_once = lawful.bundles_once;
  threads = lawful.threads;
  threads_rise = lawful.threads_rise;
  threads_of_a_node = lawful.threads_of_a_node;
  plan = lawful.plan;
  plan_once = lawful.plan_once;
  plan_lines = lawful.plan_lines;
  faults = lawful.faults;
  faults_once = lawful.faults_once;
  fault_lines = lawful.fault_lines;
  script = lawful.script;
  script_calls = lawful.script_calls;
  steps = lawful.steps;
  step_lines = lawful.step_lines;
}
