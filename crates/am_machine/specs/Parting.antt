-- The settings of a scenario's cluster.
use Rattle.am_scenario_types.specs.Lists.{ScenarioLists}
use Rattle.am_machine.specs.declared.settings.Settings.{Settings}

abbrev pub settings_from : ScenarioLists → Settings
settings_from s =
    record {
      network = s.network;
      nodes = s.nodes;
      frames = s.frames;
      channels = s.channels;
      tries = s.tries;
      bounces = s.bounces;
      pool = s.pool;
      log = s.log;
    }
