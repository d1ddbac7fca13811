-- The generated scenario.
use Rattle.std.specs.Prelude.{ℕ, ◌+◌, ◌%◌, false, List, [], map, None}
use Rattle.std.specs.List.{range_with_len}
use Rattle.am_scenario_types.specs.declared.parts.Network.TheVariants.{Packet}
use Rattle.am_scenario_types.specs.declared.parts.EndLine.{EndLine}
use Rattle.am_scenario_types.specs.declared.parts.ThreadLine.{ThreadLine}
use Rattle.am_scenario_types.specs.Lists.{ScenarioLists}
use Rattle.am_scenario_generator.specs.Words.{seeded, after_threads}
use Rattle.am_scenario_generator.specs.Calls.{script_below}
use Rattle.am_scenario_generator.specs.Plan.{plan_after}

-- endpoint e is on node e mod 4, with tag 100 + e
abbrev pub end_line : ℕ → EndLine
end_line e = record { id = record { 0 = e }; node = record { 0 = e % 4 }; tag = record { 0 = 100 + e }; disk = false }

-- thread t is on node t mod 4
abbrev pub thread_line : ℕ → ThreadLine
thread_line t = record { id = t; node = record { 0 = t % 4 } }

-- the scenario of a number
unfoldable pub generated : ℕ → ScenarioLists
generated n = record {
  network = Packet;
  nodes = 4;
  frames = 2;
  channels = 2;
  tries = 4;
  bounces = 3;
  pool = None;
  keep = 2;
  log = 65_536;
  turns = 0;
  ends = map end_line (range_with_len 0 12);
  bundles = [];
  threads = map thread_line (range_with_len 0 8);
  plan = plan_after (after_threads (seeded n) 8) 32;
  faults = [];
  script = script_below (seeded n) 8;
  steps = [];
}
