-- How the endpoints of a cluster begin.
use Rattle.std.specs.Prelude.{◌≤◌, []}
use Rattle.am_model.specs.Layout.{IsPoolLawful, opening_place}
use Rattle.am_scenario_types.specs.declared.parts.EndLine.{EndLine}
use Rattle.am_model_scripts.specs.Layout.{is_direct}
use Rattle.am_machine.specs.declared.settings.Settings.{Settings}
use Rattle.am_driver_moves.specs.Logs.{EndLog}

-- a fresh endpoint, as it is declared
abbrev pub opened : Settings → EndLine → EndLog
opened s line =
    record {
      settings =
          record {
            id = line.id;
            node = line.node;
            tag = line.tag;
            place = opening_place (is_direct s.network) line.disk;
            log = s.log;
            bounces = s.bounces;
            pool = s.pool;
          };
      log = [];
    }

-- the settings are in the ranges that an endpoint asks for
pub record CanOpen (s : Settings) : Type 0 where
  pub log : (1 ≤ s.log) × (s.log ≤ 65536)
  pub bounces : s.bounces ≤ 16
  pub pool : IsPoolLawful s.pool
