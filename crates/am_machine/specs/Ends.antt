-- The endpoints of a cluster, each by its settings and its log.
use Rattle.std.specs.Prelude.{ℕ, zero, suc, Bool, List, [], ◌∷◌, ◌++◌}
use Rattle.am_names.specs.declared.EndpointId.{EndpointId}
use Rattle.am_names.specs.Names.{same_end}
use Rattle.am_office_entries.specs.declared.Entry.{Entry}
use Rattle.am_office_entries.specs.Entries.{touches}
use Rattle.am_model.specs.Endpoint.{is_on_disk}
use Rattle.am_model.specs.Layout.{EndSetting, Layout, opening_place}
use Rattle.am_model_parts.specs.Readings.{with_entry}
use Rattle.am_endpoint_body.specs.declared.settings.EndSettings.{EndSettings}
use Rattle.am_endpoint.specs.View.{EndpointView}
use Rattle.am_driver_moves.specs.Logs.{EndLog}

-- whether it is the endpoint with this number
abbrev pub is_of : EndpointId → EndpointView → Bool
is_of id v = same_end id v.settings.id

-- how an endpoint is declared that has these settings
abbrev pub setting_in : EndLog → EndSetting
setting_in e = record { id = e.settings.id; node = e.settings.node; tag = e.settings.tag; disk = is_on_disk e.settings.place }

-- what an endpoint begins with that is declared so
abbrev pub settings_by : Layout → EndSetting → EndSettings
settings_by layout s =
    record {
      id = s.id;
      node = s.node;
      tag = s.tag;
      place = opening_place layout.direct s.disk;
      log = layout.log;
      bounces = layout.bounces;
      pool = layout.pool;
    }

-- an endpoint after an entry, which stands in its log where it touches it
abbrev pub grown : Entry → EndLog → EndLog
grown x e = record { settings = e.settings; log = with_entry (touches e.settings.id x) x e.log }

-- an entry more in the log of one of them
abbrev pub logged_at : ℕ → Entry → List EndLog → List EndLog
logged_at k x [] = []
logged_at zero x (e ∷ es) = record { settings = e.settings; log = e.log ++ x ∷ [] } ∷ es
logged_at (suc k) x (e ∷ es) = e ∷ logged_at k x es
