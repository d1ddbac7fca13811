-- An endpoint by its settings and its log.
use Rattle.std.specs.Prelude.{List}
use Rattle.am_office_entries.specs.declared.Entry.{Entry}
use Rattle.am_model.specs.Endpoint.{State}
use Rattle.am_endpoint_body.specs.declared.settings.EndSettings.{EndSettings}
use Rattle.am_endpoint.specs.View.{EndpointView, state_by}

pub record EndLog : Type 0 where
  pub settings : EndSettings
  pub log : List Entry

abbrev pub kept : EndpointView → EndLog
kept v = record { settings = v.settings; log = v.log }

abbrev pub state_in : EndLog → State
state_in e = state_by e.settings e.log
