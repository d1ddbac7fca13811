-- An endpoint as its callers see it: what it began with, its log, whether it has room for one more entry, and the slots of
-- its messages in flight, in order.
use Rattle.std.specs.Prelude.{ℕ, ◌-◌, Bool, List}
use Rattle.am_office_entries.specs.declared.Entry.{Entry}
use Rattle.am_model.specs.Endpoint.{State, fresh}
use Rattle.am_model.specs.Changes.{replay}
use Rattle.am_endpoint_body.specs.declared.settings.EndSettings.{EndSettings}

pub record EndpointView : Type 0 where
  pub settings : EndSettings
  pub log : List Entry
  pub ready : Bool
  pub flights : List ℕ

-- the state after these entries, from the state that the settings open
abbrev pub state_by : EndSettings → List Entry → State
state_by set log = replay set.id (fresh set.tag set.place) log

-- the state of an endpoint: its log replayed from its opening state
abbrev pub state_after : EndpointView → State
state_after v = state_by v.settings v.log
