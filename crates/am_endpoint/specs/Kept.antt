-- What an endpoint keeps: its state is the replay of its log.
use Rattle.std.specs.Prelude.{◌≤◌, Bool, length, nat_lt, vec_len, vec_capacity}
use Rattle.am_model.specs.Endpoint.{State}
use Rattle.am_model.specs.Order.{IsInOrder}
use Rattle.am_endpoint.specs.Held.{IsHeldOf, flights_of}
use Rattle.am_endpoint.specs.Settings.{AreLawful}
use Rattle.am_endpoint.specs.View.{EndpointView, state_by}
use Rattle.am_endpoint.specs.declared.Endpoint.TheInside.{Inside}

-- whether one more entry and its change take no memory
abbrev pub is_ready : Inside → Bool
is_ready e = nat_lt (vec_len e.log) (vec_capacity e.log)

abbrev pub view_of : Inside → EndpointView
view_of e = record { settings = e.settings; log = e.log.items; ready = is_ready e; flights = flights_of e.held }

-- the state that its log gives
abbrev pub replayed : Inside → State
replayed e = state_by e.settings e.log.items

-- what is held is of the state that the log gives, which is in order, and has no body where it is on disk
pub record IsReplay (e : Inside) : Type 0 where
  pub held : IsHeldOf e.settings.pool (replayed e) e.held
  pub order : IsInOrder e.settings.pool e.settings.id (replayed e)
  pub counted : (replayed e).body.accepted ≤ length e.log.items
  pub bounded : length e.log.items ≤ e.settings.log
  pub lawful : AreLawful e.settings
