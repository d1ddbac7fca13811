-- A carry between two endpoints of a cluster, each found by its place.
use Rattle.std.specs.Prelude.{◌≡◌, ℕ, zero, suc, ◌<◌, Bool, true, false, List, length, Option, Some, None, slice_get, if◌then◌else◌}
use Rattle.am_names.specs.declared.EndpointId.{EndpointId}
use Rattle.am_office_entries.specs.declared.Entry.{Entry}
use Rattle.am_model.specs.Allowed.{MayArrive, MayCarry}
use Rattle.am_model.specs.Steps.{lesser}
use Rattle.am_endpoint.specs.View.{EndpointView, state_after}
use Rattle.am_driver_moves.specs.Logs.{EndLog}
use Rattle.am_machine.specs.Ends.{logged_at}

-- whether two places are the same
abbrev pub is_place : ℕ → ℕ → Bool
is_place zero zero = true
is_place zero (suc j) = false
is_place (suc k) zero = false
is_place (suc k) (suc j) = is_place k j

-- of the endpoint at a place
abbrev pub At : List EndpointView → ℕ → (EndpointView → Type 0) → Type 0
At vs k P = (v : EndpointView) → slice_get vs k ≡ Some v → P v

abbrev pub IsReady : EndpointView → Type 0
IsReady v = v.ready ≡ true

-- an endpoint that is ready, has room in its log, and from which the entry carries
pub record CarriesFrom (x : Entry) (v : EndpointView) : Type 0 where
  pub ready : v.ready ≡ true
  pub room : length v.log < v.settings.log
  pub carry : MayCarry v.settings.bounces v.settings.id (state_after v) x

-- an endpoint that is ready, has room in its log, and at which the entry arrives
pub record ArrivesAt (x : Entry) (v : EndpointView) : Type 0 where
  pub ready : v.ready ≡ true
  pub room : length v.log < v.settings.log
  pub arrival : MayArrive v.settings.id (state_after v) x

-- the entry stands in the logs of both, or in the one log where they are one
abbrev pub carried_at : ℕ → ℕ → Entry → List EndLog → List EndLog
carried_at source dest x es = if is_place source dest then logged_at source x es else logged_at dest x (logged_at source x es)

-- the least of two endpoints that are full
abbrev pub least_full : EndpointId → Bool → EndpointId → Bool → Option EndpointId
least_full first is_first second is_second =
    if is_first then Some (lesser first (if is_second then Some (lesser second None) else None)) else (if is_second then Some (lesser second None) else None)
