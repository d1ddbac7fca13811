-- Endpoints that have numbers of their own.
use Rattle.std.specs.Prelude.{◌≡◌, ℕ, Bool, false, Option, Some, None, List, slice_get}
use Rattle.am_names.specs.declared.EndpointId.{EndpointId}
use Rattle.am_endpoint.specs.View.{EndpointView}
use Rattle.am_driver_moves.specs.Logs.{EndLog}
use Rattle.am_machine.specs.Ends.{is_of}

-- whether what stands at a place, if anything does, is the endpoint with this number
abbrev pub is_at : Option EndpointView → EndpointId → Bool
is_at None id = false
is_at (Some v) id = is_of id v

-- no two of them have the same number
abbrev pub AreApart : List EndLog → Type 0
AreApart es = (j k : ℕ) (d e : EndLog) → slice_get es j ≡ Some d → slice_get es k ≡ Some e → d.settings.id ≡ e.settings.id → j ≡ k
