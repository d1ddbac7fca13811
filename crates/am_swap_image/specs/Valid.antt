-- Which bodies an endpoint may have on disk.
use Rattle.std.specs.Prelude.{◌≡◌, ℕ, Option, []}
use Rattle.am_names.specs.declared.EndpointId.{EndpointId}
use Rattle.am_model.specs.Endpoint.{Body, IsWithinBounds}
use Rattle.am_model.specs.Valid as endpoint
use Rattle.am_swap_image.specs.Range.{IsInRange}

-- the endpoint e, with this pool or none, may have the body on disk: it is a valid body, within its bounds, with
-- nothing in flight, and its numbers are in range
pub record IsValid (e : EndpointId) (pool : Option ℕ) (b : Body) : Type 0 where
  pub valid : endpoint.IsValid e pool b
  pub within : IsWithinBounds b
  pub none_in_flight : b.in_flight ≡ []
  pub in_range : IsInRange b
