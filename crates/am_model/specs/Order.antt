-- What every endpoint keeps.
use Rattle.std.specs.Prelude.{◌≡◌, ℕ, ◌≤◌, false, Option, []}
use Rattle.am_names.specs.declared.EndpointId.{EndpointId}
use Rattle.am_office_entries.specs.declared.Entry.{Entry}
use Rattle.am_model.specs.Endpoint.{State, IsWithinBounds, is_in_a_frame}
use Rattle.am_model.specs.Changes.{after}
use Rattle.am_model.specs.Valid.{IsValid}

-- the lists of the endpoint e are within their bounds, its body is valid, and nothing is in flight unless it lies in a frame
pub record IsInOrder (pool : Option ℕ) (e : EndpointId) (s : State) : Type 0 where
  pub within : IsWithinBounds s.body
  pub valid : IsValid e pool s.body
  pub grounded : is_in_a_frame s.head.place ≡ false → s.body.in_flight ≡ []

-- the entry leaves the endpoint e in order, where it is in order and messages bounce 16 times at most
abbrev pub KeepsOrder : ℕ → Option ℕ → EndpointId → State → Entry → Type 0
KeepsOrder limit pool e s x = limit ≤ 16 → IsInOrder pool e s → IsInOrder pool e (after e s x)
