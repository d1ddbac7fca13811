-- The calls of a bundle, member by member, and which member is ready.
use Rattle.std.specs.Prelude.{◌≡◌, Bool, false, ◌==◌, List, Contains, map, find, Option, Some, None}
use Rattle.std.specs.List.{list_any}
use Rattle.am_names.specs.declared.EndpointId.{EndpointId}
use Rattle.am_office_entries.specs.declared.Call.{Call}
use Rattle.am_office_entries.specs.declared.Call.TheVariants.{Poll, Test}
use Rattle.am_office_entries.specs.declared.Mask.TheVariants.{NoEvents, NotEmpty}
use Rattle.am_office_entries.specs.declared.Mask.{Mask}
use Rattle.am_bundle.specs.declared.Readiness.{Readiness}
use Rattle.am_bundle.specs.declared.Readiness.TheVariants.{Ready, NotYet}
use Rattle.am_bundle.specs.Lists.{BundleLists}

abbrev pub poll_calls : BundleLists → List (EndpointId × Call)
poll_calls bundle = map (λ member. (member, Poll)) bundle.members

abbrev pub test_calls : BundleLists → List (EndpointId × Call)
test_calls bundle = map (λ member. (member, Test bundle.mask)) bundle.members

abbrev pub is_among : List EndpointId → EndpointId → Bool
is_among pollable member = list_any (λ other. other.0 == member.0) pollable

-- none of the members is pollable
abbrev pub NoneIsAmong : List EndpointId → List EndpointId → Type 0
NoneIsAmong pollable members = (member : EndpointId) → Contains members member → is_among pollable member ≡ false

-- ready at the first that was found
abbrev pub ready_at : Option EndpointId → Readiness
ready_at None = NotYet
ready_at (Some member) = Ready member

abbrev pub told : Mask → Option EndpointId → Readiness
told NoEvents member = NotYet
told NotEmpty member = ready_at member

-- the first member, in the bundle's order, that is pollable, where the bundle tells of it
abbrev pub readiness : BundleLists → List EndpointId → Readiness
readiness bundle pollable = told bundle.mask (find (is_among pollable) bundle.members)
