-- What an endpoint holds that isn't in a frame.
use Rattle.std.specs.Prelude.{◌≡◌, Bool, true, false, ◌&&◌, ◌||◌, ◌==◌, not, List, length}
use Rattle.am_names.specs.declared.EndpointId.{EndpointId}
use Rattle.am_office_entries.specs.declared.Place.{Place}
use Rattle.am_office_entries.specs.declared.Place.TheVariants.{Host, Disk, Frame, Direct}
use Rattle.am_office_entries.specs.declared.Entry.{Entry}
use Rattle.am_model.specs.Endpoint.{State, Body}
use Rattle.am_model.specs.Changes.{has_queued, has_arrivals}
use Rattle.am_model.specs.Layout.{Layout}
use Rattle.am_model.specs.History.{IsHistory, state_of}

abbrev pub is_grounded : Body → Bool
is_grounded b = length b.in_flight == 0

-- whether an endpoint at this place holds no more than it may: out of a frame nothing is in flight, and only what is wanted has
-- more; on the packet network none lies where those of the direct network do
abbrev pub is_settled_at : Place → Bool → Body → Bool
is_settled_at Host wanted b = is_grounded b && (wanted || not (has_queued b))
is_settled_at Disk wanted b = is_grounded b && (wanted || (not (has_queued b) && not (has_arrivals b)))
is_settled_at (Frame frame) wanted b = true
is_settled_at Direct wanted b = false

abbrev pub is_settled : State → Bool
is_settled s = is_settled_at s.head.place s.head.wanted s.body

-- in each history of the packet network an endpoint that isn't in a frame has nothing in flight; where it isn't wanted it has no
-- message queued on the host, and holds no message at all on disk
abbrev pub AwayIsSettled : Type 0
AwayIsSettled = (layout : Layout) (past : List Entry) → layout.direct ≡ false → IsHistory layout past → (e : EndpointId) → is_settled (state_of layout past e) ≡ true
