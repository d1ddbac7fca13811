-- Entries that leave a part of an endpoint as it was: its place, its body, whether it is closed.
use Rattle.std.proofs.Common.{◌≡◌, Bool, true, false, Some, None, refl, ◌∙◌, if◌then◌else◌}
use Rattle.am_names.specs.declared.Cause.TheVariants as Causes
use Rattle.am_names.specs.declared.EndpointId.{EndpointId}
use Rattle.am_names.specs.Names.{same_end}
use Rattle.am_office_entries.specs.declared.Call.{Call}
use Rattle.am_office_entries.specs.declared.Call.TheVariants as Calls
use Rattle.am_office_entries.specs.declared.Outcome.{Outcome}
use Rattle.am_office_entries.specs.declared.Outcome.TheVariants as Out
use Rattle.am_office_entries.specs.declared.Received.{Received}
use Rattle.am_office_entries.specs.declared.Received.TheVariants as Got
use Rattle.am_model.specs.Changes.{bound, called, carried, expired, left, paged_in, paged_out, put, reached, received}
use Rattle.am_model.specs.Endpoint.{State}

-- ---- the place

pub called_place : (s : State) (c : Call) (o : Outcome) → (called s c o).head.place ≡ s.head.place
called_place s (Calls.Request index handler words) (Out.Requested m) = refl
called_place s Calls.Poll (Out.Zero serial why) = refl
called_place s Calls.Poll (Out.Ran handler m None) = refl
called_place s Calls.Poll (Out.Ran handler m (Some reply)) = refl
called_place s (Calls.SetTag tag) Out.Done = refl
called_place s (Calls.Map index name tag credits) Out.Done = refl
called_place s (Calls.Unmap index) Out.Done = refl
called_place s (Calls.SetHandler index kind) Out.Done = refl
called_place s (Calls.GiveUp serial) Out.Done = refl
called_place s Calls.Close Out.Done = refl
called_place s c o = refl

pub left_place : (s : State) (o : Outcome) → (left s o).head.place ≡ s.head.place
left_place s (Out.Accepted m) = refl
left_place s (Out.Requeued m cause bounces) = refl
left_place s (Out.Returned m cause) = refl
left_place s o = refl

pub reached_place : (e : EndpointId) (s : State) (o : Outcome) → (reached e s o).head.place ≡ s.head.place
reached_place e s (Out.Accepted m) = by_test (same_end e m.dest)
  where
    by_test : (b : Bool) → (if b then put m s else s).head.place ≡ s.head.place
    by_test true = refl
    by_test false = refl
reached_place e s o = refl

pub carried_place : (e from : EndpointId) (s : State) (o : Outcome) → (carried e from s o).head.place ≡ s.head.place
carried_place e from s o = by_test (same_end e from)
  where
    by_test : (b : Bool) → (reached e (if b then left s o else s) o).head.place ≡ s.head.place
    by_test true = reached_place e (left s o) o ∙ left_place s o
    by_test false = reached_place e s o

pub received_place : (e : EndpointId) (s : State) (r : Received) → (received e s r).head.place ≡ s.head.place
received_place e s (Got.Accepted m answer) = refl
received_place e s (Got.Refused m Causes.NotResident answer) = refl
received_place e s (Got.Delivered serial) = refl
received_place e s (Got.Requeued serial cause bounces) = refl
received_place e s (Got.Returned serial cause) = refl
received_place e s r = refl

pub expired_place : (s : State) (o : Outcome) → (expired s o).head.place ≡ s.head.place
expired_place s (Out.Delivered serial) = refl
expired_place s (Out.Unknown serial) = refl
expired_place s o = refl

pub bound_place : (s : State) (o : Outcome) → (bound s o).head.place ≡ s.head.place
bound_place s (Out.Sent m peer channel seq attempt number) = refl
bound_place s o = refl

-- ---- what a page call leaves

pub paged_out_body : (s : State) (o : Outcome) → (paged_out s o).body ≡ s.body
paged_out_body s Out.Done = refl
paged_out_body s o = refl

pub paged_in_body : (s : State) (o : Outcome) → (paged_in s o).body ≡ s.body
paged_in_body s Out.Done = refl
paged_in_body s o = refl

pub paged_out_closed : (s : State) (o : Outcome) → (paged_out s o).head.closed ≡ s.head.closed
paged_out_closed s Out.Done = refl
paged_out_closed s o = refl

pub paged_in_closed : (s : State) (o : Outcome) → (paged_in s o).head.closed ≡ s.head.closed
paged_in_closed s Out.Done = refl
paged_in_closed s o = refl
