-- A message that arrives where there is room for it is refused for good, if it is refused at all.
use Rattle.std.specs.Prelude.{◌&&◌, ◌||◌, not, nat_le, is_none, count_by}
use Rattle.std.proofs.Common.{◌≡◌, Bool, true, false, [], ◌∷◌, refl, sym, true≢false}
use Rattle.am_names.specs.Rules.{matches, is_transient}
use Rattle.am_names.specs.declared.EndpointId.{EndpointId}
use Rattle.am_names.specs.declared.Cause.TheVariants.{NoEndpoint, NotResident, BadTag, BadHandler, QueueFull, NoRequest}
use Rattle.am_names.specs.declared.Message.{Message}
use Rattle.am_names.specs.declared.Verdict.{Verdict}
use Rattle.am_names.specs.declared.Verdict.TheVariants as Verdicts
use Rattle.am_names.specs.Names.{is_request, is_reply}
use Rattle.am_office_entries.specs.declared.Outcome.{Outcome}
use Rattle.am_office_entries.specs.declared.Outcome.TheVariants as Out
use Rattle.am_office_entries.specs.declared.Received.{Received}
use Rattle.am_office_entries.specs.declared.Received.TheVariants as Got
use Rattle.am_model.specs.Choice.{first_holding}
use Rattle.am_model.specs.Endpoint.{State, is_resident, entry_at, is_waited_for, verdict_of, verdict}
use Rattle.am_model.specs.Changes.{bound, received}
use Rattle.am_model.specs.Channels.{decides_by}

-- whether a message would be refused for good here, if at all: the endpoint is closed, or is resident and has room for it
abbrev pub fits : State → Message → Bool
fits s m = s.head.closed || (is_resident s.head.place && not (is_request m && nat_le 16 (count_by is_request s.body.received)))

-- a verdict that stands
abbrev pub IsForGood : Verdict → Type 0
IsForGood Verdicts.Accepted = Unit {0}
IsForGood (Verdicts.Refused cause) = is_transient cause ≡ false

by_tests : (closed resident untagged unhandled full unasked : Bool) → (closed || (resident && not full)) ≡ true →
    IsForGood (verdict_of (first_holding ((closed, NoEndpoint) ∷ (not resident, NotResident) ∷ (untagged, BadTag) ∷ (unhandled, BadHandler) ∷ (
      full,
      QueueFull,
    ) ∷ (unasked, NoRequest) ∷ [])))
by_tests true resident untagged unhandled full unasked h = refl
by_tests false false untagged unhandled full unasked h = absurd (true≢false (sym h))
by_tests false true true unhandled full unasked h = refl
by_tests false true false true full unasked h = refl
by_tests false true false false true unasked h = absurd (true≢false (sym h))
by_tests false true false false false true h = refl
by_tests false true false false false false h = tt

pub fits_for_good : (s : State) (m : Message) → fits s m ≡ true → IsForGood (verdict s m)
fits_for_good s m h =
    by_tests s.head.closed (is_resident s.head.place) (not (matches s.body.tag m.tag)) (is_request m && is_none (entry_at s.body.handlers m.handler))
    (is_request m && nat_le 16 (count_by is_request s.body.received)) (is_reply m && not (is_waited_for s.body.awaited m.about)) h

-- the binding of a front message leaves the room as it was
pub bound_fits : (s : State) (o : Outcome) (m : Message) → fits (bound s o) m ≡ fits s m
bound_fits s (Out.Sent n peer channel seq attempt number) m = refl
bound_fits s o m = refl

-- so does a receipt that decides nothing
pub received_fits : (e : EndpointId) (s : State) (r : Received) (m : Message) → decides_by r ≡ false → fits (received e s r) m ≡ fits s m
received_fits e s (Got.Accepted n answer) m h = absurd (true≢false h)
received_fits e s (Got.Refused n cause answer) m h = absurd (true≢false h)
received_fits e s (Got.Delivered serial) m h = refl
received_fits e s (Got.Requeued serial cause bounces) m h = refl
received_fits e s (Got.Returned serial cause) m h = refl
received_fits e s r m h = refl
