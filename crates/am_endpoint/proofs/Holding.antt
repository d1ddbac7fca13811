-- What is kept of a state, in memory and on disk.
use Rattle.std.proofs.Common.{◌≡◌, ℕ, Bool, true, false, ◌||◌, Option, Some, cond, refl, sym, ap, ◌∙◌, subst, true≢false}
use Rattle.am_names.specs.declared.Cause.TheVariants as Causes
use Rattle.am_names.specs.declared.EndpointId.{EndpointId}
use Rattle.am_names.specs.declared.Message.{Message}
use Rattle.am_names.specs.declared.NodeId.{NodeId}
use Rattle.am_names.specs.declared.Verdict.TheVariants as Verdicts
use Rattle.am_office_entries.specs.declared.Call.{Call}
use Rattle.am_office_entries.specs.declared.Entry.{Entry}
use Rattle.am_office_entries.specs.declared.Event.{Event}
use Rattle.am_office_entries.specs.declared.Event.TheVariants as Events
use Rattle.am_office_entries.specs.declared.Outcome.{Outcome}
use Rattle.am_office_entries.specs.declared.Outcome.TheVariants as Out
use Rattle.am_office_entries.specs.declared.Place.{Place}
use Rattle.am_office_entries.specs.declared.Place.TheVariants.{Host, Disk, Frame, Direct}
use Rattle.am_office_entries.specs.declared.Received.{Received}
use Rattle.am_office_entries.specs.declared.Received.TheVariants as Got
use Rattle.am_model.specs.declared.Head.{Head}
use Rattle.am_model.specs.Allowed.{MayArrive, arrival_verdict, arrived_message, is_network_of, verdict_in}
use Rattle.am_model.specs.Changes.{after, called, changed, received}
use Rattle.am_model.specs.Endpoint.{State, is_direct, is_on_disk, is_on_host, verdict}
use Rattle.am_model.proofs.Unchanged.{called_place, carried_place, received_place, expired_place}
use Rattle.am_endpoint.specs.Events.{is_kept_out, keeps_in_memory}
use Rattle.am_endpoint.specs.Held.{IsHeldOf, IsHere, held_wanted, with_wanted}
use Rattle.am_endpoint.specs.declared.fields.Fields.{Fields}
use Rattle.am_endpoint.specs.declared.held.HeldEndpoint.{HeldEndpoint}
use Rattle.am_endpoint.specs.declared.held.HeldEndpoint.TheVariants.{Here, OnDisk}

-- what is held, where it is known whether there is a body

pub here_of : (pool : Option ℕ) (s : State) (held : HeldEndpoint) (f : Fields) → IsHeldOf pool s held → held ≡ Here f → IsHere pool s f
here_of pool s held f holds is = subst (λ (h : HeldEndpoint). IsHeldOf pool s h) is holds

pub wanted_held : (pool : Option ℕ) (s : State) (held : HeldEndpoint) (wanted : Bool) → IsHeldOf pool s held →
    IsHeldOf pool (with_wanted s wanted) (held_wanted held wanted)
wanted_held pool s (Here f) wanted holds =
    record { in_memory = holds.in_memory; state = ap (λ (t : State). with_wanted t wanted) holds.state; pooled = holds.pooled }
wanted_held pool s (OnDisk h) wanted holds =
    record { on_disk = holds.on_disk; head = ap (λ (x : Head). record x { wanted = wanted }) holds.head }

-- an endpoint that stays in memory

bound_place : (node : NodeId) (e end : EndpointId) (s : State) (o : Outcome) → (changed e s (Events.Bind node end) o).head.place ≡ s.head.place
bound_place node e end s (Out.Sent m peer channel seq attempt number) = refl
bound_place node e end s o = refl

changed_here : (e : EndpointId) (s : State) (event : Event) (o : Outcome) → keeps_in_memory event ≡ true → is_on_disk s.head.place ≡ false →
    is_on_disk (changed e s event o).head.place ≡ false
changed_here e s (Events.Carry from) o keeps here = ap is_on_disk (carried_place e from s o) ∙ here
changed_here e s (Events.Bind node end) o keeps here = ap is_on_disk (bound_place node e end s o) ∙ here
changed_here e s (Events.Expire node peer channel) o keeps here = ap is_on_disk (expired_place s o) ∙ here
changed_here e s (Events.Receive node peer number) (Out.Received channel seq attempt result) keeps here = ap is_on_disk (received_place e s result) ∙ here
changed_here e s (Events.Receive node peer number) o keeps here = here
changed_here e s (Events.Drain node end) o keeps here = here
changed_here e s (Events.Unload node end) o keeps here = refl
changed_here e s (Events.Load node end frame) o keeps here = refl
changed_here e s event o keeps here = absurd (cc)

pub stays_here : (e : EndpointId) (s : State) (x : Entry) → keeps_in_memory x.event ≡ true → is_on_disk s.head.place ≡ false →
    is_on_disk (after e s x).head.place ≡ false
stays_here e s x keeps here = changed_here e s x.event x.outcome keeps here

pub called_here : (s : State) (c : Call) (o : Outcome) → is_on_disk s.head.place ≡ false → is_on_disk (called s c o).head.place ≡ false
called_here s c o here = ap is_on_disk (called_place s c o) ∙ here

-- where an endpoint is that may be given an entry

pub direct_here : (place : Place) → is_direct place ≡ true → is_on_disk place ≡ false
direct_here Direct is = refl
direct_here (Frame frame) is = absurd (cc)
direct_here Host is = absurd (cc)
direct_here Disk is = absurd (cc)

pub host_here : (place : Place) → is_on_host place ≡ true → is_on_disk place ≡ false
host_here Host is = refl
host_here (Frame frame) is = absurd (cc)
host_here Direct is = absurd (cc)
host_here Disk is = absurd (cc)

-- a message that arrives at an endpoint on disk

pub disk_verdict : (s : State) (m : Message) → is_on_disk s.head.place ≡ true →
    verdict s m ≡ cond s.head.closed (Verdicts.Refused Causes.NoEndpoint) (Verdicts.Refused Causes.NotResident)
disk_verdict s m on = by_place s.head.place s.head.closed on
  where
    by_place : (place : Place) (closed : Bool) → is_on_disk place ≡ true →
        verdict (record {
          head = record { place = place; wanted = s.head.wanted; draining = s.head.draining; closed = closed };
          body = s.body;
        }) m ≡ cond closed (Verdicts.Refused Causes.NoEndpoint) (Verdicts.Refused Causes.NotResident)
    by_place Disk true on = refl
    by_place Disk false on = refl
    by_place Host closed on = absurd (cc)
    by_place Direct closed on = absurd (cc)
    by_place (Frame frame) closed on = absurd (cc)

refused : (closed : Bool) → Some Verdicts.Accepted ≡ Some (cond closed (Verdicts.Refused Causes.NoEndpoint) (Verdicts.Refused Causes.NotResident)) → ⊥
refused true is = absurd (cc)
refused false is = absurd (cc)

refused_so : (e : EndpointId) (s : State) (m : Message) (channel seq attempt : ℕ) (r : Received) → verdict_in r ≡ Some (verdict s m) →
    is_on_disk s.head.place ≡ true → received e s r ≡ with_wanted s (is_kept_out (Out.Received channel seq attempt r) || s.head.wanted)
refused_so e s m channel seq attempt (Got.Accepted n answer) judged on = absurd (refused s.head.closed (judged ∙ ap Some (disk_verdict s m on)))
refused_so e s m channel seq attempt (Got.Refused n Causes.NotResident answer) judged on = refl
refused_so e s m channel seq attempt (Got.Refused n Causes.NoEndpoint answer) judged on = refl
refused_so e s m channel seq attempt (Got.Refused n Causes.BadTag answer) judged on = refl
refused_so e s m channel seq attempt (Got.Refused n Causes.BadHandler answer) judged on = refl
refused_so e s m channel seq attempt (Got.Refused n Causes.QueueFull answer) judged on = refl
refused_so e s m channel seq attempt (Got.Refused n Causes.NoRequest answer) judged on = refl
refused_so e s m channel seq attempt r judged on = absurd (cc)

direct_never : (place : Place) → is_direct place ≡ true → is_on_disk place ≡ true → ⊥
direct_never place direct on = true≢false (sym on ∙ direct_here place direct)

arrived_so : (e : EndpointId) (s : State) (m : Message) (event : Event) (o : Outcome) → arrived_message event o ≡ Some m →
    arrival_verdict event o ≡ Some (verdict s m) → is_network_of event s.head.place ≡ true → is_on_disk s.head.place ≡ true →
    changed e s event o ≡ with_wanted s (is_kept_out o || s.head.wanted)
arrived_so e s m (Events.Carry from) o is judged network on = absurd (direct_never s.head.place network on)
arrived_so e s m (Events.Receive node peer number) (Out.Received channel seq attempt r) is judged network on = refused_so e s m channel seq attempt r judged on
arrived_so e s m event o is judged network on = absurd (cc)

pub arrived_on_disk : (e : EndpointId) (s : State) (x : Entry) → MayArrive e s x → is_on_disk s.head.place ≡ true →
    after e s x ≡ with_wanted s (is_kept_out x.outcome || s.head.wanted)
arrived_on_disk e s x may on = arrived_so e s may.message x.event x.outcome may.is_message may.judged may.network on

-- a paging that failed changes nothing

pub in_failed : (node : NodeId) (end e : EndpointId) (s : State) (x : Entry) → x.event ≡ Events.PageIn node end → x.outcome ≡ Out.Failed → after e s x ≡ s
in_failed node end e s x event outcome = λ k. changed e s (event k) (outcome k)

pub out_failed : (node : NodeId) (end e : EndpointId) (s : State) (x : Entry) → x.event ≡ Events.PageOut node end → x.outcome ≡ Out.Failed → after e s x ≡ s
out_failed node end e s x event outcome = λ k. changed e s (event k) (outcome k)
