-- What an interface's work leaves of an endpoint on disk.
use Rattle.std.specs.Prelude.{not, is_none, count_by, nat_le}
use Rattle.std.proofs.Common.{◌≡◌, ℕ, Bool, true, false, ◌&&◌, List, [], ◌∷◌, Some, Result, Ok, Err, IfOk, refl, sym, ap, ◌∙◌}
use Rattle.am_names.specs.declared.Cause.{Cause}
use Rattle.am_names.specs.declared.Cause.TheVariants.{BadHandler, BadTag, NoEndpoint, NoRequest, NotResident, QueueFull}
use Rattle.am_names.specs.declared.EndpointId.{EndpointId}
use Rattle.am_names.specs.declared.Message.{Message}
use Rattle.am_names.specs.declared.NodeId.{NodeId}
use Rattle.am_names.specs.declared.Packet.TheVariants as Packets
use Rattle.am_names.specs.declared.Verdict.{Verdict}
use Rattle.am_names.specs.declared.Verdict.TheVariants as Verdicts
use Rattle.am_names.specs.Names.{is_reply, is_request}
use Rattle.am_names.specs.Rules.{matches}
use Rattle.am_office_entries.specs.declared.Event.{Event}
use Rattle.am_office_entries.specs.declared.Event.TheVariants as Events
use Rattle.am_office_entries.specs.declared.Outcome.{Outcome}
use Rattle.am_office_entries.specs.declared.Outcome.TheVariants as Out
use Rattle.am_office_entries.specs.declared.Place.{Place}
use Rattle.am_office_entries.specs.declared.Place.TheVariants.{Host, Disk, Frame, Direct}
use Rattle.am_office_entries.specs.declared.Received.TheVariants as Got
use Rattle.am_office_entries.specs.declared.Entry.{Entry}
use Rattle.am_endpoint.specs.View.{EndpointView, state_after}
use Rattle.am_model.specs.Allowed.{MayArrive, MayBind, arrival_verdict}
use Rattle.am_model.specs.Choice.{first_holding}
use Rattle.am_model.specs.Endpoint.{State, entry_at, is_direct, is_on_disk, is_resident, is_waited_for, verdict, verdict_of}
use Rattle.am_model.proofs.PlaceKinds.{framed_not_on_disk}
use Rattle.am_model_parts.specs.Granted.{FitsEndpoint, IsWorkAt}
use Rattle.am_model_parts.specs.Interface.{event_of, failing_at, needs, outcome_at}
use Rattle.am_model_parts.specs.declared.work.Work.{Work}
use Rattle.am_model_parts.specs.declared.work.Work.TheVariants as Works
use Rattle.am_model_parts.proofs.Granting.{work_granted}
use Rattle.am_iface.specs.View.{InterfaceView, own}
use Rattle.am_model.specs.declared.EntryFault.{EntryFault}
use Rattle.am_iface.specs.declared.Turned.{Turned}
use Rattle.am_workers_laws.specs.Phases.Lying.{keeps_body, keeps_on_disk}
use Rattle.am_workers.specs.Turns.Turns.{MayBounce, SettlesHere}
use Rattle.am_workers_laws.proofs.BooksKept.{here_keeps, kept_keeps}
use Rattle.am_workers.proofs.TurnBooks.{TellsDisabled, enabled_done}

disk_away : (place : Place) → is_on_disk place ≡ true → not (is_resident place) ≡ true
disk_away (Frame frame) h = absurd (cc)
disk_away Host h = absurd (cc)
disk_away Disk h = refl
disk_away Direct h = absurd (cc)

record IsRefused (v : Verdict) : Type 0 where
  pub cause : Cause
  pub is : v ≡ Verdicts.Refused cause

refused_first : (c t : Bool) (x y : Cause) (rest : List (Bool × Cause)) → t ≡ true → IsRefused (verdict_of (first_holding ((c, x) ∷ (t, y) ∷ rest)))
refused_first true t x y rest h = record { cause = x; is = refl }
refused_first false true x y rest h = record { cause = y; is = refl }
refused_first false false x y rest h = absurd (cc)

-- on disk every message is refused
away_refuses : (s : State) (m : Message) → is_on_disk s.head.place ≡ true → IsRefused (verdict s m)
away_refuses s m on =
    refused_first s.head.closed (not (is_resident s.head.place)) NoEndpoint NotResident
    ((not (matches s.body.tag m.tag), BadTag)
    ∷ (is_request m && is_none (entry_at s.body.handlers m.handler), BadHandler)
    ∷ (is_request m && nat_le 16 (count_by is_request s.body.received), QueueFull)
    ∷ (is_reply m && not (is_waited_for s.body.awaited m.about), NoRequest)
    ∷ [])
    (disk_away s.head.place on)

receipt_kept : (node peer : NodeId) (number : ℕ) (o : Outcome) (cause : Cause) →
    arrival_verdict (Events.Receive node peer number) o ≡ Some (Verdicts.Refused cause) → keeps_body (Events.Receive node peer number) o ≡ true
receipt_kept node peer number (Out.Received channel seq attempt (Got.Refused m c answer)) cause h = refl
receipt_kept node peer number (Out.Received channel seq attempt (Got.Accepted m answer)) cause h = absurd (cc)
receipt_kept node peer number (Out.Received channel seq attempt result) cause h = absurd (cc)
receipt_kept node peer number o cause h = absurd (cc)

-- a parcel is refused on disk
arrival_keeps : (e : EndpointId) (s : State) (node peer : NodeId) (number : ℕ) (x : Entry) → x.event ≡ Events.Receive node peer number → MayArrive e s x →
    keeps_on_disk s x ≡ true
arrival_keeps e s node peer number x is may = by_place (is_on_disk s.head.place) refl
  where
    by_place : (b : Bool) → is_on_disk s.head.place ≡ b → keeps_on_disk s x ≡ true
    by_place false here = here_keeps s x here
    by_place true on =
        let refused = away_refuses s may.message on in
        let judged : arrival_verdict (Events.Receive node peer number) x.outcome ≡ Some (Verdicts.Refused refused.cause) =
        ap (λ (v : Event). arrival_verdict v x.outcome) (sym is) ∙ may.judged ∙ ap (λ (v : Verdict). Some v) refused.is in
        kept_keeps s x (ap (λ (v : Event). keeps_body v x.outcome) is ∙ receipt_kept node peer number x.outcome refused.cause judged)

work_keeps : (i : InterfaceView) (e : EndpointId) (s : State) (w : Work) (x : Entry) → IsWorkAt (own i) e s w x → SettlesHere s w →
    MayBounce i.settings.bounces s w → keeps_on_disk s x ≡ true
work_keeps i e s (Works.Receive (Packets.Parcel p)) x at here bounces =
    arrival_keeps e s i.settings.node p.from p.number x at.event (work_granted (own i) e s (Works.Receive (Packets.Parcel p)) x at)
work_keeps i e s (Works.Receive (Packets.Answer p)) x at here bounces = here_keeps s x here
work_keeps i e s (Works.Bind end) x at here bounces =
    let may : MayBind i.settings.node e s x = work_granted (own i) e s (Works.Bind end) x at in
    here_keeps s x (framed_not_on_disk s.head.place may.framed)
work_keeps i e s (Works.Expire peer channel) x at here bounces = absurd bounces

-- whatever the turn answers
pub turn_keeps : (i : InterfaceView) (e : EndpointView) (w : Work) (r : Result Turned EntryFault) → needs (own i) w ≡ Some e.settings.id →
    TellsDisabled r (failing_at (own i) (state_after e) w) → IfOk r (λ (t : Turned). t.entry.event ≡ event_of i.settings.node w)
    → IfOk r (λ (t : Turned). t.entry.outcome ≡ outcome_at (own i) (state_after e) w) → FitsEndpoint (own i) (state_after e) w →
    is_direct (state_after e).head.place ≡ false → SettlesHere (state_after e) w → MayBounce i.settings.bounces (state_after e) w
    → IfOk r (λ (t : Turned). keeps_on_disk (state_after e) t.entry ≡ true)
turn_keeps i e w (Ok t) needed disabled event outcome fits packet here bounces =
    work_keeps i e.settings.id (state_after e) w t.entry
    (record {
      needs = needed;
      enabled = enabled_done t (failing_at (own i) (state_after e) w) disabled;
      event = event;
      outcome = outcome;
      fits = fits;
      packet = packet;
    }) here bounces
turn_keeps i e w (Err fault) needed disabled event outcome fits packet here bounces = tt
