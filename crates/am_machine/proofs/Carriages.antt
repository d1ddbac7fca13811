-- A carry from one endpoint to another, or to itself.
use Rattle.std.specs.Prelude.{slice_get, nat_le}
use Rattle.std.specs.List.{list_any}
use Rattle.std.proofs.Common.{◌≡◌, ℕ, ◌+◌, ◌<◌, Bool, true, false, ◌||◌, ◌&&◌, List, [], ◌∷◌, ◌++◌, map, length, Option, Some, None, refl, sym, ap, ◌∙◌, subst}
use Rattle.std.proofs.Common.{arith, ltb, if◌then◌else◌}
use Rattle.std.proofs.lemmas.Bool.{leb-false}
use mathlib.Core.Bool.{or-false}
use Rattle.am_names.specs.declared.EndpointId.{EndpointId}
use Rattle.am_names.specs.declared.Message.{Message}
use Rattle.am_names.specs.declared.Verdict.{Verdict}
use Rattle.am_names.specs.declared.Verdict.TheVariants as Verdicts
use Rattle.am_names.specs.Names.{same_end, is_well_formed}
use Rattle.am_names.specs.Rules.{is_transient}
use Rattle.am_office_entries.specs.declared.Event.{Event}
use Rattle.am_office_entries.specs.declared.Event.TheVariants as Events
use Rattle.am_office_entries.specs.declared.Outcome.TheVariants as Out
use Rattle.am_office_entries.specs.declared.Entry.{Entry}
use Rattle.am_office_entries.specs.Entries.{ends_touched, touches}
use Rattle.am_model.specs.declared.Queued.{Queued}
use Rattle.am_model.specs.Allowed.{arrival_verdict, arrived_message, is_carry_from, is_network_of}
use Rattle.am_model.specs.Endpoint.{State, front, is_direct, verdict}
use Rattle.am_model.specs.Layout.{Layout, declared}
use Rattle.am_laws_cluster.proofs.HomesKept.{front_addressed}
use Rattle.am_laws_cluster.proofs.HomePlaces.{fits_network}
use Rattle.am_model.specs.History.{is_in_range, carry, judged, outcome_of, state_of}
use Rattle.am_model.specs.Steps.{stop}
use Rattle.am_model_drain.specs.Made.{next_entry, next_stamp}
use Rattle.am_model.proofs.Names.{same_end-is, same_end-refl}
use Rattle.am_scenario_types.specs.declared.parts.FaultLine.{FaultLine}
use Rattle.am_endpoint_body.specs.declared.settings.EndSettings.{EndSettings}
use Rattle.am_endpoint.specs.View.{EndpointView, state_after}
use Rattle.am_machine.specs.declared.settings.Settings.{Settings}
use Rattle.am_machine.specs.Carries.{At, IsReady, CarriesFrom, ArrivesAt, carried_at, is_place, least_full}
use Rattle.am_driver_moves.specs.Logs.{EndLog, kept, state_in}
use Rattle.am_machine.specs.Ends.{grown, logged_at}
use Rattle.am_machine.specs.Kept.{IsTied, layout_in}
use Rattle.am_machine.proofs.Applied.{IsHere, IsNext, full_here, only_here, own_here, state_here}
use Rattle.am_machine.proofs.Events.{carry_stop, judged_touches}
use Rattle.am_machine.proofs.Places.{place_is, place_same}
use Rattle.am_machine.proofs.Tied.{kept_at, one_grown, two_grown}

-- a carry of the front message of the endpoint `end`, which stands at the place `from`, to the one that stands at `to`
pub record Carriage : Type 0 where
  pub settings : Settings
  pub faults : List FaultLine
  pub ends : List EndpointView
  pub journal : List Entry
  pub end : EndpointId
  pub from : ℕ
  pub one : EndpointView
  pub queued : Queued
  pub to : ℕ
  pub two : EndpointView
  pub there : Verdict
  pub tied : IsTied (layout_in settings faults (map kept ends)) (map kept ends) journal
  pub direct : (layout_in settings faults (map kept ends)).direct ≡ true
  pub in_range : is_in_range (layout_in settings faults (map kept ends)) (Events.Carry end) ≡ true
  pub source : IsHere ends end from one
  pub is_front : front (state_after one) ≡ Some queued
  pub dest : IsHere ends queued.message.dest to two
  pub judged_there : there ≡ verdict (state_after two) queued.message
  pub formed : is_well_formed queued.message ≡ true
  pub source_room : nat_le settings.log (length one.log) ≡ false
  pub dest_room : nat_le settings.log (length two.log) ≡ false

abbrev pub layout_of : Carriage → Layout
layout_of c = layout_in c.settings c.faults (map kept c.ends)

-- the entry of the carry
pub record IsEntryOf (c : Carriage) (x : Entry) : Type 0 where
  pub stamp : x.stamp ≡ next_stamp c.journal
  pub event : x.event ≡ Events.Carry c.end
  pub outcome : x.outcome ≡ judged c.settings.bounces c.queued.message c.queued.bounces c.there

judged_arrives : (end : EndpointId) (limit : ℕ) (m : Message) (bounces : ℕ) (v : Verdict) →
    (arrived_message (Events.Carry end) (judged limit m bounces v) ≡ Some m) × (arrival_verdict (Events.Carry end) (judged limit m bounces v) ≡ Some v)
judged_arrives end limit m bounces Verdicts.Accepted = (refl, refl)
judged_arrives end limit m bounces (Verdicts.Refused cause) = by_test (is_transient cause && ltb bounces limit)
  where
    by_test : (b : Bool) → (arrived_message (Events.Carry end) (if b then Out.Requeued m cause (bounces + 1) else Out.Returned m cause) ≡ Some m) ×
        (arrival_verdict (Events.Carry end) (if b then Out.Requeued m cause (bounces + 1) else Out.Returned m cause) ≡ Some (Verdicts.Refused cause))
    by_test true = (refl, refl)
    by_test false = (refl, refl)

front_there : (c : Carriage) → front (state_of (layout_of c) c.journal c.end) ≡ Some c.queued
front_there c = ap front (sym (state_here (layout_of c) c.ends c.journal c.end c.from c.one c.tied c.source)) ∙ c.is_front

verdict_there : (c : Carriage) → c.there ≡ verdict (state_of (layout_of c) c.journal c.queued.message.dest) c.queued.message
verdict_there c = c.judged_there ∙ ap (λ (s : State). verdict s c.queued.message) (state_here (layout_of c) c.ends c.journal c.queued.message.dest c.to c.two
    c.tied c.dest)

pub carriage_entry : (c : Carriage) (x : Entry) → IsEntryOf c x → x ≡ next_entry (layout_of c) c.journal (Events.Carry c.end)
carriage_entry c x is =
    let came : x.outcome ≡ outcome_of (layout_of c) c.journal (Events.Carry c.end) =
    is.outcome
    ∙ ap (judged c.settings.bounces c.queued.message c.queued.bounces) (verdict_there c)
    ∙ ap (carry (layout_of c) c.journal) (sym (front_there c)) in
    λ i. record { stamp = is.stamp i; event = is.event i; outcome = came i }

pub carriage_runs : (c : Carriage) → stop (layout_of c) c.journal (Events.Carry c.end) ≡ None
carriage_runs c =
    carry_stop (layout_of c) c.journal c.end c.queued false false c.direct (front_there c)
    (full_here (layout_of c) c.ends c.journal c.end c.from c.one false c.tied c.source c.source_room)
    (full_here (layout_of c) c.ends c.journal c.queued.message.dest c.to c.two false c.tied c.dest c.dest_room)

-- ---- the logs

touched : (c : Carriage) (x : Entry) → IsEntryOf c x → (e : EndpointId) → touches e x ≡ (same_end e c.end || (same_end e c.queued.message.dest || false))
touched c x is e =
    ap (λ (es : List EndpointId). list_any (same_end e) es)
    ((λ i. ends_touched (is.event i) (is.outcome i)) ∙ judged_touches c.settings.bounces c.end c.queued.message c.queued.bounces c.there)

or_same : (b : Bool) → (b || (b || false)) ≡ b
or_same true = refl
or_same false = refl

-- where each endpoint stands among those that the carry touches
places : (c : Carriage) (x : Entry) → IsEntryOf c x → (j : ℕ) (d : EndLog) → slice_get (map kept c.ends) j ≡ Some d →
    touches d.settings.id x ≡ (is_place c.from j || is_place c.to j)
places c x is j d at =
    touched c x is d.settings.id
    ∙ (λ i. only_here (layout_of c) c.ends c.journal c.end c.from c.one c.tied c.source j d at i
    || or-false (same_end d.settings.id c.queued.message.dest) i)
    ∙ ap (λ (b : Bool). is_place c.from j || b) (only_here (layout_of c) c.ends c.journal c.queued.message.dest c.to c.two c.tied c.dest j d at)

or_twice : (b : Bool) → (b || b) ≡ b
or_twice true = refl
or_twice false = refl

pub carriage_grows : (c : Carriage) (x : Entry) → IsEntryOf c x → carried_at c.from c.to x (map kept c.ends) ≡ map (grown x) (map kept c.ends)
carriage_grows c x is = by_place (is_place c.from c.to) refl
  where
    by_place : (b : Bool) → is_place c.from c.to ≡ b → (if b then logged_at c.from x (map kept c.ends) else logged_at c.to x
        (logged_at c.from x (map kept c.ends))) ≡ map (grown x) (map kept c.ends)
    by_place true one' =
        let same : c.from ≡ c.to = place_is c.from c.to one' in
        sym (one_grown x (map kept c.ends) c.from (λ j d at. places c x is j d at ∙ ap (λ (k : ℕ). is_place c.from j || is_place k j) (sym same)
        ∙ or_twice (is_place c.from j)))
    by_place false two' =
        sym (two_grown x (map kept c.ends) c.from c.to
        (λ same. let yes' : is_place c.from c.to ≡ true = subst (λ (k : ℕ). is_place c.from k ≡ true) same (place_same c.from) in absurd (cc))
        (λ j d at. places c x is j d at))

pub carriage_next : (c : Carriage) (x : Entry) → IsEntryOf c x → (new : List EndLog) (longer : List Entry) → new ≡ carried_at c.from c.to x (map kept c.ends) →
    longer ≡ c.journal ++ x ∷ [] → IsNext c.settings c.faults (map kept c.ends) c.journal (Events.Carry c.end) x new longer
carriage_next c x is new longer ends more =
    record {
      tied = c.tied;
      in_range = c.in_range;
      runs = carriage_runs c;
      entry = carriage_entry c x is;
      ends = ends ∙ carriage_grows c x is;
      journal' = more;
    }

-- ---- what the two endpoints are handed

-- a declared endpoint lies in the direct network
lies_direct : (c : Carriage) (e : EndpointId) (s : State) → s ≡ state_of (layout_of c) c.journal e → declared (layout_of c) e ≡ true →
    is_direct s.head.place ≡ true
lies_direct c e s is known =
    ap (λ (st : State). is_direct st.head.place) is
    ∙ fits_network (layout_of c) c.journal c.tied.history e
    ∙ ap (λ (b : Bool). b && declared (layout_of c) e) c.direct
    ∙ known

less_of : (a b : ℕ) → nat_le a b ≡ false → b < a
less_of a b h = leb-false a b h

-- an endpoint that stands at a place after room was made is the one that stood there
same_kept : (vs us : List EndpointView) (k : ℕ) (one w : EndpointView) → map kept us ≡ map kept vs → slice_get vs k ≡ Some one → slice_get us k ≡ Some w →
    kept w ≡ kept one
same_kept vs us k one w same at now =
    let both : Some (kept w) ≡ Some (kept one) = sym (kept_at us k w now) ∙ ap (λ (es : List EndLog). slice_get es k) same ∙ kept_at vs k one at in
    cc

pub carriage_carries : (c : Carriage) (x : Entry) → IsEntryOf c x → (us : List EndpointView) → map kept us ≡ map kept c.ends → At us c.from IsReady →
    At us c.from (CarriesFrom x)
carriage_carries c x is us same ready w now =
    let as' = same_kept c.ends us c.from c.one w same c.source.at now in
    let own = own_here (layout_of c) c.ends c.journal c.end c.from c.one c.tied c.source in
    let set = ap (λ (e : EndLog). e.settings) as' in
    let state : state_after w ≡ state_after c.one = ap state_in as' in
    record {
      ready = ready w now;
      room =
          subst (λ (e : EndLog). length e.log < e.settings.log) (sym as')
          (let less = less_of c.settings.log (length c.one.log) c.source_room in let limit = own.limit in omega (arith, less, limit));
      carry =
          record {
            queued = c.queued;
            verdict_there = c.there;
            event = is.event ∙ ap (λ (e : EndpointId). Events.Carry e) (sym (ap (λ (z : EndSettings). z.id) set ∙ c.source.id));
            direct = lies_direct c c.end (state_after w) (state ∙ state_here (layout_of c) c.ends c.journal c.end c.from c.one c.tied c.source) c.in_range;
            is_front = ap front state ∙ c.is_front;
            outcome = is.outcome ∙ ap (λ (b : ℕ). judged b c.queued.message c.queued.bounces c.there) (sym (ap (λ (e : EndLog). e.settings.bounces) as'
                ∙ own.bounces));
            here = λ at_home.
                (let dest : w.settings.id ≡ c.queued.message.dest = same_end-is w.settings.id c.queued.message.dest at_home in
                let both : c.end ≡ c.queued.message.dest = sym (ap (λ (e : EndLog). e.settings.id) as' ∙ c.source.id) ∙ dest in
                verdict_there c
                ∙ ap (λ (e : EndpointId). verdict (state_of (layout_of c) c.journal e) c.queued.message) (sym both)
                ∙ ap (λ (st : State). verdict st c.queued.message) (sym (state
                ∙ state_here (layout_of c) c.ends c.journal c.end c.from c.one c.tied c.source)));
          };
    }

pub carriage_arrives : (c : Carriage) (x : Entry) → IsEntryOf c x → (us : List EndpointView) → map kept us ≡ map kept c.ends → At us c.to IsReady →
    is_place c.from c.to ≡ false → At us c.to (ArrivesAt x)
carriage_arrives c x is us same ready apart w now =
    let as' = same_kept c.ends us c.to c.two w same c.dest.at now in
    let own = own_here (layout_of c) c.ends c.journal c.queued.message.dest c.to c.two c.tied c.dest in
    let state : state_after w ≡ state_after c.two = ap state_in as' in
    let id : w.settings.id ≡ c.two.settings.id = ap (λ (e : EndLog). e.settings.id) as' in
    let came = judged_arrives c.end c.settings.bounces c.queued.message c.queued.bounces c.there in
    record {
      ready = ready w now;
      room =
          subst (λ (e : EndLog). length e.log < e.settings.log) (sym as')
          (let less = less_of c.settings.log (length c.two.log) c.dest_room in let limit = own.limit in omega (arith, less, limit));
      arrival =
          record {
            message = c.queued.message;
            is_message = (λ i. arrived_message (is.event i) (is.outcome i)) ∙ came.0;
            judged = (λ i. arrival_verdict (is.event i) (is.outcome i)) ∙ came.1 ∙ ap (λ (v : Verdict). Some v) (c.judged_there
                ∙ ap (λ (st : State). verdict st c.queued.message) (sym state));
            here = ap (λ (e : EndpointId). same_end e c.queued.message.dest) (id ∙ c.dest.id) ∙ same_end-refl c.queued.message.dest;
            network =
                ap (λ (e : Event). is_network_of e (state_after w).head.place) is.event
                ∙ lies_direct c c.queued.message.dest (state_after w) (state
                ∙ state_here (layout_of c) c.ends c.journal c.queued.message.dest c.to c.two c.tied c.dest)
                (front_addressed (layout_of c) c.journal c.tied.history c.end c.queued (front_there c)).dest;
            formed = c.formed;
            elsewhere =
                ap (λ (e : Event). is_carry_from w.settings.id e) is.event
                ∙ ap (λ (e : EndpointId). same_end e c.end) id
                ∙ only_here (layout_of c) c.ends c.journal c.end c.from c.one c.tied c.source c.to (kept c.two) (kept_at c.ends c.to c.two c.dest.at)
                ∙ apart;
          };
    }

-- ---- full logs

pub least_none : (a b : EndpointId) (p r : Bool) → least_full a p b r ≡ None → (p ≡ false) × (r ≡ false)
least_none a b true r h = absurd (cc)
least_none a b false true h = absurd (cc)
least_none a b false false h = (refl, refl)

-- ---- what was read

pub front_at : (layout : Layout) (vs : List EndpointView) (journal : List Entry) (e : EndpointId) (k : ℕ) (one : EndpointView) (f : Option Queued) →
    IsTied layout (map kept vs) journal → IsHere vs e k one → front (state_after one) ≡ f → front (state_of layout journal e) ≡ f
front_at layout vs journal e k one f tied here at = ap front (sym (state_here layout vs journal e k one tied here)) ∙ at

pub dest_declared : (layout : Layout) (journal : List Entry) (end : EndpointId) (q : Queued) {es : List EndLog} → IsTied layout es journal →
    front (state_of layout journal end) ≡ Some q → declared layout q.message.dest ≡ true
dest_declared layout journal end q tied at = (front_addressed layout journal tied.history end q at).dest
