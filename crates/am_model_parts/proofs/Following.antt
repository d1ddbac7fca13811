-- One entry more: the parts of the journal after it, and that what a part finds by its own log may come next.
use Rattle.std.specs.Prelude.{nat_lt, not, slice_get}
use Rattle.std.specs.List.{filter, list_all}
use Rattle.std.proofs.Common.{◌≡◌, ⊎_elim, ℕ, ◌-◌, ◌<◌, Bool, true, false, cond, ◌||◌, ◌&&◌, List, [], ◌∷◌, ◌++◌, Option, Some, None, refl, sym, ap, ◌∙◌, arith}
use Rattle.std.proofs.Common.{lt-ltb}
use Rattle.std.proofs.lemmas.List.{append-nil}
use Rattle.std.proofs.lemmas.List.Elements.{filter-append}
use Rattle.am_names.specs.declared.EndpointId.{EndpointId}
use Rattle.am_names.specs.declared.NodeId.{NodeId}
use Rattle.am_names.specs.declared.Packet.{Packet}
use Rattle.am_office_entries.specs.declared.Actor.{Actor}
use Rattle.am_office_entries.specs.declared.Call.{Call}
use Rattle.am_office_entries.specs.declared.Event.{Event}
use Rattle.am_office_entries.specs.declared.Event.TheVariants as Events
use Rattle.am_office_entries.specs.declared.Received.{Received}
use Rattle.am_office_entries.specs.declared.Received.TheVariants as Got
use Rattle.am_office_entries.specs.declared.Outcome.{Outcome}
use Rattle.am_office_entries.specs.declared.Outcome.TheVariants as Out
use Rattle.am_office_entries.specs.declared.Entry.{Entry}
use Rattle.am_office_entries.specs.Entries.{answer_by, answer_packet, emitted_in, parcel, share_part, touches, touches_node}
use Rattle.am_model.specs.Endpoint.{State, entry_at, front}
use Rattle.am_model.specs.Calls.{outcome_of_call}
use Rattle.am_model.specs.Layout.{AllAre, Layout}
use Rattle.am_model.specs.Channels.{emitted}
use Rattle.am_model.specs.History.{IsHistory, MayFollow, failing, is_in_range, is_later, is_packet_before, is_taken_before, outcome_of, state_of}
use Rattle.am_model.specs.Packets.{stamp_of}
use Rattle.am_model.proofs.Ends.{EmittedIn, was_emitted}
use Rattle.am_model_parts.specs.declared.work.Work.{Work}
use Rattle.am_model_parts.specs.Asked.{IsThere, carry_at, failing_call, failing_carry, failing_want}
use Rattle.am_model_parts.specs.Driver.{DriverLog, DriverSettings, end_moved, failing_move, outcome_move}
use Rattle.am_model.specs.Parts.{driver_of, is_by_driver}
use Rattle.am_model.proofs.Stamps.{later_than_all}
use Rattle.am_model_parts.specs.Follows.{IsNext, PartsGrow}
use Rattle.am_model_parts.specs.Interface.{InterfaceLog, InterfaceSettings, event_of, failing_at, outcome_at}
use Rattle.am_model_parts.specs.Readings.{with_entry}
use Rattle.am_model_parts.specs.Together.{IsAt, IsDriverPart, IsDriverSet, IsPart, IsSet, IsState, SaysTheSame, SaysTheSameOfCall, SaysTheSameOfCarry}
use Rattle.am_model_parts.specs.Together.{SaysTheSameOfMove, SaysTheSameOfWant, ends_of, faults_of}
use Rattle.am_model_parts.proofs.Asking.{call_local, carry_local, want_local}
use Rattle.am_model_parts.proofs.Moves.{move_local}
use Rattle.am_model_parts.proofs.Outcomes.{work_local}

-- ---- the parts

filter_push : (q : Entry → Bool) (xs : List Entry) (x : Entry) → with_entry (q x) x (filter q xs) ≡ filter q (xs ++ x ∷ [])
filter_push q xs x = by_test (q x) ∙ sym (filter-append q xs (x ∷ []))
  where
    by_test : (b : Bool) → with_entry b x (filter q xs) ≡ filter q xs ++ cond b (x ∷ []) []
    by_test true = refl
    by_test false = sym (append-nil (filter q xs))

-- another log leaves the settings
interface_set : (layout : Layout) (i j : InterfaceLog) → j.settings ≡ i.settings → IsSet layout i → IsSet layout j
interface_set layout i j same h =
    record {
      packet = h.packet;
      once = h.once;
      channels = ap (λ (s : InterfaceSettings). s.channels) same ∙ h.channels;
      tries = ap (λ (s : InterfaceSettings). s.tries) same ∙ h.tries;
      bounces = ap (λ (s : InterfaceSettings). s.bounces) same ∙ h.bounces;
      homes = λ e. ap (λ (s : InterfaceSettings). entry_at s.homes e.0) same ∙ h.homes e;
    }

driver_set : (layout : Layout) (d c : DriverLog) → c.settings ≡ d.settings → IsDriverSet layout d → IsDriverSet layout c
driver_set layout d c same h =
    record {
      packet = h.packet;
      once = h.once;
      ends = ap (λ (s : DriverSettings). s.ends) same ∙ h.ends ∙ ap (λ (s : DriverSettings). ends_of layout s.node) (sym same);
      faults = ap (λ (s : DriverSettings). s.faults) same ∙ h.faults ∙ ap (λ (s : DriverSettings). faults_of layout s.node) (sym same);
    }

pub parts_push : (layout : Layout) (past : List Entry) (x : Entry) → PartsGrow layout past x
parts_push layout past x =
    record {
      interfaces =
          λ i part.
          record {
            settings = interface_set layout i (record i { log = with_entry (touches_node i.settings.node x) x i.log }) refl part.settings;
            log = ap (with_entry (touches_node i.settings.node x) x) part.log ∙ filter_push (touches_node i.settings.node) past x;
          };
      drivers =
          λ d part.
          record {
            settings = driver_set layout d (record d { log = with_entry (is_by_driver d.settings.node x) x d.log }) refl part.settings;
            log = ap (with_entry (is_by_driver d.settings.node x) x) part.log ∙ filter_push (is_by_driver d.settings.node) past x;
          };
      ends = λ e log is. ap (with_entry (touches e x) x) is ∙ filter_push (touches e) past x;
    }

-- ---- what may come next

next_follows : (layout : Layout) (past : List Entry) (event : Event) (x : Entry) → IsNext layout past event x → failing layout past event ≡ None →
    x.outcome ≡ outcome_of layout past event → MayFollow layout past x
next_follows layout past event x next on outcome =
    record {
      in_range = ap (is_in_range layout) next.event ∙ next.in_range;
      enabled = ap (failing layout past) next.event ∙ on;
      outcome = outcome ∙ ap (outcome_of layout past) (sym next.event);
      later = later_than_all past x next.above;
    }

pub work_next : (layout : Layout) (past : List Entry) (i : InterfaceLog) (s : State) (w : Work) (x : Entry) → IsPart layout past i → IsAt layout past i s w →
    IsNext layout past (event_of i.settings.node w) x → failing_at i s w ≡ None → x.outcome ≡ outcome_at i s w → MayFollow layout past x
work_next layout past i s w x part at next on outcome =
    let same : SaysTheSame layout past i s w = work_local layout past i s w part at in
    next_follows layout past (event_of i.settings.node w) x next (same.failing ∙ on) (outcome ∙ sym same.outcome)

pub move_next : (layout : Layout) (past : List Entry) (d : DriverLog) (s : State) (event : Event) (x : Entry) → IsHistory layout past →
    IsDriverPart layout past d → driver_of event ≡ Some d.settings.node → IsState layout past s (end_moved event) → IsNext layout past event x →
    failing_move d s event ≡ None → x.outcome ≡ outcome_move d event → MayFollow layout past x
move_next layout past d s event x history part by state next on outcome =
    let same : SaysTheSameOfMove layout past d s event = move_local layout past d s event history part by state in
    next_follows layout past event x next (same.failing ∙ on) (outcome ∙ sym same.outcome)

pub call_next : (layout : Layout) (past : List Entry) (actor : Actor) (e : EndpointId) (call : Call) (s : State) (x : Entry) → s ≡ state_of layout past e →
    IsNext layout past (Events.Call actor e call) x → failing_call s ≡ None → x.outcome ≡ outcome_of_call layout.pool e s call → MayFollow layout past x
call_next layout past actor e call s x at next on outcome =
    let same : SaysTheSameOfCall layout past actor e call s = call_local layout past actor e call s at in
    next_follows layout past (Events.Call actor e call) x next (same.failing ∙ on) (outcome ∙ sym same.outcome)

pub want_next : (layout : Layout) (past : List Entry) (actor : Actor) (e : EndpointId) (s : State) (x : Entry) → s ≡ state_of layout past e →
    IsNext layout past (Events.Want actor e) x → failing_want s ≡ None → x.outcome ≡ Out.Silent → MayFollow layout past x
want_next layout past actor e s x at next on outcome =
    let same : SaysTheSameOfWant layout past actor e s = want_local layout past actor e s at in
    next_follows layout past (Events.Want actor e) x next (same.failing ∙ on) (outcome ∙ sym same.outcome)

pub carry_next : (layout : Layout) (past : List Entry) (e : EndpointId) (s there : State) (x : Entry) → layout.direct ≡ true → s ≡ state_of layout past e →
    IsThere layout past (front s) there → IsNext layout past (Events.Carry e) x → failing_carry s ≡ None → x.outcome ≡ carry_at layout.bounces (front s) there →
    MayFollow layout past x
carry_next layout past e s there x direct at dest next on outcome =
    let same : SaysTheSameOfCarry layout past e s there = carry_local layout past e s there direct at dest in
    next_follows layout past (Events.Carry e) x next (same.failing ∙ on) (outcome ∙ sym same.outcome)
