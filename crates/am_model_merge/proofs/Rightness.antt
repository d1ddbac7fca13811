-- Each entry of a history is right by the logs that the history is made of.
use Rattle.std.specs.Prelude.{nat_le, nat_lt, not, slice_get, ◌↔◌}
use Rattle.std.specs.List.{filter, list_any, list_all}
use Rattle.std.proofs.Common.{◌≡◌, ℕ, ◌-◌, ◌<◌, ◌≤◌, Bool, true, false, cond, ◌||◌, ◌&&◌, List, [], ◌∷◌, ◌++◌, length, Option, Some, None, refl, sym, ap, ◌∙◌}
use Rattle.std.proofs.Common.{subst, arith, append_assoc, ltb-true, ltb-false, leb-true, eq-eqb}
use Rattle.std.proofs.lemmas.Bool.{and_parts}
use Rattle.am_lemmas.proofs.Lists.{slice_get-None, slice_get-append_left}
use Rattle.am_names.specs.Names.{same_end}
use Rattle.am_names.specs.declared.EndpointId.{EndpointId}
use Rattle.am_names.specs.declared.NodeId.{NodeId}
use Rattle.am_names.specs.declared.Packet.{Packet}
use Rattle.am_names.specs.declared.Packet.TheVariants as Packets
use Rattle.am_office_entries.specs.declared.Actor.{Actor}
use Rattle.am_office_entries.specs.declared.Call.{Call}
use Rattle.am_office_entries.specs.declared.Condition.{Condition}
use Rattle.am_office_entries.specs.declared.Condition.TheVariants as Needs
use Rattle.am_office_entries.specs.declared.Event.{Event}
use Rattle.am_office_entries.specs.declared.Event.TheVariants as Events
use Rattle.am_office_entries.specs.declared.Outcome.{Outcome}
use Rattle.am_office_entries.specs.declared.Entry.{Entry}
use Rattle.am_office_entries.specs.Entries.{ends_touched, is_node, node_touched, share_part, touches, touches_node}
use Rattle.am_model.specs.declared.Queued.{Queued}
use Rattle.am_model.specs.Endpoint.{State, front}
use Rattle.am_model.specs.Changes.{replay}
use Rattle.am_model.specs.Layout.{AllAre, IsLawful, Layout, opening}
use Rattle.am_model.specs.Channels.{emitted}
use Rattle.am_model.specs.Merge.{is_ordered}
use Rattle.am_model.specs.History.{EachAfter, IsHistory, MayFollow, failing, is_in_range, is_packet_before, is_taken_before, outcome_of, state_of}
use Rattle.am_model.specs.Packets.{stamp_of, from_of, number_of, restamped}
use Rattle.am_model.proofs.Each.{each_push}
use Rattle.am_model.proofs.Names.{same_end-first}
use Rattle.am_model_parts.specs.declared.work.Work.{Work}
use Rattle.am_model_parts.specs.declared.work.Work.TheVariants as Works
use Rattle.am_model_parts.specs.Asked.{IsThere, carry_at}
use Rattle.am_model_parts.specs.Driver.{DriverLog, end_moved}
use Rattle.am_model.specs.Parts.{driver_of, is_by_driver}
use Rattle.am_model_parts.specs.Interface.{InterfaceLog, event_of, needs, outcome_at}
use Rattle.am_model_parts.specs.Numbered.{IsPacketAt}
use Rattle.am_model_parts.specs.Together.{IsAt, IsDriverPart, IsPacketOf, IsPart, IsState, SaysTheSame, SaysTheSameOfCall, SaysTheSameOfCarry}
use Rattle.am_model_parts.specs.Together.{SaysTheSameOfMove, SaysTheSameOfWant, driver_in, interface_in}
use Rattle.am_model_parts.proofs.Asking.{call_local, carry_local, want_local}
use Rattle.am_model_parts.proofs.Growing.{emitted_append}
use Rattle.am_model_parts.proofs.Moves.{move_local}
use Rattle.am_model_parts.proofs.Numbering.{history_numbered, numbered_place}
use Rattle.am_model_parts.proofs.Outcomes.{work_local}
use Rattle.am_model_parts.proofs.Parts.{emitted_own}
use Rattle.am_model_parts.proofs.Settings.{driver_there, interface_there}
use Rattle.am_model_parts.proofs.Touched.{needs_touched}
use Rattle.am_model_merge.specs.Logs.{AreRising, MergesInto, logs_of}
use Rattle.am_model_merge.specs.Right.{ByCall, ByCarry, ByDriver, ByInterface, ByWant, IsMadeRight, IsRight, IsSentBefore, IsStateBefore, dest_of, state_before}
use Rattle.am_model_merge.proofs.Before.{part_before}
use Rattle.am_model_merge.proofs.History.{HasEnd, just_has, made_history, moved_has, reaches, work_node}

pub merges_own : (journal : List Entry) → is_ordered journal ≡ true → MergesInto (logs_of journal) journal
merges_own journal ordered =
    record { merged = record { ordered = ordered; of_ends = λ e. refl; of_nodes = λ n. refl }; of_drivers = λ n. refl }

-- an entry at its place in a history in whose logs stamps rise
pub record There (layout : Layout) (journal past : List Entry) (x : Entry) (rest : List Entry) : Type 0 where
  pub lawful : IsLawful layout
  pub whole : past ++ x ∷ rest ≡ journal
  pub rising : AreRising (logs_of journal)
  pub history : IsHistory layout past
  pub may : MayFollow layout past x

state_there : (layout : Layout) (journal past : List Entry) (x : Entry) (rest : List Entry) → There layout journal past x rest → (e : EndpointId) →
    touches e x ≡ true → state_before layout (logs_of journal) x.stamp e ≡ state_of layout past e
state_there layout journal past x rest t e is =
    ap (replay e (opening layout e)) (part_before (touches e) past x rest (filter (touches e) journal) is (ap (filter (touches e)) t.whole) (t.rising.ends e))

-- the state of the endpoint, if there is one
abbrev state_if : Layout → List Entry → Option EndpointId → State
state_if layout past None = state_of layout past (record { 0 = 0 })
state_if layout past (Some e) = state_of layout past e

is_state_if : (layout : Layout) (past : List Entry) (e : Option EndpointId) → IsState layout past (state_if layout past e) e
is_state_if layout past None = tt
is_state_if layout past (Some e) = refl

is_before_if : (layout : Layout) (journal past : List Entry) (x : Entry) (rest : List Entry) → There layout journal past x rest → (e : Option EndpointId) →
    HasEnd (ends_touched x.event x.outcome) e → IsStateBefore layout (logs_of journal) x.stamp (state_if layout past e) e
is_before_if layout journal past x rest t None has = tt
is_before_if layout journal past x rest t (Some e) has = sym (state_there layout journal past x rest t e has)

-- the network that an event needs
packet_only : (b : Bool) (rest : Option Condition) → cond b (Some Needs.NotPacket) rest ≡ None → b ≡ false
packet_only true rest h = absurd (cc)
packet_only false rest h = refl

direct_only : (b : Bool) (rest : Option Condition) → cond (not b) (Some Needs.NotDirect) rest ≡ None → b ≡ true
direct_only true rest h = refl
direct_only false rest h = absurd (cc)

-- ---- calls, wants and carries

call_right : (layout : Layout) (journal past : List Entry) (x : Entry) (rest : List Entry) → There layout journal past x rest →
    (actor : Actor) (end : EndpointId) (call : Call) → x.event ≡ Events.Call actor end call → IsMadeRight layout (logs_of journal) x
call_right layout journal past x rest t actor end call is =
    ByCall
    (record {
      actor = actor;
      end = end;
      call = call;
      event = is;
      enabled = sym same.failing ∙ ap (failing layout past) (sym is) ∙ t.may.enabled;
      outcome = t.may.outcome ∙ ap (outcome_of layout past) is ∙ same.outcome;
    })
  where
    s : State
    s = state_before layout (logs_of journal) x.stamp end

    same : SaysTheSameOfCall layout past actor end call s
    same =
        call_local layout past actor end call s
        (state_there layout journal past x rest t end (ap (λ (v : Event). list_any (same_end end) (ends_touched v x.outcome)) is ∙ same_end-first end []))

want_right : (layout : Layout) (journal past : List Entry) (x : Entry) (rest : List Entry) → There layout journal past x rest →
    (actor : Actor) (end : EndpointId) → x.event ≡ Events.Want actor end → IsMadeRight layout (logs_of journal) x
want_right layout journal past x rest t actor end is =
    ByWant
    (record {
      actor = actor;
      end = end;
      event = is;
      enabled = sym same.failing ∙ ap (failing layout past) (sym is) ∙ t.may.enabled;
      outcome = t.may.outcome ∙ ap (outcome_of layout past) is ∙ same.outcome;
    })
  where
    s : State
    s = state_before layout (logs_of journal) x.stamp end

    same : SaysTheSameOfWant layout past actor end s
    same =
        want_local layout past actor end s
        (state_there layout journal past x rest t end (ap (λ (v : Event). list_any (same_end end) (ends_touched v x.outcome)) is ∙ same_end-first end []))

carry_right : (layout : Layout) (journal past : List Entry) (x : Entry) (rest : List Entry) → There layout journal past x rest → (end : EndpointId) →
    x.event ≡ Events.Carry end → IsMadeRight layout (logs_of journal) x
carry_right layout journal past x rest t end is =
    ByCarry
    (record {
      end = end;
      there = there;
      direct = direct;
      event = is;
      enabled = sym same.failing ∙ ap (failing layout past) (sym is) ∙ t.may.enabled;
      dest = is_before_if layout journal past x rest t (dest_of (front s)) (has_dest (front s) there outcome);
      outcome = outcome;
    })
  where
    s : State
    s = state_before layout (logs_of journal) x.stamp end

    state : s ≡ state_of layout past end
    state = state_there layout journal past x rest t end (ap (λ (v : Event). list_any (same_end end) (ends_touched v x.outcome)) is ∙ same_end-first end _)

    there : State
    there = state_if layout past (dest_of (front s))

    direct : layout.direct ≡ true
    direct = direct_only layout.direct _ (subst (λ (v : Event). failing layout past v ≡ None) is t.may.enabled)

    is_there : (q : Option Queued) → IsThere layout past q (state_if layout past (dest_of q))
    is_there None = tt
    is_there (Some q) = refl

    same : SaysTheSameOfCarry layout past end s there
    same = carry_local layout past end s there direct state (is_there (front s))

    outcome : x.outcome ≡ carry_at layout.bounces (front s) there
    outcome = t.may.outcome ∙ ap (outcome_of layout past) is ∙ same.outcome

    has_dest : (q : Option Queued) (d : State) → x.outcome ≡ carry_at layout.bounces q d → HasEnd (ends_touched x.event x.outcome) (dest_of q)
    has_dest None d o = tt
    has_dest (Some q) d o = (λ k. list_any (same_end q.message.dest) (ends_touched (is k) (o k))) ∙ reaches layout.bounces end q d

-- ---- interfaces

work_right : (layout : Layout) (journal past : List Entry) (x : Entry) (rest : List Entry) → There layout journal past x rest → (node : NodeId) (w : Work) →
    layout.direct ≡ false → x.event ≡ event_of node w → IsPacketOf past node w → IsSentBefore (logs_of journal) node w x.stamp →
    IsMadeRight layout (logs_of journal) x
work_right layout journal past x rest t node w packet is emitted sent =
    ByInterface
    (record {
      i = i;
      s = s;
      w = w;
      settings = part.settings;
      log = sym (part_before (touches_node node) past x rest (filter (touches_node node) journal) touched (ap (filter (touches_node node)) t.whole)
          (t.rising.nodes node));
      state = is_before_if layout journal past x rest t (needs i w) has;
      packet = sent;
      event = is;
      enabled = sym same.failing ∙ ap (failing layout past) (sym is) ∙ t.may.enabled;
      outcome = outcome;
    })
  where
    i : InterfaceLog
    i = interface_in layout node past

    part : IsPart layout past i
    part = interface_there layout past node t.lawful packet

    s : State
    s = state_if layout past (needs i w)

    at : IsAt layout past i s w
    at = record { state = is_state_if layout past (needs i w); packet = emitted }

    same : SaysTheSame layout past i s w
    same = work_local layout past i s w part at

    outcome : x.outcome ≡ outcome_at i s w
    outcome = t.may.outcome ∙ ap (outcome_of layout past) is ∙ same.outcome

    touched : touches_node node x ≡ true
    touched = ap (λ (v : Event). is_node node (node_touched v)) is ∙ work_node node w

    has : HasEnd (ends_touched x.event x.outcome) (needs i w)
    has =
        subst (λ (v : Event). HasEnd (ends_touched v x.outcome) (needs i w)) (sym is)
        (subst (λ (o : Outcome). HasEnd (ends_touched (event_of node w) o) (needs i w)) (sym outcome)
        (just_has (ends_touched (event_of node w) (outcome_at i s w)) (needs i w) (needs_touched i s w)))

there_is : (b : Bool) (rest : Option Condition) → cond b (Some Needs.NoPacket) rest ≡ None → b ≡ false
there_is true rest h = absurd (cc)
there_is false rest h = refl

received : (node peer : NodeId) (number : ℕ) (p : Packet) → from_of p ≡ peer → number_of p ≡ number →
    Events.Receive node peer number ≡ event_of node (Works.Receive p)
received node peer number (Packets.Parcel p) from same = λ k. Events.Receive node (sym from k) (sym same k)
received node peer number (Packets.Answer p) from same = λ k. Events.Receive node (sym from k) (sym same k)

itself : (p : Packet) → restamped (stamp_of p) p ≡ p
itself (Packets.Parcel p) = refl
itself (Packets.Answer p) = refl

receive_right : (layout : Layout) (journal past : List Entry) (x : Entry) (rest : List Entry) → There layout journal past x rest →
    (node peer : NodeId) (number : ℕ) → x.event ≡ Events.Receive node peer number → IsMadeRight layout (logs_of journal) x
receive_right layout journal past x rest t node peer number is = by_packet (slice_get (emitted peer node past) (number - 1)) refl
  where
    on : failing layout past (Events.Receive node peer number) ≡ None
    on = subst (λ (v : Event). failing layout past v ≡ None) is t.may.enabled

    packet : layout.direct ≡ false
    packet = packet_only layout.direct _ on

    enough : nat_lt (length (emitted peer node past)) number ≡ false
    enough =
        there_is (nat_lt (length (emitted peer node past)) number) None
        (subst (λ (b : Bool). cond b (Some Needs.NotPacket) (cond (nat_lt (length (emitted peer node past)) number) (Some Needs.NoPacket) None) ≡ None) packet
        on)

    counted : 1 ≤ number
    counted = leb-true 1 number (by_range (subst (λ (v : Event). is_in_range layout v ≡ true) is t.may.in_range))
      where
        by_range : is_in_range layout (Events.Receive node peer number) ≡ true → nat_le 1 number ≡ true
        by_range h = (and_parts (nat_lt node.0 layout.nodes && nat_lt peer.0 layout.nodes) (nat_le 1 number)
            ((and_parts (nat_lt node.0 layout.nodes && nat_lt peer.0 layout.nodes && nat_le 1 number) _ h).0)).1

    in_hand : (p : Packet) → slice_get (emitted peer node past) (number - 1) ≡ Some p → IsMadeRight layout (logs_of journal) x
    in_hand p got =
        work_right layout journal past x rest t node (Works.Receive p) packet (is ∙ received node peer number p place.from number_is)
        (record { stamp = stamp_of p; emitted = here; earlier = omega arith })
        (record { stamp = stamp_of p; emitted = sent; earlier = omega arith; later = later })
      where
        place : IsPacketAt peer node (number - 1) p
        place = numbered_place past (history_numbered layout past t.history) peer node (number - 1) p got

        number_is : number_of p ≡ number
        number_is = omega (arith, place.number, counted)

        here : slice_get (emitted (from_of p) node past) (number_of p - 1) ≡ Some (restamped (stamp_of p) p)
        here = (λ k. slice_get (emitted (place.from k) node past) (number_is k - 1)) ∙ got ∙ ap Some (sym (itself p))

        sent : slice_get (emitted (from_of p) node (filter (touches_node (from_of p)) journal)) (number_of p - 1) ≡ Some (restamped (stamp_of p) p)
        sent =
            ap (λ (ps : List Packet). slice_get ps (number_of p - 1))
            (emitted_own (from_of p) node journal ∙ ap (emitted (from_of p) node) (sym t.whole) ∙ emitted_append (from_of p) node past (x ∷ rest))
            ∙ slice_get-append_left (emitted (from_of p) node past) (emitted (from_of p) node (x ∷ rest)) (number_of p - 1) (restamped (stamp_of p) p) here

        later : stamp_of p < x.stamp
        later =
            ltb-true (stamp_of p) x.stamp
            (sym (ap (is_packet_before x.stamp) got)
            ∙ ap (is_taken_before x.stamp past) (sym is)
            ∙ (and_parts (list_all (λ (y : Entry). not (share_part x y) || nat_lt y.stamp x.stamp) past) (is_taken_before x.stamp past x.event) t.may.later).1)

    by_packet : (p : Option Packet) → slice_get (emitted peer node past) (number - 1) ≡ p → IsMadeRight layout (logs_of journal) x
    by_packet None got = absurd (omega (
      arith,
      counted,
      slice_get-None (emitted peer node past) (number - 1) got,
      ltb-false (length (emitted peer node past)) number enough,
    ))
    by_packet (Some p) got = in_hand p got

-- ---- drivers

move_right : (layout : Layout) (journal past : List Entry) (x : Entry) (rest : List Entry) → There layout journal past x rest → (node : NodeId) →
    layout.direct ≡ false → driver_of x.event ≡ Some node → IsMadeRight layout (logs_of journal) x
move_right layout journal past x rest t node packet by =
    ByDriver
    (record {
      d = d;
      s = s;
      settings = part.settings;
      log = sym (part_before (is_by_driver node) past x rest (filter (is_by_driver node) journal) made (ap (filter (is_by_driver node)) t.whole)
          (t.rising.drivers node));
      state = is_before_if layout journal past x rest t (end_moved x.event) (moved_has x.event x.outcome);
      driver = by;
      enabled = sym same.failing ∙ t.may.enabled;
      outcome = t.may.outcome ∙ same.outcome;
    })
  where
    d : DriverLog
    d = driver_in layout node past

    part : IsDriverPart layout past d
    part = driver_there layout past node t.lawful packet

    s : State
    s = state_if layout past (end_moved x.event)

    made : is_by_driver node x ≡ true
    made = ap (is_node node) by ∙ eq-eqb node.0 node.0 refl

    same : SaysTheSameOfMove layout past d s x.event
    same = move_local layout past d s x.event t.history part by (is_state_if layout past (end_moved x.event))

-- ---- the whole journal

made_right : (layout : Layout) (journal past : List Entry) (x : Entry) (rest : List Entry) → There layout journal past x rest →
    IsMadeRight layout (logs_of journal) x
made_right layout journal past x rest t = by_event x.event refl t.may.enabled
  where
    by_event : (v : Event) → x.event ≡ v → failing layout past v ≡ None → IsMadeRight layout (logs_of journal) x
    by_event (Events.Call actor end call) is on = call_right layout journal past x rest t actor end call is
    by_event (Events.Want actor end) is on = want_right layout journal past x rest t actor end is
    by_event (Events.Carry end) is on = carry_right layout journal past x rest t end is
    by_event (Events.Bind node end) is on = work_right layout journal past x rest t node (Works.Bind end) (packet_only layout.direct _ on) is tt tt
    by_event (Events.Expire node peer channel) is on = work_right layout journal past x rest t node (Works.Expire peer channel) (packet_only layout.direct _ on)
        is tt tt
    by_event (Events.Receive node peer number) is on = receive_right layout journal past x rest t node peer number is
    by_event (Events.Drain node end) is on = move_right layout journal past x rest t node (packet_only layout.direct _ on) (ap driver_of is)
    by_event (Events.Unload node end) is on = move_right layout journal past x rest t node (packet_only layout.direct _ on) (ap driver_of is)
    by_event (Events.Load node end frame) is on = move_right layout journal past x rest t node (packet_only layout.direct _ on) (ap driver_of is)
    by_event (Events.PageOut node end) is on = move_right layout journal past x rest t node (packet_only layout.direct _ on) (ap driver_of is)
    by_event (Events.PageIn node end) is on = move_right layout journal past x rest t node (packet_only layout.direct _ on) (ap driver_of is)

right_from : (layout : Layout) (journal past rest : List Entry) → IsLawful layout → past ++ rest ≡ journal → AreRising (logs_of journal) →
    IsHistory layout past → EachAfter (MayFollow layout) past rest → AllAre (IsRight layout (logs_of journal)) rest
right_from layout journal past [] lawful whole rising history each = tt
right_from layout journal past (x ∷ rest) lawful whole rising history each = (
  record {
    in_range = each.0.in_range;
    right = made_right layout journal past x rest (record { lawful = lawful; whole = whole; rising = rising; history = history; may = each.0 });
  },
  right_from layout journal (past ++ x ∷ []) rest lawful (append_assoc past (x ∷ []) rest
      ∙ whole) rising (each_push (MayFollow layout) [] past x history each.0) each.1,
)

pub right_exactly : (layout : Layout) (journal : List Entry) → IsLawful layout → is_ordered journal ≡ true → AreRising (logs_of journal) →
    (IsHistory layout journal ↔ AllAre (IsRight layout (logs_of journal)) journal)
right_exactly layout journal lawful ordered rising = (
  (λ history. right_from layout journal [] journal lawful refl rising tt history),
  (λ right. made_history layout (logs_of journal) journal (merges_own journal ordered) rising right),
)
