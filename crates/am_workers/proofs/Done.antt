-- A turn that did its work keeps what the interface works by.
use Rattle.std.specs.Prelude.{is_some}
use Rattle.std.proofs.Common.{◌≡◌, ℕ, ◌+◌, ◌^◌, ◌<◌, ◌≤◌, max, List, [], ◌∷◌, ◌++◌, None, sym, refl, ap, ◌∙◌, subst, arith, append-nil}
use Rattle.std.specs.List.{Contains, filter}
use Rattle.std.specs.Option.{option_to_list}
use Rattle.std.proofs.lemmas.List.Elements.{Contains-append_right}
use Rattle.am_names.specs.declared.EndpointId.{EndpointId}
use Rattle.am_names.specs.declared.NodeId.{NodeId}
use Rattle.am_names.specs.declared.Packet.{Packet}
use Rattle.am_office_entries.specs.declared.Event.{Event}
use Rattle.am_office_entries.specs.declared.Entry.{Entry}
use Rattle.am_office_entries.specs.Entries.{ends_touched}
use Rattle.am_endpoint.specs.View.{state_by}
use Rattle.am_model.specs.Changes.{replay}
use Rattle.am_model.specs.Parts.{last_stamp}
use Rattle.am_model.specs.Endpoint.{State}
use Rattle.am_model.specs.History.{is_in_range}
use Rattle.am_model.specs.Packets.{stamp_of, from_of}
use Rattle.am_model.specs.Layout.{opening}
use Rattle.am_model_parts.specs.Interface.{InterfaceLog, event_of, failing_at, needs, outcome_at}
use Rattle.am_model_parts.specs.declared.work.Work.{Work}
use Rattle.am_model_parts.specs.declared.work.Work.TheVariants as Works
use Rattle.am_model_parts.proofs.Outcomes.{received_event}
use Rattle.am_iface.specs.Turns.{stamp_after}
use Rattle.am_iface.specs.View.{InterfaceView, own}
use Rattle.am_workers_laws.specs.Phases.Crew.{AreReceipts, is_last_by, is_receipt}
use Rattle.am_workers_laws.specs.Phases.Then.{IsFound}
use Rattle.am_places.specs.Rule.{Begins, joined}
use Rattle.am_scenario_types.specs.Lists.{ScenarioLists}
use Rattle.am_model_scripts.specs.Layout.{layout_of}
use Rattle.am_model_scripts.specs.Links.{number_received}
use Rattle.am_workers_laws.specs.Invariants.Seats.{EndPass, Ids}
use Rattle.am_workers.specs.Turns.Servers.{HandHolds, HandMoves, IfMade, hand_after}
use Rattle.am_workers.proofs.Ranged.{IsServer}
use Rattle.am_workers.specs.Turns.Turns.{AddsNothing, Alone, IsDone, IsWork, With, WorkTurns}
use Rattle.am_workers.specs.declared.turns.turns.InterfaceTurn.{InterfaceTurn}
use Rattle.am_workers.specs.declared.turns.turns.InterfaceTurn.TheVariants as Worked
use Rattle.am_iface.specs.declared.Turned.{Turned}
use Rattle.am_workers_laws.specs.Invariants.Works.{AreSeen, Hand, IsGot, held_from}
use Rattle.am_workers.proofs.Receiving.{LastFree, alone_free, held_is, not_last, receipts_more, receipts_same, rises_by, touches_none, touches_one}
use Rattle.am_workers.proofs.Receiving.{with_free}
use Rattle.am_workers.proofs.Serving.{IsNext, Serves, alone_keeps, nothing_keeps, with_keeps}
use Rattle.am_workers.proofs.TurnsTaken.{stands}

abbrev pub Touched : Type 0
Touched = (i : InterfaceLog) (s : State) (w : Work) → ends_touched (event_of i.settings.node w) (outcome_at i s w) ≡ option_to_list (needs i w)

-- what was received of each link after the work
abbrev pub got_after : Hand → Work → (NodeId → List Packet) → NodeId → List Packet
got_after hand (Works.Receive p) got from = got from ++ held_from from hand
got_after hand (Works.Bind end) got from = got from
got_after hand (Works.Expire peer channel) got from = got from

got_more : (hand : Hand) (w : Work) (got : NodeId → List Packet) (from : NodeId) → Begins (got_after hand w got from) (got from)
got_more hand (Works.Receive p) got from = (held_from from hand, refl)
got_more hand (Works.Bind end) got from = ([], sym (append-nil (got from)))
got_more hand (Works.Expire peer channel) got from = ([], sym (append-nil (got from)))

packet_below : (floor l n stamp : ℕ) → stamp ≡ 1 + max (max floor l) n → n < stamp
packet_below floor l n stamp is = omega arith

receipts_after : (node : NodeId) (log : List Entry) (hand hand' : Hand) (w : Work) (got : NodeId → List Packet) (x : Entry) (floor : ℕ) →
    HandMoves hand hand' w → x.event ≡ event_of node w → x.stamp ≡ stamp_after floor log w →
    ((from : NodeId) → AreReceipts from node (got from) (filter (is_receipt from node) log))
    → (from : NodeId) → AreReceipts from node (got_after hand w got from) (filter (is_receipt from node) (log ++ x ∷ []))
receipts_after node log hand hand' (Works.Receive p) got x floor moves event stamped h from =
    subst (λ (z : Hand). AreReceipts from node (got from ++ held_from from z) (filter (is_receipt from node) (log ++ x ∷ []))) (sym moves.0)
    (receipts_more from node (from_of p) p x (got from) log (h from) (event
    ∙ received_event node p) (packet_below floor (last_stamp log) (stamp_of p) x.stamp stamped))
receipts_after node log hand hand' (Works.Bind end) got x floor moves event stamped h from =
    receipts_same from node x (got from) log (ap (λ (ev : Event). is_some (number_received from node ev)) event) (h from)
receipts_after node log hand hand' (Works.Expire peer channel) got x floor moves event stamped h from =
    receipts_same from node x (got from) log (ap (λ (ev : Event). is_some (number_received from node ev)) event) (h from)

moved_hand : (hand hand' : Hand) (w : Work) (got taken : NodeId → List Packet) → HandMoves hand hand' w →
    ((from : NodeId) → taken from ≡ got from ++ held_from from hand) → (from : NodeId) → taken from ≡ got_after hand w got from ++ held_from from hand'
moved_hand hand hand' (Works.Receive p) got taken moves h from = h from ∙ sym (append-nil (got from ++ held_from from hand))
    ∙ ap (λ (z : Hand). (got from ++ held_from from hand) ++ held_from from z) (sym moves.1)
moved_hand hand hand' (Works.Bind end) got taken moves h from = h from ∙ ap (λ (z : Hand). got from ++ held_from from z) (sym moves)
moved_hand hand hand' (Works.Expire peer channel) got taken moves h from = h from ∙ ap (λ (z : Hand). got from ++ held_from from z) (sym moves)

is_got : (log : List Entry) (hand hand' : Hand) (w : Work) (got : NodeId → List Packet) (x : Entry) (floor : ℕ) → HandMoves hand hand' w →
    x.stamp ≡ stamp_after floor log w → IsGot (got_after hand w got) w x.stamp
is_got log hand hand' (Works.Receive p) got x floor moves stamped = (
  from_of p,
  Contains-append_right (got (from_of p)) (held_from (from_of p) hand) p (subst (λ (ps : List Packet). Contains ps p) (sym (ap (held_from (from_of p)) moves.0
      ∙ held_is (from_of p) p)) (0, omega arith, refl)),
  packet_below floor (last_stamp log) (stamp_of p) x.stamp stamped,
)
is_got log hand hand' (Works.Bind end) got x floor moves stamped = tt
is_got log hand hand' (Works.Expire peer channel) got x floor moves stamped = tt

next_of : (s : ScenarioLists) (ids : Ids) (turns : ℕ) (i : InterfaceView) (taken : NodeId →
    List Packet) (hand hand' : Hand) (w : Work) (x : Entry) (v u : EndPass) (state : State) (floor : ℕ) → IsServer s i w → HandMoves hand hand' w →
    (t : Serves s ids i.settings.node turns i.log taken hand v)
    → x.event ≡ event_of i.settings.node w → x.outcome ≡ outcome_at (own i) state w → x.stamp ≡ stamp_after floor i.log w → x.stamp ≤ 2 ^ 63 →
    failing_at (own i) state w ≡ None → LastFree i state w
    → ((logs : EndpointId → List Entry) → AreSeen ids u logs → IsFound (layout_of s) logs x state (needs (own i) w)) →
    IsNext s ids i.settings.node i.log t.got (got_after hand w t.got) taken hand' x u
next_of s ids turns i taken hand hand' w x v u state floor server moves t event outcome stamped low enabled free found =
    record {
      rising = rises_by i.log x floor w t.rising stamped;
      low = low;
      ranged = ap (λ (ev : Event). is_in_range (layout_of s) ev) event ∙ server.ranged;
      more = got_more hand w t.got;
      receipts = receipts_after i.settings.node i.log hand hand' w t.got x floor moves event stamped t.receipts;
      in_hand = moved_hand hand hand' w t.got taken moves t.in_hand;
      right = λ logs seen. record {
        i = own i;
        state = state;
        w = w;
        here = refl;
        settings = server.set;
        past = ([], refl);
        found = found logs seen;
        packet = is_got i.log hand hand' w t.got x floor moves stamped;
        event = event;
        enabled = enabled;
        outcome = outcome;
        not_last = (λ k. is_last_by s (λ (e : EndpointId). state) (event k) (outcome k))
            ∙ not_last s i state w server.tries server.set.tries server.set.bounces free;
      };
    }

pub done_keeps : (s : ScenarioLists) (ids : Ids) (turns : ℕ) (i j : InterfaceView) (taken : NodeId →
    List Packet) (hand hand' : Hand) (w : Work) (x : Entry) (v u : EndPass) → Touched → IsServer s i w → HandMoves hand hand' w
    → Serves s ids i.settings.node turns i.log taken hand v → IsDone w i j v u x → Serves s ids i.settings.node (turns + 1) j.log taken hand' u
done_keeps s ids turns i j taken hand hand' w x v u told server moves t (Alone same h) =
    let state : State = opening (layout_of s) (record { 0 = 0 }) in
    subst (λ (z : EndPass). Serves s ids i.settings.node (turns + 1) j.log taken hand' z) (sym same)
    (subst (λ (k : InterfaceView). Serves s ids i.settings.node (turns + 1) k.log taken hand' v) (sym h.logged)
    (alone_keeps s ids i.settings.node turns i.log taken hand hand' x v (got_after hand w t.got)
    (touches_none (own i) state w x (told (own i) state w) h.event (h.outcome state) h.needed) t
    (next_of s ids turns i taken hand hand' w x v v state 0 server moves t h.event (h.outcome state) h.stamped h.low (h.enabled state)
    (alone_free i state w h.needed h.tries)
    (λ logs seen. subst (IsFound (layout_of s) logs x state) (sym h.needed) tt))))
done_keeps s ids turns i j taken hand hand' w x v u told server moves t (With k h) =
    let state : State = state_by h.set (joined h.log) in let y : IsWork w i j h.set (joined h.log) x = h.why in
    subst (λ (z : InterfaceView). Serves s ids i.settings.node (turns + 1) z.log taken hand' u) (sym y.logged)
    (with_keeps s ids i.settings.node turns i.log taken hand hand' x k h.set h.place h.log v u (got_after hand w t.got)
    (touches_one (own i) state w x h.set.id (told (own i) state w) y.event y.outcome y.needed) h.stays t
    (next_of s ids turns i taken hand hand' w x v u state _ server moves t y.event y.outcome y.stamped y.low y.enabled (with_free i state w y.bounces)
    (λ logs seen. subst (IsFound (layout_of s) logs x state) (sym y.needed) (
      joined h.log,
      stands ids k h.set h.place h.log x i.log v u logs t.knows h.stays seen,
      ap (λ (st : State). replay h.set.id st (joined h.log)) (t.born k h.set h.stays.born).opens,
    ))))

-- ---- any turn

moves_of : (hand : Hand) (w : Work) (t : Turned) → HandHolds hand w → HandMoves hand (hand_after hand w (Worked.Made t)) w
moves_of hand (Works.Receive p) t holds = (holds, refl)
moves_of hand (Works.Bind end) t holds = refl
moves_of hand (Works.Expire peer channel) t holds = refl

stays_in_hand : (s : ScenarioLists) (ids : Ids) (turns : ℕ) (i j : InterfaceView) (taken : NodeId → List Packet) (hand hand' : Hand) (v u : EndPass) →
    Serves s ids i.settings.node turns i.log taken hand v → AddsNothing v u → j ≡ i → hand' ≡ hand
    → Serves s ids i.settings.node (turns + 1) j.log taken hand' u
stays_in_hand s ids turns i j taken hand hand' v u t h same held =
    subst (λ (k : InterfaceView). Serves s ids i.settings.node (turns + 1) k.log taken hand' u) (sym same)
    (subst (λ (z : Hand). Serves s ids i.settings.node (turns + 1) i.log taken z u) (sym held)
    (nothing_keeps s ids i.settings.node turns i.log taken hand v u h t))

held_busy : (hand : Hand) (w : Work) (holder : ℕ) → hand_after hand w (Worked.Busy holder) ≡ hand
held_busy hand (Works.Receive p) holder = refl
held_busy hand (Works.Bind end) holder = refl
held_busy hand (Works.Expire peer channel) holder = refl

held_not_yet : (hand : Hand) (w : Work) → hand_after hand w Worked.NotYet ≡ hand
held_not_yet hand (Works.Receive p) = refl
held_not_yet hand (Works.Bind end) = refl
held_not_yet hand (Works.Expire peer channel) = refl

held_full : (hand : Hand) (w : Work) → hand_after hand w Worked.Full ≡ hand
held_full hand (Works.Receive p) = refl
held_full hand (Works.Bind end) = refl
held_full hand (Works.Expire peer channel) = refl

held_no_memory : (hand : Hand) (w : Work) → hand_after hand w Worked.NoMemory ≡ hand
held_no_memory hand (Works.Receive p) = refl
held_no_memory hand (Works.Bind end) = refl
held_no_memory hand (Works.Expire peer channel) = refl

pub turn_keeps : (s : ScenarioLists) (ids : Ids) (turns : ℕ) (i j : InterfaceView) (taken : NodeId →
    List Packet) (hand : Hand) (w : Work) (turn : InterfaceTurn) (v u : EndPass) → Touched → IfMade turn (IsServer s i w) → HandHolds hand w
    → Serves s ids i.settings.node turns i.log taken hand v → WorkTurns w i j v u turn →
    Serves s ids i.settings.node (turns + 1) j.log taken (hand_after hand w turn) u
turn_keeps s ids turns i j taken hand w (Worked.Made x) v u told server holds t h =
    done_keeps s ids turns i j taken hand (hand_after hand w (Worked.Made x)) w x.entry v u told server (moves_of hand w x holds) t h.0
turn_keeps s ids turns i j taken hand w (Worked.Busy holder) v u told server holds t h =
    stays_in_hand s ids turns i j taken hand (hand_after hand w (Worked.Busy holder)) v u t h.0 h.1 (held_busy hand w holder)
turn_keeps s ids turns i j taken hand w Worked.NotYet v u told server holds t h =
    stays_in_hand s ids turns i j taken hand (hand_after hand w Worked.NotYet) v u t h.0 h.1 (held_not_yet hand w)
turn_keeps s ids turns i j taken hand w Worked.Full v u told server holds t h =
    stays_in_hand s ids turns i j taken hand (hand_after hand w Worked.Full) v u t h.0 h.1 (held_full hand w)
turn_keeps s ids turns i j taken hand w Worked.NoMemory v u told server holds t h =
    stays_in_hand s ids turns i j taken hand (hand_after hand w Worked.NoMemory) v u t h.0 h.1 (held_no_memory hand w)
