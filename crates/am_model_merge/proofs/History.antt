-- A journal that the logs of all parts merge into is a history, where each entry is right by its own logs.
use Rattle.std.specs.Prelude.{slice_get, nat_lt, option_to_list, ◌+◌}
use Rattle.std.specs.List.{filter, list_any, list_all}
use Rattle.std.proofs.Common.{◌≡◌, ⊎_elim, ℕ, ◌-◌, ◌<◌, Bool, true, false, ◌&&◌, List, [], ◌∷◌, ◌++◌, Option, Some, None, refl, sym, ap, ◌∙◌, subst, arith}
use Rattle.std.proofs.Common.{append_assoc, lt-ltb, eq-eqb, if◌then◌else◌}
use Rattle.std.proofs.lemmas.Bool.{and_parts, or_right}
use Rattle.am_names.specs.Rules.{is_transient}
use Rattle.am_names.specs.Names.{same_end}
use Rattle.am_names.specs.declared.EndpointId.{EndpointId}
use Rattle.am_names.specs.declared.NodeId.{NodeId}
use Rattle.am_names.specs.declared.Packet.{Packet}
use Rattle.am_names.specs.declared.Packet.TheVariants as Packets
use Rattle.am_names.specs.declared.Verdict.{Verdict}
use Rattle.am_names.specs.declared.Verdict.TheVariants as Verdicts
use Rattle.am_office_entries.specs.declared.Event.{Event}
use Rattle.am_office_entries.specs.declared.Event.TheVariants as Events
use Rattle.am_office_entries.specs.declared.Outcome.{Outcome}
use Rattle.am_office_entries.specs.declared.Outcome.TheVariants as Out
use Rattle.am_office_entries.specs.declared.Entry.{Entry}
use Rattle.am_office_entries.specs.Entries.{touches, touches_node, is_node, ends_touched, node_touched, reached_by, shares_node}
use Rattle.am_model.specs.declared.Queued.{Queued}
use Rattle.am_model.specs.Endpoint.{State, front, verdict}
use Rattle.am_model.specs.Changes.{replay}
use Rattle.am_model.specs.Layout.{Layout, AllAre, opening}
use Rattle.am_model.specs.Channels.{emitted}
use Rattle.am_model.specs.Merge.{is_before, is_ordered, rank}
use Rattle.am_model.specs.History.{state_of, MayFollow, EachAfter, IsHistory, is_in_range, failing, outcome_of, is_later, is_taken_before, is_packet_before}
use Rattle.am_model.specs.History.{judged}
use Rattle.am_model.specs.Packets.{stamp_of, from_of, number_of, restamped}
use Rattle.am_model.proofs.Each.{each_push}
use Rattle.am_model.proofs.Names.{same_end-first}
use Rattle.am_model_parts.specs.declared.work.Work.{Work}
use Rattle.am_model_parts.specs.declared.work.Work.TheVariants as Works
use Rattle.am_model_parts.specs.Asked.{carry_at, IsThere}
use Rattle.am_model_parts.specs.Driver.{end_moved}
use Rattle.am_model.specs.Parts.{driver_of, is_by_driver}
use Rattle.am_model_parts.specs.Interface.{needs, event_of, outcome_at}
use Rattle.am_model_parts.specs.Together.{IsDriverPart, IsPart, IsAt, IsState, IsPacketOf, SaysTheSame, SaysTheSameOfCall, SaysTheSameOfCarry}
use Rattle.am_model_parts.specs.Together.{SaysTheSameOfMove, SaysTheSameOfWant, WasEmitted}
use Rattle.am_model_parts.proofs.Asking.{call_local, want_local, carry_local}
use Rattle.am_model_parts.proofs.Moves.{move_local}
use Rattle.am_model_parts.proofs.Outcomes.{work_local}
use Rattle.am_model_parts.proofs.Parts.{emitted_own}
use Rattle.am_model_parts.proofs.Touched.{needs_touched}
use Rattle.am_model_merge.specs.Logs.{AreRising, Logs, MergesInto}
use Rattle.am_model_merge.specs.Right.{ByCall, ByCarry, ByDriver, ByInterface, ByWant, IsMadeRight, IsRight, IsRightCall, IsRightCarry, IsRightMove}
use Rattle.am_model_merge.specs.Right.{IsRightWant, IsRightWork, IsSentBefore, IsStateBefore, WasSent, dest_of, state_before}
use Rattle.am_model_merge.proofs.Before.{AreBelow, part_before, below_before, later_than_shared}
use Rattle.am_model_merge.proofs.Sent.{IsNotBefore, sent_early}
use Rattle.am_model_merge.proofs.Sorted.{earlier}

-- an entry at its place in a journal that the logs merge into, after a history
pub record Here (layout : Layout) (logs : Logs) (past : List Entry) (x : Entry) (rest : List Entry) : Type 0 where
  pub of_ends : (e : EndpointId) → filter (touches e) (past ++ x ∷ rest) ≡ logs.end e
  pub of_nodes : (n : NodeId) → filter (touches_node n) (past ++ x ∷ rest) ≡ logs.node n
  pub of_drivers : (n : NodeId) → filter (is_by_driver n) (past ++ x ∷ rest) ≡ logs.driver n
  pub rising : AreRising logs
  pub after : IsNotBefore x.stamp rest
  pub history : IsHistory layout past

-- ---- what a log had before the entry's stamp is what the journal has before the entry

state_here : (layout : Layout) (logs : Logs) (past : List Entry) (x : Entry) (rest : List Entry) → Here layout logs past x rest → (e : EndpointId) →
    touches e x ≡ true → state_before layout logs x.stamp e ≡ state_of layout past e
state_here layout logs past x rest h e is =
    ap (replay e (opening layout e)) (part_before (touches e) past x rest (logs.end e) is (h.of_ends e) (h.rising.ends e))

-- the list has the endpoint, if there is one
abbrev pub HasEnd : List EndpointId → Option EndpointId → Type 0
HasEnd es None = Unit {0}
HasEnd es (Some e) = list_any (same_end e) es ≡ true

is_state : (layout : Layout) (logs : Logs) (past : List Entry) (x : Entry) (rest : List Entry) → Here layout logs past x rest →
    (s : State) (e : Option EndpointId) → HasEnd (ends_touched x.event x.outcome) e → IsStateBefore layout logs x.stamp s e → IsState layout past s e
is_state layout logs past x rest h s None has is = tt
is_state layout logs past x rest h s (Some e) has is = is ∙ state_here layout logs past x rest h e has

shares_below : (layout : Layout) (logs : Logs) (past : List Entry) (x : Entry) (rest : List Entry) → Here layout logs past x rest → (n : Option NodeId) →
    node_touched x.event ≡ n → AreBelow (shares_node n) x.stamp past
shares_below layout logs past x rest h None is = nothing past
  where
    nothing : (ys : List Entry) → AreBelow (λ y. false) x.stamp ys
    nothing [] = tt
    nothing (y ∷ ys) = ((λ q. absurd (cc)), nothing ys)
shares_below layout logs past x rest h (Some n) is =
    below_before (touches_node n) past x rest (logs.node n) (ap (is_node n) is ∙ eq-eqb n.0 n.0 refl) (h.of_nodes n) (h.rising.nodes n)

-- the entry is stamped above all that touch a common part
later_here : (layout : Layout) (logs : Logs) (past : List Entry) (x : Entry) (rest : List Entry) → Here layout logs past x rest →
    is_taken_before x.stamp past x.event ≡ true → is_later past x ≡ true
later_here layout logs past x rest h taken =
    λ k.
    later_than_shared x past (λ e is. below_before (touches e) past x rest (logs.end e) is (h.of_ends e) (h.rising.ends e))
    (shares_below layout logs past x rest h (node_touched x.event) refl) k
    && taken k

-- an entry whose event touches the endpoint, whatever comes of it
touches_by : (x : Entry) (e : EndpointId) (event : Event) → x.event ≡ event → ((o : Outcome) → list_any (same_end e) (ends_touched event o) ≡ true) →
    touches e x ≡ true
touches_by x e event is h = ap (λ (v : Event). list_any (same_end e) (ends_touched v x.outcome)) is ∙ h x.outcome

-- ---- calls, wants and carries

call_follows : (layout : Layout) (logs : Logs) (past : List Entry) (x : Entry) (rest : List Entry) → Here layout logs past x rest →
    is_in_range layout x.event ≡ true → IsRightCall layout logs x → MayFollow layout past x
call_follows layout logs past x rest h range r =
    record {
      in_range = range;
      enabled = ap (failing layout past) r.event ∙ same.failing ∙ r.enabled;
      outcome = r.outcome ∙ sym same.outcome ∙ ap (outcome_of layout past) (sym r.event);
      later = later_here layout logs past x rest h (ap (is_taken_before x.stamp past) r.event);
    }
  where
    state : state_before layout logs x.stamp r.end ≡ state_of layout past r.end
    state = state_here layout logs past x rest h r.end (touches_by x r.end (Events.Call r.actor r.end r.call) r.event (λ o. same_end-first r.end []))

    same : SaysTheSameOfCall layout past r.actor r.end r.call (state_before layout logs x.stamp r.end)
    same = call_local layout past r.actor r.end r.call (state_before layout logs x.stamp r.end) state

want_follows : (layout : Layout) (logs : Logs) (past : List Entry) (x : Entry) (rest : List Entry) → Here layout logs past x rest →
    is_in_range layout x.event ≡ true → IsRightWant layout logs x → MayFollow layout past x
want_follows layout logs past x rest h range r =
    record {
      in_range = range;
      enabled = ap (failing layout past) r.event ∙ same.failing ∙ r.enabled;
      outcome = r.outcome ∙ sym same.outcome ∙ ap (outcome_of layout past) (sym r.event);
      later = later_here layout logs past x rest h (ap (is_taken_before x.stamp past) r.event);
    }
  where
    state : state_before layout logs x.stamp r.end ≡ state_of layout past r.end
    state = state_here layout logs past x rest h r.end (touches_by x r.end (Events.Want r.actor r.end) r.event (λ o. same_end-first r.end []))

    same : SaysTheSameOfWant layout past r.actor r.end (state_before layout logs x.stamp r.end)
    same = want_local layout past r.actor r.end (state_before layout logs x.stamp r.end) state

-- a carry touches the destination of the message
pub reaches : (limit : ℕ) (end : EndpointId) (q : Queued) (there : State) →
    list_any (same_end q.message.dest) (ends_touched (Events.Carry end) (carry_at limit (Some q) there)) ≡ true
reaches limit end q there = or_right (same_end q.message.dest end) _ (by_verdict (verdict there q.message))
  where
    by_test : (b : Bool) (o p : Outcome) → list_any (same_end q.message.dest) (reached_by o) ≡ true → list_any (same_end q.message.dest) (reached_by p) ≡ true →
        list_any (same_end q.message.dest) (reached_by (if b then o else p)) ≡ true
    by_test true o p one other = one
    by_test false o p one other = other

    by_verdict : (v : Verdict) → list_any (same_end q.message.dest) (reached_by (judged limit q.message q.bounces v)) ≡ true
    by_verdict Verdicts.Accepted = same_end-first q.message.dest []
    by_verdict (Verdicts.Refused cause) =
        by_test (is_transient cause && nat_lt q.bounces limit) (Out.Requeued q.message cause (q.bounces + 1)) (Out.Returned q.message cause)
        (same_end-first q.message.dest []) (same_end-first q.message.dest [])

carry_follows : (layout : Layout) (logs : Logs) (past : List Entry) (x : Entry) (rest : List Entry) → Here layout logs past x rest →
    is_in_range layout x.event ≡ true → IsRightCarry layout logs x → MayFollow layout past x
carry_follows layout logs past x rest h range r =
    record {
      in_range = range;
      enabled = ap (failing layout past) r.event ∙ same.failing ∙ r.enabled;
      outcome = r.outcome ∙ sym same.outcome ∙ ap (outcome_of layout past) (sym r.event);
      later = later_here layout logs past x rest h (ap (is_taken_before x.stamp past) r.event);
    }
  where
    s : State
    s = state_before layout logs x.stamp r.end

    state : s ≡ state_of layout past r.end
    state = state_here layout logs past x rest h r.end (touches_by x r.end (Events.Carry r.end) r.event (λ o. same_end-first r.end (reached_by o)))

    by_front : (q : Option Queued) → x.outcome ≡ carry_at layout.bounces q r.there → IsStateBefore layout logs x.stamp r.there (dest_of q) →
        IsThere layout past q r.there
    by_front None is dest = tt
    by_front (Some q) is dest =
        dest
        ∙ state_here layout logs past x rest h q.message.dest
        ((λ k. list_any (same_end q.message.dest) (ends_touched (r.event k) (is k))) ∙ reaches layout.bounces r.end q r.there)

    same : SaysTheSameOfCarry layout past r.end s r.there
    same = carry_local layout past r.end s r.there r.direct state (by_front (front s) r.outcome r.dest)

-- ---- interfaces

pub work_node : (node : NodeId) (w : Work) → is_node node (node_touched (event_of node w)) ≡ true
work_node node (Works.Receive (Packets.Parcel p)) = eq-eqb node.0 node.0 refl
work_node node (Works.Receive (Packets.Answer p)) = eq-eqb node.0 node.0 refl
work_node node (Works.Bind end) = eq-eqb node.0 node.0 refl
work_node node (Works.Expire peer channel) = eq-eqb node.0 node.0 refl

pub just_has : (es : List EndpointId) (e : Option EndpointId) → es ≡ option_to_list e → HasEnd es e
just_has es None h = tt
just_has es (Some e) h = ap (list_any (same_end e)) h ∙ same_end-first e []

was_emitted_here : (layout : Layout) (logs : Logs) (past : List Entry) (x : Entry) (rest : List Entry) → Here layout logs past x rest →
    (node : NodeId) (p : Packet) → WasSent logs node p x.stamp → WasEmitted past node p
was_emitted_here layout logs past x rest h node p sent =
    record {
      stamp = sent.stamp;
      emitted =
          sent_early (from_of p) node past (x ∷ rest) (number_of p - 1) (restamped sent.stamp p) x.stamp
          (ap (λ (ps : List Packet). slice_get ps (number_of p - 1)) (sym (emitted_own (from_of p) node (past ++ x ∷ rest))
          ∙ ap (emitted (from_of p) node) (h.of_nodes (from_of p))) ∙ sent.emitted)
          (stamp_below p)
          (omega arith, h.after);
      earlier = sent.earlier;
    }
  where
    stamp_below : (q : Packet) → stamp_of (restamped sent.stamp q) < x.stamp
    stamp_below (Packets.Parcel q) = omega (arith, sent.earlier, sent.later)
    stamp_below (Packets.Answer q) = omega (arith, sent.earlier, sent.later)

packet_here : (layout : Layout) (logs : Logs) (past : List Entry) (x : Entry) (rest : List Entry) → Here layout logs past x rest → (node : NodeId) (w : Work) →
    IsSentBefore logs node w x.stamp → IsPacketOf past node w
packet_here layout logs past x rest h node (Works.Receive p) sent = was_emitted_here layout logs past x rest h node p sent
packet_here layout logs past x rest h node (Works.Bind end) sent = tt
packet_here layout logs past x rest h node (Works.Expire peer channel) sent = tt

taken_here : (past : List Entry) (t : ℕ) (logs : Logs) (node : NodeId) (w : Work) → IsSentBefore logs node w t → IsPacketOf past node w →
    is_taken_before t past (event_of node w) ≡ true
taken_here past t logs node (Works.Receive (Packets.Parcel p)) sent was =
    ap (is_packet_before t) was.emitted ∙ lt-ltb was.stamp t (omega (arith, was.earlier, sent.later))
taken_here past t logs node (Works.Receive (Packets.Answer p)) sent was =
    ap (is_packet_before t) was.emitted ∙ lt-ltb was.stamp t (omega (arith, was.earlier, sent.later))
taken_here past t logs node (Works.Bind end) sent was = refl
taken_here past t logs node (Works.Expire peer channel) sent was = refl

work_follows : (layout : Layout) (logs : Logs) (past : List Entry) (x : Entry) (rest : List Entry) → Here layout logs past x rest →
    is_in_range layout x.event ≡ true → IsRightWork layout logs x → MayFollow layout past x
work_follows layout logs past x rest h range r =
    record {
      in_range = range;
      enabled = ap (failing layout past) r.event ∙ same.failing ∙ r.enabled;
      outcome = r.outcome ∙ sym same.outcome ∙ ap (outcome_of layout past) (sym r.event);
      later = later_here layout logs past x rest h (ap (is_taken_before x.stamp past) r.event ∙ taken_here past x.stamp logs node r.w r.packet at.packet);
    }
  where
    node : NodeId
    node = r.i.settings.node

    touched : touches_node node x ≡ true
    touched = ap (λ (e : Event). is_node node (node_touched e)) r.event ∙ work_node node r.w

    part : IsPart layout past r.i
    part = record {
      settings = r.settings;
      log = r.log ∙ part_before (touches_node node) past x rest (logs.node node) touched (h.of_nodes node)
          (h.rising.nodes node);
    }

    has : HasEnd (ends_touched x.event x.outcome) (needs r.i r.w)
    has =
        subst (λ (e : Event). HasEnd (ends_touched e x.outcome) (needs r.i r.w)) (sym r.event)
        (subst (λ (o : Outcome). HasEnd (ends_touched (event_of node r.w) o) (needs r.i r.w)) (sym r.outcome)
        (just_has (ends_touched (event_of node r.w) (outcome_at r.i r.s r.w)) (needs r.i r.w) (needs_touched r.i r.s r.w)))

    at : IsAt layout past r.i r.s r.w
    at = record { state = is_state layout logs past x rest h r.s (needs r.i r.w) has r.state; packet = packet_here layout logs past x rest h node r.w r.packet }

    same : SaysTheSame layout past r.i r.s r.w
    same = work_local layout past r.i r.s r.w part at

-- ---- drivers

-- a move touches the endpoint that it is about
pub moved_has : (event : Event) (o : Outcome) → HasEnd (ends_touched event o) (end_moved event)
moved_has (Events.Drain node end) o = same_end-first end []
moved_has (Events.Unload node end) o = same_end-first end []
moved_has (Events.Load node end frame) o = same_end-first end []
moved_has (Events.PageOut node end) o = same_end-first end []
moved_has (Events.PageIn node end) o = same_end-first end []
moved_has event o = tt

-- a move receives no packet
none_taken : (t : ℕ) (past : List Entry) (event : Event) (node : NodeId) → driver_of event ≡ Some node → is_taken_before t past event ≡ true
none_taken t past (Events.Receive at peer number) node by = absurd (cc)
none_taken t past event node by = refl

move_follows : (layout : Layout) (logs : Logs) (past : List Entry) (x : Entry) (rest : List Entry) → Here layout logs past x rest →
    is_in_range layout x.event ≡ true → IsRightMove layout logs x → MayFollow layout past x
move_follows layout logs past x rest h range r =
    record {
      in_range = range;
      enabled = same.failing ∙ r.enabled;
      outcome = r.outcome ∙ sym same.outcome;
      later = later_here layout logs past x rest h (none_taken x.stamp past x.event node r.driver);
    }
  where
    node : NodeId
    node = r.d.settings.node

    made : is_by_driver node x ≡ true
    made = ap (is_node node) r.driver ∙ eq-eqb node.0 node.0 refl

    part : IsDriverPart layout past r.d
    part = record {
      settings = r.settings;
      log = r.log ∙ part_before (is_by_driver node) past x rest (logs.driver node) made (h.of_drivers node)
          (h.rising.drivers node);
    }

    same : SaysTheSameOfMove layout past r.d r.s x.event
    same = move_local layout past r.d r.s x.event h.history part r.driver (is_state layout logs past x rest h r.s (end_moved x.event)
        (moved_has x.event x.outcome) r.state)

-- ---- the whole journal

follows : (layout : Layout) (logs : Logs) (past : List Entry) (x : Entry) (rest : List Entry) → Here layout logs past x rest →
    is_in_range layout x.event ≡ true → IsMadeRight layout logs x → MayFollow layout past x
follows layout logs past x rest h range (ByCall r) = call_follows layout logs past x rest h range r
follows layout logs past x rest h range (ByWant r) = want_follows layout logs past x rest h range r
follows layout logs past x rest h range (ByCarry r) = carry_follows layout logs past x rest h range r
follows layout logs past x rest h range (ByInterface r) = work_follows layout logs past x rest h range r
follows layout logs past x rest h range (ByDriver r) = move_follows layout logs past x rest h range r

not_before : (x : Entry) (ys : List Entry) → list_all (is_before x) ys ≡ true → IsNotBefore x.stamp ys
not_before x [] h = tt
not_before x (y ∷ ys) h =
    let parts = and_parts (is_before x y) (list_all (is_before x) ys) h in (
      ⊎_elim (λ (less : x.stamp < y.stamp). omega (arith, less)) (λ (same : (x.stamp ≡ y.stamp) × (rank x < rank y)). omega (arith, same.0))
          (earlier x y parts.0),
      not_before x ys parts.1,
    )

from_here : (layout : Layout) (logs : Logs) (past rest : List Entry) → ((e : EndpointId) → filter (touches e) (past ++ rest) ≡ logs.end e) →
    ((n : NodeId) → filter (touches_node n) (past ++ rest) ≡ logs.node n) → ((n : NodeId) → filter (is_by_driver n) (past ++ rest) ≡ logs.driver n) →
    AreRising logs → is_ordered rest ≡ true → AllAre (IsRight layout logs) rest → IsHistory layout past → EachAfter (MayFollow layout) past rest
from_here layout logs past [] of_ends of_nodes of_drivers rising ordered right history = tt
from_here layout logs past (x ∷ rest) of_ends of_nodes of_drivers rising ordered right history = (
  may,
  from_here layout logs (past ++ x ∷ []) rest
      (λ e. ap (filter (touches e)) (append_assoc past (x ∷ []) rest) ∙ of_ends e)
      (λ n. ap (filter (touches_node n)) (append_assoc past (x ∷ []) rest) ∙ of_nodes n)
      (λ n. ap (filter (is_by_driver n)) (append_assoc past (x ∷ []) rest) ∙ of_drivers n)
      rising parts.1 right.1 (each_push (MayFollow layout) [] past x history may),
)
  where
    parts : (list_all (is_before x) rest ≡ true) × (is_ordered rest ≡ true)
    parts = and_parts (list_all (is_before x) rest) (is_ordered rest) ordered

    here : Here layout logs past x rest
    here = record { of_ends = of_ends; of_nodes = of_nodes; of_drivers = of_drivers; rising = rising; after = not_before x rest parts.0; history = history }

    may : MayFollow layout past x
    may = follows layout logs past x rest here right.0.in_range right.0.right

pub made_history : (layout : Layout) (logs : Logs) (journal : List Entry) → MergesInto logs journal → AreRising logs → AllAre (IsRight layout logs) journal →
    IsHistory layout journal
made_history layout logs journal m rising right =
    from_here layout logs [] journal m.merged.of_ends m.merged.of_nodes m.of_drivers rising m.merged.ordered right tt
