-- Where the packet of an interface's entry goes, and what its log then emits.
use Rattle.std.specs.Prelude.{IfSome, slice_index_or}
use Rattle.std.proofs.Common.{◌≡◌, ℕ, zero, suc, ◌<◌, Bool, true, false, ◌&&◌, cond, List, [], ◌∷◌, ◌++◌, length, get_or, Option, Some, None, refl, sym, ap}
use Rattle.std.proofs.Common.{◌∙◌, subst, arith, append-nil, eq-eqb}
use Rattle.std.specs.List.{All, cons_option, filter}
use Rattle.std.proofs.lemmas.List.Elements.{All-get_or}
use Rattle.am_names.specs.declared.NodeId.{NodeId}
use Rattle.am_names.specs.declared.Message.{Message}
use Rattle.am_names.specs.declared.Packet.{Packet}
use Rattle.am_names.specs.declared.Packet.TheVariants as Packets
use Rattle.am_names.specs.Names.{same_node}
use Rattle.am_office_entries.specs.declared.Place.TheVariants.{Host}
use Rattle.am_office_entries.specs.declared.Entry.{Entry}
use Rattle.am_office_entries.specs.Entries.{emitted_in, emitted_of}
use Rattle.am_model.specs.declared.Queued.{Queued}
use Rattle.am_model.specs.Channels.{Again, Arrival, Fresh, Stale, bound_message, emitted, is_on_link}
use Rattle.am_model.specs.Endpoint.{State, fresh, front}
use Rattle.am_model_parts.specs.declared.work.Work.{Work}
use Rattle.am_model_parts.specs.declared.work.Work.TheVariants as Works
use Rattle.am_model_parts.specs.Interface.{answers_to, arrival_in, channel_in, emits_to, event_of, failing_at, has_try_left, home_of_front, outcome_at}
use Rattle.am_model_parts.specs.Interface.{receiver, sends_again_to}
use Rattle.am_model.specs.Packets.{receiver_of, from_of}
use Rattle.am_model_parts.proofs.Granting.{bind_emission}
use Rattle.am_model_parts.proofs.Numbering.{next_emitted}
use Rattle.am_model_parts.proofs.Touched.{emission_told}
use Rattle.am_endpoint.specs.View.{state_by}
use Rattle.am_iface.specs.Settings.{AreLawful}
use Rattle.am_iface.specs.View.{InterfaceView, own}
use Rattle.am_places.specs.Rule.{joined}
use Rattle.am_model_scripts.proofs.Links.{emitted_push}
use Rattle.am_workers_laws.specs.Invariants.Seats.{EndPass}
use Rattle.am_workers.specs.Turns.Servers.{GoesOut, IfMade, IsRanged, out_of, sent_to}
use Rattle.am_workers.specs.Turns.Turns.{Alone, IsDone, IsWork, With, WorkTurns}
use Rattle.am_workers.specs.declared.turns.turns.InterfaceTurn.{InterfaceTurn}
use Rattle.am_workers.specs.declared.turns.turns.InterfaceTurn.TheVariants as Worked

-- ---- to one of the nodes

abbrev IsIn : ℕ → Option NodeId → Type 0
IsIn nodes o = IfSome o (λ (n : NodeId). n.0 < nodes)

answers_in : (nodes : ℕ) (peer : NodeId) (a : Arrival) → peer.0 < nodes → IsIn nodes (answers_to peer a)
answers_in nodes peer Stale lt = tt
answers_in nodes peer (Again v) lt = lt
answers_in nodes peer Fresh lt = lt

again_in : (nodes : ℕ) (peer : NodeId) (m : Option Message) (again : Bool) → peer.0 < nodes → IsIn nodes (sends_again_to peer m again)
again_in nodes peer None again lt = tt
again_in nodes peer (Some m) true lt = lt
again_in nodes peer (Some m) false lt = tt

home_at : (nodes : ℕ) (homes : List (Option NodeId)) (k : ℕ) → All (λ (h : Option NodeId). IsIn nodes h) homes → IsIn nodes (slice_index_or homes k None)
home_at nodes homes k all = by_cases homes k (λ j lt. All-get_or (λ (h : Option NodeId). IsIn nodes h) homes j None lt all)
  where
    by_cases : (hs : List (Option NodeId)) (k : ℕ) → ((j : ℕ) → j < length hs → IsIn nodes (get_or hs j None)) → IsIn nodes (slice_index_or hs k None)
    by_cases [] k each = tt
    by_cases (h ∷ hs) zero each = each 0 (omega arith)
    by_cases (h ∷ hs) (suc k) each = by_cases hs k (λ j lt. each (suc j) (omega (arith, lt)))

home_in_nodes : (i : InterfaceView) (q : Option Queued) → AreLawful i.settings → IsIn i.settings.nodes (home_of_front (own i) q)
home_in_nodes i None lawful = tt
home_in_nodes i (Some q) lawful = home_at i.settings.nodes i.settings.homes q.message.dest.0 lawful.homes

emits_in : (i : InterfaceView) (w : Work) → IsRanged i.settings w → IsIn i.settings.nodes (emits_to (own i) w)
emits_in i (Works.Receive (Packets.Parcel p)) ranged = answers_in i.settings.nodes p.from (arrival_in (own i) p.from p.channel p.seq p.attempt) ranged.from_node
emits_in i (Works.Receive (Packets.Answer p)) ranged = tt
emits_in i (Works.Bind end) ranged = tt
emits_in i (Works.Expire peer channel) ranged = again_in i.settings.nodes peer (bound_message (channel_in (own i) peer channel) i.log)
    (has_try_left (own i) (channel_in (own i) peer channel)) ranged.peer

some_in : (nodes : ℕ) (p : Packet) (o : Option NodeId) → Some (receiver_of p) ≡ o → IsIn nodes o → (receiver_of p).0 < nodes
some_in nodes p o is h = subst (λ (z : Option NodeId). IsIn nodes z) (sym is) h

to_within : (i : InterfaceView) (s : State) (w : Work) (stamp : ℕ) (p : Packet) → AreLawful i.settings → IsRanged i.settings w → failing_at (own i) s w ≡ None →
    emitted_in stamp (event_of i.settings.node w) (outcome_at (own i) s w) ≡ Some p → (receiver_of p).0 < i.settings.nodes
to_within i s (Works.Receive q) stamp p lawful ranged on told = some_in i.settings.nodes p (emits_to (own i) (Works.Receive q)) (sym (ap receiver told)
    ∙ emission_told (own i) s (Works.Receive q) stamp refl) (emits_in i (Works.Receive q) ranged)
to_within i s (Works.Bind end) stamp p lawful ranged on told = some_in i.settings.nodes p (home_of_front (own i) (front s)) (sym (ap receiver told)
    ∙ bind_emission (own i) s end stamp on) (home_in_nodes i (front s) lawful)
to_within i s (Works.Expire peer channel) stamp p lawful ranged on told =
    some_in i.settings.nodes p (emits_to (own i) (Works.Expire peer channel)) (sym (ap receiver told)
    ∙ emission_told (own i) s (Works.Expire peer channel) stamp refl) (emits_in i (Works.Expire peer channel) ranged)

goes_out : (i : InterfaceView) (s : State) (w : Work) (x : Entry) (p : Packet) → AreLawful i.settings → IsRanged i.settings w → failing_at (own i) s w ≡ None →
    x.event ≡ event_of i.settings.node w → x.outcome ≡ outcome_at (own i) s w → emitted_of x ≡ Some p → GoesOut i p
goes_out i s w x p lawful ranged on event outcome is =
    let told : emitted_in x.stamp (event_of i.settings.node w) (outcome_at (own i) s w) ≡ Some p = sym (λ k. emitted_in x.stamp (event k) (outcome k)) ∙ is in
    record { from_node = (next_emitted (own i) s w x.stamp p told).from; to_node = to_within i s w x.stamp p lawful ranged on told }

done_goes : (i j : InterfaceView) (w : Work) (x : Entry) (p : Packet) (v u : EndPass) → AreLawful i.settings → IsRanged i.settings w → IsDone w i j v u x →
    emitted_of x ≡ Some p → GoesOut i p
done_goes i j w x p v u lawful ranged (Alone same h) is =
    let state : State = fresh (record { 0 = 0 }) Host in goes_out i state w x p lawful ranged (h.enabled state) h.event (h.outcome state) is
done_goes i j w x p v u lawful ranged (With k h) is =
    let y : IsWork w i j h.set (joined h.log) x = h.why in goes_out i (state_by h.set (joined h.log)) w x p lawful ranged y.enabled y.event y.outcome is

done_logged : (i j : InterfaceView) (w : Work) (x : Entry) (v u : EndPass) → IsDone w i j v u x → j ≡ record i { log = i.log ++ x ∷ [] }
done_logged i j w x v u (Alone same h) = h.logged
done_logged i j w x v u (With k h) = let y : IsWork w i j h.set (joined h.log) x = h.why in y.logged

out_by : (i : InterfaceView) (o : Option Packet) (x : Entry) → o ≡ emitted_of x → ((p : Packet) → emitted_of x ≡ Some p → GoesOut i p) → IfSome o (GoesOut i)
out_by i None x is goes = tt
out_by i (Some p) x is goes = goes p (sym is)

-- the packet that a turn emits goes from the interface's node to one of the nodes
pub out_goes : (i j : InterfaceView) (w : Work) (turn : InterfaceTurn) (v u : EndPass) → AreLawful i.settings → IfMade turn (IsRanged i.settings w) →
    WorkTurns w i j v u turn → IfSome (out_of turn) (GoesOut i)
out_goes i j w (Worked.Made t) v u lawful ranged h = out_by i t.out t.entry h.1 (λ p. done_goes i j w t.entry p v u lawful ranged h.0)
out_goes i j w (Worked.Busy holder) v u lawful ranged h = tt
out_goes i j w Worked.NotYet v u lawful ranged h = tt
out_goes i j w Worked.Full v u lawful ranged h = tt
out_goes i j w Worked.NoMemory v u lawful ranged h = tt

-- ---- what the log emits

on_link : (node to : NodeId) (p : Packet) → from_of p ≡ node → filter (is_on_link node to) (p ∷ []) ≡ sent_to to (Some p)
on_link node to (Packets.Parcel p) from = ap (λ (b : Bool). cond (b && same_node to p.to) (Packets.Parcel p ∷ []) [])
    (eq-eqb node.0 p.from.0 (ap (λ (n : NodeId). n.0) (sym from)))
on_link node to (Packets.Answer p) from = ap (λ (b : Bool). cond (b && same_node to p.to) (Packets.Answer p ∷ []) [])
    (eq-eqb node.0 p.from.0 (ap (λ (n : NodeId). n.0) (sym from)))

one_more : (i : InterfaceView) (to : NodeId) (x : Entry) (o : Option Packet) → o ≡ emitted_of x → IfSome o (GoesOut i) →
    emitted i.settings.node to (x ∷ []) ≡ sent_to to o
one_more i to x o is goes = ap (λ (z : Option Packet). filter (is_on_link i.settings.node to) (cons_option z [])) (sym is) ∙ by_option o goes
  where
    by_option : (z : Option Packet) → IfSome z (GoesOut i) → filter (is_on_link i.settings.node to) (cons_option z []) ≡ sent_to to z
    by_option None h = refl
    by_option (Some p) h = on_link i.settings.node to p h.from_node

emits_nothing : (i j : InterfaceView) (to : NodeId) → j ≡ i → emitted i.settings.node to j.log ≡ emitted i.settings.node to i.log ++ []
emits_nothing i j to same = ap (λ (k : InterfaceView). emitted i.settings.node to k.log) same ∙ sym (append-nil (emitted i.settings.node to i.log))

pub all_sent : (i j : InterfaceView) (w : Work) (turn : InterfaceTurn) (v u : EndPass) → AreLawful i.settings → IfMade turn (IsRanged i.settings w) →
    WorkTurns w i j v u turn → (to : NodeId) → emitted i.settings.node to j.log ≡ emitted i.settings.node to i.log ++ sent_to to (out_of turn)
all_sent i j w (Worked.Made t) v u lawful ranged h to =
    ap (λ (k : InterfaceView). emitted i.settings.node to k.log) (done_logged i j w t.entry v u h.0)
    ∙ emitted_push i.settings.node to i.log t.entry
    ∙ ap (λ (ys : List Packet). emitted i.settings.node to i.log ++ ys) (one_more i to t.entry t.out h.1 (out_goes i j w (Worked.Made t) v u lawful ranged h))
all_sent i j w (Worked.Busy holder) v u lawful ranged h to = emits_nothing i j to h.1
all_sent i j w Worked.NotYet v u lawful ranged h to = emits_nothing i j to h.1
all_sent i j w Worked.Full v u lawful ranged h to = emits_nothing i j to h.1
all_sent i j w Worked.NoMemory v u lawful ranged h to = emits_nothing i j to h.1

-- ---- its settings

done_settings : (i j : InterfaceView) (w : Work) (x : Entry) (v u : EndPass) → IsDone w i j v u x → j.settings ≡ i.settings
done_settings i j w x v u h = ap (λ (k : InterfaceView). k.settings) (done_logged i j w x v u h)

-- a turn leaves the interface's settings as they were
pub settings_stay : (i j : InterfaceView) (w : Work) (turn : InterfaceTurn) (v u : EndPass) → WorkTurns w i j v u turn → j.settings ≡ i.settings
settings_stay i j w (Worked.Made t) v u h = done_settings i j w t.entry v u h.0
settings_stay i j w (Worked.Busy holder) v u h = ap (λ (k : InterfaceView). k.settings) h.1
settings_stay i j w Worked.NotYet v u h = ap (λ (k : InterfaceView). k.settings) h.1
settings_stay i j w Worked.Full v u h = ap (λ (k : InterfaceView). k.settings) h.1
settings_stay i j w Worked.NoMemory v u h = ap (λ (k : InterfaceView). k.settings) h.1
