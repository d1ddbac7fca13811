-- The entries of a history touch endpoints that there are and interfaces of its nodes.
use Rattle.std.specs.Prelude.{nat_lt, nat_le, ◌&&◌, ◌||◌, ◌==◌, count_by, filter, slice_get, if◌then◌else◌}
use Rattle.std.specs.List.{list_any}
use Rattle.std.proofs.Common.{◌≡◌, ℕ, ◌+◌, ◌-◌, ◌<◌, ◌≤◌, Bool, true, false, cond, List, [], ◌∷◌, ◌++◌, length, Option, Some, None, refl, sym, ap, ◌∙◌, subst}
use Rattle.std.proofs.Common.{arith, true≢false, ltb-true}
use Rattle.std.proofs.lemmas.Bool.{and_parts, false_from_ne_true, ltb-false}
use Rattle.std.proofs.lemmas.List.Sums.{length-filter, sum_by_push}
use Rattle.am_names.specs.Rules.{is_transient}
use Rattle.am_names.specs.Names.{same_end, same_node}
use Rattle.am_names.specs.declared.AnswerPacket.{AnswerPacket}
use Rattle.am_names.specs.declared.EndpointId.{EndpointId}
use Rattle.am_names.specs.declared.Message.{Message}
use Rattle.am_names.specs.declared.NodeId.{NodeId}
use Rattle.am_names.specs.declared.Packet.{Packet}
use Rattle.am_names.specs.declared.Packet.TheVariants as Packets
use Rattle.am_names.specs.declared.Verdict.{Verdict}
use Rattle.am_names.specs.declared.Verdict.TheVariants as Verdicts
use Rattle.am_office_entries.specs.declared.Entry.{Entry}
use Rattle.am_office_entries.specs.declared.Event.{Event}
use Rattle.am_office_entries.specs.declared.Event.TheVariants as Events
use Rattle.am_office_entries.specs.declared.Outcome.{Outcome}
use Rattle.am_office_entries.specs.declared.Outcome.TheVariants as Out
use Rattle.am_office_entries.specs.declared.Part.TheVariants as Parts
use Rattle.am_office_entries.specs.declared.Received.TheVariants as Got
use Rattle.am_office_entries.specs.Entries.{ends_touched, node_touched, is_node, touched_by_expiry, touched_by_result, touches, touches_node}
use Rattle.am_model.specs.Changes.{flying_of}
use Rattle.am_model.specs.Channels.{Arrival, Stale, Again, Fresh, arrival, attempt, bound_message, emitted, mark, sequence}
use Rattle.am_model.specs.Endpoint.{verdict}
use Rattle.am_model.specs.History.{MayFollow, arrive, bounced, channel_to, counts, decided, expire, is_actor_in_range, is_answered, is_call_in_range}
use Rattle.am_model.specs.History.{is_four_bytes, is_in_range, next_number, outcome_of, receive, sent, settle, settle_by, state_of}
use Rattle.am_model.specs.Layout.{Layout, IsLawful, declared}
use Rattle.am_model.proofs.Each.{over_each, each_push}
use Rattle.am_model.proofs.Ends.{was_emitted}
use Rattle.am_model.proofs.Names.{same_end-is, same_node-is}
use Rattle.am_laws_cluster.proofs.Bound.{in_flight_bound}
use Rattle.am_laws.proofs.Delivered.{delivers}
use Rattle.am_laws.proofs.OrderedPackets.{not_carry}
use Rattle.am_scenario_types.specs.Lists.{ScenarioLists}
use Rattle.am_model_scripts.specs.Layout.{layout_of}
use Rattle.am_model_scripts.proofs.Lawful.{lawful_layout}
use Rattle.am_laws_runs.specs.Turns.Enabled.{IsOfRun}
use Rattle.am_laws_runs.proofs.Calls.{home_seated}
use Rattle.am_laws_runs.proofs.Enabled.{of_packets}
use Rattle.am_laws_runs.specs.Short.{IsWithinLogs}
use Rattle.am_laws_runs.specs.Drained.{RunsHaveShortLogs}

one_of : (e end : EndpointId) → list_any (same_end e) (end ∷ []) ≡ true → e ≡ end
one_of e end h = by_test (same_end e end) refl h
  where
    by_test : (b : Bool) → same_end e end ≡ b → (b || false) ≡ true → e ≡ end
    by_test true is k = same_end-is e end is
    by_test false is k = absurd (true≢false (sym k))

-- ---- messages go between endpoints that there are

abbrev pub Knows : Layout → EndpointId → Type 0
Knows layout e = declared layout e ≡ true

known_at : (layout : Layout) (e end : EndpointId) → Knows layout end → list_any (same_end e) (end ∷ []) ≡ true → Knows layout e
known_at layout e end known h = subst (λ (i : EndpointId). Knows layout i) (sym (one_of e end h)) known

source_known : (s : ScenarioLists) (past : List Entry) (node peer : NodeId) (channel : ℕ) (m : Message) → IsOfRun s past →
    bound_message (channel_to node peer channel) past ≡ Some m → Knows (layout_of s) m.serial.source
source_known s past node peer channel m run bound =
    let ok : IsLawful (layout_of s) = lawful_layout s run.lawful in
    (home_seated (layout_of s) m.serial.source node ok ((in_flight_bound (layout_of s) ok past run.history).flies (channel_to node peer channel) m
    bound).node).declared'

expiry_known : (s : ScenarioLists) (past : List Entry) (node peer : NodeId) (channel : ℕ) (e : EndpointId) (o : Option Message) → IsOfRun s past →
    bound_message (channel_to node peer channel) past ≡ o → list_any (same_end e) (touched_by_expiry (expire (layout_of s) node peer channel past o)) ≡ true →
    Knows (layout_of s) e
expiry_known s past node peer channel e None run bound h = absurd (true≢false (sym h))
expiry_known s past node peer channel e (Some m) run bound h =
    by_tests (nat_lt (attempt (channel_to node peer channel) past + 1) (layout_of s).tries)
    (is_answered (flying_of m.serial (state_of (layout_of s) past m.serial.source).body.in_flight)) h
  where
    by_tests : (again answered : Bool) → list_any (same_end e)
        (touched_by_expiry (if again then sent node peer channel past m (sequence (channel_to node peer channel) past)
        (attempt (channel_to node peer channel) past + 1) else (if answered then Out.Delivered m.serial else Out.Unknown m.serial))) ≡ true →
        Knows (layout_of s) e
    by_tests true answered k = absurd (true≢false (sym k))
    by_tests false true k = known_at (layout_of s) e m.serial.source (source_known s past node peer channel m run bound) k
    by_tests false false k = known_at (layout_of s) e m.serial.source (source_known s past node peer channel m run bound) k

decided_known : (layout : Layout) (e : EndpointId) (m : Message) (n : ℕ) (v : Verdict) → Knows layout m.dest →
    list_any (same_end e) (touched_by_result (decided m n v)) ≡ true → Knows layout e
decided_known layout e m n Verdicts.Accepted known h = known_at layout e m.dest known h
decided_known layout e m n (Verdicts.Refused cause) known h = known_at layout e m.dest known h

arrive_known : (layout : Layout) (past : List Entry) (e : EndpointId) (m : Message) (n : ℕ) (a : Arrival) → Knows layout m.dest →
    list_any (same_end e) (touched_by_result (arrive layout past m n a)) ≡ true → Knows layout e
arrive_known layout past e m n Stale known h = absurd (true≢false (sym h))
arrive_known layout past e m n (Again v) known h = absurd (true≢false (sym h))
arrive_known layout past e m n Fresh known h = decided_known layout e m n (verdict (state_of layout past m.dest) m) known h

settled_known : (layout : Layout) (e : EndpointId) (limit : ℕ) (m : Message) (n : ℕ) (v : Verdict) → Knows layout m.serial.source →
    list_any (same_end e) (touched_by_result (settle_by limit m n v)) ≡ true → Knows layout e
settled_known layout e limit m n Verdicts.Accepted known h = known_at layout e m.serial.source known h
settled_known layout e limit m n (Verdicts.Refused cause) known h = by_test (is_transient cause && nat_lt n limit) h
  where
    by_test : (b : Bool) → list_any (same_end e) (touched_by_result (if b then Got.Requeued m.serial cause (n + 1) else Got.Returned m.serial cause)) ≡ true →
        Knows layout e
    by_test true k = known_at layout e m.serial.source known k
    by_test false k = known_at layout e m.serial.source known k

settle_known : (s : ScenarioLists) (past : List Entry) (node peer : NodeId) (a : AnswerPacket) (e : EndpointId) (o : Option Message) → IsOfRun s past →
    bound_message (channel_to node peer a.channel) past ≡ o →
    list_any (same_end e) (touched_by_result (settle (layout_of s) (channel_to node peer a.channel) past a o)) ≡ true → Knows (layout_of s) e
settle_known s past node peer a e None run bound h = absurd (true≢false (sym h))
settle_known s past node peer a e (Some m) run bound h =
    by_test ((a.seq == sequence (channel_to node peer a.channel) past) && counts a.verdict (a.attempt == attempt (channel_to node peer a.channel) past)) h
  where
    by_test : (b : Bool) → list_any (same_end e) (touched_by_result (if b then settle_by (layout_of s).bounces m
        (bounced (flying_of m.serial (state_of (layout_of s) past m.serial.source).body.in_flight)) a.verdict else Got.Nothing)) ≡ true → Knows (layout_of s) e
    by_test true k = settled_known (layout_of s) e (layout_of s).bounces m
        (bounced (flying_of m.serial (state_of (layout_of s) past m.serial.source).body.in_flight)) a.verdict
        (source_known s past node peer a.channel m run bound) k
    by_test false k = absurd (true≢false (sym k))

receipt_known : (s : ScenarioLists) (past : List Entry) (node peer : NodeId) (number : ℕ) (e : EndpointId) (o : Option Packet) → IsOfRun s past →
    slice_get (emitted peer node past) (number - 1) ≡ o → list_any (same_end e) (ends_touched (Events.Receive node peer number)
    (receive (layout_of s) node peer past o)) ≡ true → Knows (layout_of s) e
receipt_known s past node peer number e None run is h = absurd (true≢false (sym h))
receipt_known s past node peer number e (Some (Packets.Parcel p)) run is h =
    let was = was_emitted peer node past (number - 1) (Packets.Parcel p) is in
    let routed = (delivers (layout_of s) past run.history).parcels p was.0 in
    arrive_known (layout_of s) past e p.message (next_number node peer past) (arrival (mark (channel_to node peer p.channel) past) p.seq p.attempt)
    (home_seated (layout_of s) p.message.dest p.to (lawful_layout s run.lawful) routed.home).declared' h
receipt_known s past node peer number e (Some (Packets.Answer a)) run is h =
    settle_known s past node peer a e (bound_message (channel_to node peer a.channel) past) run refl h

-- ---- each entry

seat_known : (layout : Layout) (end : EndpointId) (node : NodeId) → (declared layout end && nat_lt node.0 layout.nodes) ≡ true → Knows layout end
seat_known layout end node h = (and_parts (declared layout end) (nat_lt node.0 layout.nodes) h).0

event_known : (s : ScenarioLists) (past : List Entry) (event : Event) (e : EndpointId) → IsOfRun s past → ((end : EndpointId) → event ≡ Events.Carry end → ⊥) →
    is_in_range (layout_of s) event ≡ true → list_any (same_end e) (ends_touched event (outcome_of (layout_of s) past event)) ≡ true → Knows (layout_of s) e
event_known s past (Events.Call actor end call) e run apart ranged h =
    let parts = and_parts (is_actor_in_range actor && declared (layout_of s) end) (is_call_in_range (layout_of s) call) ranged in
    known_at (layout_of s) e end (and_parts (is_actor_in_range actor) (declared (layout_of s) end) parts.0).1 h
event_known s past (Events.Want actor end) e run apart ranged h =
    known_at (layout_of s) e end (and_parts (is_actor_in_range actor) (declared (layout_of s) end) ranged).1 h
event_known s past (Events.Carry end) e run apart ranged h = absurd (apart end refl)
event_known s past (Events.Bind node end) e run apart ranged h = known_at (layout_of s) e end (seat_known (layout_of s) end node ranged) h
event_known s past (Events.Expire node peer channel) e run apart ranged h =
    expiry_known s past node peer channel e (bound_message (channel_to node peer channel) past) run refl h
event_known s past (Events.Receive node peer number) e run apart ranged h =
    receipt_known s past node peer number e (slice_get (emitted peer node past) (number - 1)) run refl h
event_known s past (Events.Drain node end) e run apart ranged h = known_at (layout_of s) e end (seat_known (layout_of s) end node ranged) h
event_known s past (Events.Unload node end) e run apart ranged h = known_at (layout_of s) e end (seat_known (layout_of s) end node ranged) h
event_known s past (Events.Load node end frame) e run apart ranged h =
    known_at (layout_of s) e end (seat_known (layout_of s) end node (and_parts (declared (layout_of s) end && nat_lt node.0 (layout_of s).nodes)
    (nat_lt frame (layout_of s).frames) ranged).0) h
event_known s past (Events.PageOut node end) e run apart ranged h = known_at (layout_of s) e end (seat_known (layout_of s) end node ranged) h
event_known s past (Events.PageIn node end) e run apart ranged h = known_at (layout_of s) e end (seat_known (layout_of s) end node ranged) h

touched_known : (s : ScenarioLists) (past : List Entry) (x : Entry) (e : EndpointId) → IsOfRun s past → MayFollow (layout_of s) past x → touches e x ≡ true →
    Knows (layout_of s) e
touched_known s past x e run may h =
    event_known s past x.event e run (not_carry (layout_of s) (of_packets s run.packet) past x.event may.enabled) may.in_range
    (sym (ap (λ (o : Outcome). list_any (same_end e) (ends_touched x.event o)) may.outcome) ∙ h)

same_below : (layout : Layout) (node other : NodeId) → nat_lt other.0 layout.nodes ≡ true → same_node node other ≡ true → node.0 < layout.nodes
same_below layout node other low same = subst (λ (i : NodeId). i.0 < layout.nodes) (sym (same_node-is node other same)) (ltb-true other.0 layout.nodes low)

interface_below : (layout : Layout) (event : Event) (node : NodeId) → is_in_range layout event ≡ true → is_node node (node_touched event) ≡ true →
    node.0 < layout.nodes
interface_below layout (Events.Bind other end) node ranged h =
    same_below layout node other (and_parts (declared layout end) (nat_lt other.0 layout.nodes) ranged).1 h
interface_below layout (Events.Expire other peer channel) node ranged h =
    let parts = and_parts (nat_lt other.0 layout.nodes && nat_lt peer.0 layout.nodes) (nat_lt channel layout.channels) ranged in
    same_below layout node other (and_parts (nat_lt other.0 layout.nodes) (nat_lt peer.0 layout.nodes) parts.0).0 h
interface_below layout (Events.Receive other peer number) node ranged h =
    let parts = and_parts (nat_lt other.0 layout.nodes && nat_lt peer.0 layout.nodes && nat_le 1 number) (is_four_bytes number) ranged in
    let nodes = and_parts (nat_lt other.0 layout.nodes && nat_lt peer.0 layout.nodes) (nat_le 1 number) parts.0 in
    same_below layout node other (and_parts (nat_lt other.0 layout.nodes) (nat_lt peer.0 layout.nodes) nodes.0).0 h
interface_below layout event node ranged h = absurd (true≢false (sym h))

-- ---- what no entry touches

record Untouched (s : ScenarioLists) (p : Entry → Bool) (past : List Entry) : Type 0 where
  run : IsOfRun s past
  none : count_by p past ≡ 0

untouched : (s : ScenarioLists) (p : Entry → Bool) (journal : List Entry) → ((past : List Entry) (x : Entry) → IsOfRun s past → MayFollow (layout_of s) past x →
    p x ≡ true → ⊥) → IsOfRun s journal → count_by p journal ≡ 0
untouched s p journal never run = all.none
  where
    step : (past : List Entry) (x : Entry) → Untouched s p past → MayFollow (layout_of s) past x → Untouched s p (past ++ x ∷ [])
    step past x k may =
        let off : p x ≡ false = false_from_ne_true (p x) (never past x k.run may) in
        let none : cond (p x) 1 0 ≡ 0 = ap (λ (b : Bool). let n : ℕ = cond b 1 0 in n) off in
        let push : count_by p (past ++ x ∷ []) ≡ count_by p past + cond (p x) 1 0 = sum_by_push (λ (y : Entry). let n : ℕ = cond (p y) 1 0 in n) past x in
        record {
          run = record { lawful = k.run.lawful; packet = k.run.packet; history = each_push (MayFollow (layout_of s)) [] past x k.run.history may };
          none = omega (arith, push, none, k.none);
        }

    all : Untouched s p journal
    all =
        over_each (MayFollow (layout_of s)) (λ (xs : List Entry). Untouched s p xs) (λ xs x k may. step xs x k may) [] journal
        (record { run = record { lawful = run.lawful; packet = run.packet; history = tt }; none = refl }) run.history

end_short : (s : ScenarioLists) (journal : List Entry) (e : EndpointId) (b : Bool) → declared (layout_of s) e ≡ b → IsOfRun s journal →
    IsWithinLogs (layout_of s) journal → count_by (touches e) journal ≤ s.log
end_short s journal e true is run within =
    let low : length (filter (touches e) journal) ≤ s.log = within.ends e is in
    omega (arith, low, length-filter (touches e) journal)
end_short s journal e false is run within =
    let none : count_by (touches e) journal ≡ 0 = untouched s (touches e) journal (λ past x r may h. true≢false (sym (touched_known s past x e r may h)
    ∙ is)) run in
    omega (arith, none)

node_short : (s : ScenarioLists) (journal : List Entry) (node : NodeId) (b : Bool) → nat_lt node.0 s.nodes ≡ b → IsOfRun s journal →
    IsWithinLogs (layout_of s) journal → count_by (touches_node node) journal ≤ s.log
node_short s journal node true is run within =
    let low : length (filter (touches_node node) journal) ≤ s.log = within.nodes node (ltb-true node.0 s.nodes is) in
    omega (arith, low, length-filter (touches_node node) journal)
node_short s journal node false is run within =
    let high : s.nodes ≤ node.0 = ltb-false node.0 s.nodes is in
    let none : count_by (touches_node node) journal ≡ 0 = untouched s (touches_node node) journal
    (λ past x r may h. (let low : node.0 < s.nodes = interface_below (layout_of s) x.event node may.in_range h in omega (arith, low, high))) run in
    omega (arith, none)

pub runs_have_short_logs : RunsHaveShortLogs
runs_have_short_logs s journal run within (Parts.Endpoint e) = end_short s journal e (declared (layout_of s) e) refl run within
runs_have_short_logs s journal run within (Parts.Interface node) = node_short s journal node (nat_lt node.0 s.nodes) refl run within
