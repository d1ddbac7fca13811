-- A receipt that is due may happen: what is released was emitted, and is numbered so.
use Rattle.std.proofs.Common.{◌≡◌, ℕ, zero, suc, ◌+◌, ◌-◌, ◌<◌, ◌≤◌, ◌^◌, Bool, true, false, cond, List, [], ◌∷◌, ◌++◌, map, length, Option, Some, None, refl}
use Rattle.std.proofs.Common.{sym, ap, ◌∙◌, subst, arith, ltb-true, lt-ltb, le-leb, length-append, if◌then◌else◌}
use Rattle.std.specs.Prelude.{◌&&◌, ◌==◌, nat_lt, nat_le, filter, filter_map, slice_get, MatchOption}
use Rattle.std.specs.List.{cons_option}
use Rattle.std.proofs.lemmas.Bool.{and_from, and_parts}
use Rattle.am_lemmas.proofs.Options.{cond-None}
use Rattle.am_names.specs.declared.NodeId.{NodeId}
use Rattle.am_names.specs.declared.Message.{Message}
use Rattle.am_names.specs.declared.Verdict.{Verdict}
use Rattle.am_names.specs.declared.Verdict.TheVariants as Verdicts
use Rattle.am_names.specs.declared.AnswerPacket.{AnswerPacket}
use Rattle.am_names.specs.declared.Packet.{Packet}
use Rattle.am_names.specs.declared.Packet.TheVariants as Packets
use Rattle.am_names.specs.Names.{same_node}
use Rattle.am_office_entries.specs.declared.Condition.TheVariants as Needs
use Rattle.am_office_entries.specs.declared.Event.{Event}
use Rattle.am_office_entries.specs.declared.Event.TheVariants as Events
use Rattle.am_office_entries.specs.declared.Outcome.{Outcome}
use Rattle.am_office_entries.specs.declared.Outcome.TheVariants as Out
use Rattle.am_office_entries.specs.declared.Received.TheVariants as Got
use Rattle.am_office_entries.specs.declared.Entry.{Entry}
use Rattle.am_office_entries.specs.Entries.{emitted_in, emitted_of, parcel, answer_by, answer_packet}
use Rattle.am_model.specs.declared.Queued.{Queued}
use Rattle.am_model.specs.Endpoint.{front, verdict}
use Rattle.am_model.specs.Changes.{flying_of}
use Rattle.am_model.specs.Layout.{Layout, AllAre, home}
use Rattle.am_model.specs.Channels.{Arrival, Stale, Again, Fresh, emitted, is_on_link, bound_message, sequence, attempt, mark, arrival}
use Rattle.am_model.specs.History.{MayFollow, IsHistory, state_of, channel_to, channel_for, next_number, sent, bind_to, bind, is_answered, expire, decided}
use Rattle.am_model.specs.History.{bounced, arrive, counts, receive, settle, settle_by, outcome_of}
use Rattle.am_model.proofs.Each.{over_each}
use Rattle.am_model.proofs.Alls.{all_append}
use Rattle.am_model.proofs.Names.{same_node-is}
use Rattle.am_model_parts.proofs.Touched.{settling_silent}
use Rattle.am_laws.proofs.Alls.{all_map}
use Rattle.am_scenario_plan.specs.declared.plan.LinkFault.{LinkFault}
use Rattle.am_scenario_plan.specs.declared.plan.LinkFault.TheVariants.{Lose, Repeat, Late}
use Rattle.am_scenario_plan.specs.Shape.{fault_at, at_once, is_late_until, late_from, stamped, stamp_of, number_of, released_by, shape_after, shape}
use Rattle.am_scenario_types.specs.Lists.{ScenarioLists}
use Rattle.am_model_scripts.specs.Layout.{layout_of}
use Rattle.am_model_scripts.specs.Links.{due, receipt, receipt_at, next_receipt, received}
use Rattle.am_model_scripts.proofs.Links.{emitted_push}
use Rattle.am_model_scripts.proofs.Lists.{some_mapped}
use Rattle.am_model_drain.specs.declared.Turn.{Turn}
use Rattle.am_model_drain.specs.declared.Turn.TheVariants.{Once}
use Rattle.am_model_drain.specs.Made.{after_event}
use Rattle.am_model_drain.specs.Drain.{after_turn}
use Rattle.am_model_drain.proofs.TurnKinds.{Maybe, is_so}
use Rattle.am_laws_runs.specs.Turns.Enabled.{IsOfRun, DuesAreCounted, ReceiptsMayFollow}
use Rattle.am_laws_runs.proofs.Enabled.{event_follows, of_packets, nodes_so}
use Rattle.am_model.specs.Packets.{from_of, receiver_of}

-- ---- the number of a packet that is emitted

-- a packet has the next number of its link
abbrev IsNext : List Entry → Packet → Type 0
IsNext past (Packets.Parcel p) = p.number ≡ next_number p.from p.to past
IsNext past (Packets.Answer p) = p.number ≡ next_number p.from p.to past

abbrev AreNext : List Entry → Option Packet → Type 0
AreNext past o = MatchOption o (Unit {0}) (IsNext past)

bind_next : (node : NodeId) (past : List Entry) (stamp : ℕ) (q : Queued) (peer : Option NodeId) (channel : Option ℕ) →
    AreNext past (parcel node stamp (bind_to node past q peer channel))
bind_next node past stamp q (Some peer) (Some channel) = refl
bind_next node past stamp q (Some peer) None = tt
bind_next node past stamp q None channel = tt

front_next : (layout : Layout) (node : NodeId) (past : List Entry) (stamp : ℕ) (f : Option Queued) → AreNext past (parcel node stamp (bind layout node past f))
front_next layout node past stamp None = tt
front_next layout node past stamp (Some q) = bind_next node past stamp q (home layout q.message.dest) (channel_for layout node past (Some q))

expire_next : (layout : Layout) (node peer : NodeId) (channel : ℕ) (past : List Entry) (stamp : ℕ) (m : Option Message) →
    AreNext past (parcel node stamp (expire layout node peer channel past m))
expire_next layout node peer channel past stamp None = tt
expire_next layout node peer channel past stamp (Some m) = by_tests (nat_lt (attempt (channel_to node peer channel) past + 1) layout.tries)
    (is_answered (flying_of m.serial (state_of layout past m.serial.source).body.in_flight))
  where
    by_tests : (again answered : Bool) → AreNext past (parcel node stamp (if again then sent node peer channel past m
        (sequence (channel_to node peer channel) past) (attempt (channel_to node peer channel) past + 1) else
        (if answered then Out.Delivered m.serial else Out.Unknown m.serial)))
    by_tests true answered = refl
    by_tests false true = tt
    by_tests false false = tt

decided_next : (node peer : NodeId) (channel seq attempt stamp : ℕ) (past : List Entry) (m : Message) (v : Verdict) →
    AreNext past (answer_packet node peer channel seq attempt stamp (answer_by (decided m (next_number node peer past) v)))
decided_next node peer channel seq attempt stamp past m Verdicts.Accepted = refl
decided_next node peer channel seq attempt stamp past m (Verdicts.Refused cause) = refl

arrive_next : (layout : Layout) (node peer : NodeId) (channel seq attempt stamp : ℕ) (past : List Entry) (m : Message) (a : Arrival) →
    AreNext past (answer_packet node peer channel seq attempt stamp (answer_by (arrive layout past m (next_number node peer past) a)))
arrive_next layout node peer channel seq attempt stamp past m Stale = tt
arrive_next layout node peer channel seq attempt stamp past m (Again v) = refl
arrive_next layout node peer channel seq attempt stamp past m Fresh =
    decided_next node peer channel seq attempt stamp past m (verdict (state_of layout past m.dest) m)

settle_none : (layout : Layout) (node peer : NodeId) (past : List Entry) (p : AnswerPacket) (m : Option Message) →
    answer_by (settle layout (channel_to node peer p.channel) past p m) ≡ None
settle_none layout node peer past p None = refl
settle_none layout node peer past p (Some m) = by_test ((p.seq == sequence (channel_to node peer p.channel) past) && counts p.verdict (p.attempt ==
    attempt (channel_to node peer p.channel) past))
  where
    by_test : (b : Bool) → answer_by (if b then settle_by layout.bounces m (bounced (flying_of m.serial (state_of layout past m.serial.source).body.in_flight))
        p.verdict else Got.Nothing) ≡ None
    by_test true = settling_silent layout.bounces m (bounced (flying_of m.serial (state_of layout past m.serial.source).body.in_flight)) p.verdict
    by_test false = refl

receive_next : (layout : Layout) (node peer : NodeId) (number : ℕ) (past : List Entry) (stamp : ℕ) (p : Option Packet) →
    AreNext past (emitted_in stamp (Events.Receive node peer number) (receive layout node peer past p))
receive_next layout node peer number past stamp None = tt
receive_next layout node peer number past stamp (Some (Packets.Parcel p)) =
    arrive_next layout node peer p.channel p.seq p.attempt stamp past p.message (arrival (mark (channel_to node peer p.channel) past) p.seq p.attempt)
receive_next layout node peer number past stamp (Some (Packets.Answer p)) =
    let none = settle_none layout node peer past p (bound_message (channel_to node peer p.channel) past) in
    subst (λ o. AreNext past (answer_packet node peer p.channel p.seq p.attempt stamp o)) (sym none) tt

event_next : (layout : Layout) (past : List Entry) (stamp : ℕ) (event : Event) → AreNext past (emitted_in stamp event (outcome_of layout past event))
event_next layout past stamp (Events.Bind node end) = front_next layout node past stamp (front (state_of layout past end))
event_next layout past stamp (Events.Expire node peer channel) =
    expire_next layout node peer channel past stamp (bound_message (channel_to node peer channel) past)
event_next layout past stamp (Events.Receive node peer number) =
    receive_next layout node peer number past stamp (slice_get (emitted peer node past) (number - 1))
event_next layout past stamp event = tt

-- a packet that an entry emits has the next number of its link
pub packet_next : (layout : Layout) (past : List Entry) (x : Entry) → MayFollow layout past x → (p : Packet) → emitted_of x ≡ Some p →
    number_of p ≡ next_number (from_of p) (receiver_of p) past
packet_next layout past x may p is = of_kind p (subst (λ (o : Option Packet). AreNext past o) is
    (subst (λ (o : Outcome). AreNext past (emitted_in x.stamp x.event o)) (sym may.outcome) (event_next layout past x.stamp x.event)))
  where
    of_kind : (q : Packet) → IsNext past q → number_of q ≡ next_number (from_of q) (receiver_of q) past
    of_kind (Packets.Parcel q) h = h
    of_kind (Packets.Answer q) h = h

-- ---- the numbers of a link

abbrev IsNumbered : ℕ → Packet → Type 0
IsNumbered most p = (1 ≤ number_of p) × (number_of p ≤ most)

abbrev AreNumbered : List Entry → Type 0
AreNumbered past = (from to : NodeId) → AllAre (IsNumbered (length (emitted from to past))) (emitted from to past)

-- what an entry emits on a link, beside what was emitted there
new_numbered : (from to : NodeId) (past : List Entry) (o : Option Packet) → AreNext past o →
    AllAre (IsNumbered (length (emitted from to past) + length (filter (is_on_link from to) (cons_option o []))))
    (filter (is_on_link from to) (cons_option o []))
new_numbered from to past None next = tt
new_numbered from to past (Some p) next = by_test (is_on_link from to p) refl
  where
    next_is : is_on_link from to p ≡ true → number_of p ≡ length (emitted from to past) + 1
    next_is on = of_kind p on next
      where
        of_kind : (r : Packet) → is_on_link from to r ≡ true → IsNext past r → number_of r ≡ length (emitted from to past) + 1
        of_kind (Packets.Parcel r) on' is =
            let link = and_parts (same_node from r.from) (same_node to r.to) on' in
            is ∙ (ap (λ (n : NodeId). next_number n r.to past) (sym (same_node-is from r.from link.0))
            ∙ ap (λ (n : NodeId). next_number from n past) (sym (same_node-is to r.to link.1)))
        of_kind (Packets.Answer r) on' is =
            let link = and_parts (same_node from r.from) (same_node to r.to) on' in
            is ∙ (ap (λ (n : NodeId). next_number n r.to past) (sym (same_node-is from r.from link.0))
            ∙ ap (λ (n : NodeId). next_number from n past) (sym (same_node-is to r.to link.1)))

    by_test : (b : Bool) → is_on_link from to p ≡ b → AllAre (IsNumbered (length (emitted from to past) + length (cond b (p ∷ []) []))) (cond b (p ∷ []) [])
    by_test true on =
        let n = next_is on in
        let one : length (p ∷ []) ≡ 1 = refl in
        ((omega (arith, n), omega (arith, n, one)), tt)
    by_test false off = tt

numbered_more : (layout : Layout) (past : List Entry) (x : Entry) → AreNumbered past → MayFollow layout past x → AreNumbered (past ++ x ∷ [])
numbered_more layout past x k may from to =
    subst (λ (ps : List Packet). AllAre (IsNumbered (length ps)) ps) (sym (emitted_push from to past x))
    (subst (λ (n : ℕ). AllAre (IsNumbered n) (emitted from to past ++ emitted from to (x ∷ [])))
    (sym (length-append (emitted from to past) (emitted from to (x ∷ []))))
    (all_append (IsNumbered (length (emitted from to past) + length (emitted from to (x ∷ [])))) (emitted from to past) (emitted from to (x ∷ []))
    (all_map (IsNumbered (length (emitted from to past))) (IsNumbered (length (emitted from to past) + length (emitted from to (x ∷ []))))
    (emitted from to past) (λ p h. (h.0, omega (arith, h.1))) (k from to))
    (new_numbered from to past (emitted_of x) next)))
  where
    next : AreNext past (emitted_of x)
    next = subst (λ (o : Outcome). AreNext past (emitted_in x.stamp x.event o)) (sym may.outcome) (event_next layout past x.stamp x.event)

numbered : (layout : Layout) (past : List Entry) → IsHistory layout past → AreNumbered past
numbered layout past h = over_each (MayFollow layout) AreNumbered (λ xs x k may. numbered_more layout xs x k may) [] past (λ from to. tt) h

-- ---- what is released was emitted

stamped_numbered : (most stamp : ℕ) (p : Packet) → IsNumbered most p → IsNumbered most (stamped stamp p)
stamped_numbered most stamp (Packets.Parcel p) h = h
stamped_numbered most stamp (Packets.Answer p) h = h

pub at_once_so : (P : Packet → Type 0) (fault : Option LinkFault) (p : Packet) → P p → AllAre P (at_once fault p)
at_once_so P None p h = (h, tt)
at_once_so P (Some Repeat) p h = (h, (h, tt))
at_once_so P (Some Lose) p h = tt
at_once_so P (Some (Late by)) p h = tt

late_so : (P Q : Packet → Type 0) (f : Packet → Packet) → ((p : Packet) → P p → Q (f p)) → (fault : ℕ → Option LinkFault) (now place : ℕ) (ps : List Packet) →
    AllAre P ps → AllAre Q (map f (late_from fault now place ps))
late_so P Q f step fault now place [] h = tt
late_so P Q f step fault now place (p ∷ ps) h = by_test (is_late_until now place (fault place)) (late_so P Q f step fault now (place + 1) ps h.1)
  where
    by_test : (b : Bool) → AllAre Q (map f (late_from fault now (place + 1) ps)) →
        AllAre Q (map f (if b then p ∷ late_from fault now (place + 1) ps else late_from fault now (place + 1) ps))
    by_test true later = (step p h.0, later)
    by_test false later = later

shape_so : (most : ℕ) (fault : ℕ → Option LinkFault) (before ps : List Packet) → AllAre (IsNumbered most) before → AllAre (IsNumbered most) ps →
    AllAre (IsNumbered most) (shape_after fault before ps)
shape_so most fault before [] h k = tt
shape_so most fault before (p ∷ ps) h k =
    all_append (IsNumbered most) (released_by fault before p) (shape_after fault (before ++ p ∷ []) ps)
    (all_append (IsNumbered most) (at_once (fault (length before + 1)) p) (map (stamped (stamp_of p)) (late_from fault (length before + 1) 1 before))
    (at_once_so (IsNumbered most) (fault (length before + 1)) p k.0)
    (late_so (IsNumbered most) (IsNumbered most) (stamped (stamp_of p)) (λ r i. stamped_numbered most (stamp_of p) r i) fault (length before + 1) 1 before h))
    (shape_so most fault (before ++ p ∷ []) ps (all_append (IsNumbered most) before (p ∷ []) h (k.0, tt)) k.1)

numbers_so : (most : ℕ) (ps : List Packet) (i n : ℕ) → AllAre (IsNumbered most) ps → slice_get (map number_of ps) i ≡ Some n → (1 ≤ n) × (n ≤ most)
numbers_so most [] i n h e = absurd (cc)
numbers_so most (p ∷ ps) zero n h e =
    let same : number_of p ≡ n = cc in
    subst (λ (k : ℕ). (1 ≤ k) × (k ≤ most)) same h.0
numbers_so most (p ∷ ps) (suc i) n h e = numbers_so most ps i n h.1 e

pub dues_are_counted : DuesAreCounted
dues_are_counted s past node peer n h e =
    let sent' = emitted peer node past in
    numbers_so (length sent') (shape s.plan peer node sent') (length (received peer node past)) n
    (shape_so (length sent') (fault_at s.plan peer node) [] sent' tt (numbered (layout_of s) past h peer node)) e

-- ---- no more is emitted than there are entries

few_kept : {X : Type 0} (q : X → Bool) (b : Bool) (x : X) (xs : List X) (n : ℕ) → length xs ≤ n → length (cond b (x ∷ xs) xs) ≤ n + 1
few_kept q true x xs n h = omega (arith, h)
few_kept q false x xs n h = omega (arith, h)

few_emitted : (from to : NodeId) (past : List Entry) → length (emitted from to past) ≤ length past
few_emitted from to [] = omega arith
few_emitted from to (x ∷ xs) = by_packet (emitted_of x) (few_emitted from to xs)
  where
    by_packet : (o : Option Packet) → length (emitted from to xs) ≤ length xs →
        length (filter (is_on_link from to) (cons_option o (filter_map emitted_of xs))) ≤ length (x ∷ xs)
    by_packet None h = omega (arith, h)
    by_packet (Some p) h =
        let more = few_kept (is_on_link from to) (is_on_link from to p) p (emitted from to xs) (length xs) h in
        omega (arith, more)

-- ---- the receipt

receipt_may : (s : ScenarioLists) (past : List Entry) (node peer : NodeId) (n : ℕ) → IsOfRun s past → length past < 2 ^ 32 → node.0 < s.nodes →
    peer.0 < s.nodes → due s peer node past ≡ Some n → IsHistory (layout_of s) (after_event (layout_of s) (Events.Receive node peer n) past)
receipt_may s past node peer n run short on from e =
    let layout : Layout = layout_of s in
    let k = dues_are_counted s past node peer n run.history e in
    let low : n < 2 ^ 32 = omega (arith, k.1, few_emitted peer node past, short) in
    event_follows layout past (Events.Receive node peer n) run.history
    (and_from (nat_lt node.0 layout.nodes && nat_lt peer.0 layout.nodes && nat_le 1 n) (nat_lt n (2 ^ 32))
    (and_from (nat_lt node.0 layout.nodes && nat_lt peer.0 layout.nodes) (nat_le 1 n)
    (and_from (nat_lt node.0 layout.nodes) (nat_lt peer.0 layout.nodes) (lt-ltb node.0 layout.nodes on) (lt-ltb peer.0 layout.nodes from)) (le-leb 1 n k.0))
    (lt-ltb n (2 ^ 32) low))
    (cond-None layout.direct Needs.NotPacket _ (of_packets s run.packet)
    (cond-None (nat_lt (length (emitted peer node past)) n) Needs.NoPacket None (ltb_false (length (emitted peer node past)) n k.1) refl))
  where
    ltb_false : (a b : ℕ) → b ≤ a → nat_lt a b ≡ false
    ltb_false a b h = by_test (nat_lt a b) refl
      where
        by_test : (t : Bool) → nat_lt a b ≡ t → t ≡ false
        by_test true is = absurd (omega (arith, h, ltb-true a b is))
        by_test false is = refl

abbrev EventMakesHistory : ScenarioLists → List Entry → Event → Type 0
EventMakesHistory s past event = IsHistory (layout_of s) (after_event (layout_of s) event past)

pub receipts_may_follow : ReceiptsMayFollow
receipts_may_follow s past t run short e =
    let found = some_mapped Once (next_receipt s past) t e in
    subst (λ (u : Turn). IsHistory (layout_of s) (after_turn s past u)) found.2
    (is_so (EventMakesHistory s past) (next_receipt s past) found.0 (nodes_so (EventMakesHistory s past) s (receipt_at s past)
    (λ (node : NodeId) on. nodes_so (EventMakesHistory s past) s (λ (peer : NodeId). receipt node peer (due s peer node past))
    (λ (peer : NodeId) from. due_so node peer on from (due s peer node past) refl))) found.1)
  where
    due_so : (node peer : NodeId) → node.0 < s.nodes → peer.0 < s.nodes → (o : Option ℕ) → due s peer node past ≡ o →
        Maybe (EventMakesHistory s past) (receipt node peer o)
    due_so node peer on from None is = tt
    due_so node peer on from (Some n) is = receipt_may s past node peer n run short on from is
