-- The packets of a link are numbered from 1 in the order in which they are emitted.
use Rattle.std.specs.Prelude.{nat_lt, slice_get, MatchOption}
use Rattle.std.specs.List.{filter, cons_option}
use Rattle.std.proofs.Common.{◌≡◌, ◌⊎◌, inl, inr, ⊎_elim, ℕ, zero, suc, ◌+◌, ◌-◌, ◌≤◌, Bool, true, false, cond, List, [], ◌∷◌, ◌++◌, length, Option, Some, None}
use Rattle.std.proofs.Common.{refl, sym, ap, ◌∙◌, subst, arith, eqb-true, if◌then◌else◌}
use Rattle.std.proofs.lemmas.Bool.{and_parts}
use Rattle.am_names.specs.Names.{same_node}
use Rattle.am_names.specs.declared.NodeId.{NodeId}
use Rattle.am_names.specs.declared.Message.{Message}
use Rattle.am_names.specs.declared.Packet.{Packet}
use Rattle.am_names.specs.declared.Packet.TheVariants as Packets
use Rattle.am_names.specs.declared.Verdict.{Verdict}
use Rattle.am_names.specs.declared.Verdict.TheVariants as Verdicts
use Rattle.am_office_entries.specs.declared.Event.{Event}
use Rattle.am_office_entries.specs.declared.Event.TheVariants as Events
use Rattle.am_office_entries.specs.declared.Received.{Received}
use Rattle.am_office_entries.specs.declared.Received.TheVariants as Got
use Rattle.am_office_entries.specs.declared.Outcome.{Outcome}
use Rattle.am_office_entries.specs.declared.Outcome.TheVariants as Out
use Rattle.am_office_entries.specs.declared.Entry.{Entry}
use Rattle.am_office_entries.specs.Entries.{answer_by, answer_packet, emitted_in, emitted_of, parcel}
use Rattle.am_model.specs.declared.Queued.{Queued}
use Rattle.am_model.specs.Endpoint.{State, front, verdict}
use Rattle.am_model.specs.Changes.{flying_of}
use Rattle.am_model.specs.Layout.{Layout, home}
use Rattle.am_model.specs.Channels.{Again, Arrival, Channel, Fresh, Stale, arrival, attempt, bound_message, emitted, is_on_link, mark, sequence}
use Rattle.am_model.specs.History.{IsHistory, MayFollow, arrive, bind, bind_to, channel_for, channel_to, decided, expire, is_answered, next_number, outcome_of}
use Rattle.am_model.specs.History.{receive, sent, settle, state_of}
use Rattle.am_model.proofs.Each.{over_each, each_imply}
use Rattle.am_model_parts.specs.declared.work.Work.{Work}
use Rattle.am_model_parts.specs.declared.work.Work.TheVariants as Works
use Rattle.am_model_parts.specs.Interface.{InterfaceLog, arrival_in, arrive_at, bind_at, channel_in, channel_of_front, event_of, expire_at, has_try_left}
use Rattle.am_model_parts.specs.Interface.{home_in, outcome_at, settle_at}
use Rattle.am_model.specs.Packets.{receiver_of, from_of}
use Rattle.am_model.proofs.Marks.{settle_answers}
use Rattle.am_model_parts.specs.Numbered.{AreNumbered, HasNextNumber, IsNextPacket, IsPacketAt}
use Rattle.am_model_parts.proofs.Growing.{emitted_append}
use Rattle.am_model_parts.proofs.Touched.{settle_silent}

-- ---- one entry

-- the packet, if there is one, is the next that the node emits
abbrev IsNextOf : NodeId → List Entry → ℕ → Option Packet → Type 0
IsNextOf node past stamp None = Unit {0}
IsNextOf node past stamp (Some p) = IsNextPacket node past stamp p

decided_next : (node peer : NodeId) (past : List Entry) (stamp channel seq attempt : ℕ) (m : Message) (v : Verdict) →
    IsNextOf node past stamp (answer_packet node peer channel seq attempt stamp (answer_by (decided m (next_number node peer past) v)))
decided_next node peer past stamp channel seq attempt m Verdicts.Accepted = record { from = refl; number = refl; stamped = refl }
decided_next node peer past stamp channel seq attempt m (Verdicts.Refused cause) = record { from = refl; number = refl; stamped = refl }

arrive_next : (s : State) (node peer : NodeId) (past : List Entry) (stamp channel seq attempt : ℕ) (m : Message) (a : Arrival) →
    IsNextOf node past stamp (answer_packet node peer channel seq attempt stamp (answer_by (arrive_at s m (next_number node peer past) a)))
arrive_next s node peer past stamp channel seq attempt m Stale = tt
arrive_next s node peer past stamp channel seq attempt m (Again v) = record { from = refl; number = refl; stamped = refl }
arrive_next s node peer past stamp channel seq attempt m Fresh = decided_next node peer past stamp channel seq attempt m (verdict s m)

silent_next : (node peer : NodeId) (past : List Entry) (stamp channel seq attempt : ℕ) (r : Received) → answer_by r ≡ None →
    IsNextOf node past stamp (answer_packet node peer channel seq attempt stamp (answer_by r))
silent_next node peer past stamp channel seq attempt r none =
    subst (λ (a : Option (ℕ × Verdict)). IsNextOf node past stamp (answer_packet node peer channel seq attempt stamp a)) (sym none) tt

bind_next : (node : NodeId) (past : List Entry) (stamp : ℕ) (q : Queued) (peer : Option NodeId) (channel : Option ℕ) →
    IsNextOf node past stamp (parcel node stamp (bind_to node past q peer channel))
bind_next node past stamp q (Some peer) (Some channel) = record { from = refl; number = refl; stamped = refl }
bind_next node past stamp q (Some peer) None = tt
bind_next node past stamp q None channel = tt

again_next : (node peer : NodeId) (past : List Entry) (stamp channel seq attempt : ℕ) (m : Message) (b answered : Bool) →
    IsNextOf node past stamp (parcel node stamp (if b then sent node peer channel past m seq attempt else
    (if answered then Out.Delivered m.serial else Out.Unknown m.serial)))
again_next node peer past stamp channel seq attempt m true answered = record { from = refl; number = refl; stamped = refl }
again_next node peer past stamp channel seq attempt m false true = tt
again_next node peer past stamp channel seq attempt m false false = tt

front_next : (i : InterfaceLog) (stamp : ℕ) (q : Option Queued) → IsNextOf i.settings.node i.log stamp (parcel i.settings.node stamp (bind_at i q))
front_next i stamp None = tt
front_next i stamp (Some q) = bind_next i.settings.node i.log stamp q (home_in i q.message.dest) (channel_of_front i (Some q))

expire_next : (i : InterfaceLog) (s : State) (stamp : ℕ) (peer : NodeId) (channel : ℕ) (m : Option Message) →
    IsNextOf i.settings.node i.log stamp (parcel i.settings.node stamp (expire_at i s peer channel m))
expire_next i s stamp peer channel None = tt
expire_next i s stamp peer channel (Some m) =
    again_next i.settings.node peer i.log stamp channel (sequence (channel_in i peer channel) i.log) (attempt (channel_in i peer channel) i.log + 1) m
    (has_try_left i (channel_in i peer channel)) (is_answered (flying_of m.serial s.body.in_flight))

work_next : (i : InterfaceLog) (s : State) (w : Work) (stamp : ℕ) →
    IsNextOf i.settings.node i.log stamp (emitted_in stamp (event_of i.settings.node w) (outcome_at i s w))
work_next i s (Works.Receive (Packets.Parcel p)) stamp =
    arrive_next s i.settings.node p.from i.log stamp p.channel p.seq p.attempt p.message (arrival_in i p.from p.channel p.seq p.attempt)
work_next i s (Works.Receive (Packets.Answer p)) stamp =
    let c : Channel = channel_in i p.from p.channel in
    silent_next i.settings.node p.from i.log stamp p.channel p.seq p.attempt (settle_at i s c p (bound_message c i.log))
    (settle_silent i s c p (bound_message c i.log))
work_next i s (Works.Bind end) stamp = front_next i stamp (front s)
work_next i s (Works.Expire peer channel) stamp = expire_next i s stamp peer channel (bound_message (channel_in i peer channel) i.log)

-- the packet that a work emits is the next of its link
pub next_emitted : (i : InterfaceLog) (s : State) (w : Work) (stamp : ℕ) (p : Packet) →
    emitted_in stamp (event_of i.settings.node w) (outcome_at i s w) ≡ Some p → IsNextPacket i.settings.node i.log stamp p
next_emitted i s w stamp p is = subst (IsNextOf i.settings.node i.log stamp) is (work_next i s w stamp)

-- ---- every history

arrive_after : (layout : Layout) (node peer : NodeId) (past : List Entry) (stamp channel seq attempt : ℕ) (m : Message) (a : Arrival) →
    IsNextOf node past stamp (answer_packet node peer channel seq attempt stamp (answer_by (arrive layout past m (next_number node peer past) a)))
arrive_after layout node peer past stamp channel seq attempt m Stale = tt
arrive_after layout node peer past stamp channel seq attempt m (Again v) = record { from = refl; number = refl; stamped = refl }
arrive_after layout node peer past stamp channel seq attempt m Fresh =
    decided_next node peer past stamp channel seq attempt m (verdict (state_of layout past m.dest) m)

receive_after : (layout : Layout) (node peer : NodeId) (number : ℕ) (past : List Entry) (stamp : ℕ) (p : Option Packet) →
    IsNextOf node past stamp (emitted_in stamp (Events.Receive node peer number) (receive layout node peer past p))
receive_after layout node peer number past stamp None = tt
receive_after layout node peer number past stamp (Some (Packets.Parcel p)) =
    arrive_after layout node peer past stamp p.channel p.seq p.attempt p.message (arrival (mark (channel_to node peer p.channel) past) p.seq p.attempt)
receive_after layout node peer number past stamp (Some (Packets.Answer p)) =
    let c : Channel = channel_to node peer p.channel in
    silent_next node peer past stamp p.channel p.seq p.attempt (settle layout c past p (bound_message c past))
    (settle_answers layout c past p (bound_message c past))

bind_after : (layout : Layout) (node : NodeId) (past : List Entry) (stamp : ℕ) (q : Option Queued) →
    IsNextOf node past stamp (parcel node stamp (bind layout node past q))
bind_after layout node past stamp None = tt
bind_after layout node past stamp (Some q) = bind_next node past stamp q (home layout q.message.dest) (channel_for layout node past (Some q))

expire_after : (layout : Layout) (node peer : NodeId) (channel : ℕ) (past : List Entry) (stamp : ℕ) (m : Option Message) →
    IsNextOf node past stamp (parcel node stamp (expire layout node peer channel past m))
expire_after layout node peer channel past stamp None = tt
expire_after layout node peer channel past stamp (Some m) =
    again_next node peer past stamp channel (sequence (channel_to node peer channel) past) (attempt (channel_to node peer channel) past + 1) m
    (nat_lt (attempt (channel_to node peer channel) past + 1) layout.tries) (is_answered
    (flying_of m.serial (state_of layout past m.serial.source).body.in_flight))

-- the packet, if there is one, has the next number of its link
abbrev IsNext : List Entry → Option Packet → Type 0
IsNext past p = MatchOption p (Unit {0}) (HasNextNumber past)

numbered : (node : NodeId) (past : List Entry) (stamp : ℕ) (p : Option Packet) → IsNextOf node past stamp p → IsNext past p
numbered node past stamp None h = tt
numbered node past stamp (Some p) h = h.number ∙ ap (λ (n : NodeId). next_number n (receiver_of p) past) (sym h.from)

event_next : (layout : Layout) (past : List Entry) (stamp : ℕ) (event : Event) → IsNext past (emitted_in stamp event (outcome_of layout past event))
event_next layout past stamp (Events.Bind node end) =
    numbered node past stamp (emitted_in stamp (Events.Bind node end) (outcome_of layout past (Events.Bind node end)))
    (bind_after layout node past stamp (front (state_of layout past end)))
event_next layout past stamp (Events.Expire node peer channel) =
    numbered node past stamp (emitted_in stamp (Events.Expire node peer channel) (outcome_of layout past (Events.Expire node peer channel)))
    (expire_after layout node peer channel past stamp (bound_message (channel_to node peer channel) past))
event_next layout past stamp (Events.Receive node peer number) =
    numbered node past stamp (emitted_in stamp (Events.Receive node peer number) (outcome_of layout past (Events.Receive node peer number)))
    (receive_after layout node peer number past stamp (slice_get (emitted peer node past) (number - 1)))
event_next layout past stamp event = tt

pub history_numbered : (layout : Layout) (journal : List Entry) → IsHistory layout journal → AreNumbered journal
history_numbered layout journal history =
    each_imply (MayFollow layout) (λ past x. IsNext past (emitted_of x))
    (λ past x may. subst (λ (o : Outcome). IsNext past (emitted_in x.stamp x.event o)) (sym may.outcome) (event_next layout past x.stamp x.event))
    [] journal history

-- ---- places

-- an element of one list after another
got_append : {X : Type 0} (xs ys : List X) (k : ℕ) (p : X) → slice_get (xs ++ ys) k ≡ Some p →
    (slice_get xs k ≡ Some p) ⊎ ((length xs ≤ k) × (slice_get ys (k - length xs) ≡ Some p))
got_append [] ys k p h = inr (omega arith, (let same : k - 0 ≡ k = omega arith in ap (slice_get ys) same ∙ h))
got_append (x ∷ xs) ys zero p h = inl h
got_append (x ∷ xs) ys (suc k) p h =
    ⊎_elim (λ here. inl here)
    (λ (there : (length xs ≤ k) × (slice_get ys (k - length xs) ≡ Some p)).
    (let le = there.0 in let same : suc k - suc (length xs) ≡ k - length xs = omega arith in inr (omega (arith, le), ap (slice_get ys) same ∙ there.1)))
    (got_append xs ys k p h)

on_link : (node peer : NodeId) (p : Packet) → is_on_link node peer p ≡ true → (from_of p ≡ node) × (receiver_of p ≡ peer)
on_link node peer (Packets.Parcel p) h =
    let parts = and_parts (same_node node p.from) (same_node peer p.to) h in
    let a : p.from.0 ≡ node.0 = sym (eqb-true node.0 p.from.0 parts.0) in
    let b : p.to.0 ≡ peer.0 = sym (eqb-true peer.0 p.to.0 parts.1) in
    ((λ i. record { 0 = a i }), (λ i. record { 0 = b i }))
on_link node peer (Packets.Answer p) h =
    let parts = and_parts (same_node node p.from) (same_node peer p.to) h in
    let a : p.from.0 ≡ node.0 = sym (eqb-true node.0 p.from.0 parts.0) in
    let b : p.to.0 ≡ peer.0 = sym (eqb-true peer.0 p.to.0 parts.1) in
    ((λ i. record { 0 = a i }), (λ i. record { 0 = b i }))

-- the one packet that an entry emits on a link
one_emitted : (node peer : NodeId) (past : List Entry) (q : Option Packet) (k : ℕ) (p : Packet) → IsNext past q →
    slice_get (filter (is_on_link node peer) (cons_option q [])) k ≡ Some p → (k ≡ 0) × IsPacketAt node peer (length (emitted node peer past)) p
one_emitted node peer past None k p next at = absurd (cc)
one_emitted node peer past (Some q) k p next at = by_link (is_on_link node peer q) refl k at
  where
    by_link : (b : Bool) → is_on_link node peer q ≡ b → (j : ℕ) → slice_get (cond b (q ∷ []) []) j ≡ Some p →
        (j ≡ 0) × IsPacketAt node peer (length (emitted node peer past)) p
    by_link true is zero g =
        let same : q ≡ p = cc in
        let ends = on_link node peer q is in (
          refl,
          subst (IsPacketAt node peer (length (emitted node peer past))) same
              (record { from = ends.0; to = ends.1; number = next ∙ λ i. next_number (ends.0 i) (ends.1 i) past }),
        )
    by_link true is (suc j) g = absurd (cc)
    by_link false is j g = absurd (cc)

-- each packet stands at its place
abbrev StandInPlace : List Entry → Type 0
StandInPlace past = (node peer : NodeId) (k : ℕ) (p : Packet) → slice_get (emitted node peer past) k ≡ Some p → IsPacketAt node peer k p

place_more : (past : List Entry) (x : Entry) → StandInPlace past → IsNext past (emitted_of x) → StandInPlace (past ++ x ∷ [])
place_more past x kept next =
    λ node peer k p at.
    ⊎_elim (λ (old : slice_get (emitted node peer past) k ≡ Some p). kept node peer k p old)
    (λ (new : (length (emitted node peer past) ≤ k) × (slice_get (emitted node peer (x ∷ [])) (k - length (emitted node peer past)) ≡ Some p)).
    (let one = one_emitted node peer past (emitted_of x) (k - length (emitted node peer past)) p next new.1 in
    let le = new.0 in
    let none = one.0 in
    let place : length (emitted node peer past) ≡ k = omega (arith, le, none) in
    subst (λ (n : ℕ). IsPacketAt node peer n p) place one.1))
    (got_append (emitted node peer past) (emitted node peer (x ∷ [])) k p (ap (λ (ps : List Packet). slice_get ps k)
    (sym (emitted_append node peer past (x ∷ []))) ∙ at))

pub numbered_place : (log : List Entry) → AreNumbered log → (node peer : NodeId) (k : ℕ) (p : Packet) → slice_get (emitted node peer log) k ≡ Some p →
    IsPacketAt node peer k p
numbered_place log each =
    over_each (λ past x. IsNext past (emitted_of x)) StandInPlace (λ past x kept next. place_more past x kept next) [] log (λ node peer k p at. absurd (cc))
    each
