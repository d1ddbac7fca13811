-- A message has one live sequence, and is somewhere.
use Rattle.std.specs.Prelude.{nat_lt, slice_get, count_by}
use Rattle.std.proofs.Common.{◌≡◌, ◌==◌, ℕ, zero, suc, ◌+◌, ◌-◌, ◌≤◌, Bool, true, false, ◌&&◌, List, [], ◌∷◌, ◌++◌, Option, Some, None, refl, sym, ap, ◌∙◌}
use Rattle.std.proofs.Common.{subst, arith, eqb-true, true≢false, if◌then◌else◌}
use Rattle.std.proofs.lemmas.Bool.{and_parts}
use Rattle.std.specs.List.{find}
use Rattle.am_names.specs.Rules.{is_transient}
use Rattle.am_names.specs.declared.EndpointId.{EndpointId}
use Rattle.am_names.specs.declared.NodeId.{NodeId}
use Rattle.am_names.specs.declared.Serial.{Serial}
use Rattle.am_names.specs.declared.Cause.{Cause}
use Rattle.am_names.specs.declared.Verdict.{Verdict}
use Rattle.am_names.specs.declared.Verdict.TheVariants as Verdicts
use Rattle.am_names.specs.declared.Message.{Message}
use Rattle.am_names.specs.declared.AnswerPacket.{AnswerPacket}
use Rattle.am_names.specs.declared.Packet.{Packet}
use Rattle.am_names.specs.declared.Packet.TheVariants as Packets
use Rattle.am_office_entries.specs.declared.Event.{Event}
use Rattle.am_office_entries.specs.declared.Event.TheVariants as Events
use Rattle.am_office_entries.specs.declared.Received.{Received}
use Rattle.am_office_entries.specs.declared.Received.TheVariants as Got
use Rattle.am_office_entries.specs.declared.Outcome.{Outcome}
use Rattle.am_office_entries.specs.declared.Outcome.TheVariants as Out
use Rattle.am_office_entries.specs.declared.Entry.{Entry}
use Rattle.am_names.specs.Names.{same_end, same_serial, has_serial}
use Rattle.am_model.specs.declared.Flying.{Flying}
use Rattle.am_model.specs.Endpoint.{verdict}
use Rattle.am_model.specs.Changes.{flying_of}
use Rattle.am_office_entries.specs.Entries.{accepted_of, put_in, put_of, run_by, run_in, run_of, returned_in, returned_of, unknown_in, unknown_of, touches, passes}
use Rattle.am_model.specs.Layout.{Layout, EndSetting, has_id, opening_by}
use Rattle.am_model.specs.Channels.{Channel, Arrival, Stale, Again, Fresh, bound_message, emitted, arrival, mark, sequence, attempt}
use Rattle.am_model.specs.History.{state_of, MayFollow, IsHistory, outcome_of, receive, arrive, decided, settle, settle_by, counts, bounced, channel_to}
use Rattle.am_model.specs.History.{next_number, expire, is_answered}
use Rattle.am_model.specs.PostOffice.{times, times_serial, Gave, WasAccepted}
use Rattle.am_model.proofs.Each.{over_each, each_push}
use Rattle.am_model.proofs.Names.{same_serial-is, same_serial-refl, same_end-refl, same_end-is}
use Rattle.am_model.proofs.Received.{bit}
use Rattle.am_model.proofs.Books.{role_push}
use Rattle.am_laws.proofs.Everywhere.{each_once}
use Rattle.am_laws.proofs.Alls.{all_found}
use Rattle.std.proofs.lemmas.List.Sums.{sum_by-le-sum_by}
use Rattle.am_model.specs.Cluster.{OneLiveSequence, count_queued, count_flying, answer_channel, other_end}
use Rattle.am_model.specs.PostOffice.{only_if}
use Rattle.am_model.proofs.Received.{held, weight, run_at, put_at}
use Rattle.am_model.proofs.Books.{ReceivedBalance, balance_received, count_role}
use Rattle.am_model.proofs.Ends.{EmittedIn, was_emitted}
use Rattle.am_laws.proofs.Waiting.{weight_serial}
use Rattle.am_laws.proofs.Once.{put_apart_all, runs_somewhere, put_at_le}
use Rattle.am_laws.proofs.Senders.{sender}
use Rattle.am_laws.proofs.OrderedParcels.{IsOf}
use Rattle.am_laws.proofs.Effects.{link_of_answer}
use Rattle.am_laws.proofs.Numbers.{end_in, end_of_entry}
use Rattle.am_laws.proofs.Balance.{balanced, serial_push}
use Rattle.am_laws.proofs.Ledger.{found_serial}
use Rattle.am_laws.proofs.Given.{gave_times}
use Rattle.am_laws.proofs.Marked.{replied, flags}
use Rattle.am_laws.proofs.CreditPuts.{put_reply}
use Rattle.am_laws_cluster.proofs.Sent.{sendings}
use Rattle.am_laws_cluster.proofs.Taken.{takings}
use Rattle.am_laws_cluster.proofs.Answers.{replies}
use Rattle.am_laws_cluster.proofs.Sequences.{live}

-- what was put is received, or has run

received_balance : (layout : Layout) (past : List Entry) → IsHistory layout past → ReceivedBalance layout past
received_balance layout past h =
    over_each (MayFollow layout) (λ xs. ReceivedBalance layout xs) (λ xs x k may. λ p e. balance_received layout xs x k may p e (touches e x) refl) [] past
    (λ p e. none p (find (has_id e) layout.ends)) h
  where
    none : (p : Message → Bool) (setting : Option EndSetting) → ◌≡◌ {A = ℕ} 0 (held p (opening_by layout setting) + 0)
    none p None = refl
    none p (Some setting) = refl

-- what is put at its destination
put_there : (p : Message → Bool) (e : EndpointId) (past : List Entry) → times put_of (λ n. p n && same_end e n.dest) past ≤ count_role (put_at e) p past
put_there p e past =
    sum_by-le-sum_by (λ (x : Entry). bit (passes (λ n. p n && same_end e n.dest) (put_of x))) (λ (x : Entry). weight p (put_at e x.event x.outcome)) past
    (λ x. by_put (put_of x))
  where
    by_tests : (n : Message) (b : Bool) → bit (p n && b) ≤ weight p (if b then Some n else None)
    by_tests n true = by_p (p n)
      where
        by_p : (c : Bool) → bit (c && true) ≤ bit c
        by_p true = omega arith
        by_p false = omega arith
    by_tests n false = by_p (p n)
      where
        by_p : (c : Bool) → bit (c && false) ≤ 0
        by_p true = omega arith
        by_p false = omega arith

    by_put : (w : Option Message) → bit (passes (λ n. p n && same_end e n.dest) w) ≤ weight p (only_if (λ n. same_end e n.dest) w)
    by_put None = omega arith
    by_put (Some n) = by_tests n (same_end e n.dest)

run_at_le : (p : Message → Bool) (e : EndpointId) (past : List Entry) → count_role (run_at e) p past ≤ times run_of p past
run_at_le p e past = sum_by-le-sum_by (λ (x : Entry). weight p (run_at e x.event x.outcome)) (λ (x : Entry). bit (passes p (run_of x))) past
    (λ x. by_event x.event x.outcome)
  where
    by_test : (b : Bool) (w : Option Message) → weight p (if b then w else None) ≤ bit (passes p w)
    by_test true w = omega arith
    by_test false w = omega arith

    by_event : (event : Event) (o : Outcome) → weight p (run_at e event o) ≤ bit (passes p (run_in event o))
    by_event (Events.Call actor end call) o = by_test (same_end e end) (run_by call o)
    by_event event o = omega arith

put_is_somewhere : (layout : Layout) (past : List Entry) → IsHistory layout past → (m : Message) → Gave put_of past m →
    count_by (has_serial m.serial) (state_of layout past m.dest).body.received + times run_of (has_serial m.serial) past ≡ 1
put_is_somewhere layout past h m g = by_run (count_role (run_at m.dest) (has_serial m.serial) past) refl
  where
    p : Message → Bool
    p = has_serial m.serial

    balance : ReceivedBalance layout past
    balance = received_balance layout past h

    put_here : 1 ≤ count_role (put_at m.dest) (has_serial m.serial) past
    put_here = omega (
      arith,
      put_there (has_serial m.serial) m.dest past,
      gave_times put_of (λ n. has_serial m.serial n && same_end m.dest n.dest) past m g (λ i. same_serial-refl m.serial i && same_end-refl m.dest i),
    )

    few : times put_of (has_serial m.serial) past ≤ 1
    few = omega (arith, (each_once layout past h).put m.serial, (each_once layout past h).accepted m.serial)

    by_run : (n : ℕ) → count_role (run_at m.dest) (has_serial m.serial) past ≡ n →
        count_by (has_serial m.serial) (state_of layout past m.dest).body.received + times run_of (has_serial m.serial) past ≡ 1
    by_run (suc n) is =
        omega (
          arith,
          is,
          put_here,
          few,
          balance (has_serial m.serial) m.dest,
          put_at_le (has_serial m.serial) m.dest past,
          run_at_le (has_serial m.serial) m.dest past,
          (each_once layout past h).run m.serial,
        )
    by_run zero is =
        let none : times run_of (has_serial m.serial) past ≡ 0 = runs_somewhere (has_serial m.serial) past (λ e. by_end e (same_end m.dest e) refl) in
        omega (arith, is, none, put_here, few, balance (has_serial m.serial) m.dest, put_at_le (has_serial m.serial) m.dest past)
      where
        by_end : (e : EndpointId) (b : Bool) → same_end m.dest e ≡ b → count_role (run_at e) (has_serial m.serial) past ≡ 0
        by_end e true at = subst (λ (w : EndpointId). count_role (run_at w) (has_serial m.serial) past ≡ 0) (same_end-is m.dest e at) is
        by_end e false at = omega (arith, balance (has_serial m.serial) e, put_apart_all (has_serial m.serial) m.dest e at past, put_here, few)

-- what is delivered was put

abbrev delivered_by : Received → Option Serial
delivered_by (Got.Delivered serial) = Some serial
delivered_by result = None

-- the serial that is delivered, as its source learns
abbrev delivered_in : Event → Outcome → Option Serial
delivered_in (Events.Receive node peer number) (Out.Received channel seq attempt result) = delivered_by result
delivered_in (Events.Expire node peer channel) (Out.Delivered serial) = Some serial
delivered_in event o = None

abbrev delivered_of : Entry → Option Serial
delivered_of x = delivered_in x.event x.outcome

settle_delivers : (layout : Layout) (past : List Entry) → IsHistory layout past → (c : Channel) (a : AnswerPacket) (b : Option Message) →
    bound_message c past ≡ b → EmittedIn (Packets.Answer a) past → other_end (answer_channel a) ≡ c → (t : Serial) →
    delivered_by (settle layout c past a b) ≡ Some t → 1 ≤ times put_of (has_serial t) past
settle_delivers layout past h c a None is here on t e = absurd (cc)
settle_delivers layout past h c a (Some m) is here on t e = by_test ((a.seq == sequence c past) && counts a.verdict (a.attempt == attempt c past)) refl e
  where
    by_again : (cause : Cause) (n : ℕ) (again : Bool) → delivered_by (if again then Got.Requeued m.serial cause n else Got.Returned m.serial cause) ≡ Some t → ⊥
    by_again cause n true f = cc
    by_again cause n false f = cc

    by_verdict : (v : Verdict) → a.verdict ≡ v → a.seq ≡ sequence c past →
        delivered_by (settle_by layout.bounces m (bounced (flying_of m.serial (state_of layout past m.serial.source).body.in_flight)) v) ≡ Some t →
        1 ≤ times put_of (has_serial t) past
    by_verdict Verdicts.Accepted v seq f =
        let same : m.serial ≡ t = cc in
        let k = (replies layout past h).known a here in
        let took' = k.accepts v in
        let p = (takings layout past h).parcel (answer_channel a) a.seq took'.0 took'.1 in
        let of : IsOf (sender c past) p.by = subst (λ (d : Channel). IsOf (sender d past) p.by) (p.on
        ∙ on) ((sendings layout past h).channels.parcels p.by p.emitted) in
        let message : p.by.message ≡ m = of.message m (p.seq ∙ seq) is in
        subst (λ (w : Serial). 1 ≤ times put_of (has_serial w) past) (ap (λ (w : Message). w.serial) message ∙ same) p.put'
    by_verdict (Verdicts.Refused cause) v seq f =
        absurd (by_again cause (bounced (flying_of m.serial (state_of layout past m.serial.source).body.in_flight) + 1)
        (is_transient cause && nat_lt (bounced (flying_of m.serial (state_of layout past m.serial.source).body.in_flight)) layout.bounces) f)

    by_test : (b : Bool) → ((a.seq == sequence c past) && counts a.verdict (a.attempt == attempt c past)) ≡ b →
        delivered_by (if b then settle_by layout.bounces m (bounced (flying_of m.serial (state_of layout past m.serial.source).body.in_flight)) a.verdict else
        Got.Nothing) ≡ Some t → 1 ≤ times put_of (has_serial t) past
    by_test true at f =
        let parts = and_parts (a.seq == sequence c past) (counts a.verdict (a.attempt == attempt c past)) at in
        by_verdict a.verdict refl (eqb-true a.seq (sequence c past) parts.0) f
    by_test false at f = absurd (cc)

arrive_delivers : (layout : Layout) (past : List Entry) (m : Message) (reply : ℕ) (a : Arrival) (t : Serial) →
    delivered_by (arrive layout past m reply a) ≡ Some t → ⊥
arrive_delivers layout past m reply Stale t e = cc
arrive_delivers layout past m reply (Again v) t e = cc
arrive_delivers layout past m reply Fresh t e = by_verdict (verdict (state_of layout past m.dest) m) e
  where
    by_verdict : (v : Verdict) → delivered_by (decided m reply v) ≡ Some t → ⊥
    by_verdict Verdicts.Accepted f = cc
    by_verdict (Verdicts.Refused cause) f = cc

receive_delivers : (layout : Layout) (past : List Entry) → IsHistory layout past → (node peer : NodeId) (number i : ℕ) (p : Option Packet) →
    slice_get (emitted peer node past) i ≡ p → (t : Serial) → delivered_in (Events.Receive node peer number) (receive layout node peer past p) ≡ Some t →
    1 ≤ times put_of (has_serial t) past
receive_delivers layout past h node peer number i None is t e = absurd (cc)
receive_delivers layout past h node peer number i (Some (Packets.Parcel p)) is t e =
    absurd (arrive_delivers layout past p.message (next_number node peer past) (arrival (mark (channel_to node peer p.channel) past) p.seq p.attempt) t e)
receive_delivers layout past h node peer number i (Some (Packets.Answer a)) is t e =
    let was = was_emitted peer node past i (Packets.Answer a) is in
    settle_delivers layout past h (channel_to node peer a.channel) a (bound_message (channel_to node peer a.channel) past) refl was.0
    (link_of_answer peer node a was.1) t e

-- a time-out delivers what is marked answered
expire_marked : (layout : Layout) (past : List Entry) (node peer : NodeId) (channel : ℕ) (b : Option Message) (t : Serial) →
    delivered_in (Events.Expire node peer channel) (expire layout node peer channel past b) ≡ Some t →
    is_answered (flying_of t (state_of layout past t.source).body.in_flight) ≡ true
expire_marked layout past node peer channel None t e = absurd (cc)
expire_marked layout past node peer channel (Some m) t e = by_tests (nat_lt (attempt (channel_to node peer channel) past + 1) layout.tries)
    (is_answered (flying_of m.serial (state_of layout past m.serial.source).body.in_flight)) refl e
  where
    by_tests : (again answered : Bool) → is_answered (flying_of m.serial (state_of layout past m.serial.source).body.in_flight) ≡ answered →
        delivered_in (Events.Expire node peer channel) (if again then Out.Sent m peer channel (sequence (channel_to node peer channel) past)
        (attempt (channel_to node peer channel) past + 1) (next_number node peer past) else
        (if answered then Out.Delivered m.serial else Out.Unknown m.serial)) ≡ Some t →
        is_answered (flying_of t (state_of layout past t.source).body.in_flight) ≡ true
    by_tests true answered is f = absurd (cc)
    by_tests false true is f = let same : m.serial ≡ t = cc in
        subst (λ (w : Serial). is_answered (flying_of w (state_of layout past w.source).body.in_flight) ≡ true) same is
    by_tests false false is f = absurd (cc)

marked_put : (layout : Layout) (past : List Entry) → IsHistory layout past → (t : Serial) →
    is_answered (flying_of t (state_of layout past t.source).body.in_flight) ≡ true → 1 ≤ times put_of (has_serial t) past
marked_put layout past h t is = by_flight (flying_of t (state_of layout past t.source).body.in_flight) refl is
  where
    by_flight : (f : Option Flying) → flying_of t (state_of layout past t.source).body.in_flight ≡ f → is_answered f ≡ true →
        1 ≤ times put_of (has_serial t) past
    by_flight None at e = absurd (true≢false (sym e))
    by_flight (Some f) at e =
        let low : 1 ≤ replied f.message.serial past = all_found (λ (g : Flying). g.answered ≡ true →
        1 ≤ replied g.message.serial past) (λ (g : Flying). has_serial t g.message) (state_of layout past t.source).body.in_flight f at
        (flags layout past h t.source).marked e in
        subst (λ (w : Serial). 1 ≤ times put_of (has_serial w) past) (found_serial t (state_of layout past t.source).body.in_flight f at)
        (put_reply layout past h f.message.serial low).3.put

event_delivers : (layout : Layout) (past : List Entry) → IsHistory layout past → (event : Event) (t : Serial) →
    delivered_in event (outcome_of layout past event) ≡ Some t → 1 ≤ times put_of (has_serial t) past
event_delivers layout past h (Events.Receive node peer number) t e =
    receive_delivers layout past h node peer number (number - 1) (slice_get (emitted peer node past) (number - 1)) refl t e
event_delivers layout past h (Events.Expire node peer channel) t e =
    marked_put layout past h t (expire_marked layout past node peer channel (bound_message (channel_to node peer channel) past) t e)
event_delivers layout past h event t e = absurd (cc)

record Deliveries (layout : Layout) (past : List Entry) : Type 0 where
  pub history : IsHistory layout past
  pub put' : (s : Serial) → 1 ≤ times_serial delivered_of s past → 1 ≤ times put_of (has_serial s) past

deliveries : (layout : Layout) (past : List Entry) → IsHistory layout past → Deliveries layout past
deliveries layout past h =
    over_each (MayFollow layout) (λ xs. Deliveries layout xs)
    (λ xs x k may. record { history = each_push (MayFollow layout) [] xs x k.history may; put' = λ s low. more xs x k may s low (delivered_of x) refl })
    [] past (record { history = tt; put' = λ s low. absurd (omega (arith, low)) }) h
  where
    more : (xs : List Entry) (x : Entry) → Deliveries layout xs → MayFollow layout xs x → (s : Serial) → 1 ≤ times_serial delivered_of s (xs ++ x ∷ []) →
        (w : Option Serial) → delivered_of x ≡ w → 1 ≤ times put_of (has_serial s) (xs ++ x ∷ [])
    more xs x k may s low None is = omega (
      arith,
      role_push put_in (has_serial s) xs x,
      k.put' s (omega (arith, low, serial_push delivered_of s xs x, ap (weight_serial s) is)),
    )
    more xs x k may s low (Some t) is = by_test (same_serial s t) refl
      where
        by_test : (b : Bool) → same_serial s t ≡ b → 1 ≤ times put_of (has_serial s) (xs ++ x ∷ [])
        by_test true at =
            let now : 1 ≤ times put_of (has_serial t) xs = event_delivers layout xs k.history x.event t (ap (delivered_in x.event) (sym may.outcome) ∙ is) in
            let here : 1 ≤ times put_of (has_serial s) xs = subst (λ (u : Serial). 1 ≤ times put_of (has_serial u) xs) (sym (same_serial-is s t at)) now in
            omega (arith, here, role_push put_in (has_serial s) xs x)
        by_test false at = omega (
          arith,
          role_push put_in (has_serial s) xs x,
          k.put' s (omega (arith, low, serial_push delivered_of s xs x, ap (weight_serial s) is, ap bit at)),
        )

-- a message is done with when it is put, returned, unknown or delivered
end_le : (s : Serial) (event : Event) (o : Outcome) → weight_serial s (end_in event o) ≤ bit (passes (has_serial s) (put_in event o)) + weight_serial s
    (returned_in event o) + weight_serial s (unknown_in event o) + weight_serial s (delivered_in event o)
end_le s (Events.Carry end) (Out.Accepted m) = omega arith
end_le s (Events.Carry end) (Out.Returned m cause) = omega arith
end_le s (Events.Receive node peer number) (Out.Received channel seq attempt (Got.Delivered t)) = omega arith
end_le s (Events.Receive node peer number) (Out.Received channel seq attempt (Got.Returned t cause)) = omega arith
end_le s (Events.Expire node peer channel) (Out.Delivered t) = omega arith
end_le s (Events.Expire node peer channel) (Out.Unknown t) = omega arith
end_le s event o = omega arith

ends_le : (layout : Layout) (past : List Entry) → IsHistory layout past → (s : Serial) →
    times_serial end_of_entry s past ≤ times put_of (has_serial s) past + times_serial returned_of s past + times_serial unknown_of s past + times_serial
    delivered_of s past
ends_le layout past h s =
    over_each (MayFollow layout) (λ xs. times_serial end_of_entry s xs ≤ times put_of (has_serial s) xs + times_serial returned_of s xs + times_serial
    unknown_of s xs + times_serial delivered_of s xs)
    (λ xs x k may. omega (
      arith,
      k,
      serial_push end_of_entry s xs x,
      role_push put_in (has_serial s) xs x,
      serial_push returned_of s xs x,
      serial_push unknown_of s xs x,
      serial_push delivered_of s xs x,
      end_le s x.event x.outcome,
    ))
    [] past (omega arith) h

still_waits : (layout : Layout) (past : List Entry) → IsHistory layout past → (m : Message) → WasAccepted past m → times put_of (has_serial m.serial) past ≡ 0 →
    times_serial returned_of m.serial past ≡ 0 → times_serial unknown_of m.serial past ≡ 0 →
    count_queued m.serial (state_of layout past m.serial.source).body + count_flying m.serial (state_of layout past m.serial.source).body ≡ 1
still_waits layout past h m known unput unreturned ununknown =
    omega (
      arith,
      unput,
      unreturned,
      ununknown,
      none (times_serial delivered_of m.serial past) refl,
      ends_le layout past h m.serial,
      (balanced layout past h).balance m.serial,
      (each_once layout past h).accepted m.serial,
      gave_times accepted_of (has_serial m.serial) past m known (same_serial-refl m.serial),
    )
  where
    none : (n : ℕ) → times_serial delivered_of m.serial past ≡ n → n ≡ 0
    none zero is = refl
    none (suc n) is = absurd (omega (arith, (deliveries layout past h).put' m.serial (omega (arith, is)), unput))

-- the sixth part: one live sequence
pub one_live : (layout : Layout) (past : List Entry) → IsHistory layout past → OneLiveSequence layout past
one_live layout past h = record { live = live layout past h; put = put_is_somewhere layout past h; waits = still_waits layout past h }
