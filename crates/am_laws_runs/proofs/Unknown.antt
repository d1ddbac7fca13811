-- A message is unknown only where the plan withholds packets of the last try.
use Rattle.std.proofs.Common.{◌≡◌, ◌⊎◌, inl, inr, ℕ, zero, suc, ◌+◌, ◌-◌, ◌<◌, ◌≤◌, Bool, true, false, cond, ◌||◌, List, [], ◌∷◌, ◌++◌, length, Option, Some}
use Rattle.std.proofs.Common.{None, refl, sym, ap, ◌∙◌, subst, arith, true≢false, ltb-true, if◌then◌else◌}
use Rattle.std.specs.Prelude.{◌&&◌, not, nat_lt, find, slice_get, is_some}
use Rattle.std.specs.List.{All, AllByRecursion}
use Rattle.std.proofs.lemmas.Bool.{and_parts, not-false}
use Rattle.std.proofs.lemmas.Option.{slice_get_within}
use Rattle.am_lemmas.proofs.Bools.{implied}
use Rattle.am_lemmas.proofs.Options.{is_none-None}
use Rattle.am_names.specs.declared.NodeId.{NodeId}
use Rattle.am_names.specs.declared.Message.{Message}
use Rattle.am_names.specs.declared.Serial.{Serial}
use Rattle.am_names.specs.declared.Parcel.{Parcel}
use Rattle.am_names.specs.declared.AnswerPacket.{AnswerPacket}
use Rattle.am_names.specs.declared.Packet.{Packet}
use Rattle.am_names.specs.declared.Packet.TheVariants as Packets
use Rattle.am_office_entries.specs.declared.Condition.TheVariants as Needs
use Rattle.am_office_entries.specs.declared.Event.{Event}
use Rattle.am_office_entries.specs.declared.Event.TheVariants as Events
use Rattle.am_office_entries.specs.declared.Outcome.TheVariants as Out
use Rattle.am_office_entries.specs.declared.Entry.{Entry}
use Rattle.am_office_entries.specs.Entries.{emitted_of}
use Rattle.am_model.specs.Changes.{flying_of}
use Rattle.am_model.specs.Layout.{Layout}
use Rattle.am_model.specs.Channels.{Channel, bound_message, emitted, sequence, attempt}
use Rattle.am_model.specs.History.{MayFollow, IsHistory, channel_to, expire, is_answered, is_bound, is_in_range, failing, outcome_of, sent, state_of}
use Rattle.am_model.specs.PostOffice.{Gave}
use Rattle.am_model.proofs.Each.{each_front, each_at}
use Rattle.am_model.proofs.Ends.{EmittedIn}
use Rattle.am_model.specs.Packets.{number_of as own_number, from_of, receiver_of}
use Rattle.am_model_parts.proofs.Numbering.{history_numbered, numbered_place}
use Rattle.am_laws_cluster.proofs.Sent.{emitted_gave, gave_emitted}
use Rattle.am_laws_cluster.proofs.Flights.{second_none}
use Rattle.am_scenario_plan.specs.declared.plan.LinkFault.{LinkFault}
use Rattle.am_scenario_plan.specs.declared.plan.LinkFault.TheVariants.{Late}
use Rattle.am_scenario_plan.specs.declared.plan.PlanLine.{PlanLine}
use Rattle.am_scenario_plan.specs.Shape.{fault_at, fault_in, is_line_of, number_of}
use Rattle.am_scenario_types.specs.Lawful.{IsLawfulFault, IsLawfulPlanLine}
use Rattle.am_scenario_types.specs.Lists.{ScenarioLists}
use Rattle.am_model_scripts.specs.Layout.{layout_of}
use Rattle.am_model_scripts.specs.Links.{nodes_of, received, numbers_released, next_receipt, is_all_received, IsReceiptInOrder, ReceivesInOrder, KeepsLinks}
use Rattle.am_model_scripts.specs.Follows.{is_last_in, is_last}
use Rattle.am_model_scripts.proofs.Links.{all_is_received}
use Rattle.am_laws_runs.proofs.Soundness.{node_holds}
use Rattle.am_laws_runs.specs.Turns.Enabled.{IsOfRun}
use Rattle.am_laws_runs.specs.Turns.Endings.{is_among, IsAnswerTo, IsAnsweredInVain, IsFaultOf, IsKeptBack, IsOrderly, IsWithheld, UnknownIsWithheld}
use Rattle.am_laws_runs.proofs.TurnCounts.{counted}
use Rattle.am_laws_runs.proofs.Withheld.{unreleased_is_planned}
use Rattle.am_laws_runs.proofs.Answered.{LastSent, last_are_sent, HasAnswer, last_are_answered}
use Rattle.am_laws_runs.proofs.Unheard.{asked, unheard}

-- ---- of each node

pub link_is_received : (s : ScenarioLists) (past : List Entry) (from to : NodeId) → KeepsLinks s past → from.0 < s.nodes → to.0 < s.nodes →
    received from to past ≡ numbers_released s from to past
link_is_received s past from to k f t =
    node_holds (λ (n : NodeId). received n to past ≡ numbers_released s n to past) 0 s.nodes from.0
    (node_holds (λ (n : NodeId). AllByRecursion (λ (m : NodeId). received m n past ≡ numbers_released s m n past) (nodes_of s)) 0 s.nodes to.0 k.all
    (omega arith) (omega (arith, t)))
    (omega arith) (omega (arith, f))

-- ---- what was not released is kept back by the plan

same_number : (p : Packet) → own_number p ≡ number_of p
same_number (Packets.Parcel p) = refl
same_number (Packets.Answer p) = refl

-- a lawful plan has no packet late by nothing
late_found : (nodes : ℕ) (plan : List PlanLine) (p : PlanLine → Bool) (by : ℕ) → All (IsLawfulPlanLine nodes) plan → fault_in (find p plan) ≡ Some (Late by) →
    1 ≤ by
late_found nodes [] p by all is = absurd (cc)
late_found nodes (l ∷ ls) p by all is = by_test (p l) is (late_found nodes ls p by (λ i d lt. all (suc i) d (omega (arith, lt))))
  where
    by_test : (b : Bool) → fault_in (cond b (Some l) (find p ls)) ≡ Some (Late by) → (fault_in (find p ls) ≡ Some (Late by) → 1 ≤ by) → 1 ≤ by
    by_test true at later =
        let same : l.fault ≡ Late by = cc in
        let lawful : IsLawfulPlanLine nodes l = all zero l (omega arith) in
        (subst (λ (f : LinkFault). IsLawfulFault f) same lawful.fault).0
    by_test false at later = later at

kept_back : (s : ScenarioLists) (past : List Entry) → IsOfRun s past → (p : Packet) → EmittedIn p past →
    is_among (number_of p) (numbers_released s (from_of p) (receiver_of p) past) ≡ false → IsKeptBack s past (from_of p) (receiver_of p) (number_of p)
kept_back s past run p there none = record { unreleased = none; planned = planned }
  where
    sent' : List Packet
    sent' = emitted (from_of p) (receiver_of p) past

    placed : (i : ℕ) (q : Packet) → slice_get sent' i ≡ Some q → number_of q ≡ i + 1
    placed i q at = sym (same_number q) ∙ (numbered_place past (history_numbered (layout_of s) past run.history) (from_of p) (receiver_of p) i q at).number

    at : slice_get sent' (number_of p - 1) ≡ Some p
    at = (counted (layout_of s) past run.history).placed p there

    planned : IsFaultOf (length sent') (number_of p) (fault_at s.plan (from_of p) (receiver_of p) (number_of p))
    planned =
        let mine : number_of p ≡ number_of p - 1 + 1 = placed (number_of p - 1) p at in
        let inside : number_of p - 1 < length sent' = slice_get_within sent' (number_of p - 1) p at in
        unreleased_is_planned s.plan (from_of p) (receiver_of p) sent' (number_of p) placed
        (λ (k by : ℕ) is. late_found s.nodes s.plan (is_line_of (from_of p) (receiver_of p) k) by run.lawful.plan is) (omega (arith, mine))
        (omega (arith, mine, inside)) none

-- ---- a time-out that leaves a message unknown

some_of : (o : Option Message) → is_some o ≡ true → (m : Message) × (o ≡ Some m)
some_of None h = absurd (true≢false (sym h))
some_of (Some m) h = (m, refl)

-- before a time-out that is of the last kind all that was released was received
pub last_after_all : (s : ScenarioLists) (past : List Entry) (x : Entry) (node peer : NodeId) (channel : ℕ) (serial : Serial) → ReceivesInOrder s past →
    (not (is_last s past x) || is_all_received s past) ≡ true → x.event ≡ Events.Expire node peer channel → x.outcome ≡ Out.Unknown serial → KeepsLinks s past
last_after_all s past x node peer channel serial order comes_last ev ou =
    let last : is_last s past x ≡ true = ap (λ (v : Event). is_last_in s past v x.outcome) ev ∙ ap (is_last_in s past (Events.Expire node peer channel)) ou in
    all_is_received s past order (is_none-None (next_receipt s past) (implied (is_last s past x) (is_all_received s past) last comes_last))

withheld : (s : ScenarioLists) (past : List Entry) (node peer : NodeId) (channel : ℕ) (serial : Serial) (m : Message) → IsOfRun s past → KeepsLinks s past →
    node.0 < s.nodes → peer.0 < s.nodes → bound_message (channel_to node peer channel) past ≡ Some m → m.serial ≡ serial →
    IsWithheld s past node peer channel serial
withheld s past node peer channel serial m run links n r bound own =
    record {
      parcel = p;
      last = record {
        sent = emitted_gave (Packets.Parcel p) past l.there;
        carries = ap (λ (w : Message). w.serial) same ∙ own;
        on = l.on;
        seq' = l.seq';
        attempt' = l.attempt';
      };
      kept = by_test (is_among p.number (numbers_released s p.from p.to past)) refl;
    }
  where
    l : LastSent past (channel_to node peer channel)
    l = last_are_sent (layout_of s) past run.history (channel_to node peer channel) m bound

    p : Parcel
    p = l.parcel

    same : p.message ≡ m
    same = let both : Some p.message ≡ Some m = sym l.carries ∙ bound in cc

    from' : p.from ≡ node
    from' = ap (λ (c : Channel). c.node) l.on

    to' : p.to ≡ peer
    to' = ap (λ (c : Channel). c.peer) l.on

    from_low : p.from.0 < s.nodes
    from_low = subst (λ (i : NodeId). i.0 < s.nodes) (sym from') n

    to_low : p.to.0 < s.nodes
    to_low = subst (λ (i : NodeId). i.0 < s.nodes) (sym to') r

    unanswered : (a : AnswerPacket) → Gave emitted_of past (Packets.Answer a) → IsAnswerTo p a → is_among a.number (numbers_released s a.from a.to past) ≡ false
    unanswered a gave k =
        let on : asked a ≡ channel_to node peer channel = (λ i. channel_to (k.to' i) (k.from' i) (k.channel' i)) ∙ l.on in
        let none : is_among a.number (received a.from a.to past) ≡ false =
        unheard (layout_of s) past run.history a m (gave_emitted (Packets.Answer a) past gave) (ap (λ (c : Channel). bound_message c past) on ∙ bound)
        (k.seq' ∙ (l.seq' ∙ sym (ap (λ (c : Channel). sequence c past) on)))
        (k.attempt' ∙ (l.attempt' ∙ sym (ap (λ (c : Channel). attempt c past) on))) in
        let all : received a.from a.to past ≡ numbers_released s a.from a.to past =
        link_is_received s past a.from a.to links (subst (λ (i : NodeId). i.0 < s.nodes) (sym k.from') to_low)
        (subst (λ (i : NodeId). i.0 < s.nodes) (sym k.to') from_low) in
        ap (is_among a.number) (sym all) ∙ none

    in_vain : is_among p.number (received p.from p.to past) ≡ true → IsAnsweredInVain s past p
    in_vain heard =
        let a : HasAnswer past p = last_are_answered (layout_of s) past run.history p l.there (record {
          seq' = l.seq'
              ∙ sym (ap (λ (c : Channel). sequence c past) l.on);
          attempt' = l.attempt' ∙ sym (ap (λ (c : Channel). attempt c past) l.on);
        }) heard in
        record {
          received' = heard;
          answer = a.answer;
          answered = emitted_gave (Packets.Answer a.answer) past a.there;
          to_parcel = a.to_parcel;
          kept = λ (b : AnswerPacket) (gave : Gave emitted_of past (Packets.Answer b)) (k : IsAnswerTo p b). kept_back s past run (Packets.Answer b)
              (gave_emitted (Packets.Answer b) past gave) (unanswered b gave k);
        }

    by_test : (b : Bool) → is_among p.number (numbers_released s p.from p.to past) ≡ b → IsKeptBack s past p.from p.to p.number ⊎ IsAnsweredInVain s past p
    by_test false is = inl (kept_back s past run (Packets.Parcel p) l.there is)
    by_test true is = inr (in_vain (ap (is_among p.number) (link_is_received s past p.from p.to links from_low to_low) ∙ is))

-- a time-out that leaves a message unknown leaves the one that its channel is bound to
expired_serial : (layout : Layout) (past : List Entry) (node peer : NodeId) (channel : ℕ) (serial : Serial) (m : Message) →
    expire layout node peer channel past (Some m) ≡ Out.Unknown serial → m.serial ≡ serial
expired_serial layout past node peer channel serial m is =
    by_tests (nat_lt (attempt (channel_to node peer channel) past + 1) layout.tries) (is_answered
    (flying_of m.serial (state_of layout past m.serial.source).body.in_flight)) is
  where
    by_tests : (t answered : Bool) → (if t then sent node peer channel past m (sequence (channel_to node peer channel) past)
        (attempt (channel_to node peer channel) past + 1) else (if answered then Out.Delivered m.serial else Out.Unknown m.serial)) ≡ Out.Unknown serial →
        m.serial ≡ serial
    by_tests true answered e = absurd (cc)
    by_tests false true e = absurd (cc)
    by_tests false false e = cc

pub expired : (s : ScenarioLists) (past later : List Entry) (x : Entry) (node peer : NodeId) (channel : ℕ) (serial : Serial) → IsOrderly s (past ++ x ∷ later) →
    x.event ≡ Events.Expire node peer channel → x.outcome ≡ Out.Unknown serial → IsWithheld s past node peer channel serial
expired s past later x node peer channel serial orderly ev ou =
    let layout : Layout = layout_of s in
    let h : IsHistory layout past = each_front (MayFollow layout) [] past (x ∷ later) orderly.run.history in
    let run' : IsOfRun s past = record { lawful = orderly.run.lawful; packet = orderly.run.packet; history = h } in
    let may : MayFollow layout past x = each_at (MayFollow layout) [] past x later orderly.run.history in
    let order : ReceivesInOrder s past = each_front (λ (before : List Entry) (y : Entry). IsReceiptInOrder s before y.event) [] past (x ∷ later)
    orderly.in_order in
    let comes_last : (not (is_last s past x) || is_all_received s past) ≡ true =
    each_at (λ (before : List Entry) (y : Entry). (not (is_last s before y) || is_all_received s before) ≡ true) [] past x later orderly.last_tries in
    let ranged : is_in_range layout (Events.Expire node peer channel) ≡ true = sym (ap (is_in_range layout) ev) ∙ may.in_range in
    let enabled : failing layout past (Events.Expire node peer channel) ≡ None = sym (ap (failing layout past) ev) ∙ may.enabled in
    let nodes = and_parts (nat_lt node.0 layout.nodes) (nat_lt peer.0 layout.nodes) (and_parts (nat_lt node.0 layout.nodes && nat_lt peer.0 layout.nodes)
    (nat_lt channel layout.channels) ranged).0 in
    let is : is_bound (channel_to node peer channel) past ≡ true =
    not-false (is_bound (channel_to node peer channel) past) (second_none layout.direct (not (is_bound (channel_to node peer channel) past))
    Needs.NotPacket Needs.Idle enabled) in
    let m = some_of (bound_message (channel_to node peer channel) past) is in
    let links : KeepsLinks s past = last_after_all s past x node peer channel serial order comes_last ev ou in
    let left : expire layout node peer channel past (Some m.0) ≡ Out.Unknown serial = sym (may.outcome
    ∙ (ap (outcome_of layout past) ev ∙ ap (expire layout node peer channel past) m.1)) ∙ ou in
    withheld s past node peer channel serial m.0 run' links (ltb-true node.0 layout.nodes nodes.0) (ltb-true peer.0 layout.nodes nodes.1) m.1
    (expired_serial layout past node peer channel serial m.0 left)

pub unknown_is_withheld : UnknownIsWithheld
unknown_is_withheld s journal orderly past later x node peer channel serial is event outcome =
    expired s past later x node peer channel serial (subst (λ (j : List Entry). IsOrderly s j) is orderly) event outcome
