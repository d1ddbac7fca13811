-- What the marks of pairs of nodes say of a journal, and how it lasts from entry to entry.
use Rattle.std.specs.Prelude.{option_map, slice_get, not, is_some, nat_le, nat_lt, ◌==◌, ◌||◌, if◌then◌else◌}
use Rattle.std.specs.List.{cons_option, list_all, range_with_len}
use Rattle.std.proofs.Common.{◌≡◌, ⊎_elim, ℕ, zero, suc, ◌+◌, ◌*◌, ◌/◌, ◌%◌, ◌<◌, ◌≤◌, Bool, true, false, ◌&&◌, List, [], ◌∷◌, ◌++◌, map, length, Option, Some}
use Rattle.std.proofs.Common.{None, refl, sym, ap, ◌∙◌, subst, arith, eqb-true, ltb-true}
use Rattle.std.proofs.lemmas.Bool.{and_parts, cases_lt, eqb-false, lt-ltb, le-ltb}
use Rattle.std.proofs.lemmas.List.{append-nil}
use Rattle.std.proofs.lemmas.List.Elements.{filter_map-append}
use Rattle.am_lemmas.proofs.Bools.{and_second_fails}
use Rattle.am_bit_set.specs.Places.{IsNextMark, is_marked}
use Rattle.am_bit_set.specs.declared.BitSet.{BitSet}
use Rattle.am_names.specs.declared.NodeId.{NodeId}
use Rattle.am_names.specs.declared.Message.{Message}
use Rattle.am_names.specs.declared.Packet.{Packet}
use Rattle.am_names.specs.declared.Packet.TheVariants as Packets
use Rattle.am_names.specs.declared.Verdict.{Verdict}
use Rattle.am_office_entries.specs.declared.Event.{Event}
use Rattle.am_office_entries.specs.declared.Event.TheVariants as Events
use Rattle.am_office_entries.specs.declared.Outcome.{Outcome}
use Rattle.am_office_entries.specs.declared.Outcome.TheVariants as Out
use Rattle.am_office_entries.specs.declared.Entry.{Entry}
use Rattle.am_office_entries.specs.Entries.{answer_by, answer_packet, emitted_in, emitted_of}
use Rattle.am_model.specs.Channels.{Channel, binds, bound_message, emitted, ends_tries, frees, frees_by, same_channel}
use Rattle.am_model.specs.History.{MayFollow, channel_to, expire, is_bound, is_four_bytes, is_in_range, outcome_of, sent}
use Rattle.am_model.specs.Layout.{IsLawful, Layout, node_at}
use Rattle.am_model.specs.Packets.{from_of, receiver_of}
use Rattle.am_model.specs.Tables.{tries_ended}
use Rattle.am_model.proofs.Ends.{bound_push}
use Rattle.am_machine_journal.specs.Index.Places.{link}
use Rattle.am_machine.proofs.Between.{emits_between}
use Rattle.am_scenario_types.specs.Lists.{ScenarioLists}
use Rattle.am_model_scripts.specs.Layout.{layout_of}
use Rattle.am_model_scripts.specs.Links.{due, number_received, received}
use Rattle.am_scenario_plan.specs.Shape.{number_of, shape}
use Rattle.am_cluster_drainer.specs.Firsts.{IsFirstPair, has_bound, has_due}
use Rattle.am_cluster_drainer.specs.declared.NodePair.{NodePair}
use Rattle.am_cluster_scripted.specs.PairMarks.{AreOfPairs, ArePaired, ArePairsAgain, IsPairAgain, IsPlaceAgain, IsWithin, pair_at, passes_in}
use Rattle.am_cluster_scripted.specs.Touched.{pair_touched}
use Rattle.am_cluster_scripted.specs.declared.pair_marks.PairMarks.{PairMarks}
use Rattle.am_cluster_scripted.proofs.Emitting.{emission, emitted_none, other_link}

-- ---- whose nodes an entry touches

-- a pair other than the one that an entry touches, either way
abbrev pub IsApart : NodeId → NodeId → Option NodePair → Type 0
IsApart node peer None = Unit {0}
IsApart node peer (Some pair) = (node.0 ≡ pair.node.0 → peer.0 ≡ pair.peer.0 → ⊥) × (node.0 ≡ pair.peer.0 → peer.0 ≡ pair.node.0 → ⊥)

-- a packet goes from the node of a pair to its peer
pub record IsFrom (pair : Option NodePair) (p : Packet) : Type 0 where
  pub is : pair ≡ Some (record { node = from_of p; peer = receiver_of p })

expire_peer : (layout : Layout) (node peer other : NodeId) (channel c seq attempt number : ℕ) (past : List Entry) (mo : Option Message) (m : Message) →
    expire layout node peer channel past mo ≡ Out.Sent m other c seq attempt number → peer ≡ other
expire_peer layout node peer other channel c seq attempt number past None m h = absurd (cc)
expire_peer layout node peer other channel c seq attempt number past (Some n) m h = by_tries _ _ _ _ h
  where
    ended : (answered : Bool) → tries_ended n.serial answered ≡ Out.Sent m other c seq attempt number → peer ≡ other
    ended true is = absurd (cc)
    ended false is = absurd (cc)

    by_tries : (more answered : Bool) (first second : ℕ) → (if more then sent node peer channel past n first second else tries_ended n.serial answered) ≡
        Out.Sent m other c seq attempt number → peer ≡ other
    by_tries true answered first second is = cc
    by_tries false answered first second is = ended answered is

emits_from : (layout : Layout) (past : List Entry) (stamp : ℕ) (event : Event) (o : Outcome) (p : Packet) → o ≡ outcome_of layout past event →
    emitted_in stamp event o ≡ Some p → IsFrom (pair_touched event o) p
emits_from layout past stamp (Events.Bind node end) (Out.Sent m peer channel seq attempt number) p of is =
    record { is = ap (λ (q : Packet). Some (record { node = from_of q; peer = receiver_of q })) it }
  where
    it : Packets.Parcel (record { from = node; to = peer; channel = channel; seq = seq; attempt = attempt; number = number; stamp = stamp; message = m }) ≡ p
    it = cc
emits_from layout past stamp (Events.Expire node peer channel) (Out.Sent m other c seq attempt number) p of is =
    record { is = (λ i. Some (record { node = node; peer = same i })) ∙ ap (λ (q : Packet). Some (record { node = from_of q; peer = receiver_of q })) it }
  where
    it : Packets.Parcel (record { from = node; to = other; channel = c; seq = seq; attempt = attempt; number = number; stamp = stamp; message = m }) ≡ p
    it = cc

    same : peer ≡ other
    same = expire_peer layout node peer other channel c seq attempt number past (bound_message (channel_to node peer channel) past) m (sym of)
emits_from layout past stamp (Events.Receive node peer n) (Out.Received channel seq attempt result) p of is = by_answer (answer_by result) is
  where
    by_answer : (a : Option (ℕ × Verdict)) → answer_packet node peer channel seq attempt stamp a ≡ Some p →
        IsFrom (Some (record { node = node; peer = peer })) p
    by_answer None h = absurd (cc)
    by_answer (Some answer) h = record { is = ap (λ (q : Packet). Some (record { node = from_of q; peer = receiver_of q })) it }
      where
        it : Packets.Answer (record {
          from = node;
          to = peer;
          channel = channel;
          seq = seq;
          attempt = attempt;
          number = answer.0;
          stamp = stamp;
          verdict = answer.1;
        }) ≡ p
        it = cc
emits_from layout past stamp event o p of is = absurd (cc)

-- ---- what is bound

no_pair : (a b c d : ℕ) (t : Bool) → (a ≡ b → c ≡ d → ⊥) → ((a == b) && (c == d) && t) ≡ false
no_pair a b c d t apart = by_tests (a == b) (c == d) refl refl
  where
    by_tests : (p q : Bool) → (a == b) ≡ p → (c == d) ≡ q → (p && q && t) ≡ false
    by_tests true true is at = absurd (apart (eqb-true a b is) (eqb-true c d at))
    by_tests true false is at = refl
    by_tests false q is at = refl

-- a pair other than the one that an entry touches, this way
abbrev IsOther : NodeId → NodeId → Option NodePair → Type 0
IsOther node peer None = Unit {0}
IsOther node peer (Some pair) = node.0 ≡ pair.node.0 → peer.0 ≡ pair.peer.0 → ⊥

other_of : (node peer : NodeId) (o : Option NodePair) → IsApart node peer o → IsOther node peer o
other_of node peer None apart = tt
other_of node peer (Some pair) apart = apart.0

unbound_by : (c : Channel) (event : Event) (o : Outcome) → IsOther c.node c.peer (pair_touched event o) → (binds c event o || frees c event o) ≡ false
unbound_by c (Events.Bind node end) (Out.Sent m peer channel seq attempt number) apart =
    ap (λ (t : Bool). t || false) (no_pair c.node.0 node.0 c.peer.0 peer.0 (c.number == channel) apart)
unbound_by c (Events.Expire node peer channel) o apart = and_second_fails (ends_tries o) (same_channel c node peer channel)
    (no_pair c.node.0 node.0 c.peer.0 peer.0 (c.number == channel) apart)
unbound_by c (Events.Receive node peer number) (Out.Received channel seq attempt result) apart =
    and_second_fails (frees_by result) (same_channel c node peer channel) (no_pair c.node.0 node.0 c.peer.0 peer.0 (c.number == channel) apart)
unbound_by c event o apart = refl

bound_kept : (past : List Entry) (x : Entry) (c : Channel) → IsOther c.node c.peer (pair_touched x.event x.outcome) →
    is_bound c (past ++ x ∷ []) ≡ is_bound c past
bound_kept past x c apart = ap (λ (m : Option Message). is_some m) (bound_push c past x false (unbound_by c x.event x.outcome apart))

all_alike : (f g : ℕ → Bool) (xs : List ℕ) → ((k : ℕ) → f k ≡ g k) → list_all f xs ≡ list_all g xs
all_alike f g [] same = refl
all_alike f g (k ∷ xs) same = λ i. same k i && all_alike f g xs same i

bound_other : (s : ScenarioLists) (past : List Entry) (x : Entry) (node peer : NodeId) → IsOther node peer (pair_touched x.event x.outcome) →
    has_bound s (past ++ x ∷ []) node peer ≡ has_bound s past node peer
bound_other s past x node peer apart =
    ap not (all_alike (λ (n : ℕ). not (is_bound (channel_to node peer n) (past ++ x ∷ []))) (λ (n : ℕ). not (is_bound (channel_to node peer n) past))
    (range_with_len 0 s.channels)
    (λ n. ap not (bound_kept past x (channel_to node peer n) apart)))

pub bound_same : (s : ScenarioLists) (past : List Entry) (x : Entry) (node peer : NodeId) → IsApart node peer (pair_touched x.event x.outcome) →
    has_bound s (past ++ x ∷ []) node peer ≡ has_bound s past node peer
bound_same s past x node peer apart = bound_other s past x node peer (other_of node peer (pair_touched x.event x.outcome) apart)

pub bound_elsewhere : (s : ScenarioLists) (past : List Entry) (x : Entry) (node peer : NodeId) (pair : NodePair) → pair_touched x.event x.outcome ≡ Some pair →
    (node.0 ≡ pair.node.0 → peer.0 ≡ pair.peer.0 → ⊥) → has_bound s (past ++ x ∷ []) node peer ≡ has_bound s past node peer
bound_elsewhere s past x node peer pair is apart = bound_other s past x node peer (subst (λ (o : Option NodePair). IsOther node peer o) (sym is) apart)

-- ---- what is due

emitted_kept : (layout : Layout) (past : List Entry) (x : Entry) (node peer : NodeId) → x.outcome ≡ outcome_of layout past x.event →
    IsApart node peer (pair_touched x.event x.outcome) → emitted peer node (past ++ x ∷ []) ≡ emitted peer node past
emitted_kept layout past x node peer of apart = by_packet (emitted_of x) refl
  where
    by_packet : (o : Option Packet) → emitted_of x ≡ o → emitted peer node (past ++ x ∷ []) ≡ emitted peer node past
    by_packet None is = emitted_none peer node past x is
    by_packet (Some p) is =
        let from = emits_from layout past x.stamp x.event x.outcome p of is in
        let other = subst (λ (o : Option NodePair). IsApart node peer o) from.is apart in
        emission peer node past x p false is (other_link peer node p (λ a b. other.1 b a)) ∙ append-nil (emitted peer node past)

number_kept : (event : Event) (o : Outcome) (node peer : NodeId) → IsApart node peer (pair_touched event o) → number_received peer node event ≡ None
number_kept (Events.Receive n p number) o node peer apart = by_tests (peer.0 == p.0) (node.0 == n.0) refl refl
  where
    by_tests : (a b : Bool) → (peer.0 == p.0) ≡ a → (node.0 == n.0) ≡ b → (if a && b then Some number else None) ≡ None
    by_tests true true is at = absurd (apart.0 (eqb-true node.0 n.0 at) (eqb-true peer.0 p.0 is))
    by_tests true false is at = refl
    by_tests false b is at = refl
number_kept event o node peer apart = refl

received_kept : (past : List Entry) (x : Entry) (node peer : NodeId) → IsApart node peer (pair_touched x.event x.outcome) →
    received peer node (past ++ x ∷ []) ≡ received peer node past
received_kept past x node peer apart =
    filter_map-append (λ (y : Entry). number_received peer node y.event) past (x ∷ [])
    ∙ ap (λ (o : Option ℕ). received peer node past ++ cons_option o []) (number_kept x.event x.outcome node peer apart)
    ∙ append-nil (received peer node past)

pub due_same : (s : ScenarioLists) (past : List Entry) (x : Entry) (node peer : NodeId) → x.outcome ≡ outcome_of (layout_of s) past x.event →
    IsApart node peer (pair_touched x.event x.outcome) → has_due s (past ++ x ∷ []) node peer ≡ has_due s past node peer
due_same s past x node peer of apart =
    λ i. is_some (slice_get (map number_of (shape s.plan peer node (emitted_kept (layout_of s) past x node peer of apart i)))
    (length (received_kept past x node peer apart i)))

-- ---- the nodes are of the scenario

within_by : (s : ScenarioLists) (past : List Entry) (stamp : ℕ) (event : Event) (o : Outcome) (pair : NodePair) → IsLawful (layout_of s) →
    is_in_range (layout_of s) event ≡ true → o ≡ outcome_of (layout_of s) past event → pair_touched event o ≡ Some pair → IsWithin s pair
within_by s past stamp (Events.Bind node end) (Out.Sent m peer channel seq attempt number) pair ok ranged of is =
    let p : Packet = Packets.Parcel (record {
      from = node;
      to = peer;
      channel = channel;
      seq = seq;
      attempt = attempt;
      number = number;
      stamp = stamp;
      message = m;
    }) in
    let between = emits_between (layout_of s) past stamp (Events.Bind node end) ok ranged p
    (ap (λ (v : Outcome). emitted_in stamp (Events.Bind node end) v) (sym of)) in
    subst (λ (q : NodePair). IsWithin s q) (let same : record { node = node; peer = peer } ≡ pair = cc in same) (record {
      node = between.from;
      peer = between.to;
    })
within_by s past stamp (Events.Expire node peer channel) o pair ok ranged of is =
    let both = and_parts (nat_lt node.0 s.nodes && nat_lt peer.0 s.nodes) (nat_lt channel s.channels) ranged in
    let nodes = and_parts (nat_lt node.0 s.nodes) (nat_lt peer.0 s.nodes) both.0 in
    subst (λ (q : NodePair). IsWithin s q) (let same : record { node = node; peer = peer } ≡ pair = cc in
    same) (record { node = ltb-true node.0 s.nodes nodes.0; peer = ltb-true peer.0 s.nodes nodes.1 })
within_by s past stamp (Events.Receive node peer number) o pair ok ranged of is =
    let first = and_parts ((nat_lt node.0 s.nodes && nat_lt peer.0 s.nodes) && nat_le 1 number) (is_four_bytes number) ranged in
    let both = and_parts (nat_lt node.0 s.nodes && nat_lt peer.0 s.nodes) (nat_le 1 number) first.0 in
    let nodes = and_parts (nat_lt node.0 s.nodes) (nat_lt peer.0 s.nodes) both.0 in
    subst (λ (q : NodePair). IsWithin s q) (let same : record { node = node; peer = peer } ≡ pair = cc in
    same) (record { node = ltb-true node.0 s.nodes nodes.0; peer = ltb-true peer.0 s.nodes nodes.1 })
within_by s past stamp event o pair ok ranged of is = absurd (cc)

pub pair_within : (s : ScenarioLists) (past : List Entry) (x : Entry) (pair : NodePair) → IsLawful (layout_of s) → MayFollow (layout_of s) past x →
    pair_touched x.event x.outcome ≡ Some pair → IsWithin s pair
pair_within s past x pair ok may is = within_by s past x.stamp x.event x.outcome pair ok may.in_range may.outcome is

-- ---- the marks after an entry

pub pair_of : (node peer : NodeId) → peer.0 < 16 → pair_at (link node peer) ≡ record { node = node; peer = peer }
pair_of node peer low =
    let first : (16 * node.0 + peer.0) / 16 ≡ node.0 = omega (arith, low) in
    let second : (16 * node.0 + peer.0) % 16 ≡ peer.0 = omega (arith, low) in
    λ i. record { node = node_at (first i); peer = node_at (second i) }

passes_own : (s : ScenarioLists) (passes : NodeId → NodeId → Bool) (pair : NodePair) → IsWithin s pair → passes_in s passes pair ≡ passes pair.node pair.peer
passes_own s passes pair within =
    λ i. (lt-ltb pair.node.0 s.nodes within.node i && lt-ltb pair.peer.0 s.nodes within.peer i) && passes pair.node pair.peer

-- what one pair is read again for, where the others are as they were
pair_set : (s : ScenarioLists) (passes : NodeId → NodeId → Bool) (node peer : NodeId) (old new : BitSet) (k : ℕ) → s.nodes ≤ 16 →
    IsWithin s (record { node = node; peer = peer }) → IsPairAgain passes node peer old new →
    ((k ≡ link node peer → ⊥) → is_marked old k ≡ passes_in s passes (pair_at k)) → is_marked new k ≡ passes_in s passes (pair_at k)
pair_set s passes node peer old new k few within again rest = again k ∙ by_test (k == link node peer) refl
  where
    by_test : (t : Bool) → (k == link node peer) ≡ t → (if t then passes node peer else is_marked old k) ≡ passes_in s passes (pair_at k)
    by_test true at =
        let low = within.peer in
        sym (ap (λ (i : ℕ). passes_in s passes (pair_at i)) (eqb-true k (link node peer) at)
        ∙ ap (passes_in s passes) (pair_of node peer (omega (arith, low, few))) ∙ passes_own s passes (record { node = node; peer = peer }) within)
    by_test false at = rest (eqb-false k (link node peer) at)

place_is : (k : ℕ) (node peer : NodeId) → (pair_at k).node.0 ≡ node.0 → (pair_at k).peer.0 ≡ peer.0 → k ≡ link node peer
place_is k node peer first second = omega (arith, first, second)

passes_kept : (s : ScenarioLists) (f g : NodeId → NodeId → Bool) (pair : NodePair) → f pair.node pair.peer ≡ g pair.node pair.peer →
    passes_in s f pair ≡ passes_in s g pair
passes_kept s f g pair same = ap (λ (b : Bool). (nat_lt pair.node.0 s.nodes && nat_lt pair.peer.0 s.nodes) && b) same

pub paired_last : (s : ScenarioLists) (past : List Entry) (x : Entry) (old new : PairMarks) → s.nodes ≤ 16 → IsLawful (layout_of s) →
    MayFollow (layout_of s) past x → ArePaired s past old → ArePairsAgain s (past ++ x ∷ []) (pair_touched x.event x.outcome) old new →
    ArePaired s (past ++ x ∷ []) new
paired_last s past x old new few ok may are again = by_pair (pair_touched x.event x.outcome) refl again
  where
    now : List Entry
    now = past ++ x ∷ []

    by_pair : (o : Option NodePair) → pair_touched x.event x.outcome ≡ o → ArePairsAgain s now o old new → ArePaired s now new
    by_pair None is same =
        record {
          due = λ k. (ap (λ (m : PairMarks). is_marked m.due k) same ∙ are.due k
              ∙ passes_kept s (has_due s past) (has_due s now) (pair_at k) (sym (due_same s past x (pair_at k).node (pair_at k).peer may.outcome (apart k))));
          bound = λ k. (ap (λ (m : PairMarks). is_marked m.bound k) same ∙ are.bound k
              ∙ passes_kept s (has_bound s past) (has_bound s now) (pair_at k) (sym (bound_same s past x (pair_at k).node (pair_at k).peer (apart k))));
        }
      where
        apart : (k : ℕ) → IsApart (pair_at k).node (pair_at k).peer (pair_touched x.event x.outcome)
        apart k = subst (λ (o : Option NodePair). IsApart (pair_at k).node (pair_at k).peer o) (sym is) tt
    by_pair (Some pair) is read =
        record {
          due = λ k. pair_set s (has_due s now) pair.peer pair.node read.middle new.due k few back read.there (λ there.
              pair_set s (has_due s now) pair.node pair.peer old.due read.middle k few within read.here (λ here.
              (are.due k ∙ passes_kept s (has_due s past) (has_due s now) (pair_at k) (sym
              (due_same s past x (pair_at k).node (pair_at k).peer may.outcome (apart k here there))))));
          bound = λ k. pair_set s (has_bound s now) pair.node pair.peer old.bound new.bound k few within read.bound (λ here. unbound k here);
        }
      where
        within : IsWithin s pair
        within = pair_within s past x pair ok may is

        back : IsWithin s (record { node = pair.peer; peer = pair.node })
        back = record { node = within.peer; peer = within.node }

        apart : (k : ℕ) → (k ≡ link pair.node pair.peer → ⊥) → (k ≡ link pair.peer pair.node → ⊥) →
            IsApart (pair_at k).node (pair_at k).peer (pair_touched x.event x.outcome)
        apart k here there =
            subst (λ (o : Option NodePair). IsApart (pair_at k).node (pair_at k).peer o) (sym is)
            ((λ a b. here (place_is k pair.node pair.peer a b)), (λ a b. there (place_is k pair.peer pair.node a b)))

        unbound : (k : ℕ) → (k ≡ link pair.node pair.peer → ⊥) → is_marked old.bound k ≡ passes_in s (has_bound s now) (pair_at k)
        unbound k here =
            are.bound k ∙ passes_kept s (has_bound s past) (has_bound s now) (pair_at k)
            (sym (bound_elsewhere s past x (pair_at k).node (pair_at k).peer pair is (λ a b. here (place_is k pair.node pair.peer a b))))

-- ---- the first pair

pub first_read : (s : ScenarioLists) (passes : NodeId → NodeId → Bool) (marks : BitSet) (o : Option ℕ) → s.nodes ≤ 16 → AreOfPairs s passes marks →
    IsNextMark marks 0 o → IsFirstPair s passes (option_map pair_at o)
first_read s passes marks None few are none =
    λ node peer low lower. sym (passes_own s passes (record { node = node; peer = peer }) (record { node = low; peer = lower }))
    ∙ ap (passes_in s passes) (sym (pair_of node peer (omega (arith, lower, few))))
    ∙ sym (are (link node peer)) ∙ none (link node peer) (omega arith)
first_read s passes marks (Some place) few are found =
    record {
      node = ltb-true (place / 16) s.nodes nodes.0;
      peer = ltb-true (place % 16) s.nodes nodes.1;
      passes' = here.1;
      least_node = λ node peer lt low. before node peer (let first = ltb-true (place / 16) s.nodes nodes.0 in
          omega (arith, lt, first)) low (omega (arith, lt, low, few));
      least_peer = λ peer lt. before (node_at (place / 16)) peer (ltb-true (place / 16) s.nodes nodes.0) (let second = ltb-true (place % 16) s.nodes nodes.1 in
          omega (arith, lt, second)) (omega (arith, lt));
    }
  where
    here : ((nat_lt (place / 16) s.nodes && nat_lt (place % 16) s.nodes) ≡ true) × (passes (node_at (place / 16)) (node_at (place % 16)) ≡ true)
    here = and_parts (nat_lt (place / 16) s.nodes && nat_lt (place % 16) s.nodes) (passes (node_at (place / 16)) (node_at (place % 16))) (sym (are place)
        ∙ found.2)

    nodes : (nat_lt (place / 16) s.nodes ≡ true) × (nat_lt (place % 16) s.nodes ≡ true)
    nodes = and_parts (nat_lt (place / 16) s.nodes) (nat_lt (place % 16) s.nodes) here.0

    before : (node peer : NodeId) → node.0 < s.nodes → peer.0 < s.nodes → link node peer < place → passes node peer ≡ false
    before node peer low lower lt =
        sym (passes_own s passes (record { node = node; peer = peer }) (record { node = low; peer = lower }))
        ∙ ap (passes_in s passes) (sym (pair_of node peer (omega (arith, lower, few))))
        ∙ sym (are (link node peer)) ∙ found.3 (link node peer) (omega arith) lt

-- ---- all pairs, place by place

pub record IsPairedTo (s : ScenarioLists) (passes : NodeId → NodeId → Bool) (n : ℕ) (marks : BitSet) : Type 0 where
  pub below : (k : ℕ) → k < n → is_marked marks k ≡ passes_in s passes (pair_at k)
  pub rest : (k : ℕ) → n ≤ k → is_marked marks k ≡ false

pub record ArePairedTo (s : ScenarioLists) (past : List Entry) (n : ℕ) (m : PairMarks) : Type 0 where
  pub due : IsPairedTo s (has_due s past) n m.due
  pub bound : IsPairedTo s (has_bound s past) n m.bound

pub paired_none : (s : ScenarioLists) (past : List Entry) (m : PairMarks) → ((k : ℕ) → is_marked m.due k ≡ false) → ((k : ℕ) → is_marked m.bound k ≡ false) →
    ArePairedTo s past 0 m
paired_none s past m due bound =
    record {
      due = record { below = λ k lt. absurd (omega (arith, lt)); rest = λ k le. due k };
      bound = record { below = λ k lt. absurd (omega (arith, lt)); rest = λ k le. bound k };
    }

below_last : (k n : ℕ) → k < n + 1 → (k ≡ n → ⊥) → k < n
below_last k n lt apart = ⊎_elim (λ (less : k < n). less) (λ (le : n ≤ k). absurd (apart (omega (arith, lt, le)))) (cases_lt k n)

one_more : (s : ScenarioLists) (passes : NodeId → NodeId → Bool) (n : ℕ) (old new : BitSet) → IsPairedTo s passes n old → IsPlaceAgain s passes n old new →
    IsPairedTo s passes (n + 1) new
one_more s passes n old new to again =
    record { below = λ k lt. (again k ∙ by_test k lt (k == n) refl); rest = λ k le. (again k ∙ later k le (k == n) refl) }
  where
    by_test : (k : ℕ) → k < n + 1 → (t : Bool) → (k == n) ≡ t → (if t then passes_in s passes (pair_at n) else is_marked old k) ≡ passes_in s passes (pair_at k)
    by_test k lt true at = ap (λ (i : ℕ). passes_in s passes (pair_at i)) (sym (eqb-true k n at))
    by_test k lt false at = to.below k (below_last k n lt (eqb-false k n at))

    later : (k : ℕ) → n + 1 ≤ k → (t : Bool) → (k == n) ≡ t → (if t then passes_in s passes (pair_at n) else is_marked old k) ≡ false
    later k le true at = let same = eqb-true k n at in absurd (omega (arith, same, le))
    later k le false at = to.rest k (omega (arith, le))

pub paired_more : (s : ScenarioLists) (past : List Entry) (n : ℕ) (old new : PairMarks) → ArePairedTo s past n old →
    IsPlaceAgain s (has_due s past) n old.due new.due → IsPlaceAgain s (has_bound s past) n old.bound new.bound → ArePairedTo s past (n + 1) new
paired_more s past n old new to due bound =
    record { due = one_more s (has_due s past) n old.due new.due to.due due; bound = one_more s (has_bound s past) n old.bound new.bound to.bound bound }

pub paired_all : (s : ScenarioLists) (past : List Entry) (m : PairMarks) → s.nodes ≤ 16 → ArePairedTo s past 256 m → ArePaired s past m
paired_all s past m few to = record { due = so (has_due s past) m.due to.due; bound = so (has_bound s past) m.bound to.bound }
  where
    so : (passes : NodeId → NodeId → Bool) (marks : BitSet) → IsPairedTo s passes 256 marks → AreOfPairs s passes marks
    so passes marks to k =
        ⊎_elim (λ (lt : k < 256). to.below k lt)
        (λ (le : 256 ≤ k). (to.rest k le ∙ sym (ap (λ (b : Bool). (b && nat_lt (k % 16) s.nodes) && passes (node_at (k / 16)) (node_at (k % 16)))
        (le-ltb (k / 16) s.nodes (omega (arith, le, few))))))
        (cases_lt k 256)

pub first_none : (s : ScenarioLists) (passes : NodeId → NodeId → Bool) (marks : BitSet) → s.nodes ≤ 16 → AreOfPairs s passes marks → IsNextMark marks 0 None →
    IsFirstPair s passes None
first_none s passes marks few are none = first_read s passes marks None few are none

pub first_some : (s : ScenarioLists) (passes : NodeId → NodeId → Bool) (marks : BitSet) (place : ℕ) (pair : NodePair) → s.nodes ≤ 16 →
    AreOfPairs s passes marks → pair ≡ pair_at place → IsNextMark marks 0 (Some place) → IsFirstPair s passes (Some pair)
first_some s passes marks place pair few are is found = subst (λ (p : NodePair). IsFirstPair s passes (Some p)) (sym is)
    (first_read s passes marks (Some place) few are found)

-- ---- a bound channel of a pair, channel by channel

pub more_free : (node peer : NodeId) (past : List Entry) (n : ℕ) → ((k : ℕ) → k < n → is_bound (channel_to node peer k) past ≡ false) →
    is_bound (channel_to node peer n) past ≡ false → (k : ℕ) → k < n + 1 → is_bound (channel_to node peer k) past ≡ false
more_free node peer past n below here k lt =
    ⊎_elim (λ (less : k < n). below k less) (λ (le : n ≤ k). (let same : k ≡ n = omega (arith, lt, le) in
    ap (λ (i : ℕ). is_bound (channel_to node peer i) past) same ∙ here)) (cases_lt k n)

free_all : (node peer : NodeId) (past : List Entry) (first n : ℕ) → ((k : ℕ) → k < first + n → is_bound (channel_to node peer k) past ≡ false) →
    list_all (λ (k : ℕ). not (is_bound (channel_to node peer k) past)) (range_with_len first n) ≡ true
free_all node peer past first zero none = refl
free_all node peer past first (suc n) none =
    λ i. not (none first (omega arith) i) && free_all node peer past (first + 1) n (λ k lt. none k (omega (arith, lt))) i

pub none_bound : (s : ScenarioLists) (past : List Entry) (node peer : NodeId) → ((k : ℕ) → k < s.channels → is_bound (channel_to node peer k) past ≡ false) →
    false ≡ has_bound s past node peer
none_bound s past node peer none = sym (ap not (free_all node peer past 0 s.channels (λ k lt. none k (omega (arith, lt)))))

one_bound : (node peer : NodeId) (past : List Entry) (first n k : ℕ) → first ≤ k → k < first + n → is_bound (channel_to node peer k) past ≡ true →
    list_all (λ (j : ℕ). not (is_bound (channel_to node peer j) past)) (range_with_len first n) ≡ false
one_bound node peer past first zero k le lt is = absurd (omega (arith, le, lt))
one_bound node peer past first (suc n) k le lt is = ⊎_elim (λ (less : first < k). later (one_bound node peer past (first + 1) n k (omega (arith, less))
    (omega (arith, lt)) is)) here (cases_lt first k)
  where
    later : list_all (λ (j : ℕ). not (is_bound (channel_to node peer j) past)) (range_with_len (first + 1) n) ≡ false →
        (not (is_bound (channel_to node peer first) past) && list_all (λ (j : ℕ). not (is_bound (channel_to node peer j) past))
        (range_with_len (first + 1) n)) ≡ false
    later none = and_second_fails (not (is_bound (channel_to node peer first) past)) (list_all (λ (j : ℕ). not (is_bound (channel_to node peer j) past))
        (range_with_len (first + 1) n)) none

    here : k ≤ first → (not (is_bound (channel_to node peer first) past) && list_all (λ (j : ℕ). not (is_bound (channel_to node peer j) past))
        (range_with_len (first + 1) n)) ≡ false
    here most =
        let same : first ≡ k = omega (arith, le, most) in
        ap (λ (b : Bool). not b && list_all (λ (j : ℕ). not (is_bound (channel_to node peer j) past)) (range_with_len (first + 1) n))
        (ap (λ (i : ℕ). is_bound (channel_to node peer i) past) same ∙ is)

pub bound_found : (s : ScenarioLists) (past : List Entry) (node peer : NodeId) (k : ℕ) → k < s.channels → is_bound (channel_to node peer k) past ≡ true →
    true ≡ has_bound s past node peer
bound_found s past node peer k lt is = sym (ap not (one_bound node peer past 0 s.channels k (omega arith) (omega (arith, lt)) is))

-- ---- one pair is put

pub pair_put : (passes : NodeId → NodeId → Bool) (node peer : NodeId) (old new : BitSet) (place : ℕ) (b : Bool) → place ≡ link node peer → b ≡ passes node peer →
    ((k : ℕ) → is_marked new k ≡ (if k == place then b else is_marked old k)) → IsPairAgain passes node peer old new
pair_put passes node peer old new place b at is put k = put k ∙ (λ i. if k == at i then is i else is_marked old k)
