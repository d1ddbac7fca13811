-- What an entry makes of the work of the channels.
use Rattle.std.proofs.Common.{◌≡◌, ℕ, zero, suc, ◌+◌, ◌-◌, ◌*◌, ◌<◌, ◌≤◌, Bool, true, false, ◌||◌, List, [], ◌∷◌, ◌++◌, Option, Some, None, refl, sym, ap, ◌∙◌}
use Rattle.std.proofs.Common.{subst, arith, true≢false}
use Rattle.std.specs.Prelude.{◌==◌, ◌&&◌, count_by, sum_by}
use Rattle.std.specs.List.{range_with_len}
use Rattle.std.proofs.lemmas.Bool.{and_from}
use Rattle.std.proofs.lemmas.List.Sums.{sum_by-cons, sum_by-le-sum_by}
use Rattle.std.proofs.Common.{eq-eqb}
use Rattle.am_names.specs.declared.EndpointId.{EndpointId}
use Rattle.am_names.specs.declared.NodeId.{NodeId}
use Rattle.am_names.specs.declared.Serial.{Serial}
use Rattle.am_names.specs.declared.Message.{Message}
use Rattle.am_names.specs.Names.{has_serial, same_node}
use Rattle.am_office_entries.specs.declared.Entry.{Entry}
use Rattle.am_model.specs.declared.Flying.{Flying}
use Rattle.am_model.specs.Cluster.{InFlightIsBound, IsFlying, IsHeldOnce, in_flight}
use Rattle.am_model.specs.Layout.{Layout, AllAre}
use Rattle.am_model.specs.Channels.{Channel, same_channel, bound_message, attempt, binds, frees, sends}
use Rattle.am_model.specs.History.{channel_to}
use Rattle.am_model.proofs.Ends.{bound_push, attempt_push}
use Rattle.am_model.proofs.Names.{same_serial-is, same_node-refl}
use Rattle.am_model.proofs.Received.{bit}
use Rattle.am_model.specs.Changes.{settled_in}
use Rattle.am_scenario_types.specs.Lists.{ScenarioLists}
use Rattle.am_model_scripts.specs.Layout.{layout_of}
use Rattle.am_model_scripts.specs.Links.{nodes_of}
use Rattle.am_laws_runs.specs.Turns.Work.{sending, time_outs, bindings, copy_of, bounces_flown, bound_work, channel_work}
use Rattle.am_laws_runs.proofs.Sums.{channels_more}
use Rattle.am_laws_runs.proofs.Flights.{Acts, StaysAloft, flights_kept}
use Rattle.am_laws_runs.proofs.Parts.{channels_work}

-- ---- bindings and time-outs

pub bindings_least : (tries copy n : ℕ) → 2 ≤ bindings tries copy n
bindings_least tries copy zero = omega arith
bindings_least tries copy (suc n) = omega (arith, bindings_least tries copy n)

pub bindings_less : (tries copy a b : ℕ) → a ≤ b → bindings tries copy a ≤ bindings tries copy b
bindings_less tries copy zero b h = bindings_least tries copy b
bindings_less tries copy (suc a) zero h = absurd (omega (arith, h))
bindings_less tries copy (suc a) (suc b) h = omega (arith, bindings_less tries copy a b (omega (arith, h)))

pub bindings_next : (tries copy n : ℕ) → bindings tries copy (n + 1) ≡ sending copy + time_outs copy (tries - 1) + bindings tries copy n
bindings_next tries copy n =
    let more : n + 1 ≡ suc n = omega arith in
    ap (bindings tries copy) more

time_outs_more : (copy n : ℕ) → time_outs copy (n + 1) ≡ time_outs copy n + (1 + 2 * copy)
time_outs_more copy n = omega arith

pub time_outs_next : (copy a b : ℕ) → b ≡ a + 1 → time_outs copy b ≡ time_outs copy a + (1 + 2 * copy)
time_outs_next copy a b h = ap (time_outs copy) h ∙ time_outs_more copy a

-- ---- a channel

pub at_bound : (s : ScenarioLists) (past : List Entry) (c : Channel) (m : Message) → bound_message c past ≡ Some m →
    channel_work s past c ≡ time_outs (copy_of s m) (s.tries - 1 - attempt c past) + bindings s.tries (copy_of s m) (s.bounces - bounces_flown s past m)
at_bound s past c m is = ap (bound_work s past c) is

pub at_free : (s : ScenarioLists) (past : List Entry) (c : Channel) → bound_message c past ≡ None → channel_work s past c ≡ 0
at_free s past c is = ap (bound_work s past c) is

-- an entry that isn't about a channel
pub record IsAside (past : List Entry) (x : Entry) (c : Channel) : Type 0 where
  pub bound' : (binds c x.event x.outcome || frees c x.event x.outcome) ≡ false
  pub sent' : sends c x.event x.outcome ≡ false
  pub stays : (m : Message) → bound_message c past ≡ Some m → StaysAloft m.serial (settled_in x.event x.outcome)

pub channel_kept : (s : ScenarioLists) (past : List Entry) (x : Entry) (c : Channel) → Acts x.event → IsAside past x c →
    channel_work s (past ++ x ∷ []) c ≤ channel_work s past c
channel_kept s past x c acts k = by_message (bound_message c past) refl
  where
    same : bound_message c (past ++ x ∷ []) ≡ bound_message c past
    same = bound_push c past x false k.bound'

    by_message : (o : Option Message) → bound_message c past ≡ o → channel_work s (past ++ x ∷ []) c ≤ channel_work s past c
    by_message None is = omega (arith, at_free s (past ++ x ∷ []) c (same ∙ is))
    by_message (Some m) is =
        let flown : bounces_flown s past m ≤ bounces_flown s (past ++ x ∷ []) m = flights_kept (layout_of s) past x m.serial acts (k.stays m is) in
        let less = bindings_less s.tries (copy_of s m) (s.bounces - bounces_flown s (past ++ x ∷ []) m) (s.bounces - bounces_flown s past m)
        (omega (arith, flown)) in
        let tries : time_outs (copy_of s m) (s.tries - 1 - attempt c (past ++ x ∷ [])) ≡ time_outs (copy_of s m) (s.tries - 1 - attempt c past) =
        ap (λ (n : ℕ). time_outs (copy_of s m) (s.tries - 1 - n)) (attempt_push c past x false k.sent') in
        omega (arith, at_bound s (past ++ x ∷ []) c m (same ∙ is), at_bound s past c m is, less, tries)

-- nothing lands
pub never : (u : Serial) → ◌≡◌ {A = Option Serial} None (Some u) → ⊥
never u e = cc

-- ---- all channels

-- an entry that is about one channel alone
pub channels_change : (s : ScenarioLists) (past : List Entry) (x : Entry) (node peer : NodeId) (number a b : ℕ) → Acts x.event → node.0 < s.nodes →
    peer.0 < s.nodes → number < s.channels → ((d : Channel) → same_channel d node peer number ≡ false → IsAside past x d) →
    channel_work s (past ++ x ∷ []) (channel_to node peer number) + a ≤ channel_work s past (channel_to node peer number) + b →
    channels_work s (past ++ x ∷ []) + a ≤ channels_work s past + b
channels_change s past x node peer number a b acts n p c others here =
    channels_more s (channel_work s past) (channel_work s (past ++ x ∷ [])) a b node peer number n p c
    (λ (d : Channel) apart. channel_kept s past x d acts (others d apart)) here

-- one that is about none
pub channels_fewer : (s : ScenarioLists) (past : List Entry) (x : Entry) → Acts x.event → ((d : Channel) → IsAside past x d) →
    channels_work s (past ++ x ∷ []) ≤ channels_work s past
channels_fewer s past x acts all =
    sum_by-le-sum_by (λ (node : NodeId). sum_by (row (past ++ x ∷ []) node) (nodes_of s)) (λ (node : NodeId). sum_by (row past node) (nodes_of s)) (nodes_of s)
    (λ (node : NodeId). sum_by-le-sum_by (row (past ++ x ∷ []) node) (row past node) (nodes_of s)
    (λ (peer : NodeId). sum_by-le-sum_by (λ (k : ℕ). channel_work s (past ++ x ∷ []) (channel_to node peer k))
    (λ (k : ℕ). channel_work s past (channel_to node peer k)) (range_with_len 0 s.channels)
    (λ (k : ℕ). channel_kept s past x (channel_to node peer k) acts (all (channel_to node peer k)))))
  where
    row : List Entry → NodeId → NodeId → ℕ
    row xs node peer = sum_by (λ (k : ℕ). channel_work s xs (channel_to node peer k)) (range_with_len 0 s.channels)

-- ---- a message is bound to one channel

-- a flight of a serial, with what holds of all
record IsFlight (P Q R : Flying → Type 0) (t : Serial) : Type 0 where
  flight : Flying
  has : has_serial t flight.message ≡ true
  one : P flight
  two : Q flight
  three : R flight

flight_of : (P Q R : Flying → Type 0) (t : Serial) (fs : List Flying) → 1 ≤ count_by (λ (f : Flying). has_serial t f.message) fs → AllAre P fs → AllAre Q fs →
    AllAre R fs → IsFlight P Q R t
flight_of P Q R t [] some p q r = absurd (omega (arith, some))
flight_of P Q R t (f ∷ fs) some p q r = by_test (has_serial t f.message) refl (λ more. flight_of P Q R t fs more p.1 q.1 r.1)
  where
    by_test : (b : Bool) → has_serial t f.message ≡ b → (1 ≤ count_by (λ (g : Flying). has_serial t g.message) fs → IsFlight P Q R t) → IsFlight P Q R t
    by_test true is later = record { flight = f; has = is; one = p.0; two = q.0; three = r.0 }
    by_test false is later = later (omega (arith, some, ap bit is, sum_by-cons (λ (g : Flying). bit (has_serial t g.message)) f fs))

pub one_channel : (layout : Layout) (past : List Entry) (c d : Channel) (m n : Message) → InFlightIsBound layout past → bound_message c past ≡ Some m →
    bound_message d past ≡ Some n → n.serial ≡ m.serial → d ≡ c
one_channel layout past c d m n k is other same =
    let one : IsFlying layout past c m = k.flies c m is in
    let two : IsFlying layout past d n = k.flies d n other in
    let of_m : Flying → Type 0 = λ f. f.message.serial ≡ m.serial → f.message ≡ m in
    let of_n : Flying → Type 0 = λ f. f.message.serial ≡ n.serial → f.message ≡ n in
    let e : EndpointId = m.serial.source in
    let all : AllAre of_n (in_flight layout past m.serial.source) = subst (λ (t : Serial). AllAre of_n (in_flight layout past t.source)) same two.message in
    let some : 1 ≤ count_by (λ (f : Flying). has_serial m.serial f.message) (in_flight layout past m.serial.source) = omega (arith, one.one) in
    let at : IsFlight of_m of_n (λ f. IsHeldOnce layout past e f.message) m.serial =
    flight_of of_m of_n (λ f. IsHeldOnce layout past e f.message) m.serial (in_flight layout past m.serial.source) some one.message all (k.held e) in
    let serial : m.serial ≡ at.flight.message.serial = same_serial-is m.serial at.flight.message.serial at.has in
    let is_m : at.flight.message ≡ m = at.one (sym serial) in
    let is_n : at.flight.message ≡ n = at.two (sym serial ∙ sym same) in
    at.three.only d (other ∙ ap (λ (w : Message). Some w) (sym is_n)) ∙ sym (at.three.only c (is ∙ ap (λ (w : Message). Some w) (sym is_m)))

pub channel_self : (node peer : NodeId) (number : ℕ) → same_channel (channel_to node peer number) node peer number ≡ true
channel_self node peer number =
    and_from (same_node node node && same_node peer peer) (number ==
    number) (and_from (same_node node node) (same_node peer peer) (same_node-refl node) (same_node-refl peer)) (eq-eqb number number refl)

-- where the message of one channel lands, those of the others stay
pub others_stay : (layout : Layout) (past : List Entry) (node peer : NodeId) (number : ℕ) (d : Channel) (m n : Message) → InFlightIsBound layout past →
    bound_message (channel_to node peer number) past ≡ Some m → same_channel d node peer number ≡ false → bound_message d past ≡ Some n →
    StaysAloft n.serial (Some m.serial)
others_stay layout past node peer number d m n k is apart other u e same =
    let own : m.serial ≡ u = cc in
    let one : d ≡ channel_to node peer number = one_channel layout past (channel_to node peer number) d m n k is other (same ∙ sym own) in
    true≢false (sym (ap (λ (c : Channel). same_channel c node peer number) one ∙ channel_self node peer number) ∙ apart)
