-- A send leaves less work: its message is bound once less, and at most two endpoints go to disk for it.
use Rattle.std.proofs.Common.{◌≡◌, ℕ, ◌+◌, ◌-◌, ◌*◌, ◌<◌, ◌≤◌, Bool, true, false, cond, ◌||◌, List, [], ◌∷◌, ◌++◌, Option, Some, None, refl, sym, ap, ◌∙◌}
use Rattle.std.proofs.Common.{subst, arith, true≢false, ltb-true}
use Rattle.std.specs.Prelude.{not, nat_lt, is_none, count_by, sum_by, drop}
use Rattle.std.proofs.lemmas.Bool.{and_parts}
use Rattle.std.proofs.lemmas.List.Sums.{sum_by-cons, sum_by_push}
use Rattle.am_names.specs.declared.EndpointId.{EndpointId}
use Rattle.am_names.specs.declared.NodeId.{NodeId}
use Rattle.am_names.specs.declared.Serial.{Serial}
use Rattle.am_names.specs.declared.Message.{Message}
use Rattle.am_names.specs.declared.Packet.{Packet}
use Rattle.am_names.specs.declared.Packet.TheVariants as Packets
use Rattle.am_names.specs.Names.{has_serial, same_end}
use Rattle.am_office_entries.specs.declared.Condition.{Condition}
use Rattle.am_office_entries.specs.declared.Condition.TheVariants as Needs
use Rattle.am_office_entries.specs.declared.Event.TheVariants as Events
use Rattle.am_office_entries.specs.declared.Outcome.{Outcome}
use Rattle.am_office_entries.specs.declared.Outcome.TheVariants as Out
use Rattle.am_office_entries.specs.declared.Entry.{Entry}
use Rattle.am_model.specs.declared.Flying.{Flying}
use Rattle.am_model.specs.declared.Queued.{Queued}
use Rattle.am_model.specs.Endpoint.{State, is_resident, front_of, front}
use Rattle.am_model.specs.Changes.{bounces_of, flying_of, requests_left}
use Rattle.am_model.specs.Cluster.{InFlightIsBound, IsFlying, IsHeldOnce, in_flight}
use Rattle.am_model.specs.Layout.{Layout, AllAre, IsLawful, declared, home}
use Rattle.am_model.specs.Channels.{Channel, same_channel, bound_message, attempt, sequence}
use Rattle.am_model.specs.History.{MayFollow, IsHistory, state_of, is_home, channel_to, free_channel, channel_by, channel_for, next_number, bind_to, bind}
use Rattle.am_model.specs.History.{bounced, outcome_of}
use Rattle.am_model.proofs.Each.{state_of_push, each_at}
use Rattle.am_model.proofs.Ends.{bound_push, attempt_push}
use Rattle.am_model.proofs.Names.{same_serial-refl, same_end-refl}
use Rattle.am_model.proofs.Received.{bit}
use Rattle.am_model.proofs.Valid.{front_bounces}
use Rattle.am_laws_cluster.proofs.HomesKept.{home_below}
use Rattle.am_laws_cluster.proofs.Bound.{in_flight_bound}
use Rattle.am_scenario_types.specs.Lists.{ScenarioLists}
use Rattle.am_model_scripts.specs.Layout.{layout_of}
use Rattle.am_model_scripts.proofs.Lawful.{lawful_layout}
use Rattle.am_model_scripts.specs.Standings.{Standing, standings}
use Rattle.am_model_drain.specs.declared.Turn.{Turn}
use Rattle.am_model_drain.specs.declared.Turn.TheVariants.{Send}
use Rattle.am_model_drain.specs.Made.{next_stamp, next_entry, after_event}
use Rattle.am_model_drain.specs.Ready.{ready, ready_dest}
use Rattle.am_model_drain.specs.Rules.{next_sender, send_front, send_of}
use Rattle.am_laws_runs.proofs.Channels.{channels_below}
use Rattle.am_laws_runs.specs.Turns.Work.{sending, time_outs, bindings, copy_of, queued_work, bounces_flown, channel_work, work}
use Rattle.am_laws_runs.proofs.Enabled.{MakesHistory}
use Rattle.am_laws_runs.proofs.Sends.{sends_may_follow}
use Rattle.am_laws_runs.specs.Ends.Falls.{Falls, SendsFall}
use Rattle.am_laws_runs.proofs.Flights.{bounces_in}
use Rattle.am_laws_runs.proofs.Links.{sent_by, taken_by, links_emit, links_untaken}
use Rattle.am_laws_runs.proofs.EndStates.{ends_work, entry_ends}
use Rattle.am_laws_runs.proofs.EndChannels.{never, bindings_next, at_bound, channels_change, channel_self}
use Rattle.am_laws_runs.proofs.Parts.{acted, links_left, channels_work}
use Rattle.am_laws_runs.proofs.Moving.{both_ready_work}

-- ---- the front message leaves its queue

front_less : (w : Queued → ℕ) (replies requests : List Queued) (q : Queued) → front_of replies requests ≡ Some q →
    sum_by w (requests_left replies requests) + sum_by w (drop 1 replies) + w q ≡ sum_by w requests + sum_by w replies
front_less w (r ∷ replies) requests q e =
    let same : r ≡ q = cc in
    omega (arith, ap w same, sum_by-cons w r replies)
front_less w [] (r ∷ requests) q e =
    let same : r ≡ q = cc in
    omega (arith, ap w same, sum_by-cons w r requests)
front_less w [] [] q e = absurd (cc)

-- ---- and is in flight, having bounced as often

last_bounces : (t : Serial) (fs : List Flying) (f : Flying) → count_by (λ (g : Flying). has_serial t g.message) fs ≡ 0 → has_serial t f.message ≡ true →
    bounces_in t (fs ++ f ∷ []) ≡ f.bounces
last_bounces t [] f none is = ap (λ (b : Bool). bounced (cond b (Some f) None)) is
last_bounces t (g ∷ gs) f none is = by_test (has_serial t g.message) refl (last_bounces t gs f)
  where
    by_test : (b : Bool) → has_serial t g.message ≡ b → (count_by (λ (h : Flying). has_serial t h.message) gs ≡ 0 → has_serial t f.message ≡ true →
        bounces_in t (gs ++ f ∷ []) ≡ f.bounces) → bounced (cond b (Some g) (flying_of t (gs ++ f ∷ []))) ≡ f.bounces
    by_test true at later = absurd (omega (arith, none, ap bit at, sum_by-cons (λ (h : Flying). bit (has_serial t h.message)) g gs))
    by_test false at later = later (omega (arith, none, ap bit at, sum_by-cons (λ (h : Flying). bit (has_serial t h.message)) g gs)) is

all_last : {X : Type 0} (P : X → Type 0) (xs : List X) (x : X) → AllAre P (xs ++ x ∷ []) → P x
all_last P [] x all = all.0
all_last P (y ∷ ys) x all = all_last P ys x all.1

-- ---- a bind

-- a message that goes out from the front of an endpoint on a channel
record Binds (s : ScenarioLists) (past : List Entry) (x : Entry) (node peer : NodeId) (e : EndpointId) (q : Queued) (k : ℕ) : Type 0 where
  lawful : IsLawful (layout_of s)
  history : IsHistory (layout_of s) (past ++ x ∷ [])
  node' : node.0 < s.nodes
  known : declared (layout_of s) e ≡ true
  has : front (state_of (layout_of s) past e) ≡ Some q
  to : home (layout_of s) q.message.dest ≡ Some peer

abbrev bound_entry : ℕ → NodeId → NodeId → EndpointId → Queued → ℕ → ℕ → ℕ → Entry
bound_entry stamp node peer e q k seq number =
    record { stamp = stamp; event = Events.Bind node e; outcome = Out.Sent q.message peer k seq 0 number }

or_true : (b c : Bool) → b ≡ true → (b || c) ≡ true
or_true true c h = refl
or_true false c h = absurd (true≢false (sym h))

or_false : (b : Bool) → b ≡ false → (b || false) ≡ false
or_false true h = absurd (true≢false h)
or_false false h = refl

bound_now : (past : List Entry) (stamp : ℕ) (node peer : NodeId) (e : EndpointId) (q : Queued) (k seq number : ℕ) →
    bound_message (channel_to node peer k) (past ++ bound_entry stamp node peer e q k seq number ∷ []) ≡ Some q.message
bound_now past stamp node peer e q k seq number =
    bound_push (channel_to node peer k) past (bound_entry stamp node peer e q k seq number) true
    (or_true (same_channel (channel_to node peer k) node peer k) false (channel_self node peer k))

-- the message is in flight once, with its bounces
flown_now : (s : ScenarioLists) (past : List Entry) (stamp : ℕ) (node peer : NodeId) (e : EndpointId) (q : Queued) (k seq number : ℕ) →
    Binds s past (bound_entry stamp node peer e q k seq number) node peer e q k →
    bounces_flown s (past ++ bound_entry stamp node peer e q k seq number ∷ []) q.message ≡ q.bounces
flown_now s past stamp node peer e q k seq number b =
    subst (λ (i : EndpointId). bounces_in t (in_flight (layout_of s) next i) ≡ q.bounces) (sym own.own)
    (ap (bounces_in t) now ∙ (last_bounces t st.body.in_flight f none (same_serial-refl t) ∙ front_bounces st.body.replies st.body.requests q b.has))
  where
    next : List Entry
    next = past ++ bound_entry stamp node peer e q k seq number ∷ []

    t : Serial
    t = q.message.serial

    st : State
    st = state_of (layout_of s) past e

    f : Flying
    f = record { message = q.message; bounces = bounces_of st.body.replies st.body.requests; answered = false }

    flies : InFlightIsBound (layout_of s) next
    flies = in_flight_bound (layout_of s) b.lawful next b.history

    now : in_flight (layout_of s) next e ≡ st.body.in_flight ++ f ∷ []
    now = ap (λ (z : State). z.body.in_flight) (state_of_push (layout_of s) past (bound_entry stamp node peer e q k seq number) e true
        (or_true (same_end e e) false (same_end-refl e)))

    own : IsHeldOnce (layout_of s) next e q.message
    own = all_last (λ (g : Flying). IsHeldOnce (layout_of s) next e g.message) st.body.in_flight f
        (subst (λ (fs : List Flying). AllAre (λ (g : Flying). IsHeldOnce (layout_of s) next e g.message) fs) now (flies.held e))

    fly : IsFlying (layout_of s) next (channel_to node peer k) q.message
    fly = flies.flies (channel_to node peer k) q.message (bound_now past stamp node peer e q k seq number)

    one : count_by (λ (g : Flying). has_serial t g.message) (st.body.in_flight ++ f ∷ []) ≡ 1
    one = subst (λ (fs : List Flying). count_by (λ (g : Flying). has_serial t g.message) fs ≡ 1) now
        (subst (λ (i : EndpointId). count_by (λ (g : Flying). has_serial t g.message) (in_flight (layout_of s) next i) ≡ 1) own.own fly.one)

    none : count_by (λ (g : Flying). has_serial t g.message) st.body.in_flight ≡ 0
    none = omega (arith, one, ap bit (same_serial-refl t), sum_by_push (λ (g : Flying). bit (has_serial t g.message)) st.body.in_flight f)

bound_falls : (s : ScenarioLists) (past : List Entry) (stamp : ℕ) (node peer : NodeId) (e : EndpointId) (q : Queued) (k seq number : ℕ) →
    Binds s past (bound_entry stamp node peer e q k seq number) node peer e q k →
    work s (past ++ bound_entry stamp node peer e q k seq number ∷ []) + 3 ≤ work s past
bound_falls s past stamp node peer e q k seq number b = acted s past x 3 tt refl (omega (arith, ends, spent, links, channels))
  where
    x : Entry
    x = bound_entry stamp node peer e q k seq number

    copy : ℕ
    copy = copy_of s q.message

    p : Packet
    p = Packets.Parcel (record { from = node; to = peer; channel = k; seq = seq; attempt = 0; number = number; stamp = stamp; message = q.message })

    later : ℕ
    later = bindings s.tries copy (s.bounces - q.bounces)

    peer' : peer.0 < s.nodes
    peer' = home_below (layout_of s) b.lawful q.message.dest peer b.to

    spent : queued_work s q ≡ sending copy + time_outs copy (s.tries - 1) + later
    spent = bindings_next s.tries copy (s.bounces - q.bounces)

    ends : ends_work s (past ++ x ∷ []) + queued_work s q ≤ ends_work s past + 0
    ends =
        entry_ends s past x e (queued_work s q) 0 b.lawful b.known refl
        (omega (arith, front_less (queued_work s) (state_of (layout_of s) past e).body.replies (state_of (layout_of s) past e).body.requests q b.has))

    links : links_left s (past ++ x ∷ []) ≤ links_left s past + 2 * copy
    links = omega (arith, links_emit s past x p (taken_by (past ++ x ∷ [])) refl b.node' peer', links_untaken s past x (sent_by past) (λ from to. refl))

    here : channel_work s (past ++ x ∷ []) (channel_to node peer k) + 0 ≤ channel_work s past (channel_to node peer k) + (time_outs copy (s.tries - 1) + later)
    here =
        let tried : attempt (channel_to node peer k) (past ++ x ∷ []) ≡ 0 = attempt_push (channel_to node peer k) past x true (channel_self node peer k) in
        let all : s.tries - 1 - attempt (channel_to node peer k) (past ++ x ∷ []) ≡ s.tries - 1 = omega (arith, tried) in
        let tries : time_outs copy (s.tries - 1 - attempt (channel_to node peer k) (past ++ x ∷ [])) ≡ time_outs copy (s.tries - 1) = ap (time_outs copy) all in
        let rest : bindings s.tries copy (s.bounces - bounces_flown s (past ++ x ∷ []) q.message) ≡ later =
        ap (λ (n : ℕ). bindings s.tries copy (s.bounces - n)) (flown_now s past stamp node peer e q k seq number b) in
        omega (arith, at_bound s (past ++ x ∷ []) (channel_to node peer k) q.message (bound_now past stamp node peer e q k seq number), tries, rest)

    channels : channels_work s (past ++ x ∷ []) + 0 ≤ channels_work s past + (time_outs copy (s.tries - 1) + later)
    channels =
        channels_change s past x node peer k 0 (time_outs copy (s.tries - 1) + later) tt b.node' peer'
        (channels_below (layout_of s) (past ++ x ∷ []) b.history (channel_to node peer k) q.message (bound_now past stamp node peer e q k seq number))
        (λ (d : Channel) apart. record { bound' = or_false (same_channel d node peer k) apart; sent' = apart; stays = λ m other u same is. never u same }) here

-- ---- what may be bound

skip : (a : Bool) (u : Condition) (rest : Option Condition) → cond a (Some u) rest ≡ None → (a ≡ false) × (rest ≡ None)
skip true u rest h = absurd (cc)
skip false u rest h = (refl, h)

-- a bind that may happen has a message and a channel for it
may_bind : (layout : Layout) (a b c d : Bool) (front' channel : Bool) →
    cond a (Some Needs.NotPacket) (cond b (Some Needs.OtherNode) (cond c (Some Needs.NotResident)
    (cond d (Some Needs.Draining) (cond front' (Some Needs.NoMessage) (cond channel (Some Needs.NoChannel) None))))) ≡ None →
    (front' ≡ false) × (channel ≡ false)
may_bind layout a b c d front' channel h =
    let one = skip a Needs.NotPacket _ h in
    let two = skip b Needs.OtherNode _ one.1 in
    let three = skip c Needs.NotResident _ two.1 in
    let four = skip d Needs.Draining _ three.1 in
    let five = skip front' Needs.NoMessage _ four.1 in
    (five.0, (skip channel Needs.NoChannel None five.1).0)

bind_falls : (s : ScenarioLists) (past : List Entry) (node : NodeId) (e : EndpointId) → IsLawful (layout_of s) →
    IsHistory (layout_of s) (after_event (layout_of s) (Events.Bind node e) past) →
    work s (after_event (layout_of s) (Events.Bind node e) past) + 3 ≤ work s past
bind_falls s past node e ok h = by_front (front (state_of (layout_of s) past e)) refl able.0 able.1
  where
    layout : Layout
    layout = layout_of s

    may : MayFollow (layout_of s) past (next_entry (layout_of s) past (Events.Bind node e))
    may = each_at (MayFollow (layout_of s)) [] past (next_entry (layout_of s) past (Events.Bind node e)) [] h

    able : (is_none (front (state_of (layout_of s) past e)) ≡ false) × (is_none (channel_for (layout_of s) node past (front (state_of (layout_of s) past e))) ≡
        false)
    able = may_bind (layout_of s) (layout_of s).direct (not (is_home (layout_of s) e node)) (not (is_resident (state_of (layout_of s) past e).head.place))
        (state_of (layout_of s) past e).head.draining (is_none (front (state_of (layout_of s) past e)))
        (is_none (channel_for (layout_of s) node past (front (state_of (layout_of s) past e)))) may.enabled

    ranged : (declared (layout_of s) e ≡ true) × (nat_lt node.0 s.nodes ≡ true)
    ranged = and_parts (declared (layout_of s) e) (nat_lt node.0 s.nodes) may.in_range

    -- the outcome, where all is known
    sent : (q : Queued) (peer : NodeId) (k : ℕ) → front (state_of (layout_of s) past e) ≡ Some q → home (layout_of s) q.message.dest ≡ Some peer →
        free_channel (layout_of s) node peer past ≡ Some k → outcome_of (layout_of s) past (Events.Bind node e) ≡ Out.Sent q.message peer k
        (sequence (channel_to node peer k) past + 1) 0 (next_number node peer past)
    sent q peer k has to free =
        ap (bind (layout_of s) node past) has
        ∙ ((λ i. bind_to node past q (to i) (channel_by (layout_of s) node past (to i)))
        ∙ ap (bind_to node past q (Some peer)) free)

    by_channel : (q : Queued) (peer : NodeId) (o : Option ℕ) → front (state_of (layout_of s) past e) ≡ Some q → home (layout_of s) q.message.dest ≡ Some peer →
        free_channel (layout_of s) node peer past ≡ o → is_none o ≡ false →
        work s (past ++ next_entry (layout_of s) past (Events.Bind node e) ∷ []) + 3 ≤ work s past
    by_channel q peer None has to free some = absurd (true≢false some)
    by_channel q peer (Some k) has to free some =
        let out = sent q peer k has to free in
        let known : IsHistory (layout_of s) (past ++ bound_entry (next_stamp past) node peer e q k (sequence (channel_to node peer k) past + 1)
        (next_number node peer past) ∷ []) =
        subst (λ (o : Outcome). IsHistory (layout_of s) (past ++ record { stamp = next_stamp past; event = Events.Bind node e; outcome = o } ∷ [])) out h in
        subst (λ (o : Outcome). work s (past ++ record { stamp = next_stamp past; event = Events.Bind node e; outcome = o } ∷ []) + 3 ≤ work s past) (sym out)
        (bound_falls s past (next_stamp past) node peer e q k (sequence (channel_to node peer k) past + 1) (next_number node peer past)
        (record { lawful = ok; history = known; node' = ltb-true node.0 s.nodes ranged.1; known = ranged.0; has = has; to = to }))

    by_home : (q : Queued) (o : Option NodeId) → front (state_of (layout_of s) past e) ≡ Some q → home (layout_of s) q.message.dest ≡ o →
        is_none (channel_by (layout_of s) node past o) ≡ false → work s (past ++ next_entry (layout_of s) past (Events.Bind node e) ∷ []) + 3 ≤ work s past
    by_home q None has to some = absurd (true≢false some)
    by_home q (Some peer) has to some = by_channel q peer (free_channel (layout_of s) node peer past) has to refl some

    by_front : (o : Option Queued) → front (state_of (layout_of s) past e) ≡ o → is_none o ≡ false → is_none (channel_for (layout_of s) node past o) ≡ false →
        work s (past ++ next_entry (layout_of s) past (Events.Bind node e) ∷ []) + 3 ≤ work s past
    by_front None has some channel = absurd (true≢false some)
    by_front (Some q) has some channel = by_home q (home (layout_of s) q.message.dest) has refl channel

-- ---- the send that the drain names

record IsSend (t : Turn) : Type 0 where
  node : NodeId
  end : EndpointId
  message : Message
  same : Send node end message ≡ t

is_send : (o : Option Standing) (t : Turn) → send_of o ≡ Some t → IsSend t
is_send None t e = absurd (cc)
is_send (Some st) t e = by_front (front st.state) e
  where
    by_front : (o : Option Queued) → send_front st o ≡ Some t → IsSend t
    by_front None h = absurd (cc)
    by_front (Some q) h = record { node = st.setting.node; end = st.setting.id; message = q.message; same = cc }

send_falls : (s : ScenarioLists) (past : List Entry) (node : NodeId) (e : EndpointId) (m : Message) → IsLawful (layout_of s) →
    MakesHistory s past (Send node e m) → Falls s past (Send node e m)
send_falls s past node e m ok h =
    let two : List Entry = ready_dest (layout_of s) s.keep e m.dest (ready (layout_of s) s.keep node e e m.dest past) in
    omega (arith, both_ready_work s node e m.dest past ok, bind_falls s two node e ok h)

pub sends_fall : SendsFall
sends_fall s past t run free is =
    let k : IsSend t = is_send (next_sender (standings (layout_of s) past)) t is in
    subst (λ (u : Turn). Falls s past u) k.same
    (send_falls s past k.node k.end k.message (lawful_layout s run.lawful) (subst (λ (u : Turn). MakesHistory s past u) (sym k.same)
    (sends_may_follow s past t run free is)))
