-- A send makes a history, with the making ready of its two endpoints, where no channel is bound.
use Rattle.std.proofs.Common.{◌≡◌, ℕ, zero, suc, ◌+◌, ◌<◌, ◌≤◌, Bool, true, false, ◌||◌, List, [], ◌∷◌, map, length, Option, Some, None, refl, sym, ap, ◌∙◌}
use Rattle.std.proofs.Common.{subst, arith, true≢false, if◌then◌else◌}
use Rattle.std.specs.Prelude.{◌&&◌, ◌==◌, not, is_none, is_some, find}
use Rattle.std.specs.List.{list_any, list_all}
use Rattle.std.proofs.lemmas.Bool.{and_parts, not-true}
use Rattle.am_lemmas.proofs.Options.{cond-None}
use Rattle.am_model.proofs.PlaceKinds.{framed_is_resident}
use Rattle.am_names.specs.declared.EndpointId.{EndpointId}
use Rattle.am_names.specs.declared.NodeId.{NodeId}
use Rattle.am_names.specs.declared.Message.{Message}
use Rattle.am_names.specs.Names.{same_end}
use Rattle.am_office_entries.specs.declared.Condition.TheVariants as Needs
use Rattle.am_office_entries.specs.declared.Event.TheVariants as Events
use Rattle.am_office_entries.specs.declared.Entry.{Entry}
use Rattle.am_model.specs.declared.Queued.{Queued}
use Rattle.am_model.specs.Endpoint.{State, Body, is_resident, is_in_a_frame, front_of, front}
use Rattle.am_model.specs.Layout.{Layout, EndSetting, IsLawful, has_id, home}
use Rattle.am_model.specs.Channels.{bound_message}
use Rattle.am_model.specs.History.{IsHistory, state_of, is_home, is_bound, channel_to, free_from, channel_by, channel_for}
use Rattle.am_model.proofs.Names.{same_end-is}
use Rattle.am_laws_cluster.proofs.HomesKept.{front_addressed}
use Rattle.am_laws_cluster.proofs.Flights.{open_queued}
use Rattle.am_scenario_types.specs.Lists.{ScenarioLists}
use Rattle.am_model_scripts.specs.Layout.{layout_of}
use Rattle.am_model_scripts.proofs.Lawful.{lawful_layout}
use Rattle.am_model_scripts.specs.Links.{first_some}
use Rattle.am_model_scripts.specs.Standings.{Standing, standings, standing_in}
use Rattle.am_model_drain.specs.declared.Turn.{Turn}
use Rattle.am_model_drain.specs.declared.Turn.TheVariants.{Send}
use Rattle.am_model_drain.specs.Made.{after_event}
use Rattle.am_model_drain.specs.Ready.{ready, ready_at, ready_dest_if, ready_dest}
use Rattle.am_model_drain.specs.Rules.{next_time_out, has_reply, has_request, next_sender, send_front, send_of}
use Rattle.am_model_drain.specs.Laws.{has_no_flight}
use Rattle.am_laws_runs.proofs.Soundness.{histories_are_sound, none_bound}
use Rattle.am_laws_runs.specs.Turns.Enabled.{IsOfRun, SendsMayFollow}
use Rattle.am_laws_runs.specs.Turns.Readied.{OffDiskIsOff, ReadyIsReady}
use Rattle.am_laws_runs.proofs.Enabled.{MakesHistory, event_follows, of_packets, IsSeated, IsStanding, is_standing, seat_in_range}
use Rattle.am_laws_runs.proofs.Calls.{home_seated, declared_home}
use Rattle.am_laws_runs.proofs.Paging.{leaves_disk}
use Rattle.am_laws_runs.proofs.Moves.{Spares, spares_then}
use Rattle.am_laws_runs.proofs.Emptying.{IsNamed, AsSource, AsDest, IsGrounded}
use Rattle.am_laws_runs.proofs.Readying.{IsReady, readies, spared_ground}

-- ---- nothing is in flight

grounded_at : (layout : Layout) (past : List Entry) (e : EndpointId) (settings : List EndSetting) → list_any (has_id e) settings ≡ true →
    list_all has_no_flight (map (standing_in layout past) settings) ≡ true → (length (state_of layout past e).body.in_flight == 0) ≡ true
grounded_at layout past e [] known all = absurd (true≢false (sym known))
grounded_at layout past e (x ∷ xs) known all =
    let parts = and_parts (has_no_flight (standing_in layout past x)) (list_all has_no_flight (map (standing_in layout past) xs)) all in
    by_test (same_end e x.id) refl known parts.0 (λ more. grounded_at layout past e xs more parts.1)
  where
    by_test : (b : Bool) → same_end e x.id ≡ b → (b || list_any (has_id e) xs) ≡ true → (length (state_of layout past x.id).body.in_flight == 0) ≡ true →
        (list_any (has_id e) xs ≡ true → (length (state_of layout past e).body.in_flight == 0) ≡ true) →
        (length (state_of layout past e).body.in_flight == 0) ≡ true
    by_test true is k here later =
        subst (λ (i : EndpointId). (length (state_of layout past i).body.in_flight == 0) ≡ true) (sym (same_end-is e x.id is)) here
    by_test false is k here later = later k

pub grounded : (s : ScenarioLists) (past : List Entry) → IsOfRun s past → next_time_out s past ≡ None → IsGrounded (layout_of s) past
grounded s past run none f known =
    grounded_at (layout_of s) past f (layout_of s).ends known ((histories_are_sound s past run.lawful run.history).bound none)

-- ---- a channel is free

free_first : (node peer : NodeId) (past : List Entry) (n : ℕ) → 1 ≤ n → is_bound (channel_to node peer 0) past ≡ false →
    is_none (free_from node peer past 0 n) ≡ false
free_first node peer past zero low free = absurd (omega (arith, low))
free_first node peer past (suc n) low free = ap (λ (b : Bool). is_none (if b then free_from node peer past (0 + 1) n else Some 0)) free

not_bound : (s : ScenarioLists) (past : List Entry) (node peer : NodeId) (o : Option Message) → bound_message (channel_to node peer 0) past ≡ o →
    next_time_out s past ≡ None → node.0 < s.nodes → peer.0 < s.nodes → 0 < s.channels → is_some o ≡ false
not_bound s past node peer None is none n p c = refl
not_bound s past node peer (Some m) is none n p c = absurd (none_bound s past (channel_to node peer 0) m none n p c is)

-- ---- the bind

-- an endpoint from which a message may be bound
record MaySend (layout : Layout) (e : EndpointId) (past next : List Entry) : Type 0 where
  history : IsHistory layout next
  spares' : Spares layout past next
  framed : is_in_a_frame (state_of layout next e).head.place ≡ true
  still : (state_of layout next e).head.draining ≡ false

bind_may : (s : ScenarioLists) (past next : List Entry) (node peer : NodeId) (e : EndpointId) (q : Queued) → IsOfRun s past → next_time_out s past ≡ None →
    IsSeated (layout_of s) e node → front (state_of (layout_of s) past e) ≡ Some q → home (layout_of s) q.message.dest ≡ Some peer → peer.0 < s.nodes →
    MaySend (layout_of s) e past next → IsHistory (layout_of s) (after_event (layout_of s) (Events.Bind node e) next)
bind_may s past next node peer e q run none seated has to low k =
    let layout : Layout = layout_of s in
    let same : front (state_of layout next e) ≡ Some q = ap (λ (b : Body). front_of b.replies b.requests) (k.spares'.body' e) ∙ has in
    let free : is_bound (channel_to node peer 0) next ≡ false = ap (λ (o : Option Message). is_some o) (k.spares'.bound' (channel_to node peer 0))
    ∙ not_bound s past node peer (bound_message (channel_to node peer 0) past) refl none seated.node' low (omega (arith, run.lawful.settings.channels.0))
    in
    let first : is_none (channel_by layout node next (Some peer)) ≡ false = free_first node peer next s.channels run.lawful.settings.channels.0 free in
    let channel : is_none (channel_for layout node next (front (state_of layout next e))) ≡ false =
    ap (λ (o : Option Queued). is_none (channel_for layout node next o)) same ∙ (ap (λ (o : Option NodeId). is_none (channel_by layout node next o)) to
    ∙ first) in
    event_follows layout next (Events.Bind node e) k.history (seat_in_range layout e node seated)
    (cond-None layout.direct Needs.NotPacket _ (of_packets s run.packet)
    (cond-None (not (is_home layout e node)) Needs.OtherNode _ (ap not seated.home)
    (cond-None (not (is_resident (state_of layout next e).head.place)) Needs.NotResident _
    (ap not (framed_is_resident (state_of layout next e).head.place k.framed))
    (cond-None (state_of layout next e).head.draining Needs.Draining _ k.still
    (cond-None (is_none (front (state_of layout next e))) Needs.NoMessage _ (ap (λ (o : Option Queued). is_none o) same)
    (cond-None (is_none (channel_for layout node next (front (state_of layout next e)))) Needs.NoChannel None channel refl))))))

-- ---- the destination

dest_ready : (s : ScenarioLists) (past one : List Entry) (e dest : EndpointId) (peer : NodeId) → IsOfRun s past → IsGrounded (layout_of s) past →
    home (layout_of s) dest ≡ Some peer → IsReady (layout_of s) e dest e past one → MaySend (layout_of s) e past (ready_dest (layout_of s) s.keep e dest one)
dest_ready s past one e dest peer run ground at r = by_test (not (same_end e dest) && not (state_of (layout_of s) one dest).head.closed) refl
  where
    by_test : (b : Bool) → (not (same_end e dest) && not (state_of (layout_of s) one dest).head.closed) ≡ b →
        MaySend (layout_of s) e past (ready_dest_if b (layout_of s) s.keep e dest one)
    by_test false is = record { history = r.history; spares' = r.spares'; framed = r.framed; still = r.still }
    by_test true is =
        let layout : Layout = layout_of s in
        let ok : IsLawful layout = lawful_layout s run.lawful in
        let both = and_parts (not (same_end e dest)) (not (state_of layout one dest).head.closed) is in
        let next : List Entry = ready layout s.keep peer dest e dest one in
        let d : IsReady layout e dest dest one next = readies layout one s.keep peer e dest dest (of_packets s run.packet) ok r.history
        (home_seated layout dest peer ok at) (AsDest refl) (spared_ground layout past one r.spares' ground)
        (not-true (state_of layout one dest).head.closed both.1) in
        let stays : state_of layout next e ≡ state_of layout one e = d.named e (AsSource refl) (not-true (same_end e dest) both.0) in
        subst (λ (o : Option NodeId). MaySend layout e past (ready_at o layout s.keep e dest one)) (sym at)
        (record {
          history = d.history;
          spares' = spares_then layout past one next r.spares' d.spares';
          framed = ap (λ (z : State). is_in_a_frame z.head.place) stays ∙ r.framed;
          still = ap (λ (z : State). z.head.draining) stays ∙ r.still;
        })

-- ---- the send

send_may : (s : ScenarioLists) (past : List Entry) (st : Standing) (q : Queued) → IsOfRun s past → next_time_out s past ≡ None →
    IsStanding (layout_of s) past st → front st.state ≡ Some q → MakesHistory s past (Send st.setting.node st.setting.id q.message)
send_may s past st q run none k has = by_home (home (layout_of s) q.message.dest) refl
  where
    by_home : (o : Option NodeId) → home (layout_of s) q.message.dest ≡ o → MakesHistory s past (Send st.setting.node st.setting.id q.message)
    by_home None to =
        absurd (declared_home (layout_of s) q.message.dest (front_addressed (layout_of s) past run.history st.setting.id q
        (ap (λ (z : State). front z) (sym k.state) ∙ has)).dest to)
    by_home (Some peer) to =
        let layout : Layout = layout_of s in
        let ok : IsLawful layout = lawful_layout s run.lawful in
        let e : EndpointId = st.setting.id in
        let node : NodeId = st.setting.node in
        let dest : EndpointId = q.message.dest in
        let sends : front (state_of layout past e) ≡ Some q = ap (λ (z : State). front z) (sym k.state) ∙ has in
        let ground : IsGrounded layout past = grounded s past run none in
        let one : List Entry = ready layout s.keep node e e dest past in
        let r : IsReady layout e dest e past one = readies layout past s.keep node e dest e (of_packets s run.packet) ok run.history k.seated (AsSource refl)
        ground (open_queued layout past run.history e q sends) in
        bind_may s past (ready_dest layout s.keep e dest one) node peer e q run none k.seated sends to (home_seated layout dest peer ok to).node'
        (dest_ready s past one e dest peer run ground to r)

-- the endpoint that the rule finds is one of the layout, and has a message to send
pub sender_stands : (layout : Layout) (past : List Entry) (st : Standing) → IsLawful layout → next_sender (standings layout past) ≡ Some st →
    IsStanding layout past st
sender_stands layout past st ok h = by_reply (find has_reply (standings layout past)) refl h
  where
    by_request : (o : Option Standing) → find (has_request (standings layout past)) (standings layout past) ≡ o → first_some (o ∷ []) ≡ Some st →
        IsStanding layout past st
    by_request None is e = absurd (cc)
    by_request (Some x) is e =
        let same : x ≡ st = cc in
        is_standing layout past (has_request (standings layout past)) st ok (is ∙ ap (λ (z : Standing). Some z) same)

    by_reply : (o : Option Standing) → find has_reply (standings layout past) ≡ o →
        first_some (o ∷ find (has_request (standings layout past)) (standings layout past) ∷ []) ≡ Some st → IsStanding layout past st
    by_reply None is e = by_request (find (has_request (standings layout past)) (standings layout past)) refl e
    by_reply (Some x) is e =
        let same : x ≡ st = cc in
        is_standing layout past has_reply st ok (is ∙ ap (λ (z : Standing). Some z) same)

front_sent : (st : Standing) (t : Turn) (P : Turn → Type 0) (o : Option Queued) → front st.state ≡ o → send_front st o ≡ Some t →
    ((q : Queued) → front st.state ≡ Some q → P (Send st.setting.node st.setting.id q.message)) → P t
front_sent st t P None is e may = absurd (cc)
front_sent st t P (Some q) is e may =
    let same : Send st.setting.node st.setting.id q.message ≡ t = cc in
    subst P same (may q is)

pub sends_may_follow : SendsMayFollow
sends_may_follow s past t run none e = by_sender (next_sender (standings (layout_of s) past)) refl e
  where
    by_sender : (o : Option Standing) → next_sender (standings (layout_of s) past) ≡ o → send_of o ≡ Some t → MakesHistory s past t
    by_sender None is h = absurd (cc)
    by_sender (Some st) is h =
        front_sent st t (λ (u : Turn). MakesHistory s past u) (front st.state) refl h
        (λ (q : Queued) has. send_may s past st q run none (sender_stands (layout_of s) past st (lawful_layout s run.lawful) is) has)

-- ---- what making ready makes

pub off_disk_is_off : OffDiskIsOff
off_disk_is_off s past node e run at =
    let k = leaves_disk (layout_of s) node e past (of_packets s run.packet) run.history (home_seated (layout_of s) e node (lawful_layout s run.lawful) at) in
    record { history = k.history; off = k.off }

named_by : (e source dest : EndpointId) (a b : Bool) → same_end e source ≡ a → same_end e dest ≡ b → (a || b) ≡ true → IsNamed source dest e
named_by e source dest true b is at h = AsSource (same_end-is e source is)
named_by e source dest false true is at h = AsDest (same_end-is e dest at)
named_by e source dest false false is at h = absurd (true≢false (sym h))

pub ready_is_ready : ReadyIsReady
ready_is_ready s past keep node e source dest run none at about opened =
    let ok : IsLawful (layout_of s) = lawful_layout s run.lawful in
    let r = readies (layout_of s) past keep node source dest e (of_packets s run.packet) ok run.history (home_seated (layout_of s) e node ok at)
    (named_by e source dest (same_end e source) (same_end e dest) refl refl about) (grounded s past run none) opened in
    record { history = r.history; framed = r.framed; awake = r.still }
