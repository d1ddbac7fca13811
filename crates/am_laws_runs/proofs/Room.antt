-- A send finds its destination closed, or resident with room for the message.
use Rattle.std.specs.Prelude.{◌&&◌, ◌||◌, ◌==◌, not, nat_le, nat_lt, count_by, find, slice_get}
use Rattle.std.specs.List.{list_all}
use Rattle.std.proofs.Common.{◌≡◌, ⊎_elim, ℕ, Bool, true, false, cond, List, [], ◌∷◌, ◌++◌, length, Option, Some, None, refl, sym, ap, ◌∙◌, subst, arith}
use Rattle.std.proofs.Common.{true≢false, eqb-true, ltb-true}
use Rattle.std.proofs.lemmas.Bool.{and_parts, and_from, and_right, or_cases, lt-leb, not-true}
use Rattle.am_lemmas.proofs.Lists.{find_passes}
use Rattle.am_model.proofs.PlaceKinds.{framed_is_resident}
use Rattle.am_names.specs.Names.{same_end, is_request, is_reply}
use Rattle.am_names.specs.declared.EndpointId.{EndpointId}
use Rattle.am_names.specs.declared.Message.{Message}
use Rattle.am_names.specs.declared.NodeId.{NodeId}
use Rattle.am_names.specs.declared.Packet.TheVariants as Packets
use Rattle.am_names.specs.declared.Parcel.{Parcel}
use Rattle.am_office_entries.specs.declared.Entry.{Entry}
use Rattle.am_office_entries.specs.declared.Event.TheVariants as Events
use Rattle.am_office_entries.specs.Entries.{emitted_of, parcel, touches}
use Rattle.am_model.specs.declared.Queued.{Queued}
use Rattle.am_model.specs.Endpoint.{Body, State, front, front_of, is_in_a_frame, is_resident}
use Rattle.am_model.specs.History.{state_of, bind, bind_to, channel_for}
use Rattle.am_model.specs.Layout.{Layout, AllAre, IsLawful, home}
use Rattle.am_model.proofs.Each.{state_of_push}
use Rattle.am_model.proofs.Names.{same_end-is}
use Rattle.am_laws_cluster.proofs.Flights.{open_queued}
use Rattle.am_laws_cluster.proofs.HomesKept.{front_addressed}
use Rattle.am_scenario_types.specs.Lists.{ScenarioLists}
use Rattle.am_model_scripts.specs.Layout.{layout_of}
use Rattle.am_model_scripts.proofs.Lawful.{lawful_layout}
use Rattle.am_model_scripts.specs.Links.{first_some}
use Rattle.am_model_scripts.specs.Standings.{Standing, standings, is_standing_of}
use Rattle.am_model_scripts.proofs.Lists.{found_in, none_all}
use Rattle.am_model_drain.specs.declared.Turn.{Turn}
use Rattle.am_model_drain.specs.declared.Turn.TheVariants.{Send}
use Rattle.am_model_drain.specs.Drain.{after_turn}
use Rattle.am_model_drain.specs.Made.{next_entry}
use Rattle.am_model_drain.specs.Ready.{ready, ready_at, ready_dest_if, ready_dest}
use Rattle.am_model_drain.specs.Rules.{has_reply, has_room, finds_room, has_request, next_sender, next_send, next_time_out, send_front, send_of}
use Rattle.am_model_drain.proofs.Quiet.{Quiet, then, ready-quiet, ready_dest-quiet}
use Rattle.am_laws_runs.specs.Turns.Enabled.{IsOfRun}
use Rattle.am_laws_runs.proofs.Calls.{home_seated, declared_home}
use Rattle.am_laws_runs.proofs.Emptying.{AsSource, AsDest, IsGrounded}
use Rattle.am_laws_runs.proofs.Enabled.{IsStanding, is_standing, of_packets}
use Rattle.am_laws_runs.proofs.Moves.{spares_then}
use Rattle.am_laws_runs.proofs.Readying.{IsReady, readies, spared_ground}
use Rattle.am_laws_runs.proofs.Sends.{grounded, sender_stands}
use Rattle.am_laws_runs.proofs.Fits.{fits, bound_fits}
use Rattle.am_laws_runs.proofs.Queues.{Answers, replies_answer}

-- whether a message is a request where there is no room for one
abbrev pub is_full_for : State → Message → Bool
is_full_for s m = is_request m && nat_le 16 (count_by is_request s.body.received)

-- ---- the destination is closed, or has room

abbrev pub HasRoomFor : State → Message → Type 0
HasRoomFor s m = s.head.closed ≡ false → is_full_for s m ≡ false

no_request : (m : Message) (b : Bool) → is_request m ≡ b → is_reply m ≡ true → b ≡ false
no_request m false is answer = refl
no_request m true is answer = absurd (true≢false (sym answer ∙ ap (λ (b : Bool). cond b false true) is))

reply_first : (replies requests : List Queued) (q : Queued) → not (length replies == 0) ≡ true → front_of replies requests ≡ Some q → AllAre Answers replies →
    is_request q.message ≡ false
reply_first [] requests q some is all = absurd (true≢false (sym some))
reply_first (r ∷ rs) requests q some is all =
    let same : r ≡ q = cc in
    no_request q.message (is_request q.message) refl (subst (λ (u : Queued). Answers u) same all.0)

request_first : (replies requests : List Queued) (q : Queued) → not (not (length replies == 0)) ≡ true → front_of replies requests ≡ Some q →
    slice_get requests 0 ≡ Some q
request_first [] [] q none is = absurd (cc)
request_first [] (r ∷ rs) q none is = is
request_first (r ∷ rs) requests q none is = absurd (omega (arith, eqb-true (length (r ∷ rs)) 0 (both (length (r ∷ rs) == 0) none)))
  where
    both : (b : Bool) → not (not b) ≡ true → b ≡ true
    both true h = refl
    both false h = absurd (true≢false (sym h))

room_there : (d : Standing) (m : Message) → (d.state.head.closed || nat_lt (count_by is_request d.state.body.received) 16) ≡ true → HasRoomFor d.state m
room_there d m h opened =
    ⊎_elim
    (λ (closed : d.state.head.closed ≡ true). absurd (true≢false (sym closed ∙ opened)))
    (λ (low : nat_lt (count_by is_request d.state.body.received) 16 ≡ true).
    and_right (is_request m) (nat_le 16 (count_by is_request d.state.body.received)) (lt-leb 16 (count_by is_request d.state.body.received)
    (ltb-true (count_by is_request d.state.body.received) 16 low)))
    (or_cases d.state.head.closed (nat_lt (count_by is_request d.state.body.received) 16) h)

room_found : (layout : Layout) (past : List Entry) (m : Message) (o : Option Standing) → IsLawful layout →
    find (is_standing_of m.dest) (standings layout past) ≡ o → has_room o ≡ true → HasRoomFor (state_of layout past m.dest) m
room_found layout past m None ok is h = absurd (true≢false (sym h))
room_found layout past m (Some d) ok is h =
    let k : IsStanding layout past d = is_standing layout past (is_standing_of m.dest) d ok is in
    let same : m.dest ≡ d.setting.id = same_end-is m.dest d.setting.id (find_passes (is_standing_of m.dest) (standings layout past) d is) in
    let here : d.state ≡ state_of layout past m.dest = k.state ∙ ap (state_of layout past) (sym same) in
    subst (λ (z : State). HasRoomFor z m) here (room_there d m h)

front_room : (s : ScenarioLists) (past : List Entry) (st : Standing) (q : Queued) → IsOfRun s past → next_sender (standings (layout_of s) past) ≡ Some st →
    front st.state ≡ Some q → HasRoomFor (state_of (layout_of s) past q.message.dest) q.message
front_room s past st q run sender has = by_reply (find has_reply ends) refl sender
  where
    layout : Layout
    layout = layout_of s

    ends : List Standing
    ends = standings (layout_of s) past

    ok : IsLawful (layout_of s)
    ok = lawful_layout s run.lawful

    by_request : (o : Option Standing) → find (has_request (standings (layout_of s) past)) (standings (layout_of s) past) ≡ o →
        find has_reply (standings (layout_of s) past) ≡ None → first_some (o ∷ []) ≡ Some st → HasRoomFor (state_of (layout_of s) past q.message.dest) q.message
    by_request None is none e = absurd (cc)
    by_request (Some x) is none e =
        let same : x ≡ st = cc in
        let found : find (has_request ends) ends ≡ Some st = is ∙ ap (λ (z : Standing). Some z) same in
        let all : list_all (λ (z : Standing). not (has_reply z)) ends ≡ true = none_all has_reply ends none in
        let bare : not (has_reply st) ≡ true = found_in (has_request ends) (λ (z : Standing). not (has_reply z)) ends st found all in
        let first : slice_get st.state.body.requests 0 ≡ Some q = request_first st.state.body.replies st.state.body.requests q bare has in
        let passes : has_request ends st ≡ true = find_passes (has_request ends) ends st found in
        room_found layout past q.message (find (is_standing_of q.message.dest) ends) ok refl (sym (ap (finds_room ends) first) ∙ passes)

    by_reply : (o : Option Standing) → find has_reply (standings (layout_of s) past) ≡ o →
        first_some (o ∷ find (has_request (standings (layout_of s) past)) (standings (layout_of s) past) ∷ []) ≡ Some st →
        HasRoomFor (state_of (layout_of s) past q.message.dest) q.message
    by_reply None is e = by_request (find (has_request ends) ends) refl is e
    by_reply (Some x) is e =
        let same : x ≡ st = cc in
        let found : find has_reply ends ≡ Some st = is ∙ ap (λ (z : Standing). Some z) same in
        let k : IsStanding layout past st = is_standing layout past has_reply st ok found in
        let answers : AllAre Answers st.state.body.replies = subst (λ (z : State). AllAre Answers z.body.replies) (sym k.state)
        (replies_answer layout past (of_packets s run.packet) run.history st.setting.id) in
        let no : is_request q.message ≡ false = reply_first st.state.body.replies st.state.body.requests q (find_passes has_reply ends st found) has answers in
        λ opened. ap (λ (b : Bool). b && nat_le 16 (count_by is_request (state_of layout past q.message.dest).body.received)) no

-- ---- the destination is ready

-- a destination as it was, which is closed or resident
record Stands (layout : Layout) (past two : List Entry) (dest : EndpointId) : Type 0 where
  body' : (state_of layout two dest).body ≡ (state_of layout past dest).body
  closed' : (state_of layout two dest).head.closed ≡ (state_of layout past dest).head.closed
  resident : (state_of layout two dest).head.closed ≡ false → is_resident (state_of layout two dest).head.place ≡ true

source_stands : (layout : Layout) (past one : List Entry) (e dest : EndpointId) → IsReady layout e dest e past one → (a b : Bool) → same_end e dest ≡ a →
    (state_of layout one dest).head.closed ≡ b → (not a && not b) ≡ false → Stands layout past one dest
source_stands layout past one e dest r true b is closed h =
    record {
      body' = r.spares'.body' dest;
      closed' = r.spares'.closed' dest;
      resident = λ opened. framed_is_resident (state_of layout one dest).head.place (subst
          (λ (i : EndpointId). is_in_a_frame (state_of layout one i).head.place ≡ true) (same_end-is e dest is) r.framed);
    }
source_stands layout past one e dest r false true is closed h =
    record { body' = r.spares'.body' dest; closed' = r.spares'.closed' dest; resident = λ opened. absurd (true≢false (sym closed ∙ opened)) }
source_stands layout past one e dest r false false is closed h = absurd (true≢false h)

dest_stands : (s : ScenarioLists) (past one : List Entry) (e dest : EndpointId) (peer : NodeId) → IsOfRun s past → IsGrounded (layout_of s) past →
    home (layout_of s) dest ≡ Some peer → IsReady (layout_of s) e dest e past one → Stands (layout_of s) past (ready_dest (layout_of s) s.keep e dest one) dest
dest_stands s past one e dest peer run ground at r = by_test (not (same_end e dest) && not (state_of (layout_of s) one dest).head.closed) refl
  where
    by_test : (b : Bool) → (not (same_end e dest) && not (state_of (layout_of s) one dest).head.closed) ≡ b →
        Stands (layout_of s) past (ready_dest_if b (layout_of s) s.keep e dest one) dest
    by_test false is = source_stands (layout_of s) past one e dest r (same_end e dest) (state_of (layout_of s) one dest).head.closed refl refl is
    by_test true is =
        let layout : Layout = layout_of s in
        let ok : IsLawful layout = lawful_layout s run.lawful in
        let both = and_parts (not (same_end e dest)) (not (state_of layout one dest).head.closed) is in
        let next : List Entry = ready layout s.keep peer dest e dest one in
        let d : IsReady layout e dest dest one next = readies layout one s.keep peer e dest dest (of_packets s run.packet) ok r.history
        (home_seated layout dest peer ok at) (AsDest refl) (spared_ground layout past one r.spares' ground)
        (not-true (state_of layout one dest).head.closed both.1) in
        let all = spares_then layout past one next r.spares' d.spares' in
        subst (λ (o : Option NodeId). Stands layout past (ready_at o layout s.keep e dest one) dest) (sym at)
        (record { body' = all.body' dest; closed' = all.closed' dest; resident = λ opened. framed_is_resident (state_of layout next dest).head.place d.framed })

-- and the source holds what it held
source_body : (s : ScenarioLists) (past one : List Entry) (e dest : EndpointId) (peer : NodeId) → IsOfRun s past → IsGrounded (layout_of s) past →
    home (layout_of s) dest ≡ Some peer → IsReady (layout_of s) e dest e past one →
    (state_of (layout_of s) (ready_dest (layout_of s) s.keep e dest one) e).body ≡ (state_of (layout_of s) past e).body
source_body s past one e dest peer run ground at r = by_test (not (same_end e dest) && not (state_of (layout_of s) one dest).head.closed) refl
  where
    by_test : (b : Bool) → (not (same_end e dest) && not (state_of (layout_of s) one dest).head.closed) ≡ b →
        (state_of (layout_of s) (ready_dest_if b (layout_of s) s.keep e dest one) e).body ≡ (state_of (layout_of s) past e).body
    by_test false is = r.spares'.body' e
    by_test true is =
        let layout : Layout = layout_of s in
        let ok : IsLawful layout = lawful_layout s run.lawful in
        let both = and_parts (not (same_end e dest)) (not (state_of layout one dest).head.closed) is in
        let next : List Entry = ready layout s.keep peer dest e dest one in
        let d : IsReady layout e dest dest one next = readies layout one s.keep peer e dest dest (of_packets s run.packet) ok r.history
        (home_seated layout dest peer ok at) (AsDest refl) (spared_ground layout past one r.spares' ground)
        (not-true (state_of layout one dest).head.closed both.1) in
        subst (λ (o : Option NodeId). (state_of layout (ready_at o layout s.keep e dest one) e).body ≡ (state_of layout past e).body) (sym at)
        ((spares_then layout past one next r.spares' d.spares').body' e)

fits_by : (z : State) (m : Message) (b : Bool) → z.head.closed ≡ b → (b ≡ false → is_resident z.head.place ≡ true) → (b ≡ false → is_full_for z m ≡ false) →
    fits z m ≡ true
fits_by z m true is resident room = ap (λ (b : Bool). b || (is_resident z.head.place && not (is_full_for z m))) is
fits_by z m false is resident room =
    ap (λ (b : Bool). b || (is_resident z.head.place && not (is_full_for z m))) is
    ∙ and_from (is_resident z.head.place) (not (is_full_for z m)) (resident refl) (ap not (room refl))

stands_fits : (layout : Layout) (past two : List Entry) (m : Message) → Stands layout past two m.dest → HasRoomFor (state_of layout past m.dest) m →
    fits (state_of layout two m.dest) m ≡ true
stands_fits layout past two m k room =
    fits_by (state_of layout two m.dest) m (state_of layout two m.dest).head.closed refl k.resident
    (λ opened. ap (λ (b : Body). is_request m && nat_le 16 (count_by is_request b.received)) k.body' ∙ room (sym k.closed' ∙ opened))

-- ---- what is bound

bind_parcel : (node : NodeId) (stamp : ℕ) (past : List Entry) (q : Queued) (peer : Option NodeId) (channel : Option ℕ) (p : Parcel) →
    parcel node stamp (bind_to node past q peer channel) ≡ Some (Packets.Parcel p) → q.message ≡ p.message
bind_parcel node stamp past q (Some peer) (Some channel) p e = cc
bind_parcel node stamp past q (Some peer) None p e = absurd (cc)
bind_parcel node stamp past q None channel p e = absurd (cc)

front_parcel : (layout : Layout) (node : NodeId) (stamp : ℕ) (past : List Entry) (f : Option Queued) (q : Queued) (p : Parcel) → f ≡ Some q →
    parcel node stamp (bind layout node past f) ≡ Some (Packets.Parcel p) → q.message ≡ p.message
front_parcel layout node stamp past f q p is e =
    bind_parcel node stamp past q (home layout q.message.dest) (channel_for layout node past (Some q)) p
    (sym (ap (λ (g : Option Queued). parcel node stamp (bind layout node past g)) is) ∙ e)

after_bind : (layout : Layout) (two : List Entry) (node : NodeId) (e : EndpointId) (m : Message) → fits (state_of layout two m.dest) m ≡ true →
    fits (state_of layout (two ++ next_entry layout two (Events.Bind node e) ∷ []) m.dest) m ≡ true
after_bind layout two node e m room = by_test (touches m.dest (next_entry layout two (Events.Bind node e))) refl
  where
    x : Entry
    x = next_entry layout two (Events.Bind node e)

    by_test : (b : Bool) → touches m.dest (next_entry layout two (Events.Bind node e)) ≡ b →
        fits (state_of layout (two ++ next_entry layout two (Events.Bind node e) ∷ []) m.dest) m ≡ true
    by_test true is =
        ap (λ (z : State). fits z m) (state_of_push layout two x m.dest true is) ∙ (bound_fits (state_of layout two m.dest) x.outcome m ∙ room)
    by_test false is = ap (λ (z : State). fits z m) (state_of_push layout two x m.dest false is) ∙ room

-- a send: entries of drivers, and the bind of a message for which there is room then
pub record SendsWithRoom (s : ScenarioLists) (past : List Entry) (t : Turn) : Type 0 where
  pub ready' : List Entry
  pub quiet : Quiet past ready'
  pub node : NodeId
  pub end : EndpointId
  pub made : after_turn s past t ≡ ready' ++ next_entry (layout_of s) ready' (Events.Bind node end) ∷ []
  pub room : (p : Parcel) → emitted_of (next_entry (layout_of s) ready' (Events.Bind node end)) ≡ Some (Packets.Parcel p) →
      fits (state_of (layout_of s) (ready' ++ next_entry (layout_of s) ready' (Events.Bind node end) ∷ []) p.message.dest) p.message ≡ true

send_room : (s : ScenarioLists) (past : List Entry) (st : Standing) (q : Queued) → IsOfRun s past → next_time_out s past ≡ None →
    IsStanding (layout_of s) past st → front st.state ≡ Some q → HasRoomFor (state_of (layout_of s) past q.message.dest) q.message →
    SendsWithRoom s past (Send st.setting.node st.setting.id q.message)
send_room s past st q run none k has room = by_home (home (layout_of s) q.message.dest) refl
  where
    layout : Layout
    layout = layout_of s

    ok : IsLawful (layout_of s)
    ok = lawful_layout s run.lawful

    sends : front (state_of (layout_of s) past st.setting.id) ≡ Some q
    sends = ap (λ (z : State). front z) (sym k.state) ∙ has

    by_home : (o : Option NodeId) → home (layout_of s) q.message.dest ≡ o → SendsWithRoom s past (Send st.setting.node st.setting.id q.message)
    by_home None to =
        absurd (declared_home (layout_of s) q.message.dest (front_addressed (layout_of s) past run.history st.setting.id q sends).dest to)
    by_home (Some peer) to =
        let e : EndpointId = st.setting.id in
        let node : NodeId = st.setting.node in
        let dest : EndpointId = q.message.dest in
        let ground : IsGrounded layout past = grounded s past run none in
        let one : List Entry = ready layout s.keep node e e dest past in
        let two : List Entry = ready_dest layout s.keep e dest one in
        let r : IsReady layout e dest e past one = readies layout past s.keep node e dest e (of_packets s run.packet) ok run.history k.seated (AsSource refl)
        ground (open_queued layout past run.history e q sends) in
        let stands : Stands layout past two dest = dest_stands s past one e dest peer run ground to r in
        let there : fits (state_of layout two dest) q.message ≡ true = stands_fits layout past two q.message stands room in
        record {
          ready' = two;
          quiet = then past one two (ready-quiet layout s.keep node e e dest past) (ready_dest-quiet layout s.keep e dest one);
          node = node;
          end = e;
          made = refl;
          room = λ p emits.
              let same : q.message ≡ p.message = front_parcel layout node (next_entry layout two (Events.Bind node e)).stamp two (front (state_of layout two e))
              q p (ap (λ (b : Body). front_of b.replies b.requests) (source_body s past one e dest peer run ground to r) ∙ sends) emits in
              subst (λ (m : Message). fits (state_of layout (two ++ next_entry layout two (Events.Bind node e) ∷ []) m.dest) m ≡ true) same
              (after_bind layout two node e q.message there);
        }

-- the send that the drain names
pub sends_with_room : (s : ScenarioLists) (past : List Entry) (t : Turn) → IsOfRun s past → next_time_out s past ≡ None →
    next_send (standings (layout_of s) past) ≡ Some t → SendsWithRoom s past t
sends_with_room s past t run none e = by_sender (next_sender (standings (layout_of s) past)) refl e
  where
    by_front : (st : Standing) (o : Option Queued) → next_sender (standings (layout_of s) past) ≡ Some st → front st.state ≡ o → send_front st o ≡ Some t →
        SendsWithRoom s past t
    by_front st None sender is f = absurd (cc)
    by_front st (Some q) sender is f =
        let same : Send st.setting.node st.setting.id q.message ≡ t = cc in
        subst (λ (u : Turn). SendsWithRoom s past u) same
        (send_room s past st q run none (sender_stands (layout_of s) past st (lawful_layout s run.lawful) sender) is (front_room s past st q run sender is))

    by_sender : (o : Option Standing) → next_sender (standings (layout_of s) past) ≡ o → send_of o ≡ Some t → SendsWithRoom s past t
    by_sender None is f = absurd (cc)
    by_sender (Some st) is f = by_front st (front st.state) is refl f
