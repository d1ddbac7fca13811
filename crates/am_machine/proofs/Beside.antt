-- A work of an interface that touches an endpoint, in the whole cluster.
use Rattle.std.specs.Prelude.{Result, Ok, Err, IfSome, IsSome, option_to_list, is_none, is_some, not, nat_le, slice_get, slice_index_or, slice_set}
use Rattle.std.specs.List.{find, list_any, position}
use Rattle.std.specs.Option.{option_map}
use Rattle.std.specs.Prelude.{◌≢◌}
use Rattle.std.proofs.Common.{◌≡◌, inl, inr, ℕ, ◌<◌, ◌≤◌, Bool, true, false, cond, ◌&&◌, ◌||◌, List, [], ◌∷◌, ◌++◌, map, length, Option, Some, None, refl, sym}
use Rattle.std.proofs.Common.{ap, ◌∙◌, subst, arith, if◌then◌else◌}
use Rattle.std.proofs.lemmas.Bool.{le-leb, leb-true}
use Rattle.am_names.specs.declared.EndpointId.{EndpointId}
use Rattle.am_names.specs.declared.NodeId.{NodeId}
use Rattle.am_names.specs.declared.Message.{Message}
use Rattle.am_names.specs.declared.Packet.TheVariants as Packets
use Rattle.am_office_entries.specs.declared.Condition.{Condition}
use Rattle.am_office_entries.specs.declared.Condition.TheVariants as Needs
use Rattle.am_office_entries.specs.declared.Part.{Part}
use Rattle.am_office_entries.specs.declared.Part.TheVariants as Parts
use Rattle.am_office_entries.specs.declared.Entry.{Entry}
use Rattle.am_office_entries.specs.Entries.{ends_touched}
use Rattle.am_model.specs.declared.Queued.{Queued}
use Rattle.am_model.specs.Choice.{first_holding}
use Rattle.am_model.specs.Changes.{flying_of}
use Rattle.am_model.specs.Channels.{bound_message}
use Rattle.am_model.specs.Endpoint.{State, front, is_direct, is_on_disk, is_resident}
use Rattle.am_model.specs.Layout.{AllAre, EndSetting, IsSettingLawful, Layout, declared, has_id, home, home_by}
use Rattle.am_model.specs.History.{outcome_of, state_of}
use Rattle.am_model.specs.Steps.{LogFull, full_by, full_log, is_end_full, least_such, lesser, stop, stop_by}
use Rattle.am_model.proofs.Alls.{all_at}
use Rattle.am_model.proofs.PlaceKinds.{resident_not_on_disk}
use Rattle.am_model_parts.specs.declared.work.Work.{Work}
use Rattle.am_model_parts.specs.declared.work.Work.TheVariants as Works
use Rattle.am_model_parts.specs.Granted.{FitsEndpoint, IsInFlight}
use Rattle.am_model_parts.specs.Interface.{channel_in, channel_of_front, is_home_in, failing_at, has_try_left, home_in, home_of_front, needs, needs_bound}
use Rattle.am_model_parts.specs.Interface.{settles}
use Rattle.am_model_parts.proofs.Outcomes.{same_ends}
use Rattle.am_model_parts.proofs.Touched.{needs_touched}
use Rattle.am_laws_cluster.proofs.HomesKept.{front_addressed}
use Rattle.am_laws_cluster.proofs.HomePlaces.{fits_network}
use Rattle.am_laws_cluster.proofs.PacketsFit.{bound_aloft}
use Rattle.am_endpoint.specs.View.{EndpointView, state_after}
use Rattle.am_machine_journal.specs.Index.View.{IsIndexOf, Readings}
use Rattle.am_iface.specs.View.{FitsInterface, InterfaceView, own}
use Rattle.am_iface.specs.With.{HasRoomWith, IsFullOf, IsHomeKnown, KnowsHome}
use Rattle.am_model.specs.declared.EntryFault.{EntryFault}
use Rattle.am_model.specs.declared.EntryFault.TheVariants as Faults
use Rattle.am_driver_moves.specs.Logs.{kept}
use Rattle.am_machine.specs.Ends.{is_of, setting_in}
use Rattle.am_machine.specs.Kept.{IsKept, IsOwn, IsShort, layout_in}
use Rattle.am_machine.specs.Turned.{CanTurnWith, IsGrown, IsTurned, TurnsWith, entries_after}
use Rattle.am_machine.specs.View.{Applies, ClusterView}
use Rattle.am_machine.specs.Ways.{GoesTo, dest_node, node_of, way}
use Rattle.am_machine.proofs.Applied.{IsHere, IsNext, found_here, full_here, last_here, own_here, seen, seen_next, seen_same, single_grows, state_here}
use Rattle.am_machine.proofs.Fitting.{joint_can, joint_fits, joint_nodes, state_for}
use Rattle.am_machine.proofs.Joint as joint
use Rattle.am_machine.proofs.Joint.{Joint, alone_disabled, event_in, interface_in, joint_entry, joint_event, joint_failing, joint_kept, joint_outcome}
use Rattle.am_machine.proofs.Joint.{joint_part, joint_still, node_full, not_full, work_touches}
use Rattle.am_machine.proofs.Moving.{setting_found}
use Rattle.am_machine.proofs.Places.{position_at}
use Rattle.am_machine.proofs.Tied.{kept_at, kept_same, kept_set}
use Rattle.am_machine.proofs.Turning.{emits_within, less_than}

-- the endpoint that a work touches, where it stands, and its state is what the interface reads
pub record Beside (j : Joint) : Type 0 where
  pub end : EndpointId
  pub place : ℕ
  pub endpoint : EndpointView
  pub needed : needs (own j.one) j.work ≡ Some end
  pub found : position (is_of end) j.ends ≡ Some place
  pub value : endpoint ≡ slice_index_or j.ends place endpoint
  pub reads : j.state ≡ state_after endpoint

pub here_of : (j : Joint) (b : Beside j) → IsHere j.ends b.end b.place b.endpoint
here_of j b = found_here j.ends b.end b.place b.endpoint b.found b.value

own_of : (j : Joint) (b : Beside j) → IsOwn (joint.layout_of j) j.journal (kept b.endpoint)
own_of j b = own_here (joint.layout_of j) j.ends j.journal b.end b.place b.endpoint j.kept'.tied (here_of j b)

state_at : (j : Joint) (b : Beside j) → state_after b.endpoint ≡ state_of (joint.layout_of j) j.journal b.end
state_at j b = state_here (joint.layout_of j) j.ends j.journal b.end b.place b.endpoint j.kept'.tied (here_of j b)

-- its log has no more entries than it may
short_there : (j : Joint) (b : Beside j) → length b.endpoint.log ≤ b.endpoint.settings.log
short_there j b = all_at IsShort (map kept j.ends) b.place (kept b.endpoint) j.kept'.tied.short (kept_at j.ends b.place b.endpoint (here_of j b).at)

abbrev pub beside_of : (j : Joint) (end : EndpointId) (place : ℕ) (endpoint : EndpointView) →
    j.state ≡ state_for (joint.layout_of j) j.journal (needs (own j.one) j.work) → needs (own j.one) j.work ≡ Some end →
    position (is_of end) j.ends ≡ Some place → endpoint ≡ slice_index_or j.ends place endpoint → Beside j
beside_of j end place endpoint state needed found value =
    record {
      end = end;
      place = place;
      endpoint = endpoint;
      needed = needed;
      found = found;
      value = value;
      reads =
          state
          ∙ ap (state_for (joint.layout_of j) j.journal) needed
          ∙ sym (state_here (joint.layout_of j) j.ends j.journal end place endpoint j.kept'.tied (found_here j.ends end place endpoint found value));
    }

-- ---- homes

-- the node of a declared endpoint
declared_home : (ss : List EndSetting) (e : EndpointId) → list_any (has_id e) ss ≡ true → IsSome (home_by (find (has_id e) ss))
declared_home [] e h = absurd (cc)
declared_home (s ∷ ss) e h = by_test (has_id e s) h (declared_home ss e)
  where
    by_test : (t : Bool) → (t || list_any (has_id e) ss) ≡ true → (list_any (has_id e) ss ≡ true → IsSome (home_by (find (has_id e) ss))) →
        IsSome (home_by (cond t (Some s) (find (has_id e) ss)))
    by_test true k more = refl
    by_test false k more = more k

-- the same, told by the endpoints
pub node_told : (vs : List EndpointView) (e : EndpointId) → home_by (find (has_id e) (map setting_in (map kept vs))) ≡ node_of e vs
node_told [] e = refl
node_told (v ∷ vs) e = by_test (is_of e v) (node_told vs e)
  where
    by_test : (t : Bool) → home_by (find (has_id e) (map setting_in (map kept vs))) ≡ node_of e vs →
        home_by (cond t (Some (setting_in (kept v))) (find (has_id e) (map setting_in (map kept vs)))) ≡ option_map (λ (w : EndpointView). w.settings.node)
        (cond t (Some v) (find (is_of e) vs))
    by_test true more = refl
    by_test false more = more

-- and it is one of the nodes
node_within : (layout : Layout) (vs : List EndpointView) (e : EndpointId) → AllAre (IsSettingLawful layout) (map setting_in (map kept vs)) →
    IfSome (node_of e vs) (λ (n : NodeId). n.0 < layout.nodes)
node_within layout [] e all = tt
node_within layout (v ∷ vs) e all = by_test (is_of e v) (node_within layout vs e all.1)
  where
    by_test : (t : Bool) → IfSome (node_of e vs) (λ (n : NodeId). n.0 < layout.nodes) →
        IfSome (option_map (λ (w : EndpointView). w.settings.node) (cond t (Some v) (find (is_of e) vs))) (λ (n : NodeId). n.0 < layout.nodes)
    by_test true more = all.0.node
    by_test false more = more

home_at : (j : Joint) (b : Beside j) → home_in (own j.one) b.endpoint.settings.id ≡ Some b.endpoint.settings.node
home_at j b =
    let here = here_of j b in
    (interface_in j).homes b.endpoint.settings.id
    ∙ ap (home (joint.layout_of j)) here.id
    ∙ ap home_by (setting_found j.ends b.end b.endpoint (ap (slice_get j.ends) (position_at j.ends b.end b.place b.found) ∙ here.at))

-- ---- what the endpoint may be given

known_by : (j : Joint) (b : Beside j) (w : Work) → KnowsHome (own j.one) (state_after b.endpoint) w
known_by j b (Works.Receive p) = tt
known_by j b (Works.Expire peer channel) = tt
known_by j b (Works.Bind end) = by_front (front (state_after b.endpoint)) refl
  where
    by_front : (q : Option Queued) → front (state_after b.endpoint) ≡ q → IsHomeKnown (own j.one) q
    by_front None is = tt
    by_front (Some q) is =
        let goes = front_addressed (joint.layout_of j) j.journal j.kept'.tied.history b.end q (ap front (sym (state_at j b)) ∙ is) in
        subst (λ (o : Option NodeId). IsSome o) (sym ((interface_in j).homes q.message.dest)) (declared_home (joint.layout_of j).ends q.message.dest goes.dest)

in_flight : (j : Joint) (b : Beside j) (peer : NodeId) (channel : ℕ) (m : Option Message) (ends : Bool) →
    bound_message (channel_in (own j.one) peer channel) j.one.log ≡ m → needs_bound m ends ≡ Some b.end → IsInFlight (state_after b.endpoint) m
in_flight j b peer channel None ends is needed = tt
in_flight j b peer channel (Some m) false is needed = absurd (cc)
in_flight j b peer channel (Some m) true is needed =
    let source : m.serial.source ≡ b.end = cc in
    let bound = (same_ends (joint.layout_of j) j.journal (own j.one) (joint_part j) peer channel).bound ∙ is in
    let aloft = bound_aloft (joint.layout_of j) j.journal j.packet j.kept'.tied.history (channel_in (own j.one) peer channel) m bound in
    ap (λ (s : State). is_some (flying_of m.serial s.body.in_flight)) (state_at j b ∙ ap (state_of (joint.layout_of j) j.journal) (sym source)) ∙ aloft.flight

flies_by : (j : Joint) (b : Beside j) (w : Work) → FitsInterface j.one w → needs (own j.one) w ≡ Some b.end →
    FitsEndpoint (own j.one) (state_after b.endpoint) w
flies_by j b (Works.Receive (Packets.Parcel p)) fits needed = fits.formed
flies_by j b (Works.Receive (Packets.Answer p)) fits needed =
    in_flight j b p.from p.channel (bound_message (channel_in (own j.one) p.from p.channel) j.one.log)
    (settles (own j.one) (channel_in (own j.one) p.from p.channel) p) refl needed
flies_by j b (Works.Bind end) fits needed = tt
flies_by j b (Works.Expire peer channel) fits needed =
    in_flight j b peer channel (bound_message (channel_in (own j.one) peer channel) j.one.log)
    (not (has_try_left (own j.one) (channel_in (own j.one) peer channel))) refl needed

pub beside_can : (j : Joint) (b : Beside j) (r : Readings) → IsIndexOf j.journal r → CanTurnWith j.one (kept b.endpoint) r j.work
beside_can j b r index =
    let can = joint_can j r index in
    let layout = joint.layout_of j in
    record {
      turn = can;
      needed = b.needed ∙ ap (λ (e : EndpointId). Some e) (sym (here_of j b).id);
      home = home_at j b;
      network =
          ap (λ (s : State). is_direct s.head.place) (state_at j b)
          ∙ fits_network layout j.journal j.kept'.tied.history b.end
          ∙ ap (λ (t : Bool). t && declared layout b.end) j.packet;
      bounces = (own_of j b).bounces ∙ sym (interface_in j).bounces;
      known = known_by j b j.work;
      flies = flies_by j b j.work can.fits b.needed;
      last = (let late = last_here layout j.ends j.journal b.end b.place b.endpoint j.kept'.tied (here_of j b) in omega (arith, late, index.greatest));
      short = short_there j b;
    }

-- ---- where its packet goes

resident_by : (home' resident : Bool) (rest : List (Bool × Condition)) →
    first_holding ((not home', Needs.OtherNode) ∷ (not resident, Needs.NotResident) ∷ rest) ≡ None → resident ≡ true
resident_by false resident rest h = absurd (cc)
resident_by true false rest h = absurd (cc)
resident_by true true rest h = refl

-- what can be bound lies in a frame
bind_off_disk : (i : InterfaceView) (s : State) (end : EndpointId) → failing_at (own i) s (Works.Bind end) ≡ None → is_on_disk s.head.place ≡ false
bind_off_disk i s end on =
    let free : List (Bool × Condition) = (is_none (channel_of_front (own i) (front s)), Needs.NoChannel) ∷ [] in
    let rest : List (Bool × Condition) = (s.head.draining, Needs.Draining) ∷ (is_none (front s), Needs.NoMessage) ∷ free in
    resident_not_on_disk s.head.place (resident_by (is_home_in (own i) end) (is_resident s.head.place) rest on)

dest_told : (j : Joint) (q : Option Queued) → dest_node j.ends q ≡ home_of_front (own j.one) q
dest_told j None = refl
dest_told j (Some q) = sym ((interface_in j).homes q.message.dest ∙ node_told j.ends q.message.dest)

pub way_goes : (j : Joint) (b : Beside j) → GoesTo (own j.one) (state_after b.endpoint) j.work (way j.one j.ends b.endpoint j.work)
way_goes j b = by_work j.work
  where
    by_work : (w : Work) → GoesTo (own j.one) (state_after b.endpoint) w (way j.one j.ends b.endpoint w)
    by_work (Works.Receive p) = refl
    by_work (Works.Bind end) =
        λ on.
        ap (λ (t : Bool). if t then None else dest_node j.ends (front (state_after b.endpoint))) (bind_off_disk j.one (state_after b.endpoint) end on)
        ∙ dest_told j (front (state_after b.endpoint))
    by_work (Works.Expire peer channel) = refl

pub way_within : (j : Joint) (b : Beside j) → IfSome (way j.one j.ends b.endpoint j.work) (λ (n : NodeId). n.0 < 16)
way_within j b = by_work j.work (joint_fits j)
  where
    few : j.one.settings.nodes ≤ 16
    few = (joint_nodes j).1

    by_dest : (o : Option NodeId) → IfSome o (λ (n : NodeId). n.0 < j.settings.nodes) → IfSome o (λ (n : NodeId). n.0 < 16)
    by_dest None h = tt
    by_dest (Some n) h = let nodes = j.kept'.tied.lawful.nodes.1 in omega (arith, h, nodes)

    by_front : (q : Option Queued) → IfSome (dest_node j.ends q) (λ (n : NodeId). n.0 < 16)
    by_front None = tt
    by_front (Some q) = by_dest (node_of q.message.dest j.ends) (node_within (joint.layout_of j) j.ends q.message.dest j.kept'.tied.lawful.ends)

    by_disk : (t : Bool) → IfSome (if t then None else dest_node j.ends (front (state_after b.endpoint))) (λ (n : NodeId). n.0 < 16)
    by_disk true = tt
    by_disk false = by_front (front (state_after b.endpoint))

    by_work : (w : Work) → FitsInterface j.one w → IfSome (way j.one j.ends b.endpoint w) (λ (n : NodeId). n.0 < 16)
    by_work (Works.Receive p) fits = emits_within j.one (Works.Receive p) fits few
    by_work (Works.Bind end) fits = by_disk (is_on_disk (state_after b.endpoint).head.place)
    by_work (Works.Expire peer channel) fits = emits_within j.one (Works.Expire peer channel) fits few

-- ---- what stops it

pub enabled_at : (j : Joint) (b : Beside j) (o : Option Condition) → failing_at (own j.one) (state_after b.endpoint) j.work ≡ o →
    failing_at (own j.one) j.state j.work ≡ o
enabled_at j b o is = ap (λ (s : State). failing_at (own j.one) s j.work) b.reads ∙ is

touches_end : (j : Joint) (b : Beside j) → ends_touched (event_in j) (outcome_of (joint.layout_of j) j.journal (event_in j)) ≡ b.end ∷ []
touches_end j b =
    (λ i. ends_touched (sym (joint_event j) i) (joint_outcome j i))
    ∙ needs_touched (own j.one) j.state j.work
    ∙ ap option_to_list b.needed

beside_stop : (j : Joint) (b : Beside j) (t u : Bool) → failing_at (own j.one) j.state j.work ≡ None → nat_le j.settings.log (length b.endpoint.log) ≡ t →
    nat_le j.settings.log (length j.one.log) ≡ u → stop (joint.layout_of j) j.journal (event_in j) ≡ cond t (Some (LogFull (Parts.Endpoint b.end)))
    (cond u (Some (LogFull (Parts.Interface j.node))) None)
beside_stop j b t u enabled there here =
    ap (λ (f : Option Condition). stop_by f (full_log (joint.layout_of j) j.journal (event_in j))) (joint_failing j ∙ enabled)
    ∙ (λ i. stop_by None (full_by (joint.layout_of j) j.journal (least_such (is_end_full (joint.layout_of j) j.journal) (touches_end j b i))
    (work_touches j.node j.work i)))
    ∙ ap (λ (f : Bool). stop_by None (full_by (joint.layout_of j) j.journal (if f then Some (lesser b.end None) else None) (Some j.node)))
    (full_here (joint.layout_of j) j.ends j.journal b.end b.place b.endpoint t j.kept'.tied (here_of j b) there)
    ∙ by_end t
  where
    by_node : (f : Bool) → stop_by None (if f then Some (Parts.Interface j.node) else None) ≡ cond f (Some (LogFull (Parts.Interface j.node))) None
    by_node true = refl
    by_node false = refl

    by_end : (f : Bool) → stop_by None (full_by (joint.layout_of j) j.journal (if f then Some (lesser b.end None) else None) (Some j.node)) ≡ cond f
        (Some (LogFull (Parts.Endpoint b.end))) (cond u (Some (LogFull (Parts.Interface j.node))) None)
    by_end true = refl
    by_end false = ap (λ (f : Bool). stop_by None (if f then Some (Parts.Interface j.node) else None)) (node_full j u here) ∙ by_node u

room_there : (j : Joint) (b : Beside j) → length b.endpoint.log ≢ b.endpoint.settings.log → length b.endpoint.log < b.endpoint.settings.log
room_there j b room = less_than (length b.endpoint.log) b.endpoint.settings.log (short_there j b) room

not_full_there : (j : Joint) (b : Beside j) → length b.endpoint.log < b.endpoint.settings.log → nat_le j.settings.log (length b.endpoint.log) ≡ false
not_full_there j b room = by_test (nat_le j.settings.log (length b.endpoint.log)) refl
  where
    by_test : (t : Bool) → nat_le j.settings.log (length b.endpoint.log) ≡ t → t ≡ false
    by_test false is = refl
    by_test true is = let le = leb-true j.settings.log (length b.endpoint.log) is in let limit = (own_of j b).limit in absurd (omega (arith, le, room, limit))

pub beside_full : (j : Joint) (b : Beside j) (p : Part) → failing_at (own j.one) j.state j.work ≡ None → IsFullOf j.one b.endpoint p →
    stop (joint.layout_of j) j.journal (event_in j) ≡ Some (LogFull p)
beside_full j b p enabled (inl at) =
    let limit = (own_of j b).limit in
    let full = at.1 in
    beside_stop j b true (nat_le j.settings.log (length j.one.log)) enabled (le-leb j.settings.log (length b.endpoint.log) (omega (arith, full, limit))) refl
    ∙ ap (λ (q : Part). Some (LogFull q)) (sym (at.0 ∙ ap (λ (e : EndpointId). Parts.Endpoint e) (here_of j b).id))
beside_full j b p enabled (inr at) =
    let limit = (interface_in j).limit in
    let full = at.1.1 in
    beside_stop j b false true enabled (not_full_there j b (room_there j b at.0))
    (le-leb j.settings.log (length j.one.log) (omega (arith, full, limit)))
    ∙ ap (λ (q : Part). Some (LogFull q)) (sym (at.1.0 ∙ ap (λ (n : NodeId). Parts.Interface n) (interface_in j).is_node))

-- nothing stops it where no condition fails and neither log is full
pub beside_runs : (j : Joint) (b : Beside j) → HasRoomWith j.one b.endpoint j.work → stop (joint.layout_of j) j.journal (event_in j) ≡ None
beside_runs j b room = beside_stop j b false false (enabled_at j b None room.enabled) (not_full_there j b (room_there j b room.there)) (not_full j room.here)

-- ---- what it makes of a cluster

beside_next : (j : Joint) (b : Beside j) (x : Entry) (new : InterfaceView) (f : EndpointView) → IsTurned j.one new j.journal j.state j.work x →
    IsGrown (kept b.endpoint) f x → IsNext j.settings j.faults (map kept j.ends) j.journal (event_in j) x (map kept (slice_set j.ends b.place f))
    (j.journal ++ x ∷ [])
beside_next j b x new f t g =
    record {
      tied = j.kept'.tied;
      in_range = j.in_range;
      runs = beside_stop j b false false t.enabled (not_full_there j b g.room) (not_full j t.room);
      entry = joint_entry j x t.entry;
      ends =
          kept_set j.ends b.place b.endpoint f x (here_of j b).at g.settings g.log
          ∙ single_grows (joint.layout_of j) j.ends j.journal b.end b.place b.endpoint x j.kept'.tied (here_of j b)
          (ap (λ (y : Entry). ends_touched y.event y.outcome) (joint_entry j x t.entry) ∙ touches_end j b);
      journal' = refl;
    }

ends_still : (j : Joint) (b : Beside j) (f : EndpointView) → kept f ≡ kept b.endpoint → map kept (slice_set j.ends b.place f) ≡ map kept j.ends
ends_still j b f same = kept_same j.ends b.place b.endpoint f (here_of j b).at same

-- the state that the interface reads is the endpoint's
turned_at : (j : Joint) (b : Beside j) (new : InterfaceView) (x : Entry) → IsTurned j.one new j.journal (state_after b.endpoint) j.work x →
    IsTurned j.one new j.journal j.state j.work x
turned_at j b new x t = subst (λ (s : State). IsTurned j.one new j.journal s j.work x) (sym b.reads) t

pub beside_keeps : (j : Joint) (b : Beside j) (new : InterfaceView) (f : EndpointView) (result : Result Entry EntryFault) →
    TurnsWith j.one new b.endpoint f j.journal j.work result →
    IsKept (layout_in j.settings j.faults (map kept (slice_set j.ends b.place f))) (map kept (slice_set j.ends b.place f)) (entries_after j.journal result)
    (slice_set j.interfaces j.node.0 new) j.swaps
beside_keeps j b new f (Ok x) turns =
    let t = turned_at j b new x turns.0 in joint_kept j x new (map kept (slice_set j.ends b.place f)) (beside_next j b x new f t turns.1) t
beside_keeps j b new f (Err (Faults.NotEnabled c)) turns = joint_still j new (map kept (slice_set j.ends b.place f)) turns.1 (ends_still j b f turns.2)
beside_keeps j b new f (Err (Faults.LogFull p)) turns = joint_still j new (map kept (slice_set j.ends b.place f)) turns.2 (ends_still j b f turns.3)
beside_keeps j b new f (Err Faults.NoMemory) turns = joint_still j new (map kept (slice_set j.ends b.place f)) turns.1 (ends_still j b f turns.2)

pub beside_applies : (j : Joint) (b : Beside j) (v : ClusterView) (new : InterfaceView) (f : EndpointView) (result : Result Entry EntryFault) →
    seen j.settings j.faults (map kept j.ends) j.journal ≡ v → TurnsWith j.one new b.endpoint f j.journal j.work result →
    Applies v (seen j.settings j.faults (map kept (slice_set j.ends b.place f)) (entries_after j.journal result)) (event_in j) result
beside_applies j b v new f (Ok x) is turns =
    seen_next j.settings j.faults (map kept j.ends) j.journal (event_in j) x (map kept (slice_set j.ends b.place f)) (j.journal ++ x ∷ []) v is
    (beside_next j b x new f (turned_at j b new x turns.0) turns.1)
beside_applies j b v new f (Err (Faults.NotEnabled c)) is turns = (
  ap (λ (w : ClusterView). stop w.layout w.journal (event_in j)) (sym is) ∙ alone_disabled j c (enabled_at j b (Some c) turns.0),
  seen_same j.settings j.faults (map kept j.ends) (map kept (slice_set j.ends b.place f)) j.journal j.journal v (ends_still j b f turns.2) refl is,
)
beside_applies j b v new f (Err (Faults.LogFull p)) is turns = (
  ap (λ (w : ClusterView). stop w.layout w.journal (event_in j)) (sym is) ∙ beside_full j b p (enabled_at j b None turns.0) turns.1,
  seen_same j.settings j.faults (map kept j.ends) (map kept (slice_set j.ends b.place f)) j.journal j.journal v (ends_still j b f turns.3) refl is,
)
beside_applies j b v new f (Err Faults.NoMemory) is turns = (
  ap (λ (w : ClusterView). stop w.layout w.journal (event_in j)) (sym is) ∙ beside_runs j b turns.0,
  seen_same j.settings j.faults (map kept j.ends) (map kept (slice_set j.ends b.place f)) j.journal j.journal v (ends_still j b f turns.2) refl is,
)
