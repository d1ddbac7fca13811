-- The moves of a node's driver.
use Rattle.std.specs.Prelude.{not, nat_le, nat_lt, slice_index_or, slice_set}
use Rattle.std.specs.List.{list_any, find, position, position_or_len, filter}
use Rattle.std.proofs.Common.{◌≡◌, ℕ, suc, ◌+◌, ◌<◌, ◌≤◌, Bool, true, false, cond, ◌||◌, ◌&&◌, List, [], ◌∷◌, ◌++◌, map, length, slice_get, Option, Some, None}
use Rattle.std.proofs.Common.{refl, sym, ap, ◌∙◌, subst, arith, true≢false, ltb-true, eqb-true}
use Rattle.std.proofs.lemmas.Bool.{and_parts}
use Rattle.am_lemmas.proofs.Options.{some_is}
use Rattle.am_names.specs.declared.EndpointId.{EndpointId}
use Rattle.am_names.specs.declared.NodeId.{NodeId}
use Rattle.am_names.specs.Names.{same_node}
use Rattle.am_office_entries.specs.declared.Condition.{Condition}
use Rattle.am_office_entries.specs.declared.Condition.TheVariants as Needs
use Rattle.am_office_entries.specs.declared.Event.{Event}
use Rattle.am_office_entries.specs.declared.Event.TheVariants as Events
use Rattle.am_office_entries.specs.declared.Outcome.{Outcome}
use Rattle.am_office_entries.specs.declared.Outcome.TheVariants as Out
use Rattle.am_office_entries.specs.declared.Entry.{Entry}
use Rattle.am_office_entries.specs.Entries.{emitted_in, ends_touched, node_touched, is_node}
use Rattle.am_model.specs.Endpoint.{State, is_direct}
use Rattle.am_model.specs.Layout.{Layout, EndSetting, AllAre, declared, has_id, home, home_by}
use Rattle.am_model.specs.History.{failing, is_frame_held, is_home, is_in_frame, is_in_range, outcome_of, state_of}
use Rattle.am_model.specs.Steps.{LogFull, stop}
use Rattle.am_model_drain.specs.Made.{next_entry}
use Rattle.am_office_entries.specs.declared.Part.TheVariants as Parts
use Rattle.am_model_parts.specs.Driver.{DriverLog, end_moved, failing_move, outcome_move}
use Rattle.am_model.specs.Parts.{driver_of, is_by_driver}
use Rattle.am_model_parts.specs.Granted.{MayMove}
use Rattle.am_model_parts.specs.Together.{IsDriverPart, IsState, ends_of, faults_of}
use Rattle.am_model_parts.proofs.Granting.{move_granted}
use Rattle.am_model_parts.proofs.Homes.{home_is}
use Rattle.am_model_parts.proofs.Moves.{move_local}
use Rattle.am_laws_cluster.proofs.HomePlaces.{fits_network}
use Rattle.am_scenario_types.specs.declared.parts.FaultLine.{FaultLine}
use Rattle.am_endpoint.specs.View.{EndpointView, state_after, state_by}
use Rattle.am_endpoint_body.specs.declared.settings.EndSettings.{EndSettings}
use Rattle.am_machine_journal.specs.Index.View.{AreNodes}
use Rattle.am_driver_moves.specs.Logs.{EndLog, kept}
use Rattle.am_machine.specs.Ends.{is_of, setting_in}
use Rattle.am_machine.specs.Kept.{IsOwn, IsTied, layout_in}
use Rattle.am_machine.specs.declared.settings.Settings.{Settings}
use Rattle.am_machine.specs.Moves.{failing_on, is_in_frame_of, is_taken}
use Rattle.am_driver_moves.specs.Pages.{is_page}
use Rattle.am_machine.proofs.Applied.{IsHere, IsNext, IsSingle, found_here, full_here, single_next, single_stop, state_here}
use Rattle.am_machine.proofs.Places.{position_at}
use Rattle.am_machine.proofs.Tied.{own_state}

-- ---- which events are moves

pub moved_touches : (event : Event) (o : Outcome) (end : EndpointId) → end_moved event ≡ Some end → ends_touched event o ≡ end ∷ []
moved_touches (Events.Drain node e) o end is = let same : e ≡ end = cc in ap (λ (d : EndpointId). d ∷ []) same
moved_touches (Events.Unload node e) o end is = let same : e ≡ end = cc in ap (λ (d : EndpointId). d ∷ []) same
moved_touches (Events.Load node e frame) o end is = let same : e ≡ end = cc in ap (λ (d : EndpointId). d ∷ []) same
moved_touches (Events.PageOut node e) o end is = let same : e ≡ end = cc in ap (λ (d : EndpointId). d ∷ []) same
moved_touches (Events.PageIn node e) o end is = let same : e ≡ end = cc in ap (λ (d : EndpointId). d ∷ []) same
moved_touches event o end is = absurd (cc)

pub moved_alone : (event : Event) (end : EndpointId) → end_moved event ≡ Some end → node_touched event ≡ None
moved_alone (Events.Drain node e) end is = refl
moved_alone (Events.Unload node e) end is = refl
moved_alone (Events.Load node e frame) end is = refl
moved_alone (Events.PageOut node e) end is = refl
moved_alone (Events.PageIn node e) end is = refl
moved_alone event end is = absurd (cc)

pub moved_silent : (stamp : ℕ) (event : Event) (o : Outcome) (end : EndpointId) → end_moved event ≡ Some end → None ≡ emitted_in stamp event o
moved_silent stamp (Events.Drain node e) o end is = refl
moved_silent stamp (Events.Unload node e) o end is = refl
moved_silent stamp (Events.Load node e frame) o end is = refl
moved_silent stamp (Events.PageOut node e) o end is = refl
moved_silent stamp (Events.PageIn node e) o end is = refl
moved_silent stamp event o end is = absurd (cc)

pub node_below : (layout : Layout) (event : Event) (node : NodeId) → is_in_range layout event ≡ true → driver_of event ≡ Some node → node.0 < layout.nodes
node_below layout (Events.Drain at e) node range is = subst (λ (n : NodeId). n.0 < layout.nodes) (some_is at node is)
    (ltb-true _ _ (and_parts (declared layout e) _ range).1)
node_below layout (Events.Unload at e) node range is = subst (λ (n : NodeId). n.0 < layout.nodes) (some_is at node is)
    (ltb-true _ _ (and_parts (declared layout e) _ range).1)
node_below layout (Events.Load at e frame) node range is = subst (λ (n : NodeId). n.0 < layout.nodes) (some_is at node is)
    (ltb-true _ _ (and_parts (declared layout e) (nat_lt at.0 layout.nodes) (and_parts (declared layout e && nat_lt at.0 layout.nodes)
    (nat_lt frame layout.frames) range).0).1)
node_below layout (Events.PageOut at e) node range is = subst (λ (n : NodeId). n.0 < layout.nodes) (some_is at node is)
    (ltb-true _ _ (and_parts (declared layout e) _ range).1)
node_below layout (Events.PageIn at e) node range is = subst (λ (n : NodeId). n.0 < layout.nodes) (some_is at node is)
    (ltb-true _ _ (and_parts (declared layout e) _ range).1)
node_below layout event node range is = absurd (cc)

pub end_known : (layout : Layout) (event : Event) (end : EndpointId) → is_in_range layout event ≡ true → end_moved event ≡ Some end → declared layout end ≡ true
end_known layout (Events.Drain at e) end range is = ap (declared layout) (sym (some_is e end is)) ∙ (and_parts (declared layout e) _ range).0
end_known layout (Events.Unload at e) end range is = ap (declared layout) (sym (some_is e end is)) ∙ (and_parts (declared layout e) _ range).0
end_known layout (Events.Load at e frame) end range is = ap (declared layout) (sym (some_is e end is))
    ∙ (and_parts (declared layout e) (nat_lt at.0 layout.nodes) (and_parts (declared layout e && nat_lt at.0 layout.nodes) (nat_lt frame layout.frames)
    range).0).0
end_known layout (Events.PageOut at e) end range is = ap (declared layout) (sym (some_is e end is)) ∙ (and_parts (declared layout e) _ range).0
end_known layout (Events.PageIn at e) end range is = ap (declared layout) (sym (some_is e end is)) ∙ (and_parts (declared layout e) _ range).0
end_known layout event end range is = absurd (cc)

pub moved_nodes : (layout : Layout) (event : Event) (end : EndpointId) → layout.nodes ≤ 16 → is_in_range layout event ≡ true → end_moved event ≡ Some end →
    AreNodes event
moved_nodes layout (Events.Drain at e) end few range is = tt
moved_nodes layout (Events.Unload at e) end few range is = tt
moved_nodes layout (Events.Load at e frame) end few range is = tt
moved_nodes layout (Events.PageOut at e) end few range is = let below = node_below layout (Events.PageOut at e) at range refl in omega (arith, few, below)
moved_nodes layout (Events.PageIn at e) end few range is = let below = node_below layout (Events.PageIn at e) at range refl in omega (arith, few, below)
moved_nodes layout event end few range is = absurd (cc)

-- ---- what keeps a move from being made

first : (d : Bool) (x r : Option Condition) → d ≡ true → cond d x r ≡ x
first true x r h = refl
first false x r h = absurd (cc)

second : (d h : Bool) (x y r : Option Condition) → d ≡ false → h ≡ false → cond d x (cond (not h) y r) ≡ y
second true h x y r packet other = absurd (cc)
second false true x y r packet other = absurd (cc)
second false false x y r packet other = refl

third : (d h : Bool) (x y r : Option Condition) → d ≡ false → h ≡ true → cond d x (cond (not h) y r) ≡ r
third true h x y r packet home = absurd (cc)
third false true x y r packet home = refl
third false false x y r packet home = absurd (cc)

pub failing_direct : (layout : Layout) (past : List Entry) (event : Event) (end : EndpointId) → layout.direct ≡ true → end_moved event ≡ Some end →
    failing layout past event ≡ Some Needs.NotPacket
failing_direct layout past (Events.Drain at e) end direct is = first layout.direct _ _ direct
failing_direct layout past (Events.Unload at e) end direct is = first layout.direct _ _ direct
failing_direct layout past (Events.Load at e frame) end direct is = first layout.direct _ _ direct
failing_direct layout past (Events.PageOut at e) end direct is = first layout.direct _ _ direct
failing_direct layout past (Events.PageIn at e) end direct is = first layout.direct _ _ direct
failing_direct layout past event end direct is = absurd (cc)

pub failing_other : (layout : Layout) (past : List Entry) (event : Event) (node : NodeId) (end : EndpointId) → layout.direct ≡ false →
    driver_of event ≡ Some node → end_moved event ≡ Some end → is_home layout end node ≡ false → failing layout past event ≡ Some Needs.OtherNode
failing_other layout past (Events.Drain at e) node end packet by is home =
    second layout.direct (is_home layout e at) _ _ _ packet ((λ i. is_home layout (some_is e end is i) (some_is at node by i)) ∙ home)
failing_other layout past (Events.Unload at e) node end packet by is home =
    second layout.direct (is_home layout e at) _ _ _ packet ((λ i. is_home layout (some_is e end is i) (some_is at node by i)) ∙ home)
failing_other layout past (Events.Load at e frame) node end packet by is home =
    second layout.direct (is_home layout e at) _ _ _ packet ((λ i. is_home layout (some_is e end is i) (some_is at node by i)) ∙ home)
failing_other layout past (Events.PageOut at e) node end packet by is home =
    second layout.direct (is_home layout e at) _ _ _ packet ((λ i. is_home layout (some_is e end is i) (some_is at node by i)) ∙ home)
failing_other layout past (Events.PageIn at e) node end packet by is home =
    second layout.direct (is_home layout e at) _ _ _ packet ((λ i. is_home layout (some_is e end is i) (some_is at node by i)) ∙ home)
failing_other layout past event node end packet by is home = absurd (cc)

-- whether the event loads into a frame that is held
abbrev pub is_taken_by : Layout → List Entry → Event → Bool
is_taken_by layout past (Events.Load node end frame) = is_frame_held layout past node frame
is_taken_by layout past event = false

pub failing_here : (layout : Layout) (past : List Entry) (event : Event) (node : NodeId) (end : EndpointId) (s : State) (taken : Bool) → layout.direct ≡ false →
    driver_of event ≡ Some node → end_moved event ≡ Some end → is_home layout end node ≡ true → state_of layout past end ≡ s →
    is_taken_by layout past event ≡ taken → failing layout past event ≡ failing_on s event taken
failing_here layout past (Events.Drain at e) node end s taken packet by is home st held =
    third layout.direct (is_home layout e at) _ _ _ packet ((λ i. is_home layout (some_is e end is i) (some_is at node by i)) ∙ home)
    ∙ ap (λ (t : State). failing_on t (Events.Drain at e) taken) (ap (state_of layout past) (some_is e end is) ∙ st)
failing_here layout past (Events.Unload at e) node end s taken packet by is home st held =
    third layout.direct (is_home layout e at) _ _ _ packet ((λ i. is_home layout (some_is e end is i) (some_is at node by i)) ∙ home)
    ∙ ap (λ (t : State). failing_on t (Events.Unload at e) taken) (ap (state_of layout past) (some_is e end is) ∙ st)
failing_here layout past (Events.Load at e frame) node end s taken packet by is home st held =
    third layout.direct (is_home layout e at) _ _ _ packet ((λ i. is_home layout (some_is e end is i) (some_is at node by i)) ∙ home)
    ∙ (λ i. failing_on ((ap (state_of layout past) (some_is e end is) ∙ st) i) (Events.Load at e frame) (held i))
failing_here layout past (Events.PageOut at e) node end s taken packet by is home st held =
    third layout.direct (is_home layout e at) _ _ _ packet ((λ i. is_home layout (some_is e end is i) (some_is at node by i)) ∙ home)
    ∙ ap (λ (t : State). failing_on t (Events.PageOut at e) taken) (ap (state_of layout past) (some_is e end is) ∙ st)
failing_here layout past (Events.PageIn at e) node end s taken packet by is home st held =
    third layout.direct (is_home layout e at) _ _ _ packet ((λ i. is_home layout (some_is e end is i) (some_is at node by i)) ∙ home)
    ∙ ap (λ (t : State). failing_on t (Events.PageIn at e) taken) (ap (state_of layout past) (some_is e end is) ∙ st)
failing_here layout past event node end s taken packet by is home st held = absurd (cc)

-- the frames that are held, told by the endpoints
held_here : (layout : Layout) (journal : List Entry) (node : NodeId) (frame : ℕ) (vs : List EndpointView) → AllAre (IsOwn layout journal) (map kept vs) →
    list_any (λ (s : EndSetting). same_node node s.node && is_in_frame frame (state_of layout journal s.id).head.place) (map setting_in (map kept vs)) ≡
    list_any (is_in_frame_of node frame) vs
held_here layout journal node frame [] own = refl
held_here layout journal node frame (v ∷ vs) own =
    λ i. (same_node node v.settings.node && is_in_frame frame (sym (own_state layout journal (kept v) own.0) i).head.place) || held_here layout journal node
    frame vs own.1 i

pub taken_here : (layout : Layout) (journal : List Entry) (event : Event) (vs : List EndpointView) → layout.ends ≡ map setting_in (map kept vs) →
    AllAre (IsOwn layout journal) (map kept vs) → is_taken_by layout journal event ≡ is_taken vs event
taken_here layout journal (Events.Load node end frame) vs ends own =
    ap (list_any (λ (s : EndSetting). same_node node s.node && is_in_frame frame (state_of layout journal s.id).head.place)) ends
    ∙ held_here layout journal node frame vs own
taken_here layout journal event vs ends own = refl

-- ---- the node of an endpoint

pub setting_found : (vs : List EndpointView) (e : EndpointId) (one : EndpointView) → slice_get vs (position_or_len (is_of e) vs) ≡ Some one →
    find (has_id e) (map setting_in (map kept vs)) ≡ Some (setting_in (kept one))
setting_found [] e one at = absurd (cc)
setting_found (v ∷ vs) e one at = by_test (is_of e v) at (setting_found vs e one)
  where
    by_test : (b : Bool) → slice_get (v ∷ vs) (cond (not b) (1 + position_or_len (is_of e) vs) 0) ≡ Some one →
        (slice_get vs (position_or_len (is_of e) vs) ≡ Some one → find (has_id e) (map setting_in (map kept vs)) ≡ Some (setting_in (kept one))) →
        cond b (Some (setting_in (kept v))) (find (has_id e) (map setting_in (map kept vs))) ≡ Some (setting_in (kept one))
    by_test true here more = let same : v ≡ one = cc in ap (λ (w : EndpointView). Some (setting_in (kept w))) same
    by_test false there more =
        let next : 1 + position_or_len (is_of e) vs ≡ suc (position_or_len (is_of e) vs) = omega arith in
        more (ap (slice_get (v ∷ vs)) (sym next) ∙ there)

pub home_here : (layout : Layout) (vs : List EndpointView) (journal : List Entry) (e : EndpointId) (node : NodeId) (one : EndpointView) →
    layout.ends ≡ map setting_in (map kept vs) → IsTied layout (map kept vs) journal → slice_get vs (position_or_len (is_of e) vs) ≡ Some one →
    is_home layout e node ≡ same_node node one.settings.node
home_here layout vs journal e node one ends tied at =
    home_is layout tied.lawful.ids e node
    ∙ ap (λ (o : Option EndSetting). is_node node (home_by o)) (ap (find (has_id e)) ends ∙ setting_found vs e one at)

-- ---- what the endpoint may be given

abbrev driver_in : Layout → List Entry → NodeId → DriverLog
driver_in layout journal node =
    record { settings = record { node = node; ends = ends_of layout node; faults = faults_of layout node }; log = filter (is_by_driver node) journal }

pub may_move : (layout : Layout) (journal : List Entry) (event : Event) (node : NodeId) (end : EndpointId) (s : State) (x : Entry) {es : List EndLog} →
    IsTied layout es journal → layout.direct ≡ false → driver_of event ≡ Some node → end_moved event ≡ Some end → failing layout journal event ≡ None →
    s ≡ state_of layout journal end → x ≡ next_entry layout journal event → MayMove node end s x event
may_move layout journal event node end s x tied packet by is enabled st at =
    let d = driver_in layout journal node in
    let part : IsDriverPart layout journal d = record {
      settings = record { packet = packet; once = tied.lawful.ids; ends = refl; faults = refl };
      log = refl;
    } in
    let state = subst (λ (o : Option EndpointId). IsState layout journal s o) (sym is) st in
    let says = move_local layout journal d s event tied.history part by state in
    let event_is : x.event ≡ event = ap (λ (y : Entry). y.event) at in
    subst (λ (e : Event). MayMove node end s x e) event_is
    (move_granted d end s x
    (record {
      driver = ap driver_of event_is ∙ by;
      end = ap end_moved event_is ∙ is;
      enabled = ap (failing_move d s) event_is ∙ sym says.failing ∙ enabled;
      outcome = ap (λ (y : Entry). y.outcome) at ∙ says.outcome ∙ ap (outcome_move d) (sym event_is);
      packet = ap (λ (t : State). is_direct t.head.place) st ∙ fits_network layout journal tied.history end
          ∙ ap (λ (b : Bool). b && declared layout end) packet;
    }))

-- a move that is no page call is silent
pub moved_silently : (layout : Layout) (journal : List Entry) (event : Event) (end : EndpointId) → end_moved event ≡ Some end → is_page event ≡ false →
    Out.Silent ≡ outcome_of layout journal event
moved_silently layout journal (Events.Drain node e) end is unpaged = refl
moved_silently layout journal (Events.Unload node e) end is unpaged = refl
moved_silently layout journal (Events.Load node e frame) end is unpaged = refl
moved_silently layout journal (Events.PageOut node e) end is unpaged = absurd (true≢false unpaged)
moved_silently layout journal (Events.PageIn node e) end is unpaged = absurd (true≢false unpaged)
moved_silently layout journal event end is unpaged = absurd (cc)

pub move_single : (layout : Layout) (journal : List Entry) (event : Event) (end : EndpointId) → is_in_range layout event ≡ true → end_moved event ≡ Some end →
    failing layout journal event ≡ None → IsSingle layout journal event end
move_single layout journal event end range is enabled =
    record { in_range = range; enabled = enabled; touched = moved_touches event (outcome_of layout journal event) end is; alone = moved_alone event end is }

-- the node of an endpoint, told by the one that stands at its place
pub home_of : (layout : Layout) (vs : List EndpointView) (journal : List Entry) (e : EndpointId) (k : ℕ) (node : NodeId) (one : EndpointView) →
    layout.ends ≡ map setting_in (map kept vs) → IsTied layout (map kept vs) journal → position (is_of e) vs ≡ Some k → one ≡ slice_index_or vs k one →
    is_home layout e node ≡ same_node node one.settings.node
home_of layout vs journal e k node one ends tied found value =
    home_here layout vs journal e node one ends tied
    (ap (slice_get vs) (position_at vs e k found) ∙ (found_here vs e k one found value).at)

pub nodes_apart : (a b : NodeId) → (a.0 ≡ b.0 → ⊥) → same_node a b ≡ false
nodes_apart a b apart = by_test (same_node a b) refl
  where
    by_test : (t : Bool) → same_node a b ≡ t → t ≡ false
    by_test true is = absurd (apart (eqb-true a.0 b.0 is))
    by_test false is = refl

-- a move that may be made: of the endpoint that stands at this place
pub record Move : Type 0 where
  pub settings : Settings
  pub faults : List FaultLine
  pub ends : List EndpointView
  pub journal : List Entry
  pub event : Event
  pub node : NodeId
  pub end : EndpointId
  pub place : ℕ
  pub one : EndpointView
  pub tied : IsTied (layout_in settings faults (map kept ends)) (map kept ends) journal
  pub in_range : is_in_range (layout_in settings faults (map kept ends)) event ≡ true
  pub driver : driver_of event ≡ Some node
  pub moved : end_moved event ≡ Some end
  pub enabled : failing (layout_in settings faults (map kept ends)) journal event ≡ None
  pub found : position (is_of end) ends ≡ Some place
  pub value : one ≡ slice_index_or ends place one

abbrev pub layout_of : Move → Layout
layout_of m = layout_in m.settings m.faults (map kept m.ends)

pub move_here : (m : Move) → IsHere m.ends m.end m.place m.one
move_here m = found_here m.ends m.end m.place m.one m.found m.value

none_some : (c : Condition) → Some c ≡ None → ⊥
none_some c h = cc

pub move_packet : (m : Move) → (layout_of m).direct ≡ false
move_packet m = by_test (layout_of m).direct refl
  where
    by_test : (t : Bool) → (layout_of m).direct ≡ t → t ≡ false
    by_test true is = absurd (none_some Needs.NotPacket (sym (failing_direct (layout_of m) m.journal m.event m.end is m.moved) ∙ m.enabled))
    by_test false is = refl

pub move_home : (m : Move) → is_home (layout_of m) m.end m.node ≡ true
move_home m = by_test (is_home (layout_of m) m.end m.node) refl
  where
    by_test : (t : Bool) → is_home (layout_of m) m.end m.node ≡ t → t ≡ true
    by_test true is = refl
    by_test false is = absurd (none_some Needs.OtherNode (sym (failing_other (layout_of m) m.journal m.event m.node m.end (move_packet m) m.driver m.moved is)
        ∙ m.enabled))

pub move_node : (m : Move) → m.node ≡ m.one.settings.node
move_node m =
    let same = sym (home_of (layout_of m) m.ends m.journal m.end m.place m.node m.one refl m.tied m.found m.value) ∙ move_home m in
    λ i. record { 0 = eqb-true m.node.0 m.one.settings.node.0 same i }

-- the endpoint with its settings and its log, which may have more room
pub move_allowed : (m : Move) (w : EndpointView) (x : Entry) → w.settings ≡ m.one.settings → w.log ≡ m.one.log →
    x ≡ next_entry (layout_of m) m.journal m.event → MayMove w.settings.node w.settings.id (state_after w) x m.event
move_allowed m w x settings log is =
    let here = move_here m in
    let state : state_after w ≡ state_of (layout_of m) m.journal m.end = (λ i. state_by (settings i) (log i))
    ∙ state_here (layout_of m) m.ends m.journal m.end m.place m.one m.tied here in
    let node : m.node ≡ w.settings.node = move_node m ∙ ap (λ (s : EndSettings). s.node) (sym settings) in
    let id : m.end ≡ w.settings.id = sym (ap (λ (s : EndSettings). s.id) settings ∙ here.id) in
    subst (λ (n : NodeId). MayMove n w.settings.id (state_after w) x m.event) node
    (subst (λ (e : EndpointId). MayMove m.node e (state_after w) x m.event) id
    (may_move (layout_of m) m.journal m.event m.node m.end (state_after w) x m.tied (move_packet m) m.driver m.moved m.enabled state is))

-- what it makes of a cluster
pub move_next : (m : Move) (w : EndpointView) (x : Entry) (longer : List Entry) → nat_le m.settings.log (length m.one.log) ≡ false →
    x ≡ next_entry (layout_of m) m.journal m.event → w.settings ≡ m.one.settings → w.log ≡ m.one.log ++ x ∷ [] → longer ≡ m.journal ++ x ∷ [] →
    IsNext m.settings m.faults (map kept m.ends) m.journal m.event x (map kept (slice_set m.ends m.place w)) longer
move_next m w x longer room is settings log more =
    single_next m.settings m.faults m.ends m.journal m.event m.end m.place m.one w x longer m.tied
    (move_single (layout_of m) m.journal m.event m.end m.in_range m.moved m.enabled) (move_here m) room is settings log more

-- what stops it is its endpoint's log, where it is full
pub move_stopped : (m : Move) → nat_le m.settings.log (length m.one.log) ≡ true → stop (layout_of m) m.journal m.event ≡ Some (LogFull (Parts.Endpoint m.end))
move_stopped m full =
    single_stop (layout_of m) m.journal m.event m.end true (move_single (layout_of m) m.journal m.event m.end m.in_range m.moved m.enabled)
    (full_here (layout_of m) m.ends m.journal m.end m.place m.one true m.tied (move_here m) full)

pub move_runs : (m : Move) → nat_le m.settings.log (length m.one.log) ≡ false → stop (layout_of m) m.journal m.event ≡ None
move_runs m room =
    single_stop (layout_of m) m.journal m.event m.end false (move_single (layout_of m) m.journal m.event m.end m.in_range m.moved m.enabled)
    (full_here (layout_of m) m.ends m.journal m.end m.place m.one false m.tied (move_here m) room)
