-- Page-ins, time-outs and polls that the drain names may happen.
use Rattle.std.proofs.Common.{◌≡◌, ℕ, zero, suc, ◌+◌, ◌<◌, Bool, true, false, cond, List, [], ◌∷◌, map, Option, Some, None, refl, sym, ap, ◌∙◌, subst, arith}
use Rattle.std.proofs.Common.{true≢false, lt-ltb, if◌then◌else◌}
use Rattle.std.specs.Prelude.{◌&&◌, not, nat_lt, find}
use Rattle.std.specs.List.{list_any, range_with_len}
use Rattle.std.proofs.lemmas.Bool.{and_from, and_parts, or_left, or_right}
use Rattle.am_lemmas.proofs.Options.{cond-None}
use Rattle.am_lemmas.proofs.Lists.{find_passes}
use Rattle.am_names.specs.declared.EndpointId.{EndpointId}
use Rattle.am_names.specs.declared.NodeId.{NodeId}
use Rattle.am_names.specs.Names.{same_end, same_node}
use Rattle.am_office_entries.specs.declared.Actor.TheVariants.{Outside}
use Rattle.am_office_entries.specs.declared.Call.TheVariants as Calls
use Rattle.am_office_entries.specs.declared.Condition.{Condition}
use Rattle.am_office_entries.specs.declared.Condition.TheVariants as Needs
use Rattle.am_office_entries.specs.declared.Event.{Event}
use Rattle.am_office_entries.specs.declared.Event.TheVariants as Events
use Rattle.am_office_entries.specs.declared.Entry.{Entry}
use Rattle.am_office_entries.specs.declared.Place.{Place}
use Rattle.am_office_entries.specs.declared.Place.TheVariants.{Host, Disk, Frame, Direct}
use Rattle.am_model.specs.Endpoint.{State, Body, is_on_disk}
use Rattle.am_model.specs.Changes.{has_queued, has_arrivals}
use Rattle.am_model.specs.Layout.{Layout, EndSetting, AllAre, IsLawful, IsSettingLawful, has_id, declared, node_at}
use Rattle.am_model.specs.History.{MayFollow, IsHistory, state_of, failing, is_in_range, is_home, is_bound, channel_to}
use Rattle.am_model.proofs.Each.{each_push}
use Rattle.am_model.proofs.Names.{same_end-refl, same_node-refl, nodes_fused}
use Rattle.am_laws.proofs.Alls.{all_map}
use Rattle.am_scenario_types.specs.declared.parts.Network.TheVariants.{Packet}
use Rattle.am_scenario_types.specs.Lists.{ScenarioLists}
use Rattle.am_model_scripts.specs.Layout.{is_direct, layout_of}
use Rattle.am_model_scripts.proofs.Lawful.{lawful_layout}
use Rattle.am_model_scripts.specs.Links.{first_some, nodes_of}
use Rattle.am_model_scripts.specs.Standings.{Standing, standings, is_missed, standing_in}
use Rattle.am_model_scripts.proofs.Lists.{some_mapped, none_mapped, none_all, found_in}
use Rattle.am_model_drain.specs.declared.Turn.{Turn}
use Rattle.am_model_drain.specs.declared.Turn.TheVariants.{Once}
use Rattle.am_model_drain.specs.Made.{after_event, next_entry}
use Rattle.am_model_drain.specs.Rules.{time_out, time_out_to, time_out_at, next_time_out, page_in_of, is_pollable, poll_of}
use Rattle.am_model_drain.specs.Drain.{after_turn}
use Rattle.am_model_drain.proofs.Entries.{entry_may_follow}
use Rattle.am_model_drain.proofs.TurnKinds.{Maybe, is_so, first_so}
use Rattle.am_laws_runs.specs.Turns.Away.{is_grounded, is_settled_at, is_settled}
use Rattle.am_laws_runs.specs.Turns.Enabled.{TimeOutsMayFollow, PageInsMayFollow, PollsMayFollow}
use Rattle.am_laws_runs.proofs.Away.{away_is_settled}

-- ---- an event that may happen makes a history

-- a turn makes a history
abbrev pub MakesHistory : ScenarioLists → List Entry → Turn → Type 0
MakesHistory s past t = IsHistory (layout_of s) (after_turn s past t)

pub event_follows : (layout : Layout) (past : List Entry) (event : Event) → IsHistory layout past → is_in_range layout event ≡ true →
    failing layout past event ≡ None → IsHistory layout (after_event layout event past)
event_follows layout past event h ranged may =
    each_push (MayFollow layout) [] past (next_entry layout past event) h (entry_may_follow layout past event ranged may)

pub of_packets : (s : ScenarioLists) → s.network ≡ Packet → (layout_of s).direct ≡ false
of_packets s packet = ap is_direct packet

-- ---- an endpoint as it stands is declared

each_any : {X : Type 0} (q : X → X → Bool) → ((x : X) → q x x ≡ true) → (ys : List X) → AllAre (λ x. list_any (q x) ys ≡ true) ys
each_any q own [] = tt
each_any q own (y ∷ ys) = (
  or_left (q y y) (list_any (q y) ys) (own y),
  all_map (λ x. list_any (q x) ys ≡ true) (λ x. list_any (q x) (y ∷ ys) ≡ true) ys
      (λ x h. or_right (q x y) (list_any (q x) ys) h) (each_any q own ys),
)

found_mapped : {X Y : Type 0} (P : X → Type 0) (p : Y → Bool) (f : X → Y) (xs : List X) (y : Y) → AllAre P xs → find p (map f xs) ≡ Some y →
    (x : X) × (f x ≡ y) × P x
found_mapped P p f [] y all e = absurd (cc)
found_mapped {X} {Y} P p f (x ∷ xs) y all e = by_test (p (f x)) e (found_mapped P p f xs y all.1)
  where
    by_test : (b : Bool) → cond b (Some (f x)) (find p (map f xs)) ≡ Some y → (find p (map f xs) ≡ Some y → (z : X) × (f z ≡ y) × P z) →
        (z : X) × (f z ≡ y) × P z
    by_test true h later = (x, cc, all.0)
    by_test false h later = later h

-- an endpoint that is declared, on a node of the layout
pub record IsSeated (layout : Layout) (e : EndpointId) (node : NodeId) : Type 0 where
  pub home : is_home layout e node ≡ true
  pub declared' : declared layout e ≡ true
  pub node' : node.0 < layout.nodes

abbrev pub IsSeatedSetting : Layout → EndSetting → Type 0
IsSeatedSetting layout x = IsSeated layout x.id x.node

pub all_seated : (layout : Layout) → IsLawful layout → AllAre (IsSeatedSetting layout) layout.ends
all_seated layout lawful =
    each layout.ends
    (each_any (λ (x s : EndSetting). same_end x.id s.id && same_node x.node s.node) (λ (x : EndSetting). and_from (same_end x.id x.id) (same_node x.node x.node)
    (same_end-refl x.id) (same_node-refl x.node)) layout.ends)
    (each_any (λ (x s : EndSetting). has_id x.id s) (λ (x : EndSetting). same_end-refl x.id) layout.ends) lawful.ends
  where
    each : (xs : List EndSetting) → AllAre (λ (x : EndSetting). list_any (λ (s : EndSetting). same_end x.id s.id && same_node x.node s.node) layout.ends ≡ true)
        xs → AllAre (λ (x : EndSetting). list_any (λ (s : EndSetting). has_id x.id s) layout.ends ≡ true) xs → AllAre (IsSettingLawful layout) xs →
        AllAre (IsSeatedSetting layout) xs
    each [] a b c = tt
    each (x ∷ xs) a b c = (record { home = a.0; declared' = b.0; node' = c.0.node }, each xs a.1 b.1 c.1)

-- an endpoint of the layout, as it stands
pub record IsStanding (layout : Layout) (past : List Entry) (st : Standing) : Type 0 where
  pub state : st.state ≡ state_of layout past st.setting.id
  pub seated : IsSeated layout st.setting.id st.setting.node

pub is_standing : (layout : Layout) (past : List Entry) (p : Standing → Bool) (st : Standing) → IsLawful layout → find p (standings layout past) ≡ Some st →
    IsStanding layout past st
is_standing layout past p st lawful e =
    let at = found_mapped (IsSeatedSetting layout) p (standing_in layout past) layout.ends st (all_seated layout lawful) e in
    subst (λ (t : Standing). IsStanding layout past t) at.1 (record { state = refl; seated = at.2 })

pub seat_in_range : (layout : Layout) (e : EndpointId) (node : NodeId) → IsSeated layout e node → (declared layout e && nat_lt node.0 layout.nodes) ≡ true
seat_in_range layout e node k = and_from (declared layout e) (nat_lt node.0 layout.nodes) k.declared' (lt-ltb node.0 layout.nodes k.node')

-- ---- page-ins

missed_on_disk : (st : Standing) → is_missed st ≡ true → is_on_disk st.state.head.place ≡ true
missed_on_disk st missed = (and_parts st.state.head.wanted (is_on_disk st.state.head.place) missed).1

page_in_may : (layout : Layout) (past : List Entry) (st : Standing) → layout.direct ≡ false → IsHistory layout past → IsStanding layout past st →
    is_missed st ≡ true → IsHistory layout (after_event layout (Events.PageIn st.setting.node st.setting.id) past)
page_in_may layout past st packet h k missed =
    let on_disk : is_on_disk (state_of layout past st.setting.id).head.place ≡ true = ap (λ (s : State). is_on_disk s.head.place) (sym k.state)
    ∙ missed_on_disk st missed in
    event_follows layout past (Events.PageIn st.setting.node st.setting.id) h (seat_in_range layout st.setting.id st.setting.node k.seated)
    (cond-None layout.direct Needs.NotPacket _ packet
    (cond-None (not (is_home layout st.setting.id st.setting.node)) Needs.OtherNode _ (ap not k.seated.home)
    (cond-None (not (is_on_disk (state_of layout past st.setting.id).head.place)) Needs.NotOnDisk None (ap not on_disk) refl)))

pub page_ins_may_follow : PageInsMayFollow
page_ins_may_follow s past t run e =
    let layout : Layout = layout_of s in
    let found = some_mapped page_in_of (find is_missed (standings layout past)) t e in
    subst (λ (u : Turn). IsHistory layout (after_turn s past u)) found.2
    (page_in_may layout past found.0 (of_packets s run.packet) run.history (is_standing layout past is_missed found.0 (lawful_layout s run.lawful) found.1)
    (find_passes is_missed (standings layout past) found.0 found.1))

-- ---- polls

not_arrived : (p : Place) (w : Bool) (b : Body) → is_settled_at p w b ≡ true → not (w && is_on_disk p) ≡ true → has_arrivals b ≡ true → is_on_disk p ≡ false
not_arrived Host w b settled free arrived = refl
not_arrived (Frame frame) w b settled free arrived = refl
not_arrived Direct w b settled free arrived = refl
not_arrived Disk true b settled free arrived = absurd (true≢false (sym free))
not_arrived Disk false b settled free arrived =
    absurd (none (not (has_queued b)) (has_arrivals b) (and_parts (is_grounded b) (not (has_queued b) && not (has_arrivals b)) settled).1 arrived)
  where
    none : (q a : Bool) → (q && not a) ≡ true → a ≡ true → ⊥
    none true true both on = true≢false (sym both)
    none true false both on = true≢false (sym on)
    none false a both on = true≢false (sym both)

poll_may : (layout : Layout) (past : List Entry) (st : Standing) → layout.direct ≡ false → IsHistory layout past → IsStanding layout past st →
    not (is_missed st) ≡ true → is_pollable st ≡ true → IsHistory layout (after_event layout (Events.Call Outside st.setting.id Calls.Poll) past)
poll_may layout past st packet h k free arrived =
    let settled : is_settled st.state ≡ true = ap is_settled k.state ∙ away_is_settled layout past packet h st.setting.id in
    let off : is_on_disk st.state.head.place ≡ false = not_arrived st.state.head.place st.state.head.wanted st.state.body settled free arrived in
    event_follows layout past (Events.Call Outside st.setting.id Calls.Poll) h
    (and_from (true && declared layout st.setting.id) true (and_from true (declared layout st.setting.id) refl k.seated.declared') refl)
    (cond-None (is_on_disk (state_of layout past st.setting.id).head.place) Needs.OnDisk None (ap (λ (z : State). is_on_disk z.head.place) (sym k.state)
    ∙ off) refl)

pub polls_may_follow : PollsMayFollow
polls_may_follow s past t run none e =
    let layout : Layout = layout_of s in
    let ends : List Standing = standings layout past in
    let found = some_mapped poll_of (find is_pollable ends) t e in
    let all = none_all is_missed ends (none_mapped page_in_of (find is_missed ends) none) in
    subst (λ (u : Turn). IsHistory layout (after_turn s past u)) found.2
    (poll_may layout past found.0 (of_packets s run.packet) run.history (is_standing layout past is_pollable found.0 (lawful_layout s run.lawful) found.1)
    (found_in is_pollable (λ (st : Standing). not (is_missed st)) ends found.0 found.1 all)
    (find_passes is_pollable ends found.0 found.1))

-- ---- time-outs

pub range_so : {Y : Type 0} (P : Y → Type 0) (f : ℕ → Option Y) (a n : ℕ) → ((k : ℕ) → k < a + n → Maybe P (f k)) →
    Maybe P (first_some (map f (range_with_len a n)))
range_so P f a zero h = tt
range_so P f a (suc n) h =
    first_so P (f a) (map f (range_with_len (a + 1) n)) (h a (omega arith)) (range_so P f (a + 1) n (λ (k : ℕ) low. h k (omega (arith, low))))

pub nodes_so : {Y : Type 0} (P : Y → Type 0) (s : ScenarioLists) (f : NodeId → Option Y) → ((node : NodeId) → node.0 < s.nodes → Maybe P (f node)) →
    Maybe P (first_some (map f (nodes_of s)))
nodes_so {Y} P s f h =
    subst (λ (ys : List (Option Y)). Maybe P (first_some ys)) (nodes_fused f (range_with_len 0 s.nodes))
    (range_so P (λ (k : ℕ). f (node_at k)) 0 s.nodes (λ (k : ℕ) low. h (node_at k) (omega (arith, low))))

expire_may : (layout : Layout) (past : List Entry) (node peer : NodeId) (channel : ℕ) → layout.direct ≡ false → IsHistory layout past → node.0 < layout.nodes →
    peer.0 < layout.nodes → channel < layout.channels → is_bound (channel_to node peer channel) past ≡ true →
    IsHistory layout (after_event layout (Events.Expire node peer channel) past)
expire_may layout past node peer channel packet h n p c bound =
    event_follows layout past (Events.Expire node peer channel) h
    (and_from (nat_lt node.0 layout.nodes && nat_lt peer.0 layout.nodes) (nat_lt channel layout.channels)
    (and_from (nat_lt node.0 layout.nodes) (nat_lt peer.0 layout.nodes) (lt-ltb node.0 layout.nodes n) (lt-ltb peer.0 layout.nodes p))
    (lt-ltb channel layout.channels c))
    (cond-None layout.direct Needs.NotPacket _ packet
    (cond-None (not (is_bound (channel_to node peer channel) past)) Needs.Idle None (ap not bound) refl))

pub time_outs_may_follow : TimeOutsMayFollow
time_outs_may_follow s past t run e =
    is_so (MakesHistory s past) (next_time_out s past) t
    (nodes_so (MakesHistory s past) s (time_out_at s past) (λ (node : NodeId) n. nodes_so (MakesHistory s past) s (time_out_to s past node)
    (λ (peer : NodeId) p. range_so (MakesHistory s past) (time_out node peer past) 0 s.channels
    (λ (channel : ℕ) c. bound_so node peer channel n p (omega (arith, c)) (is_bound (channel_to node peer channel) past) refl)))) e
  where
    bound_so : (node peer : NodeId) (channel : ℕ) → node.0 < s.nodes → peer.0 < s.nodes → channel < s.channels → (b : Bool) →
        is_bound (channel_to node peer channel) past ≡ b → Maybe (MakesHistory s past) (if b then Some (Once (Events.Expire node peer channel)) else None)
    bound_so node peer channel n p c true is = expire_may (layout_of s) past node peer channel (of_packets s run.packet) run.history n p c is
    bound_so node peer channel n p c false is = tt
