-- The frames of a node are held as its driver's own log says.
use Rattle.std.specs.Prelude.{not, length}
use Rattle.std.proofs.Common.{◌≡◌, ℕ, ◌==◌, Bool, true, false, cond, ◌||◌, ◌&&◌, List, [], ◌∷◌, ◌++◌, Option, Some, None, refl, sym, ap, ◌∙◌, eq-eqb}
use Rattle.std.proofs.Common.{if◌then◌else◌}
use Rattle.std.specs.List.{filter, find, list_any}
use Rattle.std.proofs.lemmas.List.{append-nil}
use Rattle.std.proofs.lemmas.List.Elements.{filter-append}
use Rattle.std.proofs.lemmas.Bool.{not-false}
use Rattle.am_names.specs.declared.EndpointId.{EndpointId}
use Rattle.am_names.specs.declared.NodeId.{NodeId}
use Rattle.am_names.specs.declared.Cause.TheVariants.{NotResident}
use Rattle.am_names.specs.Names.{same_end, same_node}
use Rattle.am_office_entries.specs.declared.Place.{Place}
use Rattle.am_office_entries.specs.declared.Place.TheVariants.{Host, Disk, Frame}
use Rattle.am_office_entries.specs.declared.Call.{Call}
use Rattle.am_office_entries.specs.declared.Condition.{Condition}
use Rattle.am_office_entries.specs.declared.Condition.TheVariants as Needs
use Rattle.am_office_entries.specs.declared.Event.{Event}
use Rattle.am_office_entries.specs.declared.Event.TheVariants as Events
use Rattle.am_office_entries.specs.declared.Received.{Received}
use Rattle.am_office_entries.specs.declared.Outcome.{Outcome}
use Rattle.am_office_entries.specs.declared.Outcome.TheVariants as Out
use Rattle.am_office_entries.specs.declared.Entry.{Entry}
use Rattle.am_office_entries.specs.Entries.{touches, ends_touched, is_node}
use Rattle.am_model.specs.Choice.{first_holding}
use Rattle.am_model.specs.Endpoint.{State, is_on_host, is_on_disk, is_resident}
use Rattle.am_model.specs.Changes.{changed, paged_out, paged_in}
use Rattle.am_model.specs.Layout.{Layout, EndSetting, AllAre, opening, opening_by, opening_place, has_id}
use Rattle.am_model.specs.Channels.{last_such}
use Rattle.am_model.specs.History.{state_of, MayFollow, IsHistory, failing, is_home, is_in_frame, is_frame_held}
use Rattle.am_model.proofs.Each.{over_each, state_of_push}
use Rattle.am_model.proofs.Ends.{last_such_push}
use Rattle.am_model.proofs.Names.{same_end-is, same_node-is}
use Rattle.am_model_parts.specs.Driver.{changes_frame, is_load_into, is_loaded_by, lies_in}
use Rattle.am_model.specs.Parts.{driver_of, is_by_driver}
use Rattle.am_model.proofs.PlaceKinds.{on_host_in_no_frame, on_disk_in_no_frame}
use Rattle.am_model.proofs.Unchanged.{called_place, carried_place, received_place, expired_place, bound_place}
use Rattle.am_model_parts.specs.Together.{AreDeclaredOnce, ends_of}
use Rattle.am_model_parts.proofs.Homes.{IsAmong, all_among, any_mapped, one_home}

-- ---- what keeps an event from happening

-- no condition holds
pub none_holds : {X : Type 0} (b : Bool) (w : X) (cs : List (Bool × X)) → first_holding ((b, w) ∷ cs) ≡ None → (b ≡ false) × (first_holding cs ≡ None)
none_holds true w cs h = absurd (cc)
none_holds false w cs h = (refl, h)

-- ---- where an endpoint lies

-- where an event with this outcome puts an endpoint, if it does
abbrev pub place_given : Event → Outcome → Option Place
place_given (Events.Unload node end) o = Some Host
place_given (Events.Load node end frame) o = Some (Frame frame)
place_given (Events.PageOut node end) Out.Done = Some Disk
place_given (Events.PageIn node end) Out.Done = Some Host
place_given event o = None

abbrev pub place_by : Option Place → Place → Place
place_by None place = place
place_by (Some other) place = other

-- an event puts an endpoint where it says, and else leaves it where it lies
pub changed_place : (e : EndpointId) (s : State) (event : Event) (o : Outcome) → (changed e s event o).head.place ≡ place_by (place_given event o) s.head.place
changed_place e s (Events.Call actor end call) o = called_place s call o
changed_place e s (Events.Want actor end) o = refl
changed_place e s (Events.Carry end) o = carried_place e end s o
changed_place e s (Events.Bind node end) o = bound_place s o
changed_place e s (Events.Expire node peer channel) o = expired_place s o
changed_place e s (Events.Receive node peer number) (Out.Received channel seq attempt result) = received_place e s result
changed_place e s (Events.Receive node peer number) o = refl
changed_place e s (Events.Drain node end) o = refl
changed_place e s (Events.Unload node end) o = refl
changed_place e s (Events.Load node end frame) o = refl
changed_place e s (Events.PageOut node end) Out.Done = refl
changed_place e s (Events.PageOut node end) o = refl
changed_place e s (Events.PageIn node end) Out.Done = refl
changed_place e s (Events.PageIn node end) o = refl

-- ---- one entry more

-- whether an endpoint lies in the frame after an event that loads or unloads it, or not
abbrev pub lies_after : ℕ → Bool → Event → Bool → Bool
lies_after frame true event before = is_load_into frame event
lies_after frame false event before = before

lies_push : (node : NodeId) (past : List Entry) (x : Entry) (frame : ℕ) (e : EndpointId) →
    lies_in (filter (is_by_driver node) (past ++ x ∷ [])) frame e ≡ lies_after frame (is_by_driver node x && changes_frame e x.event) x.event
    (lies_in (filter (is_by_driver node) past) frame e)
lies_push node past x frame e = ap (λ (xs : List Entry). lies_in xs frame e) (filter-append (is_by_driver node) past (x ∷ [])) ∙ by_driver (is_by_driver node x)
  where
    log : List Entry
    log = filter (is_by_driver node) past

    by_change : (t : Bool) → is_loaded_by frame (if t then Some x else last_such (λ (y : Entry). changes_frame e y.event) log) ≡ lies_after frame t x.event
        (lies_in log frame e)
    by_change true = refl
    by_change false = refl

    by_driver : (b : Bool) → lies_in (log ++ cond b (x ∷ []) []) frame e ≡ lies_after frame (b && changes_frame e x.event) x.event (lies_in log frame e)
    by_driver true = ap (is_loaded_by frame) (last_such_push (λ (y : Entry). changes_frame e y.event) log x) ∙ by_change (changes_frame e x.event)
    by_driver false = ap (λ (xs : List Entry). lies_in xs frame e) (append-nil log)

-- an event leaves an endpoint in its frame or puts it into another one
abbrev pub FrameMoves : NodeId → EndpointId → ℕ → State → Bool → Event → Outcome → Type 0
FrameMoves node e frame s t event o =
    is_in_frame frame (if t then changed e s event o else s).head.place ≡ lies_after frame (is_node node (driver_of event) && changes_frame e event) event
    (is_in_frame frame s.head.place)

-- an event that leaves the place
same_place : (e : EndpointId) (frame : ℕ) (s : State) (t : Bool) (event : Event) (o : Outcome) → place_given event o ≡ None →
    is_in_frame frame (if t then changed e s event o else s).head.place ≡ is_in_frame frame s.head.place
same_place e frame s true event o none = ap (is_in_frame frame) (changed_place e s event o ∙ ap (λ (p : Option Place). place_by p s.head.place) none)
same_place e frame s false event o none = refl

-- an event that is no load or unload of the endpoint
no_change : (frame : ℕ) (b c : Bool) (event : Event) (before : Bool) → c ≡ false → lies_after frame (b && c) event before ≡ before
no_change frame true c event before h = ap (λ (t : Bool). lies_after frame t event before) h
no_change frame false c event before h = refl

-- a load or an unload, which is made at the home of the endpoint alone
moved : (layout : Layout) → AreDeclaredOnce layout → (node at : NodeId) (e end : EndpointId) (frame : ℕ) (s : State) (event : Event) (o : Outcome) →
    is_home layout e node ≡ true → is_home layout end at ≡ true → driver_of event ≡ Some at → changes_frame e event ≡ same_end e end →
    list_any (same_end e) (ends_touched event o) ≡ (same_end e end || false) → is_in_frame frame (changed e s event o).head.place ≡ is_load_into frame event →
    FrameMoves node e frame s (list_any (same_end e) (ends_touched event o)) event o
moved layout once node at e end frame s event o home there by changes touched places =
    ap (λ (t : Bool). is_in_frame frame (if t then changed e s event o else s).head.place) touched
    ∙ by_test (same_end e end) refl
    ∙ λ i. lies_after frame (is_node node (sym by i) && sym changes i) event (is_in_frame frame s.head.place)
  where
    by_test : (b : Bool) → same_end e end ≡ b → is_in_frame frame (if b || false then changed e s event o else s).head.place ≡ lies_after frame
        (same_node node at && b) event (is_in_frame frame s.head.place)
    by_test true is =
        let here : is_home layout e at ≡ true = ap (λ (d : EndpointId). is_home layout d at) (same_end-is e end is) ∙ there in
        let same : node.0 ≡ at.0 = ap (λ (n : NodeId). n.0) (one_home layout once e node at home here) in
        places ∙ λ i. lies_after frame (sym (eq-eqb node.0 at.0 same) i && true) event (is_in_frame frame s.head.place)
    by_test false is = sym (no_change frame (same_node node at) false event (is_in_frame frame s.head.place) refl)

-- a page call, which finds the endpoint in no frame and leaves it in none
paged : (node at : NodeId) (e end : EndpointId) (frame : ℕ) (s : State) (event : Event) (o : Outcome) → changes_frame e event ≡ false →
    (same_end e end ≡ true → is_in_frame frame s.head.place ≡ false) → list_any (same_end e) (ends_touched event o) ≡ (same_end e end || false) →
    (is_in_frame frame s.head.place ≡ false → is_in_frame frame (changed e s event o).head.place ≡ false) →
    FrameMoves node e frame s (list_any (same_end e) (ends_touched event o)) event o
paged node at e end frame s event o changes nowhere touched stays =
    ap (λ (t : Bool). is_in_frame frame (if t then changed e s event o else s).head.place) touched
    ∙ by_test (same_end e end) refl
    ∙ sym (no_change frame (is_node node (driver_of event)) (changes_frame e event) event (is_in_frame frame s.head.place) changes)
  where
    by_test : (b : Bool) → same_end e end ≡ b → is_in_frame frame (if b || false then changed e s event o else s).head.place ≡ is_in_frame frame s.head.place
    by_test true is = stays (nowhere is) ∙ sym (nowhere is)
    by_test false is = refl

paged_out_stays : (frame : ℕ) (s : State) (o : Outcome) → is_in_frame frame s.head.place ≡ false → is_in_frame frame (paged_out s o).head.place ≡ false
paged_out_stays frame s Out.Done h = refl
paged_out_stays frame s o h = h

paged_in_stays : (frame : ℕ) (s : State) (o : Outcome) → is_in_frame frame s.head.place ≡ false → is_in_frame frame (paged_in s o).head.place ≡ false
paged_in_stays frame s Out.Done h = refl
paged_in_stays frame s o h = h

-- a move that no condition keeps from being made is made at the endpoint's home
at_home : (layout : Layout) (e : EndpointId) (node : NodeId) (rest : List (Bool × Condition)) →
    first_holding ((layout.direct, Needs.NotPacket) ∷ (not (is_home layout e node), Needs.OtherNode) ∷ rest) ≡ None →
    (is_home layout e node ≡ true) × (first_holding rest ≡ None)
at_home layout e node rest on =
    let packet = none_holds layout.direct Needs.NotPacket ((not (is_home layout e node), Needs.OtherNode) ∷ rest) on in
    let there = none_holds (not (is_home layout e node)) Needs.OtherNode rest packet.1 in
    (not-false (is_home layout e node) there.0, there.1)

frame_moves : (layout : Layout) → AreDeclaredOnce layout → (past : List Entry) (node : NodeId) (e : EndpointId) (frame : ℕ) → is_home layout e node ≡ true →
    (event : Event) (o : Outcome) → failing layout past event ≡ None →
    FrameMoves node e frame (state_of layout past e) (list_any (same_end e) (ends_touched event o)) event o
frame_moves layout once past node e frame home (Events.Load at end into) o on =
    moved layout once node at e end frame (state_of layout past e) (Events.Load at end into) o home
    (at_home layout end at
    ((not (is_on_host (state_of layout past end).head.place), Needs.NotOnHost)
    ∷ ((state_of layout past end).head.closed, Needs.Closed)
    ∷ (is_frame_held layout past at into, Needs.FrameHeld)
    ∷ []) on).0
    refl refl refl refl
frame_moves layout once past node e frame home (Events.Unload at end) o on =
    moved layout once node at e end frame (state_of layout past e) (Events.Unload at end) o home
    (at_home layout end at
    ((not (is_resident (state_of layout past end).head.place), Needs.NotResident)
    ∷ (not (state_of layout past end).head.draining, Needs.NotDraining)
    ∷ (not (length (state_of layout past end).body.in_flight == 0), Needs.InFlight)
    ∷ []) on).0
    refl refl refl refl
frame_moves layout once past node e frame home (Events.PageOut at end) o on =
    let rest = (at_home layout end at ((not (is_on_host (state_of layout past end).head.place), Needs.NotOnHost) ∷ (
      (state_of layout past end).head.closed,
      Needs.Closed,
    ) ∷ []) on).1 in
    let host = not-false (is_on_host (state_of layout past end).head.place) (none_holds (not (is_on_host (state_of layout past end).head.place)) Needs.NotOnHost
    (((state_of layout past end).head.closed, Needs.Closed) ∷ []) rest).0 in
    paged node at e end frame (state_of layout past e) (Events.PageOut at end) o refl
    (λ is. ap (λ (d : EndpointId). is_in_frame frame (state_of layout past d).head.place) (same_end-is e end is)
    ∙ on_host_in_no_frame frame (state_of layout past end).head.place host)
    refl (paged_out_stays frame (state_of layout past e) o)
frame_moves layout once past node e frame home (Events.PageIn at end) o on =
    let rest = (at_home layout end at ((not (is_on_disk (state_of layout past end).head.place), Needs.NotOnDisk) ∷ []) on).1 in
    let disk = not-false (is_on_disk (state_of layout past end).head.place) (none_holds (not (is_on_disk (state_of layout past end).head.place)) Needs.NotOnDisk
    [] rest).0 in
    paged node at e end frame (state_of layout past e) (Events.PageIn at end) o refl
    (λ is. ap (λ (d : EndpointId). is_in_frame frame (state_of layout past d).head.place) (same_end-is e end is)
    ∙ on_disk_in_no_frame frame (state_of layout past end).head.place disk)
    refl (paged_in_stays frame (state_of layout past e) o)
frame_moves layout once past node e frame home event o on =
    same_place e frame (state_of layout past e) (list_any (same_end e) (ends_touched event o)) event o refl
    ∙ sym (no_change frame (is_node node (driver_of event)) (changes_frame e event) event (is_in_frame frame (state_of layout past e).head.place) refl)

-- ---- every history

-- each endpoint lies in the frame that its home's driver loaded it into
abbrev pub LiesAsLoaded : Layout → List Entry → Type 0
LiesAsLoaded layout past = (node : NodeId) (e : EndpointId) (frame : ℕ) → is_home layout e node ≡ true →
    is_in_frame frame (state_of layout past e).head.place ≡ lies_in (filter (is_by_driver node) past) frame e

opening_nowhere : (layout : Layout) (e : EndpointId) (frame : ℕ) → is_in_frame frame (opening layout e).head.place ≡ false
opening_nowhere layout e frame = by_setting (find (has_id e) layout.ends)
  where
    by_place : (direct disk : Bool) → is_in_frame frame (opening_place direct disk) ≡ false
    by_place true disk = refl
    by_place false true = refl
    by_place false false = refl

    by_setting : (s : Option EndSetting) → is_in_frame frame (opening_by layout s).head.place ≡ false
    by_setting None = refl
    by_setting (Some s) = by_place layout.direct s.disk

lies_more : (layout : Layout) → AreDeclaredOnce layout → (past : List Entry) (x : Entry) → LiesAsLoaded layout past → MayFollow layout past x →
    LiesAsLoaded layout (past ++ x ∷ [])
lies_more layout once past x kept may =
    λ node e frame home.
    ap (λ (s : State). is_in_frame frame s.head.place) (state_of_push layout past x e (touches e x) refl)
    ∙ frame_moves layout once past node e frame home x.event x.outcome may.enabled
    ∙ ap (lies_after frame (is_by_driver node x && changes_frame e x.event) x.event) (kept node e frame home)
    ∙ sym (lies_push node past x frame e)

pub lies_as_loaded : (layout : Layout) → AreDeclaredOnce layout → (past : List Entry) → IsHistory layout past → LiesAsLoaded layout past
lies_as_loaded layout once past history =
    over_each (MayFollow layout) (LiesAsLoaded layout) (λ before x kept may. lies_more layout once before x kept may) [] past
    (λ node e frame home. opening_nowhere layout e frame) history

held_among : (layout : Layout) (past : List Entry) (node : NodeId) (frame : ℕ) → LiesAsLoaded layout past → (ss : List EndSetting) →
    AllAre (IsAmong layout.ends) ss → list_any (λ (s : EndSetting). same_node node s.node && is_in_frame frame (state_of layout past s.id).head.place) ss ≡
    list_any (λ (s : EndSetting). same_node node s.node && lies_in (filter (is_by_driver node) past) frame s.id) ss
held_among layout past node frame kept [] all = refl
held_among layout past node frame kept (s ∷ ss) all = λ i. here (same_node node s.node) refl i || held_among layout past node frame kept ss all.1 i
  where
    here : (b : Bool) → same_node node s.node ≡ b → (b && is_in_frame frame (state_of layout past s.id).head.place) ≡
        (b && lies_in (filter (is_by_driver node) past) frame s.id)
    here true is = kept node s.id frame (ap (λ (n : NodeId). is_home layout s.id n) (same_node-is node s.node is) ∙ all.0)
    here false is = refl

-- a frame of a node is held where one of its endpoints lies in it
pub held_same : (layout : Layout) → AreDeclaredOnce layout → (past : List Entry) → IsHistory layout past → (node : NodeId) (frame : ℕ) →
    is_frame_held layout past node frame ≡ list_any (lies_in (filter (is_by_driver node) past) frame) (ends_of layout node)
held_same layout once past history node frame =
    held_among layout past node frame (lies_as_loaded layout once past history) layout.ends (all_among layout.ends)
    ∙ sym (any_mapped (λ (s : EndSetting). s.id) (λ (s : EndSetting). same_node node s.node) (lies_in (filter (is_by_driver node) past) frame) layout.ends)
