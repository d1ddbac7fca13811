-- What is read of the endpoints and channels of a cluster is what its journal says.
use Rattle.std.specs.Prelude.{slice_get, option_map, not, ◌==◌, is_some, count_by, if◌then◌else◌}
use Rattle.std.specs.List.{list_all, list_any, find}
use Rattle.std.proofs.Common.{◌≡◌, ℕ, zero, suc, ◌+◌, Bool, true, false, cond, ◌&&◌, ◌||◌, List, [], ◌∷◌, map, take, length, Option, Some, None, refl, sym, ap}
use Rattle.std.proofs.Common.{◌∙◌, subst, arith, eqb-true}
use Rattle.std.proofs.lemmas.Bool.{and_parts, or_parts}
use Rattle.am_lemmas.proofs.Lists.{slice_get-map_Some, find_passes}
use Rattle.am_names.specs.declared.EndpointId.{EndpointId}
use Rattle.am_names.specs.declared.NodeId.{NodeId}
use Rattle.am_names.specs.declared.Message.{Message}
use Rattle.am_names.specs.Names.{is_request, same_node}
use Rattle.am_office_entries.specs.declared.Entry.{Entry}
use Rattle.am_office_entries.specs.declared.Place.{Place}
use Rattle.am_office_entries.specs.declared.Place.TheVariants.{Host, Disk, Frame, Direct}
use Rattle.am_model.specs.declared.Head.{Head}
use Rattle.am_model.specs.declared.Queued.{Queued}
use Rattle.am_model.specs.Changes.{has_arrivals, has_queued}
use Rattle.am_model.specs.Channels.{bound_message}
use Rattle.am_model.specs.Endpoint.{Body, State, front, front_of, is_on_disk}
use Rattle.am_model.specs.History.{IsHistory, channel_to, is_bound, is_in_frame, state_of, holds_frame}
use Rattle.am_model.specs.Layout.{EndSetting, IsLawful, Layout, declared, has_id, home, home_by}
use Rattle.am_channel.specs.declared.sending.Bound.{Bound}
use Rattle.am_model_parts.specs.Interface.{channel_in}
use Rattle.am_model_parts.proofs.Parts.{bound_own}
use Rattle.am_endpoint.specs.View.{EndpointView, state_after}
use Rattle.am_iface.specs.View.{InterfaceView, own}
use Rattle.am_iface.proofs.Frees.{bound_is}
use Rattle.am_driver_moves.specs.Logs.{kept}
use Rattle.am_machine.specs.Ends.{setting_in}
use Rattle.am_machine.specs.Interfaces.{IsInterface}
use Rattle.am_machine.specs.Moves.{is_in_frame_of}
use Rattle.am_machine.specs.View.{ClusterView}
use Rattle.am_machine.proofs.Placed.{IsPlaced}
use Rattle.am_scenario_types.specs.declared.parts.Network.TheVariants.{Packet}
use Rattle.am_scenario_types.specs.Lists.{ScenarioLists}
use Rattle.am_model_scripts.specs.Layout.{layout_of}
use Rattle.am_model.proofs.Alls.{all_at}
use Rattle.am_model.proofs.Names.{same_end-is}
use Rattle.am_model_scripts.specs.Standings.{Standing, is_missed, standings, standing_in}
use Rattle.am_model_scripts.proofs.Lists.{found_in, none_all, none_mapped}
use Rattle.am_model_drain.specs.Rules.{next_page_in, page_in_of}
use Rattle.am_cluster_drainer.specs.Reads.{head_of, is_seat, mail_of}
use Rattle.am_laws_runs.specs.Turns.Away.{AwayIsSettled, is_settled, is_settled_at}
use Rattle.am_laws_runs.proofs.Enabled.{IsSeatedSetting, all_seated, of_packets, seat_in_range}
use Rattle.am_laws_runs.proofs.Calls.{home_seated}

-- ---- lists

all_got : {X : Type 0} (p : X → Bool) (xs : List X) (k : ℕ) (x : X) → list_all p xs ≡ true → slice_get xs k ≡ Some x → p x ≡ true
all_got p [] k x all h = absurd (cc)
all_got p (y ∷ xs) zero x all h =
    let same : y ≡ x = cc in
    ap p (sym same) ∙ (and_parts (p y) (list_all p xs) all).0
all_got p (y ∷ xs) (suc k) x all h = all_got p xs k x (and_parts (p y) (list_all p xs) all).1 h

any_more : {X : Type 0} (p : X → Bool) (xs : List X) (k : ℕ) (x : X) (b : Bool) → slice_get xs k ≡ Some x → p x ≡ b → list_any p (take k xs) ≡ false →
    list_any p (take (suc k) xs) ≡ b
any_more p [] k x b h is before = absurd (cc)
any_more p (y ∷ xs) zero x b h is before =
    let same : y ≡ x = cc in
    or_false (p y) ∙ ap p same ∙ is
  where
    or_false : (a : Bool) → (a || false) ≡ a
    or_false true = refl
    or_false false = refl
any_more p (y ∷ xs) (suc k) x b h is before = by_test (p y) before (any_more p xs k x b h is)
  where
    by_test : (a : Bool) → (a || list_any p (take k xs)) ≡ false → (list_any p (take k xs) ≡ false → list_any p (take (suc k) xs) ≡ b) →
        (a || list_any p (take (suc k) xs)) ≡ b
    by_test true none more = absurd (cc)
    by_test false none more = more none

any_later : {X : Type 0} (p : X → Bool) (xs : List X) (k : ℕ) → list_any p (take k xs) ≡ true → list_any p xs ≡ true
any_later p [] zero h = absurd (cc)
any_later p [] (suc k) h = absurd (cc)
any_later p (y ∷ xs) zero h = absurd (cc)
any_later p (y ∷ xs) (suc k) h = by_test (p y) h (any_later p xs k)
  where
    by_test : (a : Bool) → (a || list_any p (take k xs)) ≡ true → (list_any p (take k xs) ≡ true → list_any p xs ≡ true) → (a || list_any p xs) ≡ true
    by_test true found more = refl
    by_test false found more = more found

-- ---- endpoints by their places

-- an endpoint of a cluster by its place, as the cluster tells it
standing_at : (layout : Layout) (past : List Entry) (k : ℕ) (one : EndpointView) → IsPlaced layout past k one →
    slice_get (standings layout past) k ≡ Some (standing_in layout past (setting_in (kept one)))
standing_at layout past k one seen = slice_get-map_Some (standing_in layout past) layout.ends k (setting_in (kept one)) seen.setting

-- what the cluster of a scenario tells of an endpoint at a place
pub seen_in : (s : ScenarioLists) (v : ClusterView) (k : ℕ) (one : EndpointView) → v.layout ≡ layout_of s →
    slice_get v.layout.ends k ≡ Some (setting_in (kept one)) → state_after one ≡ state_of v.layout v.journal one.settings.id →
    IsPlaced (layout_of s) v.journal k one
seen_in s v k one same setting state =
    subst (λ (l : Layout). IsPlaced l v.journal k one) same (record { setting = setting; state = state })

pub seat_at : (layout : Layout) (past : List Entry) (k : ℕ) (one : EndpointView) (node : NodeId) (id : EndpointId) → IsLawful layout →
    IsPlaced layout past k one → node ≡ one.settings.node → id ≡ one.settings.id → is_seat layout node id ≡ true
seat_at layout past k one node id ok seen at of =
    (λ i. is_seat layout (at i) (of i))
    ∙ seat_in_range layout one.settings.id one.settings.node (all_at (IsSeatedSetting layout) layout.ends k (setting_in (kept one)) (all_seated layout ok)
    seen.setting)

pub head_read : (layout : Layout) (past : List Entry) (k : ℕ) (one : EndpointView) (id : EndpointId) (node : NodeId) (h : Head) → IsPlaced layout past k one →
    id ≡ one.settings.id → node ≡ one.settings.node → h ≡ (state_after one).head →
    slice_get (map head_of (standings layout past)) k ≡ Some (record { id = id; node = node; head = h })
head_read layout past k one id node h seen of at is =
    slice_get-map_Some head_of (standings layout past) k (standing_in layout past (setting_in (kept one))) (standing_at layout past k one seen)
    ∙ sym same
  where
    heads : h ≡ (state_of layout past one.settings.id).head
    heads = is ∙ ap (λ (s : State). s.head) seen.state

    same : Some (record { id = id; node = node; head = h }) ≡ Some (head_of (standing_in layout past (setting_in (kept one))))
    same = λ i. Some (record { id = of i; node = at i; head = heads i })

-- ---- what is on disk holds nothing, while no wanted endpoint is there

pub record HoldsNothing (b : Body) : Type 0 where
  pub requests : b.requests ≡ []
  pub replies : b.replies ≡ []
  pub queued : (length b.replies == 0) ≡ true
  pub arrivals : has_arrivals b ≡ false
  pub received : b.received ≡ []

long : {X : Type 0} (x : X) (xs : List X) → (length (x ∷ xs) == 0) ≡ false
long x xs = by_test (length (x ∷ xs) == 0) refl
  where
    by_test : (b : Bool) → (length (x ∷ xs) == 0) ≡ b → b ≡ false
    by_test true is = absurd (let none = eqb-true (length (x ∷ xs)) 0 is in omega (arith, none))
    by_test false is = refl

none_held : {X : Type 0} (xs : List X) → not (length xs == 0) ≡ false → xs ≡ []
none_held [] h = refl
none_held (x ∷ xs) h = absurd (let both : true ≡ false = ap not (sym (long x xs)) ∙ h in cc)

not_true : (a : Bool) → not a ≡ true → a ≡ false
not_true true h = absurd (cc)
not_true false h = refl

quiet : (b : Body) → has_queued b ≡ false → has_arrivals b ≡ false → HoldsNothing b
quiet b q a =
    let queued = or_parts (not (length b.requests == 0)) (not (length b.replies == 0)) q in
    let arrived = or_parts (not (length b.notices == 0)) (not (length b.received == 0)) a in
    let replies : b.replies ≡ [] = none_held b.replies queued.1 in
    record {
      requests = none_held b.requests queued.0;
      replies = replies;
      queued = ap (λ (xs : List Queued). length xs == 0) replies;
      arrivals = a;
      received = none_held b.received arrived.1;
    }

abbrev pub IsQuietOnDisk : State → Type 0
IsQuietOnDisk s = is_on_disk s.head.place ≡ true → HoldsNothing s.body

settled_on_disk : (s : State) → is_settled s ≡ true → s.head.wanted ≡ false → IsQuietOnDisk s
settled_on_disk s settled wanted = by_place s.head.place settled
  where
    by_place : (place : Place) → is_settled_at place s.head.wanted s.body ≡ true → is_on_disk place ≡ true → HoldsNothing s.body
    by_place Disk h at =
        let both = and_parts (length s.body.in_flight == 0) (s.head.wanted || (not (has_queued s.body) && not (has_arrivals s.body))) h in
        let rest : (not (has_queued s.body) && not (has_arrivals s.body)) ≡ true =
        ap (λ (w : Bool). w || (not (has_queued s.body) && not (has_arrivals s.body))) (sym wanted) ∙ both.1 in
        let none = and_parts (not (has_queued s.body)) (not (has_arrivals s.body)) rest in
        quiet s.body (not_true (has_queued s.body) none.0) (not_true (has_arrivals s.body) none.1)
    by_place Host h at = absurd (cc)
    by_place (Frame frame) h at = absurd (cc)
    by_place Direct h at = absurd (cc)

-- an endpoint that is on disk isn't wanted where none is missed, and so holds nothing
quiet_where : (s : State) → is_settled s ≡ true → not (s.head.wanted && is_on_disk s.head.place) ≡ true → IsQuietOnDisk s
quiet_where s settled missed at = settled_on_disk s settled (by_test s.head.wanted missed) at
  where
    by_test : (w : Bool) → not (w && is_on_disk s.head.place) ≡ true → w ≡ false
    by_test false h = refl
    by_test true h = absurd (let both : false ≡ true = sym (ap not at) ∙ h in cc)

pub quiet_at : (layout : Layout) (past : List Entry) (k : ℕ) (one : EndpointView) → AwayIsSettled → layout.direct ≡ false → IsHistory layout past →
    next_page_in (standings layout past) ≡ None → IsPlaced layout past k one → IsQuietOnDisk (state_of layout past one.settings.id)
quiet_at layout past k one away packet history none seen =
    quiet_where (state_of layout past one.settings.id) (away layout past packet history one.settings.id)
    (all_got (λ (s : Standing). not (is_missed s)) (standings layout past) k (standing_in layout past (setting_in (kept one)))
    (none_all is_missed (standings layout past) (none_mapped page_in_of (find is_missed (standings layout past)) none))
    (standing_at layout past k one seen))

front_read : (s : State) (b : Bool) → (b ≡ true → HoldsNothing s.body) → (if b then None else front s) ≡ front s
front_read s false h = refl
front_read s true h =
    let empty = h refl in
    sym (λ i. front_of (empty.replies i) (empty.requests i))

pub reply_read : (s : State) (b : Bool) → (b ≡ true → HoldsNothing s.body) →
    (if b then false else not (length s.body.replies == 0)) ≡ not (length s.body.replies == 0)
reply_read s false h = refl
reply_read s true h = sym (ap not (h refl).queued)

pub arrivals_read : (s : State) (b : Bool) → (b ≡ true → HoldsNothing s.body) → (if b then false else has_arrivals s.body) ≡ has_arrivals s.body
arrivals_read s false h = refl
arrivals_read s true h = sym (h refl).arrivals

requests_read : (s : State) (b : Bool) → (b ≡ true → HoldsNothing s.body) →
    (if b then 0 else count_by is_request s.body.received) ≡ count_by is_request s.body.received
requests_read s false h = refl
requests_read s true h = sym (ap (λ (xs : List Message). count_by is_request xs) (h refl).received)

pub record ReadsMail (one : EndpointView) (front' : Option Queued) (reply arrivals : Bool) : Type 0 where
  pub front_is : front' ≡ (if is_on_disk (state_after one).head.place then None else front (state_after one))
  pub reply_is : reply ≡ (if is_on_disk (state_after one).head.place then false else not (length (state_after one).body.replies == 0))
  pub arrivals_is : arrivals ≡ (if is_on_disk (state_after one).head.place then false else has_arrivals (state_after one).body)

pub mail_read : (layout : Layout) (past : List Entry) (k : ℕ) (one : EndpointView) (id : EndpointId) (node : NodeId) (f : Option Queued) (r a : Bool) →
    IsPlaced layout past k one → IsQuietOnDisk (state_of layout past one.settings.id) → id ≡ one.settings.id → node ≡ one.settings.node → ReadsMail one f r a →
    slice_get (map mail_of (standings layout past)) k ≡ Some (record { id = id; node = node; front = f; has_reply = r; has_arrivals = a })
mail_read layout past k one id node f r a seen still of at read =
    slice_get-map_Some mail_of (standings layout past) k (standing_in layout past (setting_in (kept one))) (standing_at layout past k one seen)
    ∙ sym same
  where
    s : State
    s = state_of layout past one.settings.id

    fronts : f ≡ front s
    fronts = read.front_is ∙ ap (λ (t : State). if is_on_disk t.head.place then None else front t) seen.state ∙ front_read s (is_on_disk s.head.place) still

    replies : r ≡ not (length s.body.replies == 0)
    replies = read.reply_is ∙ ap (λ (t : State). if is_on_disk t.head.place then false else not (length t.body.replies == 0)) seen.state
        ∙ reply_read s (is_on_disk s.head.place) still

    arrived : a ≡ has_arrivals s.body
    arrived = read.arrivals_is ∙ ap (λ (t : State). if is_on_disk t.head.place then false else has_arrivals t.body) seen.state
        ∙ arrivals_read s (is_on_disk s.head.place) still

    same : Some (record { id = id; node = node; front = f; has_reply = r; has_arrivals = a }) ≡ Some (mail_of (standing_in layout past (setting_in (kept one))))
    same = λ i. Some (record { id = of i; node = at i; front = fronts i; has_reply = replies i; has_arrivals = arrived i })

-- ---- an endpoint by its number

found_at : (e : EndpointId) (xs : List EndSetting) → list_any (has_id e) xs ≡ true → (s : EndSetting) × (find (has_id e) xs ≡ Some s)
found_at e [] h = absurd (cc)
found_at e (x ∷ xs) h = by_test (has_id e x) h (found_at e xs)
  where
    by_test : (b : Bool) → (b || list_any (has_id e) xs) ≡ true → (list_any (has_id e) xs ≡ true → (s : EndSetting) × (find (has_id e) xs ≡ Some s)) →
        (s : EndSetting) × (cond b (Some x) (find (has_id e) xs) ≡ Some s)
    by_test true k later = (x, refl)
    by_test false k later = later k

unfound : (e : EndpointId) (xs : List EndSetting) → list_any (has_id e) xs ≡ false → find (has_id e) xs ≡ None
unfound e [] h = refl
unfound e (x ∷ xs) h = by_test (has_id e x) h (unfound e xs)
  where
    by_test : (b : Bool) → (b || list_any (has_id e) xs) ≡ false → (list_any (has_id e) xs ≡ false → find (has_id e) xs ≡ None) →
        cond b (Some x) (find (has_id e) xs) ≡ None
    by_test true k later = absurd (cc)
    by_test false k later = later k

all_mapped : {X Y : Type 0} (f : X → Y) (p : Y → Bool) (xs : List X) → list_all (λ x. p (f x)) xs ≡ list_all p (map f xs)
all_mapped f p [] = refl
all_mapped f p (x ∷ xs) = ap (λ (b : Bool). p (f x) && b) (all_mapped f p xs)

-- an endpoint that is declared holds nothing on disk, where none is missed
pub quiet_of : (layout : Layout) (past : List Entry) (e : EndpointId) → AwayIsSettled → layout.direct ≡ false → IsHistory layout past →
    next_page_in (standings layout past) ≡ None → declared layout e ≡ true → IsQuietOnDisk (state_of layout past e)
quiet_of layout past e away packet history none known =
    let found = found_at e layout.ends known in
    let own : e ≡ found.0.id = same_end-is e found.0.id (find_passes (has_id e) layout.ends found.0 found.1) in
    let all = none_all is_missed (standings layout past) (none_mapped page_in_of (find is_missed (standings layout past)) none) in
    let free = found_in (has_id e) (λ (s : EndSetting). not (is_missed (standing_in layout past s))) layout.ends found.0 found.1
    (all_mapped (standing_in layout past) (λ (s : Standing). not (is_missed s)) layout.ends ∙ all) in
    quiet_where (state_of layout past e) (away layout past packet history e)
    (subst (λ (d : EndpointId). not ((state_of layout past d).head.wanted && is_on_disk (state_of layout past d).head.place) ≡ true) (sym own) free)

pub requests_at : (s : ScenarioLists) (v : ClusterView) (e : EndpointId) (one : EndpointView) (n : ℕ) → AwayIsSettled → s.network ≡ Packet →
    IsHistory v.layout v.journal → v.layout ≡ layout_of s → next_page_in (standings (layout_of s) v.journal) ≡ None → declared (layout_of s) e ≡ true →
    state_after one ≡ state_of v.layout v.journal e → n ≡ (if is_on_disk (state_after one).head.place then 0 else count_by is_request
    (state_after one).body.received) → n ≡ count_by is_request (state_of (layout_of s) v.journal e).body.received
requests_at s v e one n away packet history same none known state is =
    is
    ∙ ap (λ (t : State). if is_on_disk t.head.place then 0 else count_by is_request t.body.received) (state ∙ ap (λ (l : Layout). state_of l v.journal e) same)
    ∙ requests_read (state_of (layout_of s) v.journal e) (is_on_disk (state_of (layout_of s) v.journal e).head.place)
    (quiet_of (layout_of s) v.journal e away (of_packets s packet) (subst (λ (l : Layout). IsHistory l v.journal) same history) none known)

pub no_home : (layout : Layout) (e : EndpointId) → declared layout e ≡ false → None ≡ home layout e
no_home layout e h = sym (ap home_by (unfound e layout.ends h))

pub home_seat : (layout : Layout) (e : EndpointId) (node : NodeId) → IsLawful layout → home layout e ≡ Some node → is_seat layout node e ≡ true
home_seat layout e node ok h = seat_in_range layout e node (home_seated layout e node ok h)

-- ---- channels

pub bound_read : (layout : Layout) (past : List Entry) (node peer : NodeId) (channel : ℕ) (i : InterfaceView) (b : Option Bound) →
    IsInterface layout past node i → option_map (λ (x : Bound). x.message) b ≡ bound_message (channel_in (own i) peer channel) i.log →
    is_some b ≡ is_bound (channel_to node peer channel) past
bound_read layout past node peer channel i b one is =
    sym (bound_is (channel_in (own i) peer channel) i.log b is)
    ∙ (λ k. is_some (bound_message (channel_to (one.is_node k) peer channel) (one.part k)))
    ∙ ap (λ (m : Option Message). is_some m) (bound_own (channel_to node peer channel) past)

-- ---- frames

pub lies_read : (layout : Layout) (past : List Entry) (node : NodeId) (frame k : ℕ) (one : EndpointView) → IsPlaced layout past k one →
    holds_frame layout past node frame (setting_in (kept one)) ≡ is_in_frame_of node frame one
lies_read layout past node frame k one seen = ap (λ (s : State). same_node node one.settings.node && is_in_frame frame s.head.place) (sym seen.state)

pub held_more : (layout : Layout) (past : List Entry) (node : NodeId) (frame k : ℕ) (one : EndpointView) (b : Bool) → IsPlaced layout past k one →
    b ≡ is_in_frame_of node frame one → list_any (holds_frame layout past node frame) (take k layout.ends) ≡ false →
    list_any (holds_frame layout past node frame) (take (k + 1) layout.ends) ≡ b
held_more layout past node frame k one b seen is before =
    let next : suc k ≡ k + 1 = omega arith in
    subst (λ (n : ℕ). list_any (holds_frame layout past node frame) (take n layout.ends) ≡ b) next
    (any_more (holds_frame layout past node frame) layout.ends k (setting_in (kept one)) b seen.setting (lies_read layout past node frame k one seen
    ∙ sym is) before)

pub held_found : (layout : Layout) (past : List Entry) (node : NodeId) (frame k : ℕ) →
    list_any (holds_frame layout past node frame) (take k layout.ends) ≡ true → list_any (holds_frame layout past node frame) layout.ends ≡ true
held_found layout past node frame k h = any_later (holds_frame layout past node frame) layout.ends k h
