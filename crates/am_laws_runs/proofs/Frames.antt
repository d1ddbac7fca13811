-- No two endpoints of a node lie in one frame.
use Rattle.std.proofs.Common.{◌≡◌, ℕ, ◌<◌, Bool, true, false, cond, ◌||◌, List, [], ◌∷◌, ◌++◌, Option, Some, None, refl, sym, ap, ◌∙◌, arith, true≢false}
use Rattle.std.proofs.Common.{eqb-true, ltb-true, if◌then◌else◌}
use Rattle.std.specs.Prelude.{◌&&◌, not, nat_lt}
use Rattle.std.specs.List.{list_any, find}
use Rattle.std.proofs.lemmas.Bool.{and_from, and_parts, or_parts, or_left, or_right}
use Rattle.am_names.specs.declared.EndpointId.{EndpointId}
use Rattle.am_names.specs.declared.NodeId.{NodeId}
use Rattle.am_names.specs.declared.Cause.TheVariants.{NotResident}
use Rattle.am_names.specs.Names.{same_end, same_node}
use Rattle.am_office_entries.specs.declared.Call.{Call}
use Rattle.am_office_entries.specs.declared.Call.TheVariants as Calls
use Rattle.am_office_entries.specs.declared.Condition.TheVariants as Needs
use Rattle.am_office_entries.specs.declared.Event.{Event}
use Rattle.am_office_entries.specs.declared.Event.TheVariants as Events
use Rattle.am_office_entries.specs.declared.Outcome.{Outcome}
use Rattle.am_office_entries.specs.declared.Outcome.TheVariants as Out
use Rattle.am_office_entries.specs.declared.Received.{Received}
use Rattle.am_office_entries.specs.declared.Received.TheVariants as Got
use Rattle.am_office_entries.specs.declared.Entry.{Entry}
use Rattle.am_office_entries.specs.Entries.{touches, ends_touched}
use Rattle.am_model.specs.Endpoint.{State, is_on_host}
use Rattle.am_model.specs.Changes.{called, left, reached, received, expired, bound, paged_out, paged_in, put, changed}
use Rattle.am_model.specs.Layout.{Layout, EndSetting, AreApart, IsLawful, has_id, declared, opening_by, opening_place}
use Rattle.am_model.specs.History.{MayFollow, state_of, failing, is_in_range, holds_frame, is_home, is_home_by, is_in_frame, is_frame_held}
use Rattle.am_model.proofs.Each.{over_each, state_of_push}
use Rattle.am_model.proofs.Names.{same_end-refl, same_end-is, same_node-is}
use Rattle.am_model.proofs.Received.{one_touched}
use Rattle.am_laws_runs.specs.Turns.Frames.{AreApartInFrames, FramesAreApart, UsesItsFrames, FramesAreUsed}

-- ---- an event that is no load brings no endpoint into a frame

abbrev in_frame_at : ℕ → State → Bool
in_frame_at frame s = is_in_frame frame s.head.place

if_before : (frame : ℕ) (b : Bool) (s t : State) → (in_frame_at frame t ≡ true → in_frame_at frame s ≡ true) → in_frame_at frame (if b then t else s) ≡ true →
    in_frame_at frame s ≡ true
if_before frame true s t step h = step h
if_before frame false s t step h = h

called_before : (frame : ℕ) (s : State) (c : Call) (o : Outcome) → in_frame_at frame (called s c o) ≡ true → in_frame_at frame s ≡ true
called_before frame s (Calls.Request index handler words) (Out.Requested m) h = h
called_before frame s Calls.Poll (Out.Zero serial why) h = h
called_before frame s Calls.Poll (Out.Ran handler m None) h = h
called_before frame s Calls.Poll (Out.Ran handler m (Some reply)) h = h
called_before frame s (Calls.SetTag tag) Out.Done h = h
called_before frame s (Calls.Map index name tag credits) Out.Done h = h
called_before frame s (Calls.Unmap index) Out.Done h = h
called_before frame s (Calls.SetHandler index kind) Out.Done h = h
called_before frame s (Calls.GiveUp serial) Out.Done h = h
called_before frame s Calls.Close Out.Done h = h
called_before frame s c o h = h

left_before : (frame : ℕ) (s : State) (o : Outcome) → in_frame_at frame (left s o) ≡ true → in_frame_at frame s ≡ true
left_before frame s (Out.Accepted m) h = h
left_before frame s (Out.Requeued m cause bounces) h = h
left_before frame s (Out.Returned m cause) h = h
left_before frame s o h = h

reached_before : (frame : ℕ) (e : EndpointId) (s : State) (o : Outcome) → in_frame_at frame (reached e s o) ≡ true → in_frame_at frame s ≡ true
reached_before frame e s (Out.Accepted m) h = if_before frame (same_end e m.dest) s (put m s) (λ i. i) h
reached_before frame e s o h = h

received_before : (frame : ℕ) (e : EndpointId) (s : State) (r : Received) → in_frame_at frame (received e s r) ≡ true → in_frame_at frame s ≡ true
received_before frame e s (Got.Accepted m answer) h = h
received_before frame e s (Got.Refused m NotResident answer) h = h
received_before frame e s (Got.Delivered serial) h = h
received_before frame e s (Got.Requeued serial cause bounces) h = h
received_before frame e s (Got.Returned serial cause) h = h
received_before frame e s r h = h

expired_before : (frame : ℕ) (s : State) (o : Outcome) → in_frame_at frame (expired s o) ≡ true → in_frame_at frame s ≡ true
expired_before frame s (Out.Delivered serial) h = h
expired_before frame s (Out.Unknown serial) h = h
expired_before frame s o h = h

bound_before : (frame : ℕ) (s : State) (o : Outcome) → in_frame_at frame (bound s o) ≡ true → in_frame_at frame s ≡ true
bound_before frame s (Out.Sent m peer channel seq attempt number) h = h
bound_before frame s o h = h

out_before : (frame : ℕ) (s : State) (o : Outcome) → in_frame_at frame (paged_out s o) ≡ true → in_frame_at frame s ≡ true
out_before frame s Out.Done h = absurd (true≢false (sym h))
out_before frame s o h = h

in_before : (frame : ℕ) (s : State) (o : Outcome) → in_frame_at frame (paged_in s o) ≡ true → in_frame_at frame s ≡ true
in_before frame s Out.Done h = absurd (true≢false (sym h))
in_before frame s o h = h

abbrev is_load_of : EndpointId → ℕ → Event → Type 0
is_load_of e frame (Events.Load node end into) = (end ≡ e) × (frame ≡ into)
is_load_of e frame event = ⊥

-- an endpoint in a frame was there before its entry, or was loaded
changed_before : (frame : ℕ) (e : EndpointId) (s : State) (event : Event) (o : Outcome) → list_any (same_end e) (ends_touched event o) ≡ true →
    in_frame_at frame (changed e s event o) ≡ true → (in_frame_at frame s ≡ false → is_load_of e frame event)
changed_before frame e s (Events.Call actor end call) o t h away = absurd (true≢false (sym (called_before frame s call o h) ∙ away))
changed_before frame e s (Events.Want actor end) o t h away = absurd (true≢false (sym h ∙ away))
changed_before frame e s (Events.Carry end) o t h away =
    absurd (true≢false (sym (if_before frame (same_end e end) s (left s o) (left_before frame s o)
    (reached_before frame e (if same_end e end then left s o else s) o h)) ∙ away))
changed_before frame e s (Events.Bind node end) o t h away = absurd (true≢false (sym (bound_before frame s o h) ∙ away))
changed_before frame e s (Events.Expire node peer channel) o t h away = absurd (true≢false (sym (expired_before frame s o h) ∙ away))
changed_before frame e s (Events.Receive node peer number) (Out.Received channel seq attempt r) t h away =
    absurd (true≢false (sym (received_before frame e s r h) ∙ away))
changed_before frame e s (Events.Receive node peer number) o t h away = absurd (true≢false (sym h ∙ away))
changed_before frame e s (Events.Drain node end) o t h away = absurd (true≢false (sym h ∙ away))
changed_before frame e s (Events.Unload node end) o t h away = absurd (true≢false (sym h))
changed_before frame e s (Events.Load node end into) o t h away = (sym (same_end-is e end (one_touched (same_end e end) t)), eqb-true frame into h)
changed_before frame e s (Events.PageOut node end) o t h away = absurd (true≢false (sym (out_before frame s o h) ∙ away))
changed_before frame e s (Events.PageIn node end) o t h away = absurd (true≢false (sym (in_before frame s o h) ∙ away))

-- ---- homes

either : (P : Type 0) (a b : Bool) → (a || b) ≡ true → (a ≡ true → P) → (b ≡ true → P) → P
either P true b h first second = first refl
either P false b h first second = second h

-- no other setting has this number
no_other : (e : EndpointId) (node : NodeId) (x : EndSetting) (xs : List EndSetting) → same_end e x.id ≡ true →
    list_any (λ (s : EndSetting). same_end x.id s.id) xs ≡ false → list_any (is_home_by e node) xs ≡ true → ⊥
no_other e node x [] own none h = true≢false (sym h)
no_other e node x (y ∷ ys) own none h =
    either ⊥ (is_home_by e node y) (list_any (is_home_by e node) ys) h
    (λ (here : is_home_by e node y ≡ true).
    let both = and_parts (same_end e y.id) (same_node node y.node) here in
    let same : same_end x.id y.id ≡ true = ap (λ (i : EndpointId). same_end i y.id) (sym (same_end-is e x.id own)) ∙ both.0 in
    true≢false (sym same ∙ (or_parts (same_end x.id y.id) (list_any (λ (s : EndSetting). same_end x.id s.id) ys) none).0))
    (λ (later : list_any (is_home_by e node) ys ≡ true). no_other e node x ys own (or_parts (same_end x.id y.id)
    (list_any (λ (s : EndSetting). same_end x.id s.id) ys) none).1 later)

-- an endpoint has one node
one_home : (e : EndpointId) (n m : NodeId) (xs : List EndSetting) → AreApart (λ (s t : EndSetting). same_end s.id t.id) xs →
    list_any (is_home_by e n) xs ≡ true → list_any (is_home_by e m) xs ≡ true → n ≡ m
one_home e n m [] apart h k = absurd (true≢false (sym h))
one_home e n m (x ∷ xs) apart h k =
    either (n ≡ m) (is_home_by e n x) (list_any (is_home_by e n) xs) h
    (λ (here : is_home_by e n x ≡ true).
    let one = and_parts (same_end e x.id) (same_node n x.node) here in
    either (n ≡ m) (is_home_by e m x) (list_any (is_home_by e m) xs) k
    (λ (there : is_home_by e m x ≡ true). same_node-is n x.node one.1 ∙ sym (same_node-is m x.node (and_parts (same_end e x.id) (same_node m x.node) there).1))
    (λ (later : list_any (is_home_by e m) xs ≡ true). absurd (no_other e m x xs one.0 apart.0 later)))
    (λ (later : list_any (is_home_by e n) xs ≡ true).
    either (n ≡ m) (is_home_by e m x) (list_any (is_home_by e m) xs) k
    (λ (there : is_home_by e m x ≡ true). absurd (no_other e n x xs (and_parts (same_end e x.id) (same_node m x.node) there).0 apart.0 later))
    (λ (last : list_any (is_home_by e m) xs ≡ true). one_home e n m xs apart.1 later last))

-- an endpoint of the node that lies in a frame holds it
holds_it : (layout : Layout) (past : List Entry) (f : EndpointId) (node : NodeId) (frame : ℕ) (xs : List EndSetting) → list_any (is_home_by f node) xs ≡ true →
    is_in_frame frame (state_of layout past f).head.place ≡ true → list_any (holds_frame layout past node frame) xs ≡ true
holds_it layout past f node frame [] h lies = absurd (true≢false (sym h))
holds_it layout past f node frame (x ∷ xs) h lies =
    either (list_any (holds_frame layout past node frame) (x ∷ xs) ≡ true) (is_home_by f node x) (list_any (is_home_by f node) xs) h
    (λ (here : is_home_by f node x ≡ true).
    let both = and_parts (same_end f x.id) (same_node node x.node) here in
    let at : is_in_frame frame (state_of layout past x.id).head.place ≡ true =
    ap (λ (i : EndpointId). is_in_frame frame (state_of layout past i).head.place) (sym (same_end-is f x.id both.0)) ∙ lies in
    or_left (holds_frame layout past node frame x) (list_any (holds_frame layout past node frame) xs)
    (and_from (same_node node x.node) (is_in_frame frame (state_of layout past x.id).head.place) both.1 at))
    (λ (later : list_any (is_home_by f node) xs ≡ true). or_right (holds_frame layout past node frame x) (list_any (holds_frame layout past node frame) xs)
    (holds_it layout past f node frame xs later lies))

-- ---- apart in frames

fifth_none : (a b c d g : Bool) → cond a (Some Needs.NotPacket) (cond b (Some Needs.OtherNode)
    (cond c (Some Needs.NotOnHost) (cond d (Some Needs.Closed) (cond g (Some Needs.FrameHeld) None)))) ≡ None → (not b ≡ true) × (g ≡ false)
fifth_none true b c d g h = absurd (cc)
fifth_none false true c d g h = absurd (cc)
fifth_none false false true d g h = absurd (cc)
fifth_none false false false true g h = absurd (cc)
fifth_none false false false false true h = absurd (cc)
fifth_none false false false false false h = (refl, refl)

-- what is loaded is alone in its frame
loaded_alone : (layout : Layout) (past : List Entry) (e f : EndpointId) (node : NodeId) (frame : ℕ) (event : Event) → IsLawful layout →
    failing layout past event ≡ None → is_load_of e frame event → is_home layout e node ≡ true → is_home layout f node ≡ true →
    is_in_frame frame (state_of layout past f).head.place ≡ true → ⊥
loaded_alone layout past e f node frame (Events.Load on end into) ok may (own, same) he hf lies =
    let free = fifth_none layout.direct (not (is_home layout end on)) (not (is_on_host (state_of layout past end).head.place))
    (state_of layout past end).head.closed (is_frame_held layout past on into) may in
    let home : is_home layout e on ≡ true = ap (λ (i : EndpointId). is_home layout i on) (sym own) ∙ (sym (twice (is_home layout end on)) ∙ free.0) in
    let at : node ≡ on = one_home e node on layout.ends ok.ids he home in
    let held : is_frame_held layout past node frame ≡ true = holds_it layout past f node frame layout.ends hf lies in
    true≢false (sym held ∙ (ap (λ (n : NodeId). is_frame_held layout past n frame) at ∙ (ap (is_frame_held layout past on) same ∙ free.1)))
  where
    twice : (b : Bool) → not (not b) ≡ b
    twice true = refl
    twice false = refl
loaded_alone layout past e f node frame event ok may load he hf lies = absurd load

-- where an endpoint lies after an entry: where it lay, or in the frame into which the entry loads it
record LayOrLoaded (layout : Layout) (past : List Entry) (x : Entry) (e : EndpointId) (frame : ℕ) : Type 0 where
  loaded : is_in_frame frame (state_of layout past e).head.place ≡ false → is_load_of e frame x.event

lay : (layout : Layout) (past : List Entry) (x : Entry) (e : EndpointId) (frame : ℕ) →
    is_in_frame frame (state_of layout (past ++ x ∷ []) e).head.place ≡ true → LayOrLoaded layout past x e frame
lay layout past x e frame h = by_touch (touches e x) refl
  where
    by_touch : (t : Bool) → touches e x ≡ t → LayOrLoaded layout past x e frame
    by_touch true at = record {
      loaded = λ away. changed_before frame e (state_of layout past e) x.event x.outcome at
          (ap (in_frame_at frame) (sym (state_of_push layout past x e true at)) ∙ h) away;
    }
    by_touch false at = record { loaded = λ away. absurd (true≢false (sym (ap (in_frame_at frame) (sym (state_of_push layout past x e false at)) ∙ h) ∙ away)) }

one_load : (layout : Layout) (e f : EndpointId) (frame other : ℕ) (event : Event) → is_load_of e frame event → is_load_of f other event → e ≡ f
one_load layout e f frame other (Events.Load node end into) (a, b) (c, d) = sym a ∙ c
one_load layout e f frame other event a b = absurd a

apart_more : (layout : Layout) (past : List Entry) (x : Entry) → IsLawful layout → AreApartInFrames layout past → MayFollow layout past x →
    AreApartInFrames layout (past ++ x ∷ [])
apart_more layout past x ok k may e f node frame he hf ie if' =
    by_before (is_in_frame frame (state_of layout past e).head.place) (is_in_frame frame (state_of layout past f).head.place) refl refl
  where
    by_before : (a b : Bool) → is_in_frame frame (state_of layout past e).head.place ≡ a → is_in_frame frame (state_of layout past f).head.place ≡ b →
        same_end e f ≡ true
    by_before true true ae af = k e f node frame he hf ae af
    by_before false true ae af = absurd (loaded_alone layout past e f node frame x.event ok may.enabled ((lay layout past x e frame ie).loaded ae) he hf af)
    by_before true false ae af = absurd (loaded_alone layout past f e node frame x.event ok may.enabled ((lay layout past x f frame if').loaded af) hf he ae)
    by_before false false ae af =
        let same : e ≡ f = one_load layout e f frame frame x.event ((lay layout past x e frame ie).loaded ae) ((lay layout past x f frame if').loaded af) in
        ap (same_end e) (sym same) ∙ same_end-refl e

-- an endpoint begins in no frame
begins_in_none : (layout : Layout) (frame : ℕ) (o : Option EndSetting) → is_in_frame frame (opening_by layout o).head.place ≡ true → ⊥
begins_in_none layout frame None i = true≢false (sym i)
begins_in_none layout frame (Some s) i = by_place layout.direct s.disk i
  where
    by_place : (direct disk : Bool) → is_in_frame frame (opening_place direct disk) ≡ true → ⊥
    by_place true disk j = true≢false (sym j)
    by_place false true j = true≢false (sym j)
    by_place false false j = true≢false (sym j)

pub frames_are_apart : FramesAreApart
frames_are_apart layout past ok h =
    over_each (MayFollow layout) (λ xs. AreApartInFrames layout xs) (λ xs x k may. apart_more layout xs x ok k may) [] past
    (λ e f node frame he hf ie if'. absurd (begins_in_none layout frame (find (has_id e) layout.ends) ie)) h

-- ---- frames in use are the layout's

loaded_below : (layout : Layout) (e : EndpointId) (frame : ℕ) (event : Event) → is_in_range layout event ≡ true → is_load_of e frame event →
    frame < layout.frames
loaded_below layout e frame (Events.Load node end into) ranged (own, same) =
    let low : into < layout.frames = ltb-true into layout.frames (and_parts (declared layout end && nat_lt node.0 layout.nodes) (nat_lt into layout.frames)
    ranged).1 in
    omega (arith, low, same)
loaded_below layout e frame event ranged load = absurd load

below_more : (layout : Layout) (past : List Entry) (x : Entry) → UsesItsFrames layout past → MayFollow layout past x → UsesItsFrames layout (past ++ x ∷ [])
below_more layout past x k may e frame i = by_before (is_in_frame frame (state_of layout past e).head.place) refl
  where
    by_before : (b : Bool) → is_in_frame frame (state_of layout past e).head.place ≡ b → frame < layout.frames
    by_before true is = k e frame is
    by_before false is = loaded_below layout e frame x.event may.in_range ((lay layout past x e frame i).loaded is)

pub frames_are_used : FramesAreUsed
frames_are_used layout past h =
    over_each (MayFollow layout) (λ xs. UsesItsFrames layout xs) (λ xs x k may. below_more layout xs x k may) [] past
    (λ e frame i. absurd (begins_in_none layout frame (find (has_id e) layout.ends) i)) h
