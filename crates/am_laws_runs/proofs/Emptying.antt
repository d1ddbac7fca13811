-- A frame is emptied for a message: an endpoint that it isn't about leaves its frame, and then one may go to disk.
use Rattle.std.proofs.Common.{◌≡◌, ℕ, zero, suc, ◌+◌, ◌<◌, ◌≤◌, Bool, true, false, cond, ◌||◌, List, [], ◌∷◌, map, length, Option, Some, None, refl, sym, ap}
use Rattle.std.proofs.Common.{◌∙◌, subst, arith, true≢false, ltb-true, ltb-false, eqb-true, eq-eqb}
use Rattle.std.specs.Prelude.{◌&&◌, ◌==◌, not, nat_lt, is_none, find, filter}
use Rattle.std.specs.List.{list_any, list_all, range_with_len}
use Rattle.std.proofs.lemmas.Bool.{and_parts, not-false, not-true}
use Rattle.am_lemmas.proofs.Options.{cond-None}
use Rattle.am_lemmas.proofs.Lists.{find_passes}
use Rattle.am_model.proofs.PlaceKinds.{framed_is_resident}
use Rattle.am_names.specs.declared.EndpointId.{EndpointId}
use Rattle.am_names.specs.declared.NodeId.{NodeId}
use Rattle.am_names.specs.Names.{same_end, same_node}
use Rattle.am_office_entries.specs.declared.Condition.TheVariants as Needs
use Rattle.am_office_entries.specs.declared.Event.TheVariants as Events
use Rattle.am_office_entries.specs.declared.Outcome.{Outcome}
use Rattle.am_office_entries.specs.declared.Outcome.TheVariants as Out
use Rattle.am_office_entries.specs.declared.Place.{Place}
use Rattle.am_office_entries.specs.declared.Place.TheVariants.{Host, Disk, Frame, Direct}
use Rattle.am_office_entries.specs.declared.Entry.{Entry}
use Rattle.am_model.specs.Endpoint.{State, Body, is_resident, is_in_a_frame, is_on_host}
use Rattle.am_model.specs.Changes.{paged_out}
use Rattle.am_model.specs.Layout.{Layout, AllAre, IsLawful, declared}
use Rattle.am_model.specs.History.{IsHistory, state_of, is_home, is_in_frame}
use Rattle.am_model.proofs.Names.{same_end-is, same_node-is}
use Rattle.am_model_scripts.specs.Standings.{Standing, standings, standing_in}
use Rattle.am_model_scripts.proofs.Lists.{none_all}
use Rattle.am_model_drain.specs.Made.{next_entry, after_event, after_event_if}
use Rattle.am_model_drain.specs.Ready.{holds_frame, free_frame, is_neither, may_leave, unloaded, is_open_on_host, paged_out as page_out, spare_of, spare, kept}
use Rattle.am_model_drain.specs.Ready.{emptied}
use Rattle.am_laws_runs.proofs.Enabled.{event_follows, IsSeated, IsSeatedSetting, all_seated, IsStanding, is_standing, seat_in_range}
use Rattle.am_laws_runs.proofs.Frames.{frames_are_apart, frames_are_used}
use Rattle.am_laws_runs.proofs.Moves.{Keeps, keeps_same, keeps_then, after_move, move_keeps, Spares, spares_same, spares, spares_then}

-- ---- the endpoints of a message

-- one of the two endpoints that a message is about
pub data IsNamed (source dest e : EndpointId) : Type 0 where
  AsSource : e ≡ source → IsNamed source dest e
  AsDest : e ≡ dest → IsNamed source dest e

named_apart : (source dest i f : EndpointId) → (not (same_end source i) && not (same_end dest i)) ≡ true → IsNamed source dest f → same_end f i ≡ false
named_apart source dest i f h (AsSource is) =
    ap (λ (j : EndpointId). same_end j i) is ∙ not-true (same_end source i) (and_parts (not (same_end source i)) (not (same_end dest i)) h).0
named_apart source dest i f h (AsDest is) =
    ap (λ (j : EndpointId). same_end j i) is ∙ not-true (same_end dest i) (and_parts (not (same_end source i)) (not (same_end dest i)) h).1

-- a journal that goes on and leaves the endpoints of a message, and what all hold, as they were
pub record Aside (layout : Layout) (source dest : EndpointId) (past next : List Entry) : Type 0 where
  pub history : IsHistory layout next
  pub spares' : Spares layout past next
  pub named : (f : EndpointId) → IsNamed source dest f → state_of layout next f ≡ state_of layout past f

aside_then : (layout : Layout) (source dest : EndpointId) (past mid next : List Entry) → Aside layout source dest past mid → Aside layout source dest mid next →
    Aside layout source dest past next
aside_then layout source dest past mid next p q =
    record { history = q.history; spares' = spares_then layout past mid next p.spares' q.spares'; named = λ f is. q.named f is ∙ p.named f is }

-- where an endpoint moves that the message isn't about
other_aside : (layout : Layout) (source dest i : EndpointId) (past next : List Entry) → (not (same_end source i) && not (same_end dest i)) ≡ true →
    IsHistory layout next → Keeps layout i past next → Aside layout source dest past next
other_aside layout source dest i past next neither h k =
    record { history = h; spares' = spares layout i past next k; named = λ f is. k.others f (named_apart source dest i f neither is) }

-- ---- places

pub not_on_host : (frame : ℕ) (p : Place) → is_in_frame frame p ≡ true → is_on_host p ≡ true → ⊥
not_on_host frame (Frame other) h k = true≢false (sym k)
not_on_host frame Direct h k = true≢false (sym k)
not_on_host frame Host h k = true≢false (sym h)
not_on_host frame Disk h k = true≢false (sym h)

in_a_frame : (frame : ℕ) (p : Place) → is_in_frame frame p ≡ true → is_in_a_frame p ≡ true
in_a_frame frame (Frame other) h = refl
in_a_frame frame Direct h = absurd (true≢false (sym h))
in_a_frame frame Host h = absurd (true≢false (sym h))
in_a_frame frame Disk h = absurd (true≢false (sym h))

not_in_both : (p : Place) → is_in_frame 0 p ≡ true → is_in_frame 1 p ≡ true → ⊥
not_in_both (Frame other) a b =
    let one : ◌≡◌ {A = ℕ} 0 other = eqb-true 0 other a in
    let two : ◌≡◌ {A = ℕ} 1 other = eqb-true 1 other b in
    omega (arith, one, two)
not_in_both Direct a b = true≢false (sym a)
not_in_both Host a b = true≢false (sym a)
not_in_both Disk a b = true≢false (sym a)

-- the frame that an endpoint in a frame lies in
frame_of : (p : Place) → is_in_a_frame p ≡ true → (frame : ℕ) × (is_in_frame frame p ≡ true)
frame_of (Frame other) h = (other, eq-eqb other other refl)
frame_of Direct h = absurd (true≢false (sym h))
frame_of Host h = absurd (true≢false (sym h))
frame_of Disk h = absurd (true≢false (sym h))

-- ---- the least number that passes

pub found_below : (p : ℕ → Bool) (a n k : ℕ) → find p (range_with_len a n) ≡ Some k → k < a + n
found_below p a zero k h = absurd (cc)
found_below p a (suc n) k h = by_test (p a) h (found_below p (a + 1) n k)
  where
    by_test : (b : Bool) → cond b (Some a) (find p (range_with_len (a + 1) n)) ≡ Some k → (find p (range_with_len (a + 1) n) ≡ Some k → k < a + 1 + n) →
        k < a + suc n
    by_test true e later =
        let same : a ≡ k = cc in omega (arith, same)
    by_test false e later =
        let low : k < a + 1 + n = later e in omega (arith, low)

some_found : (p : ℕ → Bool) (a n k : ℕ) → p k ≡ true → a ≤ k → k < a + n → is_none (find p (range_with_len a n)) ≡ false
some_found p a zero k is low high = absurd (omega (arith, low, high))
some_found p a (suc n) k is low high = by_test (p a) refl (some_found p (a + 1) n k is)
  where
    above : (b : Bool) → nat_lt a k ≡ b → p a ≡ false → a + 1 ≤ k
    above true lt none = omega (arith, ltb-true a k lt)
    above false ge none =
        let same : k ≡ a = omega (arith, low, ltb-false a k ge) in
        absurd (true≢false (sym is ∙ (ap p same ∙ none)))

    by_test : (b : Bool) → p a ≡ b → (a + 1 ≤ k → k < a + 1 + n → is_none (find p (range_with_len (a + 1) n)) ≡ false) →
        is_none (cond b (Some a) (find p (range_with_len (a + 1) n))) ≡ false
    by_test true at later = refl
    by_test false at later = later (above (nat_lt a k) refl at) (omega (arith, high))

-- ---- any of some

any_all : {X Y : Type 0} (p q : Y → Bool) (f : X → Y) (xs : List X) → list_any p (map f xs) ≡ true → list_all q (map f xs) ≡ true →
    (x : X) × (p (f x) ≡ true) × (q (f x) ≡ true)
any_all p q f [] h all = absurd (true≢false (sym h))
any_all {X} {Y} p q f (x ∷ xs) h all =
    let parts = and_parts (q (f x)) (list_all q (map f xs)) all in
    by_test (p (f x)) refl h parts.0 (λ more. any_all p q f xs more parts.1)
  where
    by_test : (b : Bool) → p (f x) ≡ b → (b || list_any p (map f xs)) ≡ true → q (f x) ≡ true →
        (list_any p (map f xs) ≡ true → (y : X) × (p (f y) ≡ true) × (q (f y) ≡ true)) → (y : X) × (p (f y) ≡ true) × (q (f y) ≡ true)
    by_test true is k own later = (x, is, own)
    by_test false is k own later = later k

any_of : {X Y : Type 0} (P : X → Type 0) (p : Y → Bool) (f : X → Y) (xs : List X) → AllAre P xs → list_any p (map f xs) ≡ true →
    (x : X) × P x × (p (f x) ≡ true)
any_of P p f [] all h = absurd (true≢false (sym h))
any_of {X} {Y} P p f (x ∷ xs) all h = by_test (p (f x)) refl h (any_of P p f xs all.1)
  where
    by_test : (b : Bool) → p (f x) ≡ b → (b || list_any p (map f xs)) ≡ true → (list_any p (map f xs) ≡ true → (y : X) × P y × (p (f y) ≡ true)) →
        (y : X) × P y × (p (f y) ≡ true)
    by_test true is k later = (x, all.0, is)
    by_test false is k later = later k

find_filter : {X : Type 0} (p q : X → Bool) (xs : List X) → find p (filter q xs) ≡ find (λ (x : X). q x && p x) xs
find_filter p q [] = refl
find_filter {X} p q (x ∷ xs) = by_test (q x) (find_filter p q xs)
  where
    by_test : (b : Bool) → find p (filter q xs) ≡ find (λ (y : X). q y && p y) xs →
        find p (cond b (x ∷ filter q xs) (filter q xs)) ≡ cond (b && p x) (Some x) (find (λ (y : X). q y && p y) xs)
    by_test true h = ap (λ (o : Option X). cond (p x) (Some x) o) h
    by_test false h = h

-- ---- one of two frames is held by an endpoint that may leave

-- an endpoint of the message in a frame
record Holder (layout : Layout) (past : List Entry) (source dest : EndpointId) (frame : ℕ) : Type 0 where
  end : EndpointId
  lies : is_in_frame frame (state_of layout past end).head.place ≡ true
  named : IsNamed source dest end

must_be : (source dest e : EndpointId) (own framed : Bool) → own ≡ true → framed ≡ true →
    not (own && (framed && (not (same_end source e) && not (same_end dest e)))) ≡ true → IsNamed source dest e
must_be source dest e own framed o f h = by_tests own framed (same_end source e) (same_end dest e) refl refl o f h
  where
    by_tests : (a b c d : Bool) → same_end source e ≡ c → same_end dest e ≡ d → a ≡ true → b ≡ true → not (a && (b && (not c && not d))) ≡ true →
        IsNamed source dest e
    by_tests a b true d is at i j k = AsSource (sym (same_end-is source e is))
    by_tests a b false true is at i j k = AsDest (sym (same_end-is dest e at))
    by_tests true true false false is at i j k = absurd (true≢false (sym k))
    by_tests true false false false is at i j k = absurd (true≢false (sym j))
    by_tests false b false false is at i j k = absurd (true≢false (sym i))

held_by_named : (layout : Layout) (past : List Entry) (node : NodeId) (source dest : EndpointId) (frame : ℕ) →
    list_any (holds_frame node frame) (standings layout past) ≡ true → find (may_leave node source dest) (standings layout past) ≡ None →
    Holder layout past source dest frame
held_by_named layout past node source dest frame held none =
    let at = any_all (holds_frame node frame) (λ (st : Standing). not (may_leave node source dest st)) (standing_in layout past) layout.ends held
    (none_all (may_leave node source dest) (standings layout past) none) in
    let both = and_parts (same_node node at.0.node) (is_in_frame frame (state_of layout past at.0.id).head.place) at.1 in
    record {
      end = at.0.id;
      lies = both.1;
      named =
          must_be source dest at.0.id (same_node node at.0.node) (is_in_a_frame (state_of layout past at.0.id).head.place) both.0
          (in_a_frame frame (state_of layout past at.0.id).head.place both.1) at.2;
    }

lies_at : (layout : Layout) (past : List Entry) (frame : ℕ) (i j : EndpointId) → i ≡ j → is_in_frame frame (state_of layout past i).head.place ≡ true →
    is_in_frame frame (state_of layout past j).head.place ≡ true
lies_at layout past frame i j same h = subst (λ (k : EndpointId). is_in_frame frame (state_of layout past k).head.place ≡ true) same h

-- the endpoints of a message, one of them on the host, do not hold both of two frames
not_both_held : (layout : Layout) (past : List Entry) (source dest e : EndpointId) → IsNamed source dest e →
    is_on_host (state_of layout past e).head.place ≡ true → Holder layout past source dest 0 → Holder layout past source dest 1 → ⊥
not_both_held layout past source dest e is host one two = by_names is one.named two.named
  where
    by_names : IsNamed source dest e → IsNamed source dest one.end → IsNamed source dest two.end → ⊥
    by_names (AsSource a) (AsSource b) c = not_on_host 0 (state_of layout past e).head.place (lies_at layout past 0 one.end e (b ∙ sym a) one.lies) host
    by_names (AsSource a) (AsDest b) (AsSource c) = not_on_host 1 (state_of layout past e).head.place (lies_at layout past 1 two.end e (c
        ∙ sym a) two.lies) host
    by_names (AsSource a) (AsDest b) (AsDest c) = not_in_both (state_of layout past dest).head.place (lies_at layout past 0 one.end dest b one.lies)
        (lies_at layout past 1 two.end dest c two.lies)
    by_names (AsDest a) (AsDest b) c = not_on_host 0 (state_of layout past e).head.place (lies_at layout past 0 one.end e (b ∙ sym a) one.lies) host
    by_names (AsDest a) (AsSource b) (AsDest c) = not_on_host 1 (state_of layout past e).head.place (lies_at layout past 1 two.end e (c ∙ sym a) two.lies) host
    by_names (AsDest a) (AsSource b) (AsSource c) = not_in_both (state_of layout past source).head.place (lies_at layout past 0 one.end source b one.lies)
        (lies_at layout past 1 two.end source c two.lies)

is_held : (layout : Layout) (past : List Entry) (node : NodeId) (frame : ℕ) → frame < layout.frames → free_frame layout node (standings layout past) ≡ None →
    list_any (holds_frame node frame) (standings layout past) ≡ true
is_held layout past node frame low none = by_test (list_any (holds_frame node frame) (standings layout past)) refl
  where
    by_test : (b : Bool) → list_any (holds_frame node frame) (standings layout past) ≡ b → b ≡ true
    by_test true is = refl
    by_test false is =
        let some : is_none (free_frame layout node (standings layout past)) ≡ false =
        some_found (λ (k : ℕ). not (list_any (holds_frame node k) (standings layout past))) 0 layout.frames frame (ap not is) (omega arith)
        (omega (arith, low)) in
        absurd (true≢false (sym (ap (λ (o : Option ℕ). is_none o) none) ∙ some))

-- where no frame is free for an endpoint on the host, one that the message isn't about lies in a frame
none_stays : (layout : Layout) (past : List Entry) (node : NodeId) (source dest e : EndpointId) → IsLawful layout → IsNamed source dest e →
    is_on_host (state_of layout past e).head.place ≡ true → free_frame layout node (standings layout past) ≡ None →
    find (may_leave node source dest) (standings layout past) ≡ None → ⊥
none_stays layout past node source dest e ok is host full none =
    not_both_held layout past source dest e is host
    (held_by_named layout past node source dest 0 (is_held layout past node 0 (omega (arith, ok.frames.0)) full) none)
    (held_by_named layout past node source dest 1 (is_held layout past node 1 (omega (arith, ok.frames.0)) full) none)

-- ---- a free frame

-- no endpoint of the node lies in the frame
abbrev IsFree : Layout → List Entry → NodeId → ℕ → Type 0
IsFree layout past node frame = (f : EndpointId) → is_home layout f node ≡ true → is_in_frame frame (state_of layout past f).head.place ≡ true → ⊥

free_found : (layout : Layout) (past : List Entry) (node : NodeId) (frame : ℕ) → IsLawful layout → frame < layout.frames → IsFree layout past node frame →
    is_none (free_frame layout node (standings layout past)) ≡ false
free_found layout past node frame ok low free = by_test (list_any (holds_frame node frame) (standings layout past)) refl
  where
    by_test : (b : Bool) → list_any (holds_frame node frame) (standings layout past) ≡ b → is_none (free_frame layout node (standings layout past)) ≡ false
    by_test true is =
        let at = any_of (IsSeatedSetting layout) (holds_frame node frame) (standing_in layout past) layout.ends (all_seated layout ok) is in
        let both = and_parts (same_node node at.0.node) (is_in_frame frame (state_of layout past at.0.id).head.place) at.2 in
        absurd (free at.0.id (ap (is_home layout at.0.id) (same_node-is node at.0.node both.0) ∙ at.1.home) both.1)
    by_test false is =
        some_found (λ (k : ℕ). not (list_any (holds_frame node k) (standings layout past))) 0 layout.frames frame (ap not is) (omega arith) (omega (arith, low))

-- ---- an endpoint leaves its frame

-- an endpoint in a frame that drains
record IsDraining (layout : Layout) (e : EndpointId) (past next : List Entry) : Type 0 where
  history : IsHistory layout next
  keeps : Keeps layout e past next
  place' : (state_of layout next e).head.place ≡ (state_of layout past e).head.place
  draining' : (state_of layout next e).head.draining ≡ true

drains : (layout : Layout) (past : List Entry) (node : NodeId) (e : EndpointId) (b : Bool) → layout.direct ≡ false → IsHistory layout past →
    IsSeated layout e node → is_in_a_frame (state_of layout past e).head.place ≡ true → not (state_of layout past e).head.draining ≡ b →
    IsDraining layout e past (after_event_if b layout (Events.Drain node e) past)
drains layout past node e true packet h seated framed not_yet =
    record {
      history =
          event_follows layout past (Events.Drain node e) h (seat_in_range layout e node seated)
          (cond-None layout.direct Needs.NotPacket _ packet
          (cond-None (not (is_home layout e node)) Needs.OtherNode _ (ap not seated.home)
          (cond-None (not (is_resident (state_of layout past e).head.place)) Needs.NotResident _
          (ap not (framed_is_resident (state_of layout past e).head.place framed))
          (cond-None (state_of layout past e).head.draining Needs.Draining None (not-true (state_of layout past e).head.draining not_yet) refl))));
      keeps = move_keeps e layout past (Events.Drain node e) refl;
      place' = ap (λ (s : State). s.head.place) (after_move e layout past (Events.Drain node e) refl);
      draining' = ap (λ (s : State). s.head.draining) (after_move e layout past (Events.Drain node e) refl);
    }
drains layout past node e false packet h seated framed already =
    record { history = h; keeps = keeps_same layout e past; place' = refl; draining' = not-false (state_of layout past e).head.draining already }

-- an endpoint that drains, with nothing in flight, may leave its frame
pub unload_may : (layout : Layout) (past : List Entry) (node : NodeId) (e : EndpointId) → layout.direct ≡ false → IsHistory layout past →
    IsSeated layout e node → is_in_a_frame (state_of layout past e).head.place ≡ true → (state_of layout past e).head.draining ≡ true →
    (length (state_of layout past e).body.in_flight == 0) ≡ true → IsHistory layout (after_event layout (Events.Unload node e) past)
unload_may layout past node e packet h seated framed draining empty =
    event_follows layout past (Events.Unload node e) h (seat_in_range layout e node seated)
    (cond-None layout.direct Needs.NotPacket _ packet
    (cond-None (not (is_home layout e node)) Needs.OtherNode _ (ap not seated.home)
    (cond-None (not (is_resident (state_of layout past e).head.place)) Needs.NotResident _
    (ap not (framed_is_resident (state_of layout past e).head.place framed))
    (cond-None (not (state_of layout past e).head.draining) Needs.NotDraining _ (ap not draining)
    (cond-None (not (length (state_of layout past e).body.in_flight == 0)) Needs.InFlight None (ap not empty) refl)))))

pub unloads_to_host : (layout : Layout) (past : List Entry) (node : NodeId) (e : EndpointId) →
    is_on_host (state_of layout (after_event layout (Events.Unload node e) past) e).head.place ≡ true
unloads_to_host layout past node e = ap (λ (s : State). is_on_host s.head.place) (after_move e layout past (Events.Unload node e) refl)

-- each declared endpoint has nothing in flight
abbrev pub IsGrounded : Layout → List Entry → Type 0
IsGrounded layout past = (f : EndpointId) → declared layout f ≡ true → (length (state_of layout past f).body.in_flight == 0) ≡ true

-- what the endpoint left is free
vacated : (layout : Layout) (past next : List Entry) (node : NodeId) (e : EndpointId) (frame : ℕ) → IsLawful layout → IsHistory layout past →
    Keeps layout e past next → is_home layout e node ≡ true → is_in_frame frame (state_of layout past e).head.place ≡ true →
    is_on_host (state_of layout next e).head.place ≡ true → IsFree layout next node frame
vacated layout past next node e frame ok h k home lies host f at in_it = by_same (same_end f e) refl
  where
    by_same : (b : Bool) → same_end f e ≡ b → ⊥
    by_same true is = not_on_host frame (state_of layout next e).head.place (lies_at layout next frame f e (same_end-is f e is) in_it) host
    by_same false is =
        let before : is_in_frame frame (state_of layout past f).head.place ≡ true = ap (λ (s : State). is_in_frame frame s.head.place) (sym (k.others f is))
        ∙ in_it in
        true≢false (sym (frames_are_apart layout past ok h f e node frame at home before lies) ∙ is)

-- a free frame stays free where what moves does not come into it
stays_free : (layout : Layout) (past next : List Entry) (node : NodeId) (e : EndpointId) (frame : ℕ) → Keeps layout e past next →
    (is_in_frame frame (state_of layout next e).head.place ≡ true → ⊥) → IsFree layout past node frame → IsFree layout next node frame
stays_free layout past next node e frame k away free f at in_it = by_same (same_end f e) refl
  where
    by_same : (b : Bool) → same_end f e ≡ b → ⊥
    by_same true is = away (lies_at layout next frame f e (same_end-is f e is) in_it)
    by_same false is = free f at (ap (λ (s : State). is_in_frame frame s.head.place) (sym (k.others f is)) ∙ in_it)

-- a frame of the layout that is left free
record LeavesFree (layout : Layout) (source dest : EndpointId) (node : NodeId) (frame : ℕ) (past next : List Entry) : Type 0 where
  aside : Aside layout source dest past next
  free : IsFree layout next node frame

record Leaves (layout : Layout) (source dest : EndpointId) (node : NodeId) (past next : List Entry) : Type 0 where
  frame : ℕ
  low : frame < layout.frames
  left : LeavesFree layout source dest node frame past next

leaves : (layout : Layout) (past : List Entry) (node : NodeId) (source dest : EndpointId) (st : Standing) → layout.direct ≡ false → IsLawful layout →
    IsHistory layout past → IsGrounded layout past → IsStanding layout past st → may_leave node source dest st ≡ true →
    Leaves layout source dest node past (unloaded layout (Some st) past)
leaves layout past node source dest st packet ok h ground k may =
    let end : EndpointId = st.setting.id in
    let home : NodeId = st.setting.node in
    let own = and_parts (same_node node st.setting.node) (is_in_a_frame st.state.head.place && is_neither source dest st) may in
    let both = and_parts (is_in_a_frame st.state.head.place) (is_neither source dest st) own.1 in
    let framed : is_in_a_frame (state_of layout past end).head.place ≡ true = ap (λ (s : State). is_in_a_frame s.head.place) (sym k.state) ∙ both.0 in
    let mid : List Entry = after_event_if (not st.state.head.draining) layout (Events.Drain home end) past in
    let d = drains layout past home end (not st.state.head.draining) packet h k.seated framed (ap (λ (s : State). not s.head.draining) (sym k.state)) in
    let empty : (length (state_of layout mid end).body.in_flight == 0) ≡ true = ap (λ (b : Body). length b.in_flight == 0) d.keeps.body'
    ∙ ground end k.seated.declared' in
    let next : List Entry = after_event layout (Events.Unload home end) mid in
    let history : IsHistory layout next = unload_may layout mid home end packet d.history k.seated (ap is_in_a_frame d.place' ∙ framed) d.draining' empty in
    let keeps : Keeps layout end past next = keeps_then layout end past mid next d.keeps (move_keeps end layout mid (Events.Unload home end) refl) in
    let at = frame_of (state_of layout past end).head.place framed in
    let here : is_home layout end node ≡ true = ap (is_home layout end) (same_node-is node home own.0) ∙ k.seated.home in
    record {
      frame = at.0;
      low = frames_are_used layout past h end at.0 at.1;
      left =
          record {
            aside = other_aside layout source dest end past next both.1 history keeps;
            free = vacated layout past next node end at.0 ok h keeps here at.1 (unloads_to_host layout mid home end);
          };
    }

-- ---- an endpoint goes to disk

spare_found : (b : Bool) (p : Standing → Bool) (ends : List Standing) (st : Standing) → spare_of b p ends ≡ Some st → find p ends ≡ Some st
spare_found true p ends st h = h
spare_found false p ends st h = absurd (cc)

out_of_frames : (frame : ℕ) (s : State) (o : Outcome) → is_on_host s.head.place ≡ true → is_in_frame frame (paged_out s o).head.place ≡ true → ⊥
out_of_frames frame s Out.Done host h = true≢false (sym h)
out_of_frames frame s o host h = not_on_host frame s.head.place h host

goes_to_disk : (layout : Layout) (past : List Entry) (node : NodeId) (source dest : EndpointId) (frame : ℕ) (st : Standing) → layout.direct ≡ false →
    IsHistory layout past → IsFree layout past node frame → IsStanding layout past st → (is_open_on_host node st && is_neither source dest st) ≡ true →
    LeavesFree layout source dest node frame past (page_out layout (Some st) past)
goes_to_disk layout past node source dest frame st packet h free k passes =
    let end : EndpointId = st.setting.id in
    let home : NodeId = st.setting.node in
    let both = and_parts (is_open_on_host node st) (is_neither source dest st) passes in
    let own = and_parts (same_node node st.setting.node) (is_on_host st.state.head.place && not st.state.head.closed) both.0 in
    let there = and_parts (is_on_host st.state.head.place) (not st.state.head.closed) own.1 in
    let host : is_on_host (state_of layout past end).head.place ≡ true = ap (λ (s : State). is_on_host s.head.place) (sym k.state) ∙ there.0 in
    let opened : (state_of layout past end).head.closed ≡ false = ap (λ (s : State). s.head.closed) (sym k.state) ∙ not-true st.state.head.closed there.1 in
    let next : List Entry = after_event layout (Events.PageOut home end) past in
    let history : IsHistory layout next = event_follows layout past (Events.PageOut home end) h (seat_in_range layout end home k.seated)
    (cond-None layout.direct Needs.NotPacket _ packet
    (cond-None (not (is_home layout end home)) Needs.OtherNode _ (ap not k.seated.home)
    (cond-None (not (is_on_host (state_of layout past end).head.place)) Needs.NotOnHost _ (ap not host)
    (cond-None (state_of layout past end).head.closed Needs.Closed None opened refl)))) in
    let keeps : Keeps layout end past next = move_keeps end layout past (Events.PageOut home end) refl in
    record {
      aside = other_aside layout source dest end past next both.1 history keeps;
      free =
          stays_free layout past next node end frame keeps
          (λ in_it. out_of_frames frame (state_of layout past end) (next_entry layout past (Events.PageOut home end)).outcome host
          (ap (λ (s : State). is_in_frame frame s.head.place) (sym (after_move end layout past (Events.PageOut home end) refl)) ∙ in_it)) free;
    }

keeps_free : (layout : Layout) (past : List Entry) (keep : ℕ) (node : NodeId) (source dest : EndpointId) (frame : ℕ) → layout.direct ≡ false → IsLawful layout →
    IsHistory layout past → IsFree layout past node frame → LeavesFree layout source dest node frame past (kept layout keep node source dest past)
keeps_free layout past keep node source dest frame packet ok h free = by_spare (spare keep node source dest (standings layout past)) refl
  where
    by_spare : (o : Option Standing) → spare keep node source dest (standings layout past) ≡ o →
        LeavesFree layout source dest node frame past (page_out layout o past)
    by_spare None is = record { aside = record { history = h; spares' = spares_same layout past; named = λ f named. refl }; free = free }
    by_spare (Some st) is =
        let p : Standing → Bool = λ (x : Standing). is_open_on_host node x && is_neither source dest x in
        let here : List Standing = filter (is_open_on_host node) (standings layout past) in
        let found : find p (standings layout past) ≡ Some st = sym (find_filter (is_neither source dest) (is_open_on_host node) (standings layout past))
        ∙ spare_found (nat_lt keep (length here)) (is_neither source dest) here st is in
        goes_to_disk layout past node source dest frame st packet h free (is_standing layout past p st ok found)
        (find_passes p (standings layout past) st found)

-- ---- a frame is emptied

pub record IsEmptied (layout : Layout) (source dest : EndpointId) (node : NodeId) (past next : List Entry) : Type 0 where
  pub aside : Aside layout source dest past next
  pub free : is_none (free_frame layout node (standings layout next)) ≡ false

pub empties : (layout : Layout) (past : List Entry) (keep : ℕ) (node : NodeId) (source dest e : EndpointId) → layout.direct ≡ false → IsLawful layout →
    IsHistory layout past → IsGrounded layout past → IsNamed source dest e → is_on_host (state_of layout past e).head.place ≡ true →
    free_frame layout node (standings layout past) ≡ None → IsEmptied layout source dest node past (emptied layout keep node source dest past)
empties layout past keep node source dest e packet ok h ground named host full = by_leaver (find (may_leave node source dest) (standings layout past)) refl
  where
    by_leaver : (o : Option Standing) → find (may_leave node source dest) (standings layout past) ≡ o →
        IsEmptied layout source dest node past (kept layout keep node source dest (unloaded layout o past))
    by_leaver None is = absurd (none_stays layout past node source dest e ok named host full is)
    by_leaver (Some st) is =
        let mid : List Entry = unloaded layout (Some st) past in
        let next : List Entry = kept layout keep node source dest mid in
        let l = leaves layout past node source dest st packet ok h ground (is_standing layout past (may_leave node source dest) st ok is)
        (find_passes (may_leave node source dest) (standings layout past) st is) in
        let k = keeps_free layout mid keep node source dest l.frame packet ok l.left.aside.history l.left.free in
        record { aside = aside_then layout source dest past mid next l.left.aside k.aside; free = free_found layout next node l.frame ok l.low k.free }
