-- An endpoint that is made ready for a message lies in a frame and doesn't drain.
use Rattle.std.proofs.Common.{◌≡◌, ℕ, zero, suc, ◌+◌, ◌<◌, Bool, true, false, ◌||◌, List, [], ◌∷◌, map, length, Option, Some, None, refl, sym, ap, ◌∙◌, subst}
use Rattle.std.proofs.Common.{arith, true≢false, lt-ltb}
use Rattle.std.specs.Prelude.{◌&&◌, ◌==◌, not, nat_lt, is_none}
use Rattle.std.specs.List.{list_any, range_with_len}
use Rattle.std.proofs.lemmas.Bool.{and_from, and_parts, not-true, and_right}
use Rattle.am_lemmas.proofs.Options.{cond-None}
use Rattle.am_lemmas.proofs.Lists.{find_passes}
use Rattle.am_names.specs.declared.EndpointId.{EndpointId}
use Rattle.am_names.specs.declared.NodeId.{NodeId}
use Rattle.am_names.specs.Names.{same_end}
use Rattle.am_office_entries.specs.declared.Condition.TheVariants as Needs
use Rattle.am_office_entries.specs.declared.Event.TheVariants as Events
use Rattle.am_office_entries.specs.declared.Place.{Place}
use Rattle.am_office_entries.specs.declared.Place.TheVariants.{Host, Disk, Frame, Direct}
use Rattle.am_office_entries.specs.declared.Entry.{Entry}
use Rattle.am_model.specs.Endpoint.{State, Body, is_in_a_frame, is_on_host, is_on_disk}
use Rattle.am_model.specs.Layout.{Layout, IsLawful, declared}
use Rattle.am_model.specs.History.{IsHistory, state_of, is_home, is_frame_held}
use Rattle.am_model_scripts.specs.Standings.{standings, standing_in}
use Rattle.am_model_drain.specs.Made.{after_event, after_event_if}
use Rattle.am_model_drain.specs.Ready.{paged_in as page_ins, off_disk, is_draining_in_frame, not_draining, holds_frame, free_frame, emptied, emptied_if}
use Rattle.am_model_drain.specs.Ready.{with_frame, loaded_into, loaded, ready}
use Rattle.am_laws_runs.specs.Turns.Away.{is_settled_at}
use Rattle.am_laws_runs.proofs.Away.{away_is_settled}
use Rattle.am_laws_runs.proofs.Enabled.{event_follows, IsSeated, seat_in_range}
use Rattle.am_laws_runs.proofs.Paging.{leaves_disk}
use Rattle.am_laws_runs.proofs.Moves.{Keeps, keeps_same, keeps_then, after_move, move_keeps, move_if_keeps, Spares, spares, spares_then}
use Rattle.am_laws_runs.proofs.Emptying.{IsNamed, Aside, found_below, unload_may, unloads_to_host, IsGrounded, IsEmptied, empties}

-- ---- off the disk

pages_keep : (n : ℕ) (layout : Layout) (node : NodeId) (e : EndpointId) (past : List Entry) → Keeps layout e past (page_ins n layout node e past)
pages_keep zero layout node e past = keeps_same layout e past
pages_keep (suc n) layout node e past =
    let on_disk : Bool = is_on_disk (state_of layout past e).head.place in
    let next : List Entry = after_event_if on_disk layout (Events.PageIn node e) past in
    keeps_then layout e past next (page_ins n layout node e next) (move_if_keeps on_disk e layout past (Events.PageIn node e) refl)
    (pages_keep n layout node e next)

-- ---- not draining

-- where an endpoint lies that isn't on disk and doesn't drain in a frame
data IsAwake (s : State) : Type 0 where
  OnHost : is_on_host s.head.place ≡ true → IsAwake s
  InFrame : is_in_a_frame s.head.place ≡ true → s.head.draining ≡ false → IsAwake s

record Wakes (layout : Layout) (e : EndpointId) (past next : List Entry) : Type 0 where
  history : IsHistory layout next
  keeps : Keeps layout e past next
  awake : IsAwake (state_of layout next e)

awake_by : (s : State) (p : Place) → s.head.place ≡ p → is_settled_at p s.head.wanted s.body ≡ true → is_on_disk p ≡ false →
    (is_in_a_frame p && s.head.draining) ≡ false → IsAwake s
awake_by s Host at settled off still = OnHost (ap is_on_host at)
awake_by s Disk at settled off still = absurd (true≢false off)
awake_by s (Frame frame) at settled off still = InFrame (ap is_in_a_frame at) still
awake_by s Direct at settled off still = absurd (true≢false (sym settled))

wakes : (layout : Layout) (past : List Entry) (node : NodeId) (e : EndpointId) (b : Bool) → layout.direct ≡ false → IsHistory layout past →
    IsSeated layout e node → is_on_disk (state_of layout past e).head.place ≡ false → (length (state_of layout past e).body.in_flight == 0) ≡ true →
    is_draining_in_frame (state_of layout past e) ≡ b → Wakes layout e past (after_event_if b layout (Events.Unload node e) past)
wakes layout past node e true packet h seated off empty drains =
    let both = and_parts (is_in_a_frame (state_of layout past e).head.place) (state_of layout past e).head.draining drains in
    record {
      history = unload_may layout past node e packet h seated both.0 both.1 empty;
      keeps = move_keeps e layout past (Events.Unload node e) refl;
      awake = OnHost (unloads_to_host layout past node e);
    }
wakes layout past node e false packet h seated off empty still =
    record {
      history = h;
      keeps = keeps_same layout e past;
      awake = awake_by (state_of layout past e) (state_of layout past e).head.place refl (away_is_settled layout past packet h e) off still;
    }

-- ---- into a frame

-- an endpoint that was loaded into a frame
record IsLoaded (layout : Layout) (e : EndpointId) (past next : List Entry) : Type 0 where
  history : IsHistory layout next
  keeps : Keeps layout e past next
  framed : is_in_a_frame (state_of layout next e).head.place ≡ true
  still : (state_of layout next e).head.draining ≡ false

any_mapped : {X Y : Type 0} (p : Y → Bool) (f : X → Y) (xs : List X) → list_any (λ (x : X). p (f x)) xs ≡ list_any p (map f xs)
any_mapped p f [] = refl
any_mapped p f (x ∷ xs) = ap (λ (b : Bool). p (f x) || b) (any_mapped p f xs)

loads : (layout : Layout) (past : List Entry) (node : NodeId) (e : EndpointId) → layout.direct ≡ false → IsHistory layout past → IsSeated layout e node →
    is_on_host (state_of layout past e).head.place ≡ true → (state_of layout past e).head.closed ≡ false →
    is_none (free_frame layout node (standings layout past)) ≡ false → IsLoaded layout e past (loaded layout node e past)
loads layout past node e packet h seated host opened some = by_frame (free_frame layout node (standings layout past)) refl some
  where
    into : (frame : ℕ) → free_frame layout node (standings layout past) ≡ Some frame →
        IsLoaded layout e past (after_event layout (Events.Load node e frame) past)
    into frame is =
        let free : not (list_any (holds_frame node frame) (standings layout past)) ≡ true =
        find_passes (λ (k : ℕ). not (list_any (holds_frame node k) (standings layout past))) (range_with_len 0 layout.frames) frame is in
        let held : is_frame_held layout past node frame ≡ false = any_mapped (holds_frame node frame) (standing_in layout past) layout.ends
        ∙ not-true (list_any (holds_frame node frame) (standings layout past)) free in
        let low : frame < 0 + layout.frames = found_below (λ (k : ℕ). not (list_any (holds_frame node k) (standings layout past))) 0 layout.frames frame is in
        record {
          history =
              event_follows layout past (Events.Load node e frame) h
              (and_from (declared layout e && nat_lt node.0 layout.nodes) (nat_lt frame layout.frames) (seat_in_range layout e node seated)
              (lt-ltb frame layout.frames (omega (arith, low))))
              (cond-None layout.direct Needs.NotPacket _ packet
              (cond-None (not (is_home layout e node)) Needs.OtherNode _ (ap not seated.home)
              (cond-None (not (is_on_host (state_of layout past e).head.place)) Needs.NotOnHost _ (ap not host)
              (cond-None (state_of layout past e).head.closed Needs.Closed _ opened
              (cond-None (is_frame_held layout past node frame) Needs.FrameHeld None held refl)))));
          keeps = move_keeps e layout past (Events.Load node e frame) refl;
          framed = ap (λ (s : State). is_in_a_frame s.head.place) (after_move e layout past (Events.Load node e frame) refl);
          still = ap (λ (s : State). s.head.draining) (after_move e layout past (Events.Load node e frame) refl);
        }

    by_frame : (o : Option ℕ) → free_frame layout node (standings layout past) ≡ o → is_none o ≡ false →
        IsLoaded layout e past (loaded_into o layout node e past)
    by_frame None is has = absurd (true≢false has)
    by_frame (Some frame) is has =
        subst (λ (b : Bool). IsLoaded layout e past (after_event_if b layout (Events.Load node e frame) past)) (sym host) (into frame is)

-- ---- ready

-- an endpoint that was made ready for a message from `source` to `dest`
pub record IsReady (layout : Layout) (source dest e : EndpointId) (past next : List Entry) : Type 0 where
  pub history : IsHistory layout next
  pub spares' : Spares layout past next
  pub named : (f : EndpointId) → IsNamed source dest f → same_end f e ≡ false → state_of layout next f ≡ state_of layout past f
  pub framed : is_in_a_frame (state_of layout next e).head.place ≡ true
  pub still : (state_of layout next e).head.draining ≡ false

-- what leaves the endpoint and the journal's messages as they were, and then a load
loaded_ready : (layout : Layout) (source dest e : EndpointId) (past next : List Entry) → IsLoaded layout e past next → IsReady layout source dest e past next
loaded_ready layout source dest e past next l =
    record {
      history = l.history;
      spares' = spares layout e past next l.keeps;
      named = λ f is apart. l.keeps.others f apart;
      framed = l.framed;
      still = l.still;
    }

aside_ready : (layout : Layout) (source dest e : EndpointId) (past mid next : List Entry) → Aside layout source dest past mid →
    IsReady layout source dest e mid next → IsReady layout source dest e past next
aside_ready layout source dest e past mid next a r =
    record {
      history = r.history;
      spares' = spares_then layout past mid next a.spares' r.spares';
      named = λ f is apart. r.named f is apart ∙ a.named f is;
      framed = r.framed;
      still = r.still;
    }

own_ready : (layout : Layout) (source dest e : EndpointId) (past mid next : List Entry) → Keeps layout e past mid → IsReady layout source dest e mid next →
    IsReady layout source dest e past next
own_ready layout source dest e past mid next k r =
    record {
      history = r.history;
      spares' = spares_then layout past mid next (spares layout e past mid k) r.spares';
      named = λ f is apart. r.named f is apart ∙ k.others f apart;
      framed = r.framed;
      still = r.still;
    }

not_host_framed : (p : Place) → is_in_a_frame p ≡ true → is_on_host p ≡ false
not_host_framed (Frame frame) h = refl
not_host_framed Direct h = refl
not_host_framed Host h = absurd (true≢false (sym h))
not_host_framed Disk h = absurd (true≢false (sym h))

-- an endpoint in a frame stays as it is
framed_ready : (layout : Layout) (past : List Entry) (keep : ℕ) (node : NodeId) (source dest e : EndpointId) → IsHistory layout past →
    is_in_a_frame (state_of layout past e).head.place ≡ true → (state_of layout past e).head.draining ≡ false →
    IsReady layout source dest e past (loaded layout node e (with_frame layout keep node e source dest past))
framed_ready layout past keep node source dest e h framed still =
    subst (λ (xs : List Entry). IsReady layout source dest e past xs) (sym (ap (loaded layout node e) no_frame
    ∙ no_load (free_frame layout node (standings layout past))))
    (record { history = h; spares' = spares layout e past past (keeps_same layout e past); named = λ f is apart. refl; framed = framed; still = still })
  where
    away : is_on_host (state_of layout past e).head.place ≡ false
    away = not_host_framed (state_of layout past e).head.place framed

    no_frame : with_frame layout keep node e source dest past ≡ past
    no_frame = ap (λ (b : Bool). emptied_if (b && is_none (free_frame layout node (standings layout past))) layout keep node source dest past) away

    no_load : (o : Option ℕ) → loaded_into o layout node e past ≡ past
    no_load None = refl
    no_load (Some frame) = ap (λ (b : Bool). after_event_if b layout (Events.Load node e frame) past) away

-- an endpoint on the host goes into a frame
host_ready : (layout : Layout) (past : List Entry) (keep : ℕ) (node : NodeId) (source dest e : EndpointId) → layout.direct ≡ false → IsLawful layout →
    IsHistory layout past → IsSeated layout e node → IsNamed source dest e → IsGrounded layout past → (state_of layout past e).head.closed ≡ false →
    is_on_host (state_of layout past e).head.place ≡ true → IsReady layout source dest e past
    (loaded layout node e (with_frame layout keep node e source dest past))
host_ready layout past keep node source dest e packet ok h seated named ground opened host = by_frame (free_frame layout node (standings layout past)) refl
  where
    by_frame : (o : Option ℕ) → free_frame layout node (standings layout past) ≡ o →
        IsReady layout source dest e past (loaded layout node e (with_frame layout keep node e source dest past))
    by_frame (Some frame) is =
        let has : is_none (free_frame layout node (standings layout past)) ≡ false = ap (λ (o : Option ℕ). is_none o) is in
        let same : with_frame layout keep node e source dest past ≡ past =
        ap (λ (b : Bool). emptied_if b layout keep node source dest past) (and_right (is_on_host (state_of layout past e).head.place)
        (is_none (free_frame layout node (standings layout past))) has) in
        subst (λ (xs : List Entry). IsReady layout source dest e past (loaded layout node e xs)) (sym same)
        (loaded_ready layout source dest e past (loaded layout node e past) (loads layout past node e packet h seated host opened has))
    by_frame None is =
        let full : is_none (free_frame layout node (standings layout past)) ≡ true = ap (λ (o : Option ℕ). is_none o) is in
        let mid : List Entry = emptied layout keep node source dest past in
        let same : with_frame layout keep node e source dest past ≡ mid =
        ap (λ (b : Bool). emptied_if b layout keep node source dest past) (and_from (is_on_host (state_of layout past e).head.place)
        (is_none (free_frame layout node (standings layout past))) host full) in
        let m : IsEmptied layout source dest node past mid = empties layout past keep node source dest e packet ok h ground named host is in
        let stays : state_of layout mid e ≡ state_of layout past e = m.aside.named e named in
        let l = loads layout mid node e packet m.aside.history seated (ap (λ (s : State). is_on_host s.head.place) stays
        ∙ host) (ap (λ (s : State). s.head.closed) stays ∙ opened) m.free in
        subst (λ (xs : List Entry). IsReady layout source dest e past (loaded layout node e xs)) (sym same)
        (aside_ready layout source dest e past mid (loaded layout node e mid) m.aside (loaded_ready layout source dest e mid (loaded layout node e mid) l))

pub spared_ground : (layout : Layout) (past next : List Entry) → Spares layout past next → IsGrounded layout past → IsGrounded layout next
spared_ground layout past next k ground f known = ap (λ (b : Body). length b.in_flight == 0) (k.body' f) ∙ ground f known

-- an open endpoint of a message is made ready for it, where nothing is in flight
pub readies : (layout : Layout) (past : List Entry) (keep : ℕ) (node : NodeId) (source dest e : EndpointId) → layout.direct ≡ false → IsLawful layout →
    IsHistory layout past → IsSeated layout e node → IsNamed source dest e → IsGrounded layout past → (state_of layout past e).head.closed ≡ false →
    IsReady layout source dest e past (ready layout keep node e source dest past)
readies layout past keep node source dest e packet ok h seated named ground opened =
    let one : List Entry = off_disk layout node e past in
    let two : List Entry = not_draining layout node e one in
    let last : List Entry = ready layout keep node e source dest past in
    let off = leaves_disk layout node e past packet h seated in
    let paged : Keeps layout e past one = pages_keep (length layout.faults + 1) layout node e past in
    let empty : (length (state_of layout one e).body.in_flight == 0) ≡ true = ap (λ (b : Body). length b.in_flight == 0) paged.body'
    ∙ ground e seated.declared' in
    let w : Wakes layout e one two = wakes layout one node e (is_draining_in_frame (state_of layout one e)) packet off.history seated off.off empty refl in
    let keeps : Keeps layout e past two = keeps_then layout e past one two paged w.keeps in
    own_ready layout source dest e past two last keeps (by_place two w.history (spared_ground layout past two (spares layout e past two keeps) ground)
    (keeps.closed' ∙ opened) w.awake)
  where
    by_place : (two : List Entry) → IsHistory layout two → IsGrounded layout two → (state_of layout two e).head.closed ≡ false →
        IsAwake (state_of layout two e) → IsReady layout source dest e two (loaded layout node e (with_frame layout keep node e source dest two))
    by_place two k still_ground still_open (OnHost host) = host_ready layout two keep node source dest e packet ok k seated named still_ground still_open host
    by_place two k still_ground still_open (InFrame framed still) = framed_ready layout two keep node source dest e k framed still
