-- The move that a driver makes, and what its turn answers.
use Rattle.std.specs.Prelude.{not, slice_index, slice_set}
use Rattle.std.proofs.Common.{◌≡◌, ◌≢◌, ⊎_elim, ℕ, zero, suc, ◌+◌, ◌<◌, ◌==◌, true, false, List, [], ◌∷◌, ◌++◌, length, Option, Some, None, Ok, Err, refl, sym}
use Rattle.std.proofs.Common.{ap, ◌∙◌, subst, arith, append-nil, eq-eqb, eqb-true, true≢false, set-set}
use Rattle.std.proofs.lemmas.Bool.{not-true, cases_eq}
use Rattle.am_lemmas.proofs.Bools.{and_first, and_second}
use Rattle.am_names.specs.declared.EndpointId.{EndpointId}
use Rattle.am_names.specs.declared.NodeId.{NodeId}
use Rattle.am_office_entries.specs.declared.Event.{Event}
use Rattle.am_office_entries.specs.declared.Event.TheVariants as Events
use Rattle.am_office_entries.specs.declared.Place.{Place}
use Rattle.am_office_entries.specs.declared.Place.TheVariants.{Host, Disk, Frame, Direct}
use Rattle.am_office_entries.specs.declared.Entry.{Entry}
use Rattle.am_endpoint_body.specs.declared.settings.EndSettings.{EndSettings}
use Rattle.am_swap_device.specs.Causes.{Device}
use Rattle.am_endpoint.specs.View.{state_by}
use Rattle.am_model.specs.Changes.{after}
use Rattle.am_model.specs.Endpoint.{State, fresh, is_direct, is_in_a_frame, is_on_disk, is_on_host}
use Rattle.am_model.specs.History.{is_in_frame}
use Rattle.am_model_parts.specs.Driver.{end_moved}
use Rattle.am_driver_moves.specs.Choice.Chosen.{Suits}
use Rattle.am_driver_moves.specs.Choice.Lists.{ViewLists}
use Rattle.am_driver_moves.specs.Choice.Moves.{has_frame, is_free, is_leaving, is_open_on_host, next_move}
use Rattle.am_driver_moves.specs.Choice.Shown.{event_of}
use Rattle.am_driver_moves.specs.declared.choice.EndView.{EndView}
use Rattle.am_driver_moves.specs.declared.choice.Move.{Move}
use Rattle.am_driver_moves.specs.declared.choice.Move.TheVariants as Moves
use Rattle.am_driver_moves.specs.Devices.{IsAnswered}
use Rattle.am_driver_moves.specs.Moves.{CanMoveBy}
use Rattle.am_workers_laws.specs.declared.books.EndBook.{EndBook}
use Rattle.am_workers_laws.specs.Phases.Lying.{rests}
use Rattle.am_places.specs.Codes.{frame_at, place_code}
use Rattle.am_places.specs.Rule.{FrameFits, joined, known_at}
use Rattle.am_places.specs.declared.board.Tenure.{Tenure}
use Rattle.am_workers_laws.specs.Invariants.Drives.{CanDrive, frames_after, last_after, line_by, log_of, with_frames, with_line}
use Rattle.am_workers_laws.specs.Invariants.Seats.{EndPass, Stays}
use Rattle.am_workers_laws.proofs.Driving.{IsFoundAt, born_at, free_at, lies_there, line_at, line_there, may_of, moved_id, same_event, suits_here}
use Rattle.am_workers_laws.proofs.Lies.{low_of, lies_moved, set_length}
use Rattle.am_workers_laws.proofs.Staying.{FoundThere, M, Stands, replay_append}
use Rattle.am_driver.specs.Turns.{Answer, CanSettle, DecideFound, Follows, IsFull, IsHeld, IsLate, IsLeft, IsMade, IsSpent, IsStarved, MakeFound}
use Rattle.am_driver.specs.Turns.{MoveTurns, SettlesAfter, added_by, clock_after, frames_by, frames_of}
use Rattle.am_driver.specs.declared.turns.DriverFault.TheVariants as Faults
use Rattle.am_driver.specs.declared.turns.DriverTurn.TheVariants as Turns

-- ---- at the endpoint

-- what the turn found there, from what the move did and how the view followed
pub decided : (k clock : ℕ) (event : Event) (chosen : Move) (view between view' : ViewLists) (device device' : Device) (r : Answer) (set : EndSettings)
    (log : List Entry) (line : EndView) → between ≡ with_line k (line_by set log) view → next_move between ≡ chosen → chosen ≡ next_move view
    → MakeFound clock event device device' r set log → line ≡ line_by set (log ++ added_by r) → Follows k line chosen between view' r →
    DecideFound k clock event view view' device device' r set log
decided k clock event chosen view between view' device device' (Ok (Turns.Did x)) set log line shown still is made now follows =
    record {
      still = ap next_move (sym shown) ∙ still ∙ is;
      made = made;
      shown =
          follows
          ∙ (λ i. record (shown i) { ends = slice_set (shown i).ends k (now i); last = last_after (is i) (shown i).last })
          ∙ (λ i. record view { ends = set-set view.ends k (line_by set log) (line_by set (log ++ x ∷ [])) i; last = last_after (next_move view) view.last });
    }
decided k clock event chosen view between view' device device' (Ok (Turns.Spent e)) set log line shown still is made now follows =
    record { here = made.0; why = (ap next_move follows ∙ still ∙ is, made.1, made.2); shown = follows ∙ shown; swapped = made.3 }
decided k clock event chosen view between view' device device' (Ok (Turns.Busy holder)) set log line shown still is made now follows = absurd made
decided k clock event chosen view between view' device device' (Ok (Turns.Stale e)) set log line shown still is made now follows = absurd made
decided k clock event chosen view between view' device device' (Ok Turns.Nothing) set log line shown still is made now follows = absurd made
decided k clock event chosen view between view' device device' (Err (Faults.LogFull e)) set log line shown still is made now follows =
    record { here = made.0; why = (ap next_move follows ∙ still ∙ is, made.1); shown = follows ∙ shown; swapped = made.2 }
decided k clock event chosen view between view' device device' (Err Faults.NoMemory) set log line shown still is made now follows =
    record { here = refl; why = (ap next_move follows ∙ still ∙ is, made.0); shown = follows ∙ shown; swapped = made.1 }

-- ---- what its rules give may be done

module _ (frames : ℕ) (node : NodeId) (view : ViewLists) (device : Device) (v : EndPass) (k : ℕ) (set : EndSettings) (log : List (Tenure Entry)) (event : Event)
  where
    abbrev state : State
    state = state_by set (joined log)

    abbrev shown : ViewLists
    shown = with_line k (line_by set (joined log)) view

    abbrev IsStill : Type 0
    IsStill = next_move shown ≡ next_move view

    abbrev IsChosen : Type 0
    IsChosen = (event_of node (next_move view) ≡ Some event) × (end_moved event ≡ Some set.id)

    suits_of : CanDrive frames node view device v → IsFoundAt k set log v → IsChosen → IsStill → Suits shown (next_move shown) (line_by set (joined log))
    suits_of c f chosen still = suits_here frames node view device v k set (joined log) event c f.born (ap (event_of node) still ∙ chosen.0) chosen.1

    can_by : CanDrive frames node view device v → IsFoundAt k set log v → (m : Move) → Suits shown m (line_by set (joined log)) → event_of node m ≡ Some event →
        end_moved event ≡ Some set.id → CanMoveBy device.held (log_of set log) event
    can_by c f (Moves.Unload e) s is end =
        let l = line_by set (joined log) in
        let leaving = and_first (is_leaving l) (l.in_flight == 0) s.1 in
        subst (CanMoveBy device.held (log_of set log)) (same_event (Events.Unload node e) event is)
        (record {
          is_node = sym (c.homes k set f.born);
          is_end = moved_id e (Events.Unload node e) event set.id is refl end;
          framed = and_first (has_frame l) l.draining leaving;
          draining = and_second (has_frame l) l.draining leaving;
          none_in_flight = eqb-true l.in_flight 0 (and_second (is_leaving l) (l.in_flight == 0) s.1);
        })
    can_by c f (Moves.PageIn e) s is end =
        let l = line_by set (joined log) in
        let away = and_first (is_on_disk l.place) l.wanted s.1 in
        subst (CanMoveBy device.held (log_of set log)) (same_event (Events.PageIn node e) event is)
        (record {
          is_node = sym (c.homes k set f.born);
          is_end = moved_id e (Events.PageIn node e) event set.id is refl end;
          on_disk = away;
          holds = (lies_there frames node view device v k set log c f).disk away;
        })
    can_by c f (Moves.Load e frame) s is end =
        let l = line_by set (joined log) in
        let unclosed = and_first (is_open_on_host l) l.wanted s.1 in
        subst (CanMoveBy device.held (log_of set log)) (same_event (Events.Load node e frame) event is)
        (record {
          is_node = sym (c.homes k set f.born);
          is_end = moved_id e (Events.Load node e frame) event set.id is refl end;
          on_host = and_first (is_on_host l.place) (not l.closed) unclosed;
          opened = not-true l.closed (and_second (is_on_host l.place) (not l.closed) unclosed);
        })
    can_by c f (Moves.Drain e) s is end =
        subst (CanMoveBy device.held (log_of set log)) (same_event (Events.Drain node e) event is)
        (record { is_node = sym (c.homes k set f.born); is_end = moved_id e (Events.Drain node e) event set.id is refl end; framed = s.1; undrained = s.2 })
    can_by c f (Moves.PageOut e) s is end =
        let l = line_by set (joined log) in
        let unclosed = and_first (is_open_on_host l) (not l.wanted) s.1 in
        subst (CanMoveBy device.held (log_of set log)) (same_event (Events.PageOut node e) event is)
        (record {
          is_node = sym (c.homes k set f.born);
          is_end = moved_id e (Events.PageOut node e) event set.id is refl end;
          on_host = and_first (is_on_host l.place) (not l.closed) unclosed;
          opened = not-true l.closed (and_second (is_on_host l.place) (not l.closed) unclosed);
        })
    can_by c f Moves.Nothing s is end = absurd s

    pub can_move : CanDrive frames node view device v → IsFoundAt k set log v → IsChosen → IsStill → CanMoveBy device.held (log_of set log) event
    can_move c f chosen still = can_by c f (next_move shown) (suits_of c f chosen still) (ap (event_of node) still ∙ chosen.0) chosen.1

    -- ---- the frames

    host_code : (p : Place) → is_on_host p ≡ true → frame_at (place_code p) ≡ None
    host_code (Frame frame) h = absurd (cc)
    host_code Host h = refl
    host_code Disk h = absurd (cc)
    host_code Direct h = absurd (cc)

    frame_code : (g : ℕ) → frame_at (2 + g) ≡ Some g
    frame_code g = ap frame_at (two g)
      where
        two : (n : ℕ) → 2 + n ≡ suc (suc n)
        two n = omega arith

    -- a frame in which nothing lies is claimed for none
    unclaimed : CanDrive frames node view device v → IsFoundAt k set log v → (frame : ℕ) → frame < frames → is_free shown.ends frame ≡ true →
        is_on_host state.head.place ≡ true → slice_index v.frames frame ≡ 0
    unclaimed c f frame low free host = by_claim (slice_index v.frames frame) refl
      where
        in_frames : frame < length v.frames
        in_frames = omega (arith, low, c.sized)

        not_there : (j : ℕ) → slice_index v.frames frame ≡ suc j → ⊥
        not_there j is =
            let owned = c.owned frame low in
            let near : j < length v.births = omega (arith, owned, is) in
            let claim : slice_index v.frames frame ≡ j + 1 = omega (arith, is) in
            ⊎_elim
            (λ (same : j ≡ k). in_host state.head.place host ((lies_there frames node view device v k set log c f).fits.1 frame in_frames).0 (claim
            ∙ ap (λ (m : ℕ). m + 1) same))
            (λ (other : j ≢ k).
            (let b = born_at v.births j near in
            let had = line_at view.ends j (omega (arith, near, c.all)) in
            let p = c.each j b.set had.0 b.at had.1 in
            let out : is_in_frame frame had.0.place ≡ false = free_at shown.ends j frame had.0 free (line_there view.ends k j (line_by set (joined log)) other
            ∙ had.1) in
            let code : place_code (state_by b.set (joined (known_at j v).seen)).head.place ≡ 2 + frame = (p.lies.fits.1 frame in_frames).0 claim in
            in_it (state_by b.set (joined (known_at j v).seen)).head.place p.lies.network code (ap (λ (l : EndView). is_in_frame frame l.place) (sym p.shows)
            ∙ out)))
            (cases_eq j k)
          where
            in_host : (p : Place) → is_on_host p ≡ true → (slice_index v.frames frame ≡ k + 1 → place_code p ≡ 2 + frame) → slice_index v.frames frame ≡ k + 1 →
                ⊥
            in_host (Frame g) h to claim = absurd (true≢false (sym h))
            in_host Host h to claim = let e : 0 ≡ 2 + frame = to claim in omega (arith, e)
            in_host Disk h to claim = absurd (true≢false (sym h))
            in_host Direct h to claim = absurd (true≢false (sym h))

            in_it : (p : Place) → is_direct p ≡ false → place_code p ≡ 2 + frame → is_in_frame frame p ≡ false → ⊥
            in_it (Frame g) network code out = let same : frame ≡ g = omega (arith, code) in true≢false (sym (eq-eqb frame g same) ∙ out)
            in_it Host network code out = omega (arith, code)
            in_it Disk network code out = omega (arith, code)
            in_it Direct network code out = true≢false network

        by_claim : (n : ℕ) → slice_index v.frames frame ≡ n → n ≡ 0
        by_claim zero is = refl
        by_claim (suc j) is = absurd (not_there j is)

    settles_by : CanDrive frames node view device v → IsFoundAt k set log v → (m : Move) → Suits shown m (line_by set (joined log)) →
        event_of node m ≡ Some event →
        CanSettle k event (frame_at (place_code state.head.place)) frames v.frames
    settles_by c f (Moves.Unload e) s is =
        let l = line_by set (joined log) in
        let framed : is_in_a_frame state.head.place ≡ true = and_first (has_frame l) l.draining (and_first (is_leaving l) (l.in_flight == 0) s.1) in
        subst (λ (x : Event). CanSettle k x (frame_at (place_code state.head.place)) frames v.frames) (same_event (Events.Unload node e) event is)
        (in_place state.head.place refl framed)
      where
        in_place : (p : Place) → state.head.place ≡ p → is_in_a_frame p ≡ true →
            (g : ℕ) × (frame_at (place_code state.head.place) ≡ Some g) × (g < frames) × (g < length v.frames) × (slice_index v.frames g ≡ k + 1)
        in_place (Frame g) at h =
            let lies = lies_there frames node view device v k set log c f in
            let low = low_of v.frames k g state.head.place lies.fits (ap (is_in_frame g) at ∙ eq-eqb g g refl) in
            (g, ap (λ (p : Place). frame_at (place_code p)) at ∙ frame_code g, omega (arith, low, c.sized), low, (lies.fits.1 g low).1 (ap place_code at))
        in_place Host at h = absurd (cc)
        in_place Disk at h = absurd (cc)
        in_place Direct at h = absurd (cc)
    settles_by c f (Moves.Load e frame) s is =
        let l = line_by set (joined log) in
        let host : is_on_host state.head.place ≡ true = and_first (is_on_host l.place) (not l.closed) (and_first (is_open_on_host l) l.wanted s.1) in
        let low : frame < frames = (let below = s.3 in omega (arith, below, c.framed)) in
        subst (λ (x : Event). CanSettle k x (frame_at (place_code state.head.place)) frames v.frames) (same_event (Events.Load node e frame) event is)
        (host_code state.head.place host, low, omega (arith, low, c.sized), unclaimed c f frame low s.2 host)
    settles_by c f (Moves.PageIn e) s is = subst (λ (x : Event). CanSettle k x (frame_at (place_code state.head.place)) frames v.frames)
        (same_event (Events.PageIn node e) event is) tt
    settles_by c f (Moves.Drain e) s is = subst (λ (x : Event). CanSettle k x (frame_at (place_code state.head.place)) frames v.frames)
        (same_event (Events.Drain node e) event is) tt
    settles_by c f (Moves.PageOut e) s is = subst (λ (x : Event). CanSettle k x (frame_at (place_code state.head.place)) frames v.frames)
        (same_event (Events.PageOut node e) event is) tt
    settles_by c f Moves.Nothing s is = absurd s

    frames_same : (x : Event) (p : Place) → is_direct p ≡ false → frames_by k x (frame_at (place_code p)) v.frames ≡ frames_after k x p v.frames
    frames_same (Events.Unload n e) (Frame g) network = ap (λ (o : Option ℕ). frames_by k (Events.Unload n e) o v.frames) (frame_code g)
    frames_same (Events.Unload n e) Host network = refl
    frames_same (Events.Unload n e) Disk network = refl
    frames_same (Events.Unload n e) Direct network = absurd (true≢false network)
    frames_same x p network = refl

    event_made : (clock : ℕ) (device' : Device) (x : Entry) → IsMade clock event device device' set (joined log) x → x.event ≡ event
    event_made clock device' x m = ap (λ (y : Entry). y.event) m.entry

    answered_so : (device' : Device) (x : Entry) → x.event ≡ event → IsAnswered device device' (log_of set log) event x.outcome →
        IsAnswered device device' (log_of set log) x.event x.outcome
    answered_so device' x is h = subst (λ (y : Event). IsAnswered device device' (log_of set log) y x.outcome) (sym is) h

    pub settles_after : CanDrive frames node view device v → IsFoundAt k set log v → IsChosen →
        (clock : ℕ) (view' : ViewLists) (device' : Device) (r : Answer) →
        DecideFound k clock event view view' device device' r set (joined log) → SettlesAfter k r (frame_at (place_code state.head.place)) frames v.frames
    settles_after c f chosen clock view' device' (Ok (Turns.Did x)) d =
        subst (λ (y : Event). CanSettle k y (frame_at (place_code state.head.place)) frames v.frames) (sym (event_made clock device' x d.made))
        (settles_by c f (next_move shown) (suits_of c f chosen d.still) (ap (event_of node) d.still ∙ chosen.0))
    settles_after c f chosen clock view' device' (Ok (Turns.Busy holder)) d = tt
    settles_after c f chosen clock view' device' (Ok (Turns.Stale e)) d = tt
    settles_after c f chosen clock view' device' (Ok (Turns.Spent e)) d = tt
    settles_after c f chosen clock view' device' (Ok Turns.Nothing) d = tt
    settles_after c f chosen clock view' device' (Err fault) d = tt

    lies_still : CanDrive frames node view device v → IsFoundAt k set log v → FrameFits v.frames k (place_code (state_by set (joined log ++ [])).head.place)
    lies_still c f = subst (λ (xs : List Entry). FrameFits v.frames k (place_code (state_by set xs).head.place)) (sym (append-nil (joined log)))
        (lies_there frames node view device v k set log c f).fits

    pub fits_after : CanDrive frames node view device v → IsFoundAt k set log v → IsChosen → (clock : ℕ) (view' : ViewLists) (device' : Device) (r : Answer) →
        DecideFound k clock event view view' device device' r set (joined log)
        → FrameFits (frames_of k r (frame_at (place_code state.head.place)) v.frames) k (place_code (state_by set (joined log ++ added_by r)).head.place)
    fits_after c f chosen clock view' device' (Ok (Turns.Did x)) d =
        let lies = lies_there frames node view device v k set log c f in
        let is = event_made clock device' x d.made in
        let may = may_of shown node set (joined log) v.frames (next_move shown) x.event (suits_of c f chosen d.still) (ap (event_of node) d.still ∙ chosen.0
        ∙ ap (λ (y : Event). Some y) (sym is)) (c.sized ∙ sym c.framed) in
        let answered = answered_so device' x is d.made.answered in
        let moved = lies_moved v.frames device k set (joined log) x.event x.outcome lies may answered.outcome answered.valid in
        let grown : state_by set (joined log ++ x ∷ []) ≡ after set.id state x = replay_append set.id (fresh set.tag set.place) (joined log) (x ∷ []) in
        coe 0 1 (i. FrameFits (sym (frames_same x.event state.head.place lies.network) i) k (place_code (sym grown i).head.place)) moved.fits
    fits_after c f chosen clock view' device' (Ok (Turns.Busy holder)) d = lies_still c f
    fits_after c f chosen clock view' device' (Ok (Turns.Stale e)) d = lies_still c f
    fits_after c f chosen clock view' device' (Ok (Turns.Spent e)) d = lies_still c f
    fits_after c f chosen clock view' device' (Ok Turns.Nothing) d = lies_still c f
    fits_after c f chosen clock view' device' (Err fault) d = lies_still c f

    -- it left the endpoint as it was, with its line corrected
    held : (place : ℕ) (w : EndPass) (e : EndpointId) (Why : ViewLists → EndSettings → List Entry → Type 0) (view' : ViewLists) (device' : Device) →
        IsLeft k e Why view view' device device' set (joined log) → Stays k set place log [] v w → IsHeld k e Why view view' v w
    held place w e Why view' device' l stays = record {
      look = record { set = set; place = place; log = log; stays = stays; shown = l.shown };
      here = l.here;
      why = l.why;
    }

    pub turned : CanDrive frames node view device v → IsFoundAt k set log v → IsChosen →
        (clock now place : ℕ) (view' : ViewLists) (device' : Device) (w : EndPass) (r : Answer) →
        DecideFound k clock event view view' device device' r set (joined log)
        → Stays k set place log (added_by r) (with_frames (frames_of k r (frame_at (place_code state.head.place)) v.frames) v) w → now ≡ clock_after clock r →
        MoveTurns node k clock now view view' device device' v w r
    turned c f chosen clock now place view' device' w (Ok (Turns.Did x)) d stays later =
        let is = event_made clock device' x d.made in (
          record {
            set = set;
            place = place;
            log = log;
            stays = subst (λ (fs : List ℕ). Stays k set place log (x ∷ []) (with_frames fs v) w)
                (frames_same x.event state.head.place (lies_there frames node view device v k set log c f).network) stays;
            still = d.still;
            event = chosen.0 ∙ ap (λ (y : Event). Some y) (sym is);
            end = ap end_moved is ∙ chosen.1;
            stamped = ap (λ (y : Entry). y.stamp) d.made.entry;
            low = d.made.low;
            answered = answered_so device' x is d.made.answered;
            shown = d.shown;
          },
          later,
        )
    turned c f chosen clock now place view' device' w (Ok (Turns.Busy holder)) d stays later = absurd d
    turned c f chosen clock now place view' device' w (Ok (Turns.Stale e)) d stays later =
        (held place w e (IsLate view') view' device' d stays, (later, d.swapped))
    turned c f chosen clock now place view' device' w (Ok (Turns.Spent e)) d stays later = (
      held place w e (IsSpent clock view') view' device' d stays,
      (later, d.swapped),
    )
    turned c f chosen clock now place view' device' w (Ok Turns.Nothing) d stays later = absurd d
    turned c f chosen clock now place view' device' w (Err (Faults.LogFull e)) d stays later =
        (held place w e (IsFull view') view' device' d stays, (later, d.swapped))
    turned c f chosen clock now place view' device' w (Err Faults.NoMemory) d stays later = (
      set.id,
      held place w set.id (IsStarved view') view' device' d stays,
      (later, d.swapped),
    )

-- ---- as the code has it

pub found_there : (k at : ℕ) (me now : M) (b : EndBook) → Stands k me → (w : FoundThere k at me now b) → IsFoundAt k b.end.value.settings w.0 me.0
found_there k at me now b s w =
    record {
      born = w.2.born;
      begins = w.2.begins;
      own = w.2.own_tenures me.0.mark s.mine;
      calm_log = w.2.calm_log;
      once = w.2.opening;
      rests' = subst (λ (xs : List Entry). rests b.end.value.settings.id (fresh b.end.value.settings.tag b.end.value.settings.place) xs ≡ true)
          (sym w.2.stands_for) b.kept.rests;
    }

pub decided_there : (k clock : ℕ) (event : Event) (view view' : ViewLists) (device device' : Device) (r : Answer) (set : EndSettings)
    (log : List (Tenure Entry))
    (past : List Entry) → joined log ≡ past → DecideFound k clock event view view' device device' r set past →
    DecideFound k clock event view view' device device' r set (joined log)
decided_there k clock event view view' device device' r set log past is d = subst (DecideFound k clock event view view' device device' r set) (sym is) d

pub can_there : (frames : ℕ) (node : NodeId) (view : ViewLists) (device : Device) (v : EndPass) (k : ℕ) (set : EndSettings) (log : List (Tenure Entry))
    (event : Event) (past : List Entry) → joined log ≡ past → CanDrive frames node view device v → IsFoundAt k set log v →
    (event_of node (next_move view) ≡ Some event) × (end_moved event ≡ Some set.id)
    → next_move (with_line k (line_by set past) view) ≡ next_move view → CanMoveBy device.held (record { settings = set; log = past }) event
can_there frames node view device v k set log event past is c f chosen still =
    subst (λ (xs : List Entry). CanMoveBy device.held (record { settings = set; log = xs }) event) is
    (can_move frames node view device v k set log event c f chosen (ap (λ (xs : List Entry). next_move (with_line k (line_by set xs) view)) is ∙ still))

frames_by_long : (k : ℕ) (event : Event) (claimed : Option ℕ) (frames : List ℕ) → length (frames_by k event claimed frames) ≡ length frames
frames_by_long k (Events.Load node end frame) claimed frames = set_length frames frame (k + 1)
frames_by_long k (Events.Unload node end) (Some frame) frames = set_length frames frame 0
frames_by_long k (Events.Unload node end) None frames = refl
frames_by_long k event claimed frames = refl

pub frames_of_long : (k : ℕ) (r : Answer) (claimed : Option ℕ) (frames : List ℕ) → length (frames_of k r claimed frames) ≡ length frames
frames_of_long k (Ok (Turns.Did x)) claimed frames = frames_by_long k x.event claimed frames
frames_of_long k (Ok (Turns.Busy holder)) claimed frames = refl
frames_of_long k (Ok (Turns.Stale e)) claimed frames = refl
frames_of_long k (Ok (Turns.Spent e)) claimed frames = refl
frames_of_long k (Ok Turns.Nothing) claimed frames = refl
frames_of_long k (Err fault) claimed frames = refl
