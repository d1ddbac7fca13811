-- The driver's own moves tell where an endpoint lies.
use Rattle.std.proofs.Common.{◌≡◌, ℕ, Bool, true, false, not, List, [], ◌∷◌, ◌++◌, Some, None, refl, sym, ap, ◌∙◌, if◌then◌else◌}
use Rattle.std.proofs.lemmas.Bool.{not-false}
use Rattle.am_names.specs.declared.EndpointId.{EndpointId}
use Rattle.am_names.specs.Names.{same_end}
use Rattle.am_office_entries.specs.declared.Condition.TheVariants as Needs
use Rattle.am_office_entries.specs.declared.Event.{Event}
use Rattle.am_office_entries.specs.declared.Event.TheVariants as Events
use Rattle.am_office_entries.specs.declared.Outcome.{Outcome}
use Rattle.am_office_entries.specs.declared.Outcome.TheVariants as Out
use Rattle.am_office_entries.specs.declared.Entry.{Entry}
use Rattle.am_model.specs.Changes.{after, changed}
use Rattle.am_model.specs.Endpoint.{State, is_on_disk, is_on_host}
use Rattle.am_model.specs.History.{is_in_frame}
use Rattle.am_model.proofs.Names.{same_end-refl}
use Rattle.am_model.proofs.PlaceKinds.{on_host_in_no_frame, on_disk_in_no_frame}
use Rattle.am_model_parts.specs.Driver.{DriverLog, changes_frame, end_moved, failing_move, is_end_of, is_load_into, lies_in}
use Rattle.am_model_parts.proofs.Frames.{none_holds}
use Rattle.am_model_parts.proofs.Growing.{readings_push}
use Rattle.am_workers_laws.specs.Phases.Frames.{FramesAreKnown, LiesAsMoved}
use Rattle.am_workers_laws.proofs.Lying.{still}

-- one entry more, which changes the frame of the endpoint or not
push : (made : List Entry) (x : Entry) (frame : ℕ) (e : EndpointId) (b : Bool) → changes_frame e x.event ≡ b →
    lies_in (made ++ x ∷ []) frame e ≡ (if b then is_load_into frame x.event else lies_in made frame e)
push made x frame e b is = (readings_push made x).frames frame e ∙ ap (λ (t : Bool). if t then is_load_into frame x.event else lies_in made frame e) is

elsewhere : (made : List Entry) (e : EndpointId) (s : State) (x : Entry) → LiesAsMoved made e s → changes_frame e x.event ≡ false →
    LiesAsMoved (made ++ x ∷ []) e s
elsewhere made e s x lies none frame = lies frame ∙ sym (push made x frame e false none)

own : (d : DriverLog) (e : EndpointId) (s : State) (x : Entry) → LiesAsMoved d.log e s → end_moved x.event ≡ Some e → failing_move d s x.event ≡ None →
    LiesAsMoved (d.log ++ x ∷ []) e (after e s x)
own d e s x lies of on frame = by_event x.event refl of on
  where
    in_changed : Event → Outcome → Bool
    in_changed event o = is_in_frame frame (changed e s event o).head.place

    -- a page call that changes nothing of the frames
    paged : (event : Event) → x.event ≡ event → changes_frame e event ≡ false → is_in_frame frame s.head.place ≡ false →
        ((o : Outcome) → is_in_frame frame s.head.place ≡ false → is_in_frame frame (changed e s event o).head.place ≡ false) →
        is_in_frame frame (after e s x).head.place ≡ lies_in (d.log ++ x ∷ []) frame e
    paged event is none nowhere stays =
        ap (λ (v : Event). is_in_frame frame (changed e s v x.outcome).head.place) is
        ∙ stays x.outcome nowhere
        ∙ sym nowhere
        ∙ lies frame
        ∙ sym (push d.log x frame e false (ap (changes_frame e) is ∙ none))

    loaded : (event : Event) → x.event ≡ event → changes_frame e event ≡ true →
        is_in_frame frame (changed e s event x.outcome).head.place ≡ is_load_into frame event →
        is_in_frame frame (after e s x).head.place ≡ lies_in (d.log ++ x ∷ []) frame e
    loaded event is does place =
        ap (λ (v : Event). is_in_frame frame (changed e s v x.outcome).head.place) is
        ∙ place
        ∙ ap (is_load_into frame) (sym is)
        ∙ sym (push d.log x frame e true (ap (changes_frame e) is ∙ does))

    this_end : (end : EndpointId) → Some end ≡ Some e → same_end e end ≡ true
    this_end end h = let same : end ≡ e = cc in ap (same_end e) same ∙ same_end-refl e

    out_stays : (o : Outcome) → is_in_frame frame s.head.place ≡ false →
        is_in_frame frame (changed e s (Events.PageOut (record { 0 = 0 }) e) o).head.place ≡ false
    out_stays Out.Done h = refl
    out_stays o h = h

    in_stays : (o : Outcome) → is_in_frame frame s.head.place ≡ false →
        is_in_frame frame (changed e s (Events.PageIn (record { 0 = 0 }) e) o).head.place ≡ false
    in_stays Out.Done h = refl
    in_stays o h = h

    by_event : (event : Event) → x.event ≡ event → end_moved event ≡ Some e → failing_move d s event ≡ None →
        is_in_frame frame (after e s x).head.place ≡ lies_in (d.log ++ x ∷ []) frame e
    by_event (Events.Load node end other) is at free = loaded (Events.Load node end other) is (this_end end at) refl
    by_event (Events.Unload node end) is at free = loaded (Events.Unload node end) is (this_end end at) refl
    by_event (Events.Drain node end) is at free =
        ap (λ (v : Event). is_in_frame frame (changed e s v x.outcome).head.place) is ∙ lies frame ∙ sym (push d.log x frame e false (ap (changes_frame e) is))
    by_event (Events.PageOut node end) is at free =
        let rest = (none_holds (not (is_end_of d end)) Needs.OtherNode ((not (is_on_host s.head.place), Needs.NotOnHost) ∷ (s.head.closed, Needs.Closed) ∷ [])
        free).1 in
        let host = not-false (is_on_host s.head.place) (none_holds (not (is_on_host s.head.place)) Needs.NotOnHost ((s.head.closed, Needs.Closed) ∷ []) rest).0
        in
        paged (Events.PageOut node end) is refl (on_host_in_no_frame frame s.head.place host) out_stays
    by_event (Events.PageIn node end) is at free =
        let rest = (none_holds (not (is_end_of d end)) Needs.OtherNode ((not (is_on_disk s.head.place), Needs.NotOnDisk) ∷ []) free).1 in
        let disk = not-false (is_on_disk s.head.place) (none_holds (not (is_on_disk s.head.place)) Needs.NotOnDisk [] rest).0 in
        paged (Events.PageIn node end) is refl (on_disk_in_no_frame frame s.head.place disk) in_stays
    by_event event is at free = absurd (cc)

pub frames_are_known : FramesAreKnown
frames_are_known =
    record {
      others = λ made e s xs lies none frame. ap (is_in_frame frame) (still e s xs none) ∙ lies frame;
      own = own;
      elsewhere = elsewhere;
    }
