-- What a driver knows once it has entered the endpoint that it is to move, and once it has decided there and settled the frames.
use Rattle.std.proofs.Common.{◌≡◌, ◌+◌, ◌++◌, Some, Option, ℕ, false, ◌∙◌, ◌<◌, ◌≤◌, List, ap, arith, length, subst, sym}
use Rattle.atomic_table.specs.Seated.{TableId}
use Rattle.atomic_table.specs.Table.{rest}
use Rattle.atomic_table.specs.declared.shared.Seat.{Seat}
use Rattle.am_names.specs.declared.NodeId.{NodeId}
use Rattle.am_office_entries.specs.declared.Entry.{Entry}
use Rattle.am_office_entries.specs.declared.Event.{Event}
use Rattle.am_endpoint.specs.View.{state_by}
use Rattle.am_endpoint_body.specs.declared.settings.EndSettings.{EndSettings}
use Rattle.am_model_parts.specs.Driver.{end_moved}
use Rattle.am_swap_device.specs.Causes.{Device}
use Rattle.am_driver_moves.specs.Choice.Lists.{ViewLists}
use Rattle.am_driver_moves.specs.Choice.Moves.{next_move}
use Rattle.am_driver_moves.specs.Choice.Shown.{event_of}
use Rattle.am_driver_moves.specs.Moves.{CanMoveBy}
use Rattle.am_places.specs.Codes.{frame_at, place_code}
use Rattle.am_places.specs.Rule.{Begins, FrameFits, joined, known_at, outside, published_with, with_known}
use Rattle.am_places.specs.declared.board.Known.{Known}
use Rattle.am_places.specs.declared.board.Tenure.{Tenure}
use Rattle.am_workers_laws.specs.Books.Books.{stands_at}
use Rattle.am_workers_laws.specs.Invariants.Drives.{CanDrive, line_by, with_frames, with_line}
use Rattle.am_workers_laws.specs.Invariants.Seats.{EndPass, IsIdle, Stays}
use Rattle.am_workers_laws.specs.declared.books.EndBook.{EndBook}
use Rattle.am_workers_laws.proofs.Driving.{IsFoundAt}
use Rattle.am_workers_laws.proofs.Staying.{FoundThere, M, Stands, driver_stayed, left_idle, may_grow}
use Rattle.am_driver.specs.Turns.{Answer, DecideFound, MoveTurns, SettlesAfter, added_by, clock_after, frames_of}
use Rattle.am_driver.proofs.Moving.{can_there, decided_there, fits_after, found_there, frames_of_long, settles_after, turned}

-- the seat stood between its turns, found this book at k, and k is the endpoint of the event that its rules give
pub record HasEntered (frames : ℕ) (node : NodeId) (view : ViewLists) (device : Device) (event : Event) (k at : ℕ) (me now : M) (b : EndBook) : Type 0 where
  pub stands : Stands k me
  pub there : FoundThere k at me now b
  pub drives : CanDrive frames node view device me.0
  pub chosen : (event_of node (next_move view) ≡ Some event) × (end_moved event ≡ Some b.end.value.settings.id)

-- it has decided there and settled the frames for what its turn answers
pub record HasSettled (clock k : ℕ) (event : Event) (view view' : ViewLists) (device device' : Device) (me now : M) (b : EndBook) (r : Answer) (at : ℕ)
    (between : M) (c : EndBook) : Type 0 where
  pub found : DecideFound k clock event view view' device device' r b.end.value.settings b.end.value.log
  pub same : at ≡ k
  pub framed : between ≡ (with_frames (frames_of k r (frame_at (stands_at b.end.value)) me.0.frames) now.0, now.1)
  pub settings : c.end.value.settings ≡ b.end.value.settings
  pub added : c.end.value.log ≡ b.end.value.log ++ added_by r

module _ {frames : ℕ} {node : NodeId} {view : ViewLists} {device : Device} {event : Event} {k at : ℕ} {me now : M} {b : EndBook}
    (m : HasEntered frames node view device event k at me now b)
  where
    abbrev set : EndSettings
    set = b.end.value.settings

    abbrev past : List Entry
    past = b.end.value.log

    abbrev log : List (Tenure Entry)
    log = m.there.0

    -- the frame claimed for it
    abbrev claimed : Option ℕ
    claimed = frame_at (stands_at b.end.value)

    found : IsFoundAt k set log me.0
    found = found_there k at me now b m.stands m.there

    code : frame_at (place_code (state_by set (joined log)).head.place) ≡ claimed
    code = ap (λ (xs : List Entry). frame_at (place_code (state_by set xs).head.place)) m.there.2.stands_for

    pub may_move : next_move (with_line k (line_by set past) view) ≡ next_move view → CanMoveBy device.held (record { settings = set; log = past }) event
    may_move still = can_there frames node view device me.0 k set log event past m.there.2.stands_for m.drives found m.chosen still

    module _ (clock : ℕ) (view' : ViewLists) (device' : Device) (r : Answer) (d : DecideFound k clock event view view' device device' r set past) where
      seen : DecideFound k clock event view view' device device' r set (joined log)
      seen = decided_there k clock event view view' device device' r set log past m.there.2.stands_for d

      pub may_settle : (frame : Option ℕ) → frame ≡ claimed → SettlesAfter at r frame frames now.0.frames
      may_settle frame is =
          coe 0 1 (i. SettlesAfter (sym m.there.1 i) r ((code ∙ sym is) i) frames (ap (λ (z : M). z.0.frames) (sym m.there.3) i))
          (settles_after frames node view device me.0 k set log event m.drives found m.chosen clock view' device' r seen)

      kept_frames : now.0.frames ≡ me.0.frames
      kept_frames = ap (λ (z : M). z.0.frames) m.there.3

      pub settled : (frame : Option ℕ) → frame ≡ claimed → {last : ℕ} {between : M} {c made : EndBook} → (last ≡ at) × (c ≡ made)
          → between ≡ (with_frames (frames_of at r frame now.0.frames) now.0, now.1) → made.end.value.settings ≡ set → made.end.value.log ≡ past ++ added_by r →
          HasSettled clock k event view view' device device' me now b r last between c
      settled frame is book framed settings added =
          record {
            found = d;
            same = book.0 ∙ m.there.1;
            framed = framed ∙ (λ i. (with_frames (frames_of (m.there.1 i) r (is i) (kept_frames i)) now.0, now.1));
            settings = ap (λ (x : EndBook). x.end.value.settings) book.1 ∙ settings;
            added = ap (λ (x : EndBook). x.end.value.log) book.1 ∙ added;
          }

    module _ {clock : ℕ} {view' : ViewLists} {device' : Device} {r : Answer} {last : ℕ} {between : M} {c : EndBook}
        (h : HasSettled clock k event view view' device device' me now b r last between c)
      where
        pub grown : Begins c.end.value.log (joined (known_at last between.0).seen)
        grown =
            coe 0 1 (i. Begins c.end.value.log (joined (known_at (sym (h.same ∙ sym m.there.1) i) (sym h.framed i).0).seen))
            (may_grow k at me now b c.end.value (added_by r) m.stands m.there h.added)

        whole : joined log ++ added_by r ≡ c.end.value.log
        whole = ap (λ (xs : List Entry). xs ++ added_by r) m.there.2.stands_for ∙ sym h.added

        fits_here : FrameFits (frames_of k r claimed me.0.frames) k (stands_at c.end.value)
        fits_here =
            coe 0 1 (i. FrameFits (frames_of k r (code i) me.0.frames) k (place_code (state_by (sym h.settings i) (whole i)).head.place))
            (fits_after frames node view device me.0 k set log event m.drives found m.chosen clock view' device' r (seen clock view' device' r h.found))

        pub fits : FrameFits between.0.frames last (stands_at c.end.value)
        fits = coe 0 1 (i. FrameFits (sym h.framed i).0.frames (sym h.same i) (stands_at c.end.value)) fits_here

        pub is_small : frames ≤ 16 → stands_at c.end.value < 256
        is_small few =
            let long : length (frames_of k r claimed me.0.frames) ≡ frames = frames_of_long k r claimed me.0.frames ∙ m.drives.sized in
            let below : stands_at c.end.value < 2 + length (frames_of k r claimed me.0.frames) = fits_here.0 in
            omega (arith, below, long, few)

        pub is_idle : (id : TableId) (y : Known Entry) (seat : Seat (Option EndBook) EndPass) → y.inside ≡ false →
            seat.me ≡ (with_known last y between.0, rest between.1) → seat.table_id ≡ id → IsIdle id seat
        is_idle id y seat out is table =
            left_idle id (frames_of k r claimed me.0.frames) k last me now between b y seat m.stands (m.there.0, h.same, m.there.2, m.there.3) h.framed
            out is table

        pub turns : (clock' mark : ℕ) (left : M) → mark ≡ between.0.mark
            → left ≡ (
              with_known last
                  (outside (published_with (λ (b : EndBook). b.end.value.log) (λ (b : EndBook). stands_at b.end.value) mark c (known_at last between.0)))
                  between.0,
              rest between.1,
            ) → clock' ≡ clock_after clock r → MoveTurns node k clock clock' view view' device device' me.0 left.0 r
        turns clock' mark left marked tenure later =
            let stays = driver_stayed (frames_of k r claimed me.0.frames) k last me now between left b c (added_by r) mark m.stands
            (m.there.0, h.same, m.there.2, m.there.3) h.framed marked tenure h.settings h.added in
            turned frames node view device me.0 k set log event m.drives found m.chosen clock clock' (stands_at c.end.value) view' device' left.0 r (seen clock view' device' r h.found)
            (subst (λ (o : Option ℕ). Stays k set (stands_at c.end.value) log (added_by r) (with_frames (frames_of k r o me.0.frames) me.0) left.0)
            (sym code) stays) later
