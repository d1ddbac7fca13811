-- A book that a move's entry was added to is a book again, and what a driver found there.
use Rattle.std.proofs.Common.{◌≡◌, ℕ, ◌+◌, ◌<◌, max, true, length, Result, Ok, Err, sym, refl, ap, ◌∙◌, arith}
use Rattle.am_names.specs.declared.NoMemory.{NoMemory}
use Rattle.am_office_entries.specs.declared.Event.{Event}
use Rattle.am_office_entries.specs.declared.Event.TheVariants as Events
use Rattle.am_office_entries.specs.declared.Outcome.{Outcome}
use Rattle.am_office_entries.specs.declared.Entry.{Entry}
use Rattle.am_workers_laws.specs.Books.Books.{IsBook}
use Rattle.am_swap_device.specs.Causes.{Device, Holding}
use Rattle.am_endpoint.specs.View.{EndpointView, state_after}
use Rattle.am_model.specs.Parts.{last_stamp}
use Rattle.am_driver_moves.specs.Logs.{EndLog, kept}
use Rattle.am_driver_moves.specs.Devices.{MovesOn}
use Rattle.am_driver_moves.specs.Moves.{CanMoveBy}
use Rattle.am_workers_laws.specs.Phases.Lying.{keeps_body}
use Rattle.am_workers_laws.proofs.BooksKept.{grown_book, kept_keeps, same_book}

-- a move keeps the body
move_kept : (held : Holding) (e : EndLog) (event : Event) (o : Outcome) → CanMoveBy held e event → keeps_body event o ≡ true
move_kept held e (Events.Drain node end) o can = refl
move_kept held e (Events.Unload node end) o can = refl
move_kept held e (Events.Load node end frame) o can = refl
move_kept held e (Events.PageOut node end) o can = refl
move_kept held e (Events.PageIn node end) o can = refl
move_kept held e event o can = absurd can

-- what is known of an endpoint that made room is known of it before
room_can : (held : Holding) (e f : EndpointView) (event : Event) → f.settings ≡ e.settings → f.log ≡ e.log → CanMoveBy held (kept e) event →
    CanMoveBy held (kept f) event
room_can held e f event set log can = coe 0 1 (i. CanMoveBy held (record { settings = sym set i; log = sym log i }) event) can

later : (clock last stamp : ℕ) → stamp ≡ 1 + max clock last → last < stamp
later clock last stamp is = omega arith

-- a book after a move, whatever came of it
pub moved_book : (s t : Device) (b e f : EndpointView) (event : Event) (clock stamp : ℕ) (r : Result Entry NoMemory) → IsBook b → e.settings ≡ b.settings →
    e.log ≡ b.log → length e.log < e.settings.log → CanMoveBy s.held (kept b) event → stamp ≡ 1 + max clock (last_stamp e.log)
    → MovesOn s t (kept e) (kept f) event stamp r → IsBook f
moved_book s t b e f event clock stamp (Ok x) book set log room can is m =
    grown_book e f x (same_book b e book set log) m.settings m.log (λ full. absurd (let n : length e.log ≡ e.settings.log = full in omega (arith, n, room)))
    (later clock (last_stamp e.log) x.stamp (ap (λ (y : Entry). y.stamp) m.entry ∙ is))
    (kept_keeps (state_after e) x (ap (λ (y : Entry). keeps_body y.event y.outcome) m.entry ∙ move_kept s.held (kept b) event _ can))
moved_book s t b e f event clock stamp (Err fault) book set log room can is m =
    same_book e f (same_book b e book set log) (ap (λ (d : EndLog). d.settings) m.1) (ap (λ (d : EndLog). d.log) m.1)
