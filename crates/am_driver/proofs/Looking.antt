-- A driver's looks, one after the other.
use Rattle.std.proofs.Common.{◌≡◌, ℕ, ◌+◌, List, [], length, Option, sym, ap, ◌∙◌, subst, add-one}
use Rattle.atomic_table.specs.Seated.{TableId}
use Rattle.atomic_table.specs.declared.shared.Seat.{Seat}
use Rattle.am_office_entries.specs.declared.Entry.{Entry}
use Rattle.am_endpoint_body.specs.declared.settings.EndSettings.{EndSettings}
use Rattle.am_workers_laws.specs.declared.books.EndBook.{EndBook}
use Rattle.am_driver_moves.specs.Choice.Lists.{ViewLists}
use Rattle.am_driver_moves.specs.declared.choice.EndView.{EndView}
use Rattle.am_places.specs.Rule.{joined}
use Rattle.am_places.specs.declared.board.Tenure.{Tenure}
use Rattle.am_workers_laws.specs.Invariants.Drives.{IsLook, LooksTo, line_by, with_line}
use Rattle.am_workers_laws.specs.Invariants.Seats.{EndPass, IsIdle, Stays}

-- it has looked at so many endpoints
pub record IsLooking (id : TableId) (n : ℕ) (view now : ViewLists) (t u : Seat (Option EndBook) EndPass) : Type 0 where
  pub idle : IsIdle id u
  pub driver : u.me.0.mark ≡ u.me.0.seats
  pub long : length now.ends ≡ length view.ends
  pub looks : LooksTo n view now t.me.0 u.me.0

pub one_more : (n : ℕ) (view now next : ViewLists) (v u w : EndPass) → LooksTo n view now v u → IsLook n now next u w → LooksTo (n + 1) view next v w
one_more n view now next v u w looks look = subst (λ (m : ℕ). LooksTo m view next v w) (sym (add-one n)) (now, u, looks, look)

-- what a stay with no entry tells the driver
pub looked : (k : ℕ) (view now : ViewLists) (v w : EndPass) (set : EndSettings) (place : ℕ) (log : List (Tenure Entry)) (past : List Entry) (line : EndView) →
    Stays k set place log [] v w → joined log ≡ past → line ≡ line_by set past → now ≡ with_line k line view → IsLook k view now v w
looked k view now v w set place log past line stays is shown after =
    record { set = set; place = place; log = log; stays = stays; shown = after ∙ ap (λ (l : EndView). with_line k l view) (shown ∙ ap (line_by set) (sym is)) }
