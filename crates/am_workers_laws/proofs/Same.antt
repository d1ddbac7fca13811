-- A seat stays the same seat.
use Rattle.std.proofs.Common.{ℕ, List, ap}
use Rattle.am_office_entries.specs.declared.Entry.{Entry}
use Rattle.am_endpoint_body.specs.declared.settings.EndSettings.{EndSettings}
use Rattle.am_places.specs.declared.board.Tenure.{Tenure}
use Rattle.am_workers_laws.specs.Invariants.Seats.{EndPass, IsBusy, SameSeat, SeatsStay, Stays}

pub stays_same : (k : ℕ) (set : EndSettings) (place : ℕ) (log : List (Tenure Entry)) (new : List Entry) (v w : EndPass) → Stays k set place log new v w →
    SameSeat v w
stays_same k set place log new v w h = record {
  mark = ap (λ (x : EndPass). x.mark) h.left.1;
  seats = ap (λ (x : EndPass). x.seats) h.left.1;
  births = ap (λ (x : EndPass). x.births) h.left.1;
}

pub busy_same : (k holder : ℕ) (v w : EndPass) → IsBusy k holder v w → SameSeat v w
busy_same k holder v w h = record {
  mark = ap (λ (x : EndPass). x.mark) h.1;
  seats = ap (λ (x : EndPass). x.seats) h.1;
  births = ap (λ (x : EndPass). x.births) h.1;
}

pub seats_stay : SeatsStay
seats_stay = record { stays = stays_same; busy = busy_same }
