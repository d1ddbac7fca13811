-- Books are made of endpoints one after the other.
use Rattle.std.proofs.Common.{◌≡◌, List, [], ◌∷◌, ◌++◌, map, reverse, sym, ap, ◌∙◌, append-nil, append_assoc}
use Rattle.std.proofs.lemmas.List.{reverse-append, reverse-reverse}
use Rattle.am_workers_laws.specs.Books.Books.{IsBook}
use Rattle.am_workers_laws.specs.declared.books.EndBook.{EndBook}
use Rattle.am_driver_moves.specs.Choice.Views.{line_of}
use Rattle.am_driver_moves.specs.declared.choice.EndView.{EndView}
use Rattle.am_endpoint.specs.View.{EndpointView, state_after}
use Rattle.am_model.specs.Layout.{AllAre}
use Rattle.am_cluster_opening.proofs.Lists.{all_front, all_last, all_reversed, map_push}
use Rattle.am_workers_laws.specs.Books.Ends.{end_in}

-- the line of an endpoint as it is now
abbrev pub line_now : EndpointView → EndView
line_now e = line_of e.settings.id (state_after e)

-- these books were made, and of these endpoints books are still to be made, the last first
pub record AreBooked (whole rest : List EndpointView) (books : List EndBook) : Type 0 where
  pub fine : AllAre IsBook rest
  pub made : map end_in books ++ reverse rest ≡ whole

pub booked_begins : (whole : List EndpointView) → AllAre IsBook whole → AreBooked whole (reverse whole) []
booked_begins whole fine = record { fine = all_reversed IsBook whole fine; made = reverse-reverse whole }

pub booked_next : (whole rest : List EndpointView) (x : EndpointView) (books : List EndBook) → AreBooked whole (rest ++ x ∷ []) books → IsBook x
booked_next whole rest x books b = all_last IsBook rest x b.fine

pub booked_more : (whole rest : List EndpointView) (x : EndpointView) (books : List EndBook) (b : EndBook) → AreBooked whole (rest ++ x ∷ []) books →
    b.end.value ≡ x → AreBooked whole rest (books ++ b ∷ [])
booked_more whole rest x books b so is =
    record {
      fine = all_front IsBook rest x so.fine;
      made =
          ap (λ (l : List EndpointView). l ++ reverse rest) (map_push end_in books b ∙ ap (λ (y : EndpointView). map end_in books ++ y ∷ []) is)
          ∙ append_assoc (map end_in books) (x ∷ []) (reverse rest)
          ∙ ap (λ (l : List EndpointView). map end_in books ++ l) (sym (reverse-append rest (x ∷ [])))
          ∙ so.made;
    }

pub booked_ends : (whole : List EndpointView) (books : List EndBook) → AreBooked whole [] books → map end_in books ≡ whole
booked_ends whole books b = sym (append-nil (map end_in books)) ∙ b.made
