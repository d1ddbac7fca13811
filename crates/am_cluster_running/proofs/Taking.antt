-- One book more that is taken out.
use Rattle.std.specs.Prelude.{slice_get, slice_index_or, slice_set}
use Rattle.std.proofs.Common.{◌≡◌, ◌≢◌, ⊎_elim, ℕ, zero, suc, ◌+◌, ◌≤◌, Option, Some, List, [], ◌∷◌, ◌++◌, length, length-append, refl, sym, ap, ◌∙◌, subst}
use Rattle.std.proofs.Common.{arith}
use Rattle.atomic_table.specs.Table.{Me}
use Rattle.am_lemmas.proofs.Lists.{slice_get-push_cases}
use Rattle.std.proofs.lemmas.List.{length-set}
use Rattle.am_office_entries.specs.declared.Entry.{Entry}
use Rattle.am_workers_laws.specs.declared.books.EndBook.{EndBook}
use Rattle.am_places.specs.Rule.{known_at, nothing, with_known}
use Rattle.am_places.specs.declared.board.Known.{Known}
use Rattle.am_places.specs.declared.board.Tenure.{Tenure}
use Rattle.am_workers_laws.specs.Invariants.Seats.{EndPass}
use Rattle.am_workers_laws.specs.Ended.{ComesTo, IsTakenOut}

set_elsewhere : (xs : List (Known Entry)) (j k : ℕ) (x : Known Entry) → j ≢ k → slice_index_or (slice_set xs j x) k nothing ≡ slice_index_or xs k nothing
set_elsewhere [] j k x apart = refl
set_elsewhere (y ∷ ys) zero zero x apart = absurd (apart refl)
set_elsewhere (y ∷ ys) zero (suc k) x apart = refl
set_elsewhere (y ∷ ys) (suc j) zero x apart = refl
set_elsewhere (y ∷ ys) (suc j) (suc k) x apart = set_elsewhere ys j k x (λ same. apart (ap suc same))

-- the keeper of the pass v, which knows this by now, took out the books of the first n places
pub record HasTaken (n : ℕ) (v u : EndPass) (books : List EndBook) : Type 0 where
  pub knows : (k : ℕ) → n ≤ k → known_at k u ≡ known_at k v
  pub wide : length u.known ≡ length v.known
  pub keeps : u.keeps ≡ v.keeps
  pub seats : u.seats ≡ v.seats
  pub births : u.births ≡ v.births
  pub long : length books ≡ n
  pub each : (k : ℕ) (b : EndBook) → slice_get books k ≡ Some b → IsTakenOut v k b

pub taken_more : (n : ℕ) (v : EndPass) (me : Me (Option EndBook) EndPass) (books more : List EndBook) (b : EndBook) (log : List (Tenure Entry))
    (x : Known Entry) (w : EndPass) → HasTaken n v me.0 books → ComesTo n me log b → w ≡ with_known n x me.0 → more ≡ books ++ b ∷ [] →
    HasTaken (n + 1) v w more
taken_more n v me books more b log x w h comes is pushed =
    record {
      knows = λ k less. ap (known_at k) is ∙ set_elsewhere me.0.known n k x (λ same. absurd (omega (arith, less, same))) ∙ h.knows k (omega (arith, less));
      wide = ap (λ (u : EndPass). length u.known) is ∙ length-set me.0.known n x ∙ h.wide;
      keeps = ap (λ (u : EndPass). u.keeps) is ∙ h.keeps;
      seats = ap (λ (u : EndPass). u.seats) is ∙ h.seats;
      births = ap (λ (u : EndPass). u.births) is ∙ h.births;
      long = ap (λ (bs : List EndBook). length bs) pushed ∙ length-append books (b ∷ []) ∙ ap (λ (m : ℕ). m + 1) h.long;
      each = λ k c at.
          ⊎_elim (λ (old : slice_get books k ≡ Some c). h.each k c old)
          (λ (new : (k ≡ length books) × (c ≡ b)).
          subst (λ (j : ℕ). IsTakenOut v j c) (sym (new.0 ∙ h.long))
          (subst (λ (d : EndBook). IsTakenOut v n d) (sym new.1)
          (record {
            me = me;
            log = log;
            knows = record { known = h.knows n (omega arith); keeps = h.keeps; seats = h.seats; births = h.births };
            comes = comes;
          })))
          (slice_get-push_cases books b k c (subst (λ (bs : List EndBook). slice_get bs k ≡ Some c) pushed at));
    }
