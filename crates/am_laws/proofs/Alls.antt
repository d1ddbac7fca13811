-- What holds of each element of a list, and what some entry gave.
use Rattle.std.specs.Prelude.{slice_get}
use Rattle.std.proofs.Common.{◌≡◌, ℕ, zero, suc, Bool, true, false, cond, List, [], ◌∷◌, ◌++◌, drop, Option, Some, None, refl, sym, subst}
use Rattle.std.specs.List.{find, filter_map, cons_option}
use Rattle.std.proofs.lemmas.List.Elements.{filter_map-append}
use Rattle.am_lemmas.proofs.Lists.{slice_get-append_left}
use Rattle.am_office_entries.specs.declared.Entry.{Entry}
use Rattle.am_model.specs.Choice.{without_first}
use Rattle.am_model.specs.Layout.{AllAre}
use Rattle.am_model.specs.PostOffice.{Gave}

pub all_map : {X : Type 0} (P Q : X → Type 0) (xs : List X) → ((x : X) → P x → Q x) → AllAre P xs → AllAre Q xs
all_map P Q [] f h = tt
all_map P Q (x ∷ xs) f h = (f x h.0, all_map P Q xs f h.1)

pub all_tail : {X : Type 0} (P : X → Type 0) (xs : List X) → AllAre P xs → AllAre P (drop 1 xs)
all_tail P [] h = tt
all_tail P (x ∷ xs) h = h.1

pub all_found : {X : Type 0} (P : X → Type 0) (p : X → Bool) (xs : List X) (y : X) → find p xs ≡ Some y → AllAre P xs → P y
all_found P p [] y e h = absurd (cc)
all_found P p (x ∷ xs) y e h = by_test P x (find p xs) y (p x) e (λ f. all_found P p xs y f h.1) h.0
  where
    by_test : {X : Type 0} (P : X → Type 0) (x : X) (rest : Option X) (y : X) (b : Bool) → cond b (Some x) rest ≡ Some y → (rest ≡ Some y → P y) → P x → P y
    by_test P x rest y true e more here = let same : x ≡ y = cc in subst P same here
    by_test P x rest y false e more here = more e

pub all_without : {X : Type 0} (P : X → Type 0) (p : X → Bool) (xs : List X) → AllAre P xs → AllAre P (without_first p xs)
all_without P p [] h = tt
all_without P p (x ∷ xs) h = by_test P x xs (without_first p xs) (p x) h.0 h.1 (all_without P p xs h.1)
  where
    by_test : {X : Type 0} (P : X → Type 0) (x : X) (xs ys : List X) (b : Bool) → P x → AllAre P xs → AllAre P ys → AllAre P (cond b xs (x ∷ ys))
    by_test P x xs ys true here all more = all
    by_test P x xs ys false here all more = (here, more)

pub gave_more : {A : Type 0} (given : Entry → Option A) (past : List Entry) (x : Entry) (a : A) → Gave given past a → Gave given (past ++ x ∷ []) a
gave_more given past x a h = (
  h.0,
  subst (λ ys. slice_get ys h.0 ≡ Some a) (sym (filter_map-append given past (x ∷ [])))
      (slice_get-append_left (filter_map given past) (filter_map given (x ∷ [])) h.0 a h.1),
)

pub gave_now : {A : Type 0} (given : Entry → Option A) (past : List Entry) (x : Entry) (a : A) → given x ≡ Some a → Gave given (past ++ x ∷ []) a
gave_now given [] x a h = (zero, subst (λ w. slice_get (cons_option w []) 0 ≡ Some a) (sym h) refl)
gave_now given (y ∷ past) x a h = by_given (given y) (filter_map given (past ++ x ∷ [])) a (gave_now given past x a h)
  where
    by_given : {A : Type 0} (w : Option A) (xs : List A) (a : A) → (k : ℕ) × (slice_get xs k ≡ Some a) → (k : ℕ) × (slice_get (cons_option w xs) k ≡ Some a)
    by_given None xs a r = r
    by_given (Some b) xs a r = (suc r.0, r.1)
