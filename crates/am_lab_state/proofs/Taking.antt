-- Packets that are taken away from those of a link.
use Rattle.std.proofs.Common.{◌≡◌, ℕ, Bool, true, false, cond, ltb, List, [], ◌∷◌, ◌||◌, length, Option, Some, None, refl, sym, ap, ◌∙◌}
use Rattle.std.specs.List.{cons_option, list_any, position, position_or_len, remove}
use Rattle.std.specs.Prelude.{option_to_list}
use Rattle.am_model.specs.Choice.{without_first}
use Rattle.am_model.proofs.Lists.{without_first-position}
use Rattle.am_translate.proofs.Lists.{any-place}
use Rattle.am_lab_state.specs.Links.{without_received}

none_goes : {X : Type 0} (p : X → Bool) (xs : List X) → list_any p xs ≡ false → without_first p xs ≡ xs
none_goes p [] h = refl
none_goes p (x ∷ xs) h = by_test (p x) h (none_goes p xs)
  where
    by_test : (b : Bool) → (b || list_any p xs) ≡ false → (list_any p xs ≡ false → without_first p xs ≡ xs) → cond b xs (x ∷ without_first p xs) ≡ x ∷ xs
    by_test true g more = absurd (cc)
    by_test false g more = ap (λ ys. x ∷ ys) (more g)

-- where no element passes, none goes
pub none_to_take : {X : Type 0} (p : X → Bool) (xs : List X) → position p xs ≡ None → xs ≡ without_first p xs
none_to_take p xs e = sym (none_goes p xs (any-place p xs ∙ at (ltb (position_or_len p xs) (length xs)) e))
  where
    at : (b : Bool) → cond b (Some (position_or_len p xs)) None ≡ None → b ≡ false
    at true h = absurd (cc)
    at false h = refl

-- what `position` finds goes
pub one_to_take : {X : Type 0} (p : X → Bool) (xs : List X) (place : ℕ) → position p xs ≡ Some place → remove xs place ≡ without_first p xs
one_to_take p xs place e = sym (without_first-position p xs place e)

-- one entry more
pub taken_more : (o : Option ℕ) (numbers packets : List ℕ) →
    without_received numbers (without_received (option_to_list o) packets) ≡ without_received (cons_option o numbers) packets
taken_more None numbers packets = refl
taken_more (Some number) numbers packets = refl
