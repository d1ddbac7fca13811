-- What a filter keeps.
use Rattle.std.proofs.Common.{◌≡◌, ◌⊎◌, ⊎_elim, Bool, true, false, List, [], ◌∷◌, refl, subst, if◌then◌else◌}
use Rattle.std.specs.Prelude.{filter}
use Rattle.std.specs.List.{Contains}
use Rattle.std.proofs.lemmas.List.Elements.{Contains-append_cases, Contains-append_left, Contains-append_right}

pub filter_in : {X : Type 0} (p : X → Bool) (xs : List X) (x : X) → Contains (filter p xs) x → Contains xs x
filter_in p [] x has = has
filter_in {X} p (y ∷ xs) x has = by_test (filter_in p xs x) (p y) refl
  where
    by_test : (Contains (filter p xs) x → Contains xs x) → (b : Bool) → p y ≡ b → Contains (y ∷ xs) x
    by_test inside true is =
        ⊎_elim (λ (here : Contains (y ∷ []) x). Contains-append_left (y ∷ []) xs x here)
        (λ (later : Contains (filter p xs) x). Contains-append_right (y ∷ []) xs x (inside later))
        (Contains-append_cases (y ∷ []) (filter p xs) x
        (subst (λ (b : Bool). Contains (if b then y ∷ filter p xs else filter p xs) x) is has))
    by_test inside false is =
        Contains-append_right (y ∷ []) xs x
        (inside (subst (λ (b : Bool). Contains (if b then y ∷ filter p xs else filter p xs) x) is has))
