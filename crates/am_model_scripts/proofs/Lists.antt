-- What is the first of some, the beginning of a list, and what is left of it.
use Rattle.std.proofs.Common.{◌≡◌, ℕ, zero, suc, List, [], ◌∷◌, ◌++◌, length, take, Option, Some, None, Bool, true, false, cond, refl, sym, ◌∙◌, ap}
use Rattle.std.specs.Prelude.{◌&&◌, not, find, slice_get, option_map}
use Rattle.std.specs.List.{list_all}
use Rattle.std.proofs.lemmas.Bool.{and_parts}
use Rattle.am_model_scripts.specs.Links.{first_some}

pub take_all : {X : Type 0} (n : ℕ) (xs : List X) → slice_get xs n ≡ None → take n xs ≡ xs
take_all zero [] e = refl
take_all (suc n) [] e = refl
take_all zero (x ∷ xs) e = absurd (cc)
take_all (suc n) (x ∷ xs) e = ap (λ ys. x ∷ ys) (take_all n xs e)

-- a list is the beginning of another
abbrev pub Begins : {X : Type 0} → List X → List X → Type 0
Begins r n = r ≡ take (length r) n

pub begins_more : {X : Type 0} (r n more : List X) → Begins r n → Begins r (n ++ more)
begins_more [] n more e = refl
begins_more (x ∷ xs) [] more e = absurd (cc)
begins_more (x ∷ xs) (y ∷ ys) more e =
    let first : x ≡ y = cc in
    let rest : xs ≡ take (length xs) ys = cc in
    ap (λ z. z ∷ xs) first ∙ ap (λ zs. y ∷ zs) (begins_more xs ys more rest)

pub begins_next : {X : Type 0} (r n more : List X) (k : X) → Begins r n → slice_get n (length r) ≡ Some k → Begins (r ++ k ∷ []) (n ++ more)
begins_next [] [] more k e f = absurd (cc)
begins_next [] (y ∷ ys) more k e f =
    let same : y ≡ k = cc in
    ap (λ z. z ∷ []) (sym same)
begins_next (x ∷ xs) [] more k e f = absurd (cc)
begins_next (x ∷ xs) (y ∷ ys) more k e f =
    let first : x ≡ y = cc in
    let rest : xs ≡ take (length xs) ys = cc in
    ap (λ z. z ∷ (xs ++ k ∷ [])) first ∙ ap (λ zs. y ∷ zs) (begins_next xs ys more k rest f)

pub first_none : {X : Type 0} (o : Option X) (os : List (Option X)) → first_some (o ∷ os) ≡ None → (o ≡ None) × (first_some os ≡ None)
first_none None os e = (refl, e)
first_none (Some x) os e = absurd (cc)

pub none_mapped : {X Y : Type 0} (f : X → Y) (o : Option X) → option_map f o ≡ None → o ≡ None
none_mapped f None e = refl
none_mapped f (Some x) e = absurd (cc)

pub some_mapped : {X Y : Type 0} (f : X → Y) (o : Option X) (y : Y) → option_map f o ≡ Some y → (x : X) × (o ≡ Some x) × (f x ≡ y)
some_mapped f None y e = absurd (cc)
some_mapped f (Some x) y e = (x, refl, cc)

none_step : {X : Type 0} (b r : Bool) (y : X) (rest : Option X) → cond b (Some y) rest ≡ None → (rest ≡ None → r ≡ true) → (not b && r) ≡ true
none_step true r y rest e h = absurd (cc)
none_step false r y rest e h = h e

-- where none is found, none passes
pub none_all : {X : Type 0} (p : X → Bool) (xs : List X) → find p xs ≡ None → list_all (λ (x : X). not (p x)) xs ≡ true
none_all p [] e = refl
none_all p (y ∷ ys) e = none_step (p y) (list_all (λ x. not (p x)) ys) y (find p ys) e (none_all p ys)

found_step : {X : Type 0} (r : X → Bool) (b : Bool) (y x : X) (rest : Option X) (rs : Bool) → cond b (Some y) rest ≡ Some x → (r y && rs) ≡ true →
    (rest ≡ Some x → rs ≡ true → r x ≡ true) → r x ≡ true
found_step r true y x rest rs e all h =
    let same : y ≡ x = cc in
    ap r (sym same) ∙ (and_parts (r y) rs all).0
found_step r false y x rest rs e all h = h e (and_parts (r y) rs all).1

-- what holds of all holds of what is found
pub found_in : {X : Type 0} (p r : X → Bool) (xs : List X) (x : X) → find p xs ≡ Some x → list_all r xs ≡ true → r x ≡ true
found_in p r [] x e all = absurd (cc)
found_in p r (y ∷ ys) x e all = found_step r (p y) y x (find p ys) (list_all r ys) e all (found_in p r ys x)
