-- What `find` finds, and what `list_any` says of it.
use Rattle.std.proofs.Common.{◌≡◌, Bool, true, false, ◌||◌, cond, List, [], ◌∷◌, Option, Some, None, refl, sym, ◌∙◌, ap, subst}
use Rattle.std.specs.Prelude.{not, is_some}
use Rattle.std.specs.List.{find, list_any}
use Rattle.std.proofs.lemmas.Bool.{or_right, or_left}
use Rattle.am_model.specs.Layout.{AllAre}

pub not_true : (b : Bool) → b ≡ true → not b ≡ false
not_true true h = refl
not_true false h = absurd (cc)

-- a test that finds nothing, or something
pub some_found : {X : Type 0} (p : X → Bool) (xs : List X) → is_some (find p xs) ≡ list_any p xs
some_found p [] = refl
some_found p (x ∷ xs) = by_test p x xs (p x) (some_found p xs)
  where
    by_test : {X : Type 0} (p : X → Bool) (x : X) (xs : List X) (b : Bool) → is_some (find p xs) ≡ list_any p xs →
        is_some (cond b (Some x) (find p xs)) ≡ (b || list_any p xs)
    by_test p x xs true more = refl
    by_test p x xs false more = more

pub record IsFound {X : Type 0} (P : X → Type 0) (p : X → Bool) (xs : List X) (x : X) : Type 0 where
  pub holds : P x
  pub passes : p x ≡ true
  pub among : (q : X → Bool) → q x ≡ true → list_any q xs ≡ true

-- what is found is among the elements, and passes
pub found : {X : Type 0} (P : X → Type 0) (p : X → Bool) (xs : List X) (x : X) → AllAre P xs → find p xs ≡ Some x → IsFound P p xs x
found P p [] x all h = absurd (cc)
found P p (y ∷ ys) x all h = by_test P p y ys x (p y) refl all h (λ more. found P p ys x all.1 more)
  where
    later : {X : Type 0} (P : X → Type 0) (p : X → Bool) (y : X) (ys : List X) (x : X) → IsFound P p ys x → IsFound P p (y ∷ ys) x
    later P p y ys x is = record { holds = is.holds; passes = is.passes; among = λ q h. or_right (q y) (list_any q ys) (is.among q h) }

    here : {X : Type 0} (P : X → Type 0) (p : X → Bool) (y : X) (ys : List X) (x : X) → y ≡ x → P y → p y ≡ true → IsFound P p (y ∷ ys) x
    here {X} P p y ys x e holds passes =
        record { holds = subst P e holds; passes = ap p (sym e) ∙ passes; among = λ q h. or_left (q y) (list_any q ys) (ap q e ∙ h) }

    by_test : {X : Type 0} (P : X → Type 0) (p : X → Bool) (y : X) (ys : List X) (x : X) (b : Bool) → p y ≡ b → AllAre P (y ∷ ys) →
        cond b (Some y) (find p ys) ≡ Some x → (find p ys ≡ Some x → IsFound P p ys x) → IsFound P p (y ∷ ys) x
    by_test P p y ys x true t all h more = here P p y ys x (cc) all.0 t
    by_test P p y ys x false t all h more = later P p y ys x (more h)

pub is_anything : {X : Type 0} (xs : List X) → AllAre (λ (x : X). Unit {0}) xs
is_anything [] = tt
is_anything (x ∷ xs) = (tt, is_anything xs)

pub record Finds {X : Type 0} (P : X → Type 0) (p : X → Bool) (xs : List X) : Type 0 where
  pub value : X
  pub found : IsFound P p xs value

-- where some element passes, one is found
pub finds : {X : Type 0} (P : X → Type 0) (p : X → Bool) (xs : List X) → AllAre P xs → list_any p xs ≡ true → Finds P p xs
finds P p xs all h = by_found P p xs all (find p xs) refl (some_found p xs ∙ h)
  where
    by_found : {X : Type 0} (P : X → Type 0) (p : X → Bool) (xs : List X) → AllAre P xs → (o : Option X) → find p xs ≡ o → is_some o ≡ true → Finds P p xs
    by_found P p xs all None e h = absurd (cc)
    by_found P p xs all (Some x) e h = record { value = x; found = found P p xs x all e }

-- a test that lets more pass
pub weaker : {X : Type 0} (p q : X → Bool) → ((x : X) → p x ≡ true → q x ≡ true) → (xs : List X) → list_any p xs ≡ true → list_any q xs ≡ true
weaker {X} p q more xs h =
    let one : Finds (λ (x : X). Unit {0}) p xs = finds (λ (x : X). Unit {0}) p xs (is_anything xs) h in
    one.found.among q (more one.value one.found.passes)
