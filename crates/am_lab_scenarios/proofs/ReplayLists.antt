-- Readings of a list whose elements are replaced by others that read the same.
use Rattle.std.proofs.Common.{◌≡◌, ℕ, ◌+◌, Bool, true, false, cond, ◌||◌, List, [], ◌∷◌, ◌++◌, map, reverse, Option, Some, refl, sym, ap, ◌∙◌}
use Rattle.std.specs.List.{filter, filter_map, find, fold, list_any, count_by}
use Rattle.std.specs.Option.{option_map}
use Rattle.std.proofs.lemmas.List.{map_push, reverse-append}

pub filter_stays : {X : Type 0} (f : X → X) (p : X → Bool) → ((x : X) → p (f x) ≡ p x) → (xs : List X) → filter p (map f xs) ≡ map f (filter p xs)
filter_stays f p same [] = refl
filter_stays f p same (x ∷ xs) = (λ i. cond (same x i) (f x ∷ filter_stays f p same xs i) (filter_stays f p same xs i)) ∙ by_test f x (filter p xs) (p x)
  where
    by_test : {X : Type 0} (f : X → X) (x : X) (rest : List X) (b : Bool) → cond b (f x ∷ map f rest) (map f rest) ≡ map f (cond b (x ∷ rest) rest)
    by_test f x rest true = refl
    by_test f x rest false = refl

pub filter_map_stays : {X Y : Type 0} (f : X → X) (h : X → Option Y) → ((x : X) → h (f x) ≡ h x) → (xs : List X) → filter_map h (map f xs) ≡ filter_map h xs
filter_map_stays f h same [] = refl
filter_map_stays f h same (x ∷ xs) = rw (same x, filter_map_stays f h same xs) refl

pub any_stays : {X : Type 0} (f : X → X) (p : X → Bool) → ((x : X) → p (f x) ≡ p x) → (xs : List X) → list_any p (map f xs) ≡ list_any p xs
any_stays f p same [] = refl
any_stays f p same (x ∷ xs) = λ i. same x i || any_stays f p same xs i

pub fold_stays : {X A : Type 0} (f : X → X) (g : A → X → A) → ((a : A) (x : X) → g a (f x) ≡ g a x) → (a : A) (xs : List X) → fold g a (map f xs) ≡ fold g a xs
fold_stays f g same a [] = refl
fold_stays f g same a (x ∷ xs) = ap (λ b. fold g b (map f xs)) (same a x) ∙ fold_stays f g same (g a x) xs

pub count_stays : {X : Type 0} (f : X → X) (p : X → Bool) → ((x : X) → p (f x) ≡ p x) → (xs : List X) → count_by p (map f xs) ≡ count_by p xs
count_stays f p same xs = fold_stays f (λ (a : ℕ) x. a + cond (p x) 1 0) (λ a x i. a + cond (same x i) 1 0) 0 xs

find_stays : {X : Type 0} (f : X → X) (p : X → Bool) → ((x : X) → p (f x) ≡ p x) → (xs : List X) → find p (map f xs) ≡ option_map f (find p xs)
find_stays f p same [] = refl
find_stays f p same (x ∷ xs) = (λ i. cond (same x i) (Some (f x)) (find_stays f p same xs i)) ∙ by_test f x (find p xs) (p x)
  where
    by_test : {X : Type 0} (f : X → X) (x : X) (rest : Option X) (b : Bool) → cond b (Some (f x)) (option_map f rest) ≡ option_map f (cond b (Some x) rest)
    by_test f x rest true = refl
    by_test f x rest false = refl

map-reverse : {X : Type 0} (f : X → X) (xs : List X) → map f (reverse xs) ≡ reverse (map f xs)
map-reverse f [] = refl
map-reverse f (x ∷ xs) =
    ap (map f) (reverse-append (x ∷ []) xs)
    ∙ map_push f (reverse xs) x
    ∙ ap (λ l. l ++ f x ∷ []) (map-reverse f xs)
    ∙ sym (reverse-append (f x ∷ []) (map f xs))

-- the last one that passes
pub last_stays : {X : Type 0} (f : X → X) (p : X → Bool) → ((x : X) → p (f x) ≡ p x) → (xs : List X) →
    find p (reverse (map f xs)) ≡ option_map f (find p (reverse xs))
last_stays f p same xs = ap (find p) (sym (map-reverse f xs)) ∙ find_stays f p same (reverse xs)
