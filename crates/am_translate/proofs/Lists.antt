-- Lists and their places.
use Rattle.std.specs.Prelude.{not}
use Rattle.std.proofs.Common.{◌≡◌, ℕ, zero, suc, ◌+◌, ◌<◌, ◌≤◌, Bool, true, false, cond, ◌||◌, List, [], ◌∷◌, ◌++◌, length, map, take, drop, Option, Some, None}
use Rattle.std.proofs.Common.{refl, sym, ap, ◌∙◌, arith, ltb, ltb-true}
use Rattle.std.specs.List.{list_any, position, position_or_len, remove}
use Rattle.std.proofs.lemmas.Bool.{lt-ltb}
use Rattle.std.proofs.lemmas.Grind.{common_steps}
use Rattle.std.proofs.lemmas.List.{append_assoc, length-map, length-take-le}
use Rattle.std.proofs.Math.Seq.{take-append_seam}
use Rattle.am_model.specs.Choice.{without_first}
use Rattle.am_model.proofs.Lists.{without_first-position}

-- what is left of the first places, where the one at a place went behind those after it
pub take-rotated : {X : Type 0} (xs ys : List X) (a m k : ℕ) → a + k ≡ suc m → a ≤ m → suc m ≤ length xs →
    ys ≡ drop 1 (take k (drop a xs)) ++ take 1 (take k (drop a xs)) → take m (take a xs ++ (ys ++ drop k (drop a xs))) ≡ remove (take (suc m) xs) a
take-rotated [] ys a m k sum le lt is = absurd (omega (arith, lt))
take-rotated {X} (x ∷ xs) ys zero m k sum le lt is =
    let whole : k ≡ suc m = omega (arith, sum) in
    let same : ys ≡ take m xs ++ x ∷ [] = is ∙ ap (λ (j : ℕ). drop 1 (take j (x ∷ xs)) ++ take 1 (take j (x ∷ xs))) whole in
    let rest : List X = drop k (x ∷ xs) in
    let size : length (take m xs) ≡ m = length-take-le m xs (omega (arith, lt)) in
    ap (λ (zs : List X). take m (zs ++ rest)) same
    ∙ ap (take m) (append_assoc (take m xs) (x ∷ []) rest)
    ∙ ap (λ (j : ℕ). take j (take m xs ++ (x ∷ rest))) (sym size)
    ∙ take-append_seam (take m xs) (x ∷ rest)
take-rotated (x ∷ xs) ys (suc a) zero k sum le lt is = absurd (omega (arith, le))
take-rotated (x ∷ xs) ys (suc a) (suc m) k sum le lt is = ap (λ zs. x ∷ zs) (take-rotated xs ys a m k (omega (arith, sum)) (omega (arith, le))
    (omega (arith, lt)) is)

-- the first elements, where a function was written over each of them and others follow
pub take-mapped : {X : Type 0} (f : X → X) (n : ℕ) (xs ys rest : List X) → n ≤ length xs → ys ≡ map f (take n xs) → take n (ys ++ rest) ≡ map f (take n xs)
take-mapped f n xs ys rest few is =
    let size : length ys ≡ n = ap length is ∙ length-map (take n xs) f ∙ length-take-le n xs few in
    ap (λ (j : ℕ). take j (ys ++ rest)) (sym size) ∙ take-append_seam ys rest ∙ is

-- whether an element passes, by the place of the first that does
pub any-place : {X : Type 0} (p : X → Bool) (xs : List X) → list_any p xs ≡ ltb (position_or_len p xs) (length xs)
any-place p [] = refl
any-place p (x ∷ xs) = by_test p xs (p x) (any-place p xs)
  where
    later : (n m : ℕ) → ltb (1 + n) (suc m) ≡ ltb n m
    later n m = grind (arith, common_steps)

    by_test : {X : Type 0} (p : X → Bool) (xs : List X) (b : Bool) → list_any p xs ≡ ltb (position_or_len p xs) (length xs) →
        (b || list_any p xs) ≡ ltb (cond (not b) (1 + position_or_len p xs) 0) (suc (length xs))
    by_test p xs true more = sym (lt-ltb 0 (suc (length xs)) (omega arith))
    by_test p xs false more = more ∙ sym (later (position_or_len p xs) (length xs))

pub found_at : {X : Type 0} (p : X → Bool) (xs : List X) (k : ℕ) → position p xs ≡ Some k → (list_any p xs ≡ true) × (k < length xs)
found_at p xs k h = by_test (ltb (position_or_len p xs) (length xs)) refl h
  where
    by_test : (b : Bool) → ltb (position_or_len p xs) (length xs) ≡ b → cond b (Some (position_or_len p xs)) None ≡ Some k →
        (list_any p xs ≡ true) × (k < length xs)
    by_test true is h = let same : position_or_len p xs ≡ k = cc in (any-place p xs ∙ is, omega (arith, same, ltb-true (position_or_len p xs) (length xs) is))
    by_test false is h = absurd (cc)

pub found_nowhere : {X : Type 0} (p : X → Bool) (xs : List X) → position p xs ≡ None → list_any p xs ≡ false
found_nowhere p xs h = by_test (ltb (position_or_len p xs) (length xs)) refl h
  where
    by_test : (b : Bool) → ltb (position_or_len p xs) (length xs) ≡ b → cond b (Some (position_or_len p xs)) None ≡ None → list_any p xs ≡ false
    by_test true is h = absurd (cc)
    by_test false is h = any-place p xs ∙ is

-- the same, where the place was looked for in a list that is xs
pub unfound : {X : Type 0} (p : X → Bool) (r : Option ℕ) (ys zs xs : List X) → r ≡ position p ys → r ≡ None → ys ≡ zs → zs ≡ xs → list_any p xs ≡ false
unfound p r ys zs xs at none e f = found_nowhere p xs (ap (position p) (sym (e ∙ f)) ∙ sym at ∙ none)

pub found : {X : Type 0} (p : X → Bool) (r : Option ℕ) (k : ℕ) (ys zs xs : List X) → r ≡ position p ys → r ≡ Some k → ys ≡ zs → zs ≡ xs →
    (list_any p xs ≡ true) × (without_first p xs ≡ remove xs k)
found p r k ys zs xs at some e f =
    let here : position p xs ≡ Some k = ap (position p) (sym (e ∙ f)) ∙ sym at ∙ some in ((found_at p xs k here).0, without_first-position p xs k here)

pub length-without : {X : Type 0} (p : X → Bool) (xs : List X) → length (without_first p xs) ≤ length xs
length-without p [] = omega arith
length-without p (x ∷ xs) = by_test p x xs (p x) (length-without p xs)
  where
    by_test : {X : Type 0} (p : X → Bool) (x : X) (xs : List X) (b : Bool) → length (without_first p xs) ≤ length xs →
        length (cond b xs (x ∷ without_first p xs)) ≤ suc (length xs)
    by_test p x xs true more = omega arith
    by_test p x xs false more = omega (arith, more)
