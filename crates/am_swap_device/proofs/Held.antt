-- What is held for a key after bytes were put in its place.
use Rattle.std.proofs.Common.{◌≡◌, ℕ, suc, ◌+◌, ◌<◌, ◌≤◌, Bool, true, false, cond, List, [], ◌∷◌, ◌++◌, length, Option, Some, None, refl, sym, ap, ◌∙◌, arith}
use Rattle.std.proofs.Common.{ltb, ltb-true, lt-ltb, ltb-false, eqb-true, eq-eqb}
use Rattle.std.specs.Prelude.{not, slice_set, ◌==◌, find, if◌then◌else◌}
use Rattle.std.specs.List.{position, position_or_len}
use Rattle.std.specs.Option.{option_map}
use Rattle.am_names.specs.declared.EndpointId.{EndpointId}
use Rattle.am_names.specs.Names.{same_end}
use Rattle.am_swap_device.specs.Memory.{HeldImage, is_for, held_for, holding, held_instead}

-- the place of the first that is for the key takes the bytes
instead_set : (key : EndpointId) (bytes : List ℕ) (xs : List HeldImage) → ltb (position_or_len (is_for key) xs) (length xs) ≡ true →
    held_instead key bytes xs ≡ slice_set xs (position_or_len (is_for key) xs) (holding key bytes)
instead_set key bytes [] h = absurd cc
instead_set key bytes (x ∷ xs) h = by_test (is_for key x) refl h (λ more. instead_set key bytes xs more)
  where
    by_test : (b : Bool) → is_for key x ≡ b → ltb (cond (not b) (1 + position_or_len (is_for key) xs) 0) (suc (length xs)) ≡ true →
        (ltb (position_or_len (is_for key) xs) (length xs) ≡ true →
        held_instead key bytes xs ≡ slice_set xs (position_or_len (is_for key) xs) (holding key bytes)) →
        cond b (holding key bytes ∷ xs) (x ∷ held_instead key bytes xs) ≡ slice_set (x ∷ xs) (cond (not b) (1 + position_or_len (is_for key) xs) 0)
        (holding key bytes)
    by_test true is h more = refl
    by_test false is h more =
        let p : ℕ = position_or_len (is_for key) xs in
        let e : 1 + p ≡ suc p = omega arith in
        let below : 1 + p < suc (length xs) = ltb-true (1 + p) (suc (length xs)) h in
        let less : p < length xs = omega arith in
        ap (λ (ys : List HeldImage). x ∷ ys) (more (lt-ltb p (length xs) less)) ∙ sym (ap (λ (n : ℕ). slice_set (x ∷ xs) n (holding key bytes)) e)

instead_end : (key : EndpointId) (bytes : List ℕ) (xs : List HeldImage) → length xs ≤ position_or_len (is_for key) xs →
    held_instead key bytes xs ≡ xs ++ holding key bytes ∷ []
instead_end key bytes [] h = refl
instead_end key bytes (x ∷ xs) h = by_test (is_for key x) refl h (λ more. instead_end key bytes xs more)
  where
    by_test : (b : Bool) → is_for key x ≡ b → suc (length xs) ≤ cond (not b) (1 + position_or_len (is_for key) xs) 0 →
        (length xs ≤ position_or_len (is_for key) xs → held_instead key bytes xs ≡ xs ++ holding key bytes ∷ []) →
        cond b (holding key bytes ∷ xs) (x ∷ held_instead key bytes xs) ≡ x ∷ (xs ++ holding key bytes ∷ [])
    by_test true is h more = absurd (omega arith)
    by_test false is h more = ap (λ (ys : List HeldImage). x ∷ ys) (more (omega arith))

pub instead_at : (key : EndpointId) (bytes : List ℕ) (xs : List HeldImage) (i : ℕ) → position (is_for key) xs ≡ Some i →
    held_instead key bytes xs ≡ slice_set xs i (holding key bytes)
instead_at key bytes xs i e = at (ltb (position_or_len (is_for key) xs) (length xs)) refl e
  where
    at : (b : Bool) → ltb (position_or_len (is_for key) xs) (length xs) ≡ b → cond b (Some (position_or_len (is_for key) xs)) None ≡ Some i →
        held_instead key bytes xs ≡ slice_set xs i (holding key bytes)
    at true t h = let is : position_or_len (is_for key) xs ≡ i = cc in instead_set key bytes xs t ∙ ap (λ (n : ℕ). slice_set xs n (holding key bytes)) is
    at false t h = absurd cc

pub instead_none : (key : EndpointId) (bytes : List ℕ) (xs : List HeldImage) → position (is_for key) xs ≡ None →
    held_instead key bytes xs ≡ xs ++ holding key bytes ∷ []
instead_none key bytes xs e = at (ltb (position_or_len (is_for key) xs) (length xs)) refl e
  where
    at : (b : Bool) → ltb (position_or_len (is_for key) xs) (length xs) ≡ b → cond b (Some (position_or_len (is_for key) xs)) None ≡ None →
        held_instead key bytes xs ≡ xs ++ holding key bytes ∷ []
    at true t h = absurd cc
    at false t h = instead_end key bytes xs (ltb-false _ _ t)

-- for the key the bytes are held, and for every other key what was
pub holds_instead : (key : EndpointId) (bytes : List ℕ) (xs : List HeldImage) (other : EndpointId) →
    held_for (held_instead key bytes xs) other ≡ (if same_end other key then Some bytes else held_for xs other)
holds_instead key bytes [] other = empty (same_end other key)
  where
    empty : (b : Bool) → option_map (λ (h : HeldImage). h.bytes) (cond b (Some (holding key bytes)) None) ≡ cond b (Some bytes) None
    empty true = refl
    empty false = refl
holds_instead key bytes (x ∷ xs) other = by_test (is_for key x) refl (same_end other key) refl (is_for other x) refl (holds_instead key bytes xs other)
  where
    of : Option HeldImage → Option (List ℕ)
    of o = option_map (λ (h : HeldImage). h.bytes) o

    apart : (a b c : ℕ) → (a == c) ≡ true → (b == a) ≡ false → (b == c) ≡ true → false ≡ true
    apart a b c ac ba bc =
        let e : b ≡ a = eqb-true b c bc ∙ sym (eqb-true a c ac) in
        sym ba ∙ eq-eqb b a e

    same : (a b c : ℕ) → (a == c) ≡ false → (b == a) ≡ true → (b == c) ≡ true → false ≡ true
    same a b c ac ba bc =
        let e : a ≡ c = sym (eqb-true b a ba) ∙ eqb-true b c bc in
        sym ac ∙ eq-eqb a c e

    first_of : {c : Bool} → is_for other x ≡ false → held_for (held_instead key bytes xs) other ≡ cond (same_end other key) (Some bytes) (held_for xs other) →
        same_end other key ≡ c → of (cond (is_for other x) (Some x) (find (is_for other) (held_instead key bytes xs))) ≡ cond c (Some bytes) (held_for xs other)
    first_of xt more ot =
        ap (λ (b : Bool). of (cond b (Some x) (find (is_for other) (held_instead key bytes xs)))) xt
        ∙ (more ∙ ap (λ (b : Bool). cond b (Some bytes) (held_for xs other)) ot)

    by_test : (b : Bool) → is_for key x ≡ b → (c : Bool) → same_end other key ≡ c → (d : Bool) → is_for other x ≡ d →
        held_for (held_instead key bytes xs) other ≡ cond (same_end other key) (Some bytes) (held_for xs other) →
        of (find (is_for other) (cond b (holding key bytes ∷ xs) (x ∷ held_instead key bytes xs))) ≡ cond c (Some bytes)
        (of (cond d (Some x) (find (is_for other) xs)))
    by_test true is true ot d xt more = ap (λ (b : Bool). of (cond b (Some (holding key bytes)) (find (is_for other) xs))) ot
    by_test true is false ot true xt more = let no_way : false ≡ true = apart key.0 other.0 x.key.0 is ot xt in cc
    by_test true is false ot false xt more = ap (λ (b : Bool). of (cond b (Some (holding key bytes)) (find (is_for other) xs))) ot
    by_test false is true ot true xt more = let no_way : false ≡ true = same key.0 other.0 x.key.0 is ot xt in cc
    by_test false is true ot false xt more = first_of xt more ot
    by_test false is false ot true xt more = ap (λ (b : Bool). of (cond b (Some x) (find (is_for other) (held_instead key bytes xs)))) xt
    by_test false is false ot false xt more = first_of xt more ot
