-- A text that grows by what is told of one number more.
use Rattle.std.proofs.Common.{◌≡◌, ℕ, ◌+◌, List, [], ◌∷◌, ◌++◌, Result, sym, ap, ◌∙◌, subst, append_assoc, zero-add}
use Rattle.std.specs.Prelude.{OnOk}
use Rattle.std.proofs.lemmas.List.{append-nil}
use Rattle.std.proofs.lemmas.Grind.{flat_map-append}
use Rattle.std.specs.List.{flat_map, range_with_len}
use Rattle.am_block.proofs.Fresh.{range-more}

-- the numbers below the next one are those below this one, and this one
numbers_more : (f : ℕ → List ℕ) (n : ℕ) → flat_map f (range_with_len 0 (n + 1)) ≡ flat_map f (range_with_len 0 n) ++ f n
numbers_more f n =
    ap (flat_map f) (range-more 0 n)
    ∙ flat_map-append f (range_with_len 0 n) ((0 + n) ∷ [])
    ∙ ap (λ (xs : List ℕ). flat_map f (range_with_len 0 n) ++ xs) (append-nil (f (0 + n)))
    ∙ ap (λ (k : ℕ). flat_map f (range_with_len 0 n) ++ f k) (zero-add n)

pub put_number : (f : ℕ → List ℕ) (n : ℕ) (old out new : List ℕ) → new ≡ out ++ f n → out ≡ old ++ flat_map f (range_with_len 0 n) →
    new ≡ old ++ flat_map f (range_with_len 0 (n + 1))
put_number f n old out new put so =
    put
    ∙ ap (λ (o : List ℕ). o ++ f n) so
    ∙ append_assoc old (flat_map f (range_with_len 0 n)) (f n)
    ∙ ap (λ (o : List ℕ). old ++ o) (sym (numbers_more f n))

-- ---- three parts, one after the other

pub three_told : {T E : Type 0} (r : Result T E) (new second first old x y z : List ℕ) → first ≡ old ++ x → second ≡ first ++ y → OnOk r (new ≡ second ++ z) →
    OnOk r (new ≡ old ++ (x ++ y ++ z))
three_told r new second first old x y z one two three =
    let all : second ++ z ≡ old ++ (x ++ y ++ z) = ap (λ (o : List ℕ). o ++ z) (two ∙ ap (λ (o : List ℕ). o ++ y) one ∙ append_assoc old x y)
    ∙ append_assoc old (x ++ y) z in
    subst (λ (t : List ℕ). OnOk r (new ≡ t)) all three
