-- Words that are compared byte by byte.
use Rattle.std.proofs.Common.{◌≡◌, ℕ, suc, ◌+◌, ◌<◌, true, false, eqb, List, [], ◌∷◌, length, get_or, refl, sym, ap, inl, inr, arith}
use Rattle.std.specs.Str.{bytes_eq}
use Rattle.std.proofs.lemmas.Bool.{cases_Bool, cases_eq, eq-eqb, eqb-false}
use Rattle.std.proofs.lemmas.Slice.Eq.{bytes_eq-Decides}

-- two words have the same bytes below a place
abbrev pub AgreeBelow : ℕ → List ℕ → List ℕ → Type 0
AgreeBelow i word keyword = (k : ℕ) → k < i → get_or word k 0 ≡ get_or keyword k 0

differ : (word keyword : List ℕ) → (word ≡ keyword → ⊥) → false ≡ bytes_eq word keyword
differ word keyword apart = elim (cases_Bool (bytes_eq word keyword)) [
  | inl same ↦ absurd (apart ((bytes_eq-Decides word keyword).0 same))
  | inr other ↦ sym other
]

pub other_length : (word keyword : List ℕ) → (length word ≡ length keyword → ⊥) → false ≡ bytes_eq word keyword
other_length word keyword apart = differ word keyword (λ e. apart (ap (λ (bytes : List ℕ). length bytes) e))

pub other_byte : (word keyword : List ℕ) (i : ℕ) → eqb (get_or word i 0) (get_or keyword i 0) ≡ false → false ≡ bytes_eq word keyword
other_byte word keyword i apart = differ word keyword (λ e. eqb-false (get_or word i 0) (get_or keyword i 0) apart
    (ap (λ (bytes : List ℕ). get_or bytes i 0) e))

pub one_byte_more : (word keyword : List ℕ) (i : ℕ) → get_or word i 0 ≡ get_or keyword i 0 → AgreeBelow i word keyword → AgreeBelow (i + 1) word keyword
one_byte_more word keyword i here before k lt = elim (cases_eq k i) [
  | inl e ↦ rw e here
  | inr ne ↦ before k (omega (arith, ne, lt))
]

pub same_bytes : (word keyword : List ℕ) → length word ≡ length keyword → AgreeBelow (length keyword) word keyword → true ≡ bytes_eq word keyword
same_bytes [] [] e agree = refl
same_bytes [] (b ∷ keyword) e agree = absurd (omega (arith, e))
same_bytes (a ∷ word) [] e agree = absurd (omega (arith, e))
same_bytes (a ∷ word) (b ∷ keyword) e agree =
    let here : eqb a b ≡ true = eq-eqb a b (agree 0 (omega arith)) in
    rw here (same_bytes word keyword (omega (arith, e)) (λ k lt. agree (suc k) (omega (arith, lt))))
