-- Numbers and points have nothing to escape but what stands in front of them.
use Rattle.std.proofs.Common.{◌≡◌, ℕ, ◌+◌, ◌<◌, ◌≤◌, ◌%◌, ◌/◌, ◌^◌, List, [], ◌∷◌, ◌++◌, codes, flat_map, refl, ap, ap₂, sym, ◌∙◌, append_assoc, append-nil}
use Rattle.std.proofs.Common.{arith}
use Rattle.std.specs.Fmt.{decimal}
use Rattle.std.proofs.lemmas.Bool.Decides.{nat_tests}
use Rattle.std.proofs.lemmas.Fmt.{decimal_by_steps}
use Rattle.std.proofs.lemmas.List.Concat.{flat_map-append}
use Rattle.am_lab_xml.specs.Escaped.{escaped, escaped_byte}
use Rattle.am_lab_xml.specs.Attributes.{place, point, points}
use Rattle.am_lab_xml.specs.declared.tags.Point.{Point}

digit : (n : ℕ) → n < 10 → escaped_byte (48 + n) ≡ (48 + n) ∷ []
unfolding escaped_byte
digit n small = grind (arith, nat_tests)

IsKept : ℕ → List ℕ → Type 0
IsKept n text = escaped text ≡ text

one_digit : (n : ℕ) → n < 10 → IsKept n ((48 + n) ∷ [])
unfolding IsKept
one_digit n small = rw (digit n small) refl

more_digits : (n : ℕ) (ds : List ℕ) → 10 ≤ n → IsKept (n / 10) ds → IsKept n (ds ++ (48 + n % 10) ∷ [])
unfolding IsKept
more_digits n ds some kept = flat_map-append escaped_byte ds ((48 + n % 10) ∷ []) ∙ rw (kept, digit (n % 10) (omega arith)) refl

pub escaped_decimal : (n : ℕ) → n < 2 ^ 64 → escaped (decimal n) ≡ decimal n
unfolding IsKept
escaped_decimal n below = decimal_by_steps IsKept one_digit more_digits n below

pub escaped_both : (a b : List ℕ) → escaped (a ++ b) ≡ escaped a ++ escaped b
escaped_both a b = flat_map-append escaped_byte a b

space : escaped (codes " ") ≡ codes " "
unfolding escaped_byte
space = refl

pub escaped_place : (lead : List ℕ) (m n : ℕ) → escaped (place lead m n) ≡ escaped lead ++ (escaped (decimal m) ++ (codes " " ++ escaped (decimal n)))
unfolding place
escaped_place lead m n =
    let whole : escaped (lead ++ decimal m ++ codes " ") ≡ (escaped lead ++ escaped (decimal m)) ++ codes " " =
    escaped_both (lead ++ decimal m) (codes " ") ∙ ap₂ (λ (a b : List ℕ). a ++ b) (escaped_both lead (decimal m)) space in
    escaped_both (lead ++ decimal m ++ codes " ") (decimal n) ∙ ap (λ (t : List ℕ). t ++ escaped (decimal n)) whole ∙ simp append_assoc

pub escaped_points : (ps : List Point) → escaped (points ps) ≡ flat_map (λ (p : Point). escaped (point p)) ps
escaped_points [] = refl
escaped_points (p ∷ ps) = escaped_both (point p) (points ps) ∙ ap (λ (t : List ℕ). escaped (point p) ++ t) (escaped_points ps)

pub ruleset pieces = (append_assoc, escaped_place)
