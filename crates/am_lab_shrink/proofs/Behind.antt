-- Lines behind references, one by one.
use Rattle.std.proofs.Common.{◌≡◌, ℕ, zero, suc, ◌+◌, ◌<◌, List, [], ◌∷◌, ◌++◌, length, take, drop, get_or, refl, ap, arith, add-one, ◌∙◌}
use Rattle.std.specs.Borrow.{Bor}
use Rattle.std.specs.List.{flat_map, remove_range}
use Rattle.std.proofs.lemmas.Grind.{flat_map-append}
use Rattle.std.proofs.lemmas.List.{append-nil, map-append}
use Rattle.am_lab_shrink.specs.Kept.{lines_behind}
use Rattle.am_lab_shrink.specs.Lines.{ended, text_of}

pub length_behind : (xs : List (Bor (List ℕ))) → length (lines_behind xs) ≡ length xs
length_behind [] = refl
length_behind (x ∷ xs) = ap suc (length_behind xs)

behind_suc : (xs : List (Bor (List ℕ))) (i : ℕ) (d : Bor (List ℕ)) → i < length xs →
    take (suc i) (lines_behind xs) ≡ take i (lines_behind xs) ++ (get_or xs i d).now ∷ []
behind_suc [] i d below = absurd (omega arith)
behind_suc (x ∷ xs) zero d below = refl
behind_suc (x ∷ xs) (suc i) d below = ap (λ (l : List (List ℕ)). x.now ∷ l) (behind_suc xs i d (omega arith))

behind_next : (xs : List (Bor (List ℕ))) (i : ℕ) (d : Bor (List ℕ)) → i < length xs →
    take (i + 1) (lines_behind xs) ≡ take i (lines_behind xs) ++ (get_or xs i d).now ∷ []
behind_next xs i d below = rw add-one (behind_suc xs i d below)

-- the text of one line more
pub text_next : (xs : List (Bor (List ℕ))) (i : ℕ) (d : Bor (List ℕ)) → i < length xs →
    text_of (take (i + 1) (lines_behind xs)) ≡ text_of (take i (lines_behind xs)) ++ ended (get_or xs i d).now
text_next xs i d below =
    let one : List ℕ = (get_or xs i d).now in
    ap text_of (behind_next xs i d below) ∙ flat_map-append ended (take i (lines_behind xs)) (one ∷ [])
    ∙ ap (λ (l : List ℕ). text_of (take i (lines_behind xs)) ++ l) (append-nil (ended one))

taken : (i : ℕ) (xs : List (Bor (List ℕ))) → lines_behind (take i xs) ≡ take i (lines_behind xs)
taken zero xs = refl
taken (suc i) [] = refl
taken (suc i) (x ∷ xs) = ap (λ (l : List (List ℕ)). x.now ∷ l) (taken i xs)

dropped : (i : ℕ) (xs : List (Bor (List ℕ))) → lines_behind (drop i xs) ≡ drop i (lines_behind xs)
dropped zero xs = refl
dropped (suc i) [] = refl
dropped (suc i) (x ∷ xs) = dropped i xs

-- the references without a part
pub part_left : (from to : ℕ) (xs : List (Bor (List ℕ))) → lines_behind (take from xs ++ drop to xs) ≡ remove_range (lines_behind xs) from to
part_left from to xs =
    map-append (λ (line : Bor (List ℕ)). line.now) (take from xs) (drop to xs) ∙ ap (λ (l : List (List ℕ)). l ++ lines_behind (drop to xs)) (taken from xs)
    ∙ ap (λ (l : List (List ℕ)). take from (lines_behind xs) ++ l) (dropped to xs)
