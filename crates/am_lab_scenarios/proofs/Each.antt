-- A loop that appends a line for each item of a list.
use Rattle.std.proofs.Common.{◌≡◌, ℕ, ◌+◌, ◌<◌, List, [], ◌∷◌, ◌++◌, add-one, append_assoc, ap, get_or, length, sym, take, ◌∙◌}
use Rattle.std.proofs.Math.Seq.{take-suc}
use Rattle.std.proofs.lemmas.List.{append-nil}
use Rattle.std.proofs.lemmas.List.Concat.{flat_map-append}
use Rattle.std.specs.List.{flat_map}

pub line_more : {X : Type 0} (line : X → List ℕ) (xs : List X) (i : ℕ) (x d : X) (before out new : List ℕ) → i < length xs → x ≡ get_or xs i d →
    out ≡ before ++ flat_map line (take i xs) → new ≡ out ++ line x → new ≡ before ++ flat_map line (take (i + 1) xs)
line_more {X} line xs i x d before out new less at stands appended =
    let lines : List ℕ = flat_map line (take i xs) in
    let taken : take (i + 1) xs ≡ take i xs ++ get_or xs i d ∷ [] = rw add-one (take-suc xs i d less) in
    let last : flat_map line (take (i + 1) xs) ≡ lines ++ line x =
    ap (flat_map line) taken
    ∙ flat_map-append line (take i xs) (get_or xs i d ∷ [])
    ∙ ap (λ (t : List ℕ). lines ++ t) (append-nil (line (get_or xs i d)) ∙ sym (ap line at)) in
    appended
    ∙ ap (λ (t : List ℕ). t ++ line x) stands
    ∙ append_assoc before lines (line x)
    ∙ ap (λ (t : List ℕ). before ++ t) (sym last)
