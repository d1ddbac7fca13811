-- A loop that appends a piece for each item of a list: what stands there with what is left to append stays the same.
use Rattle.std.proofs.Common.{◌≡◌, ℕ, ◌+◌, ◌<◌, List, ◌∷◌, ◌++◌, drop, get_or, length, ap, sym, ◌∙◌, append_assoc}
use Rattle.std.proofs.lemmas.List.{drop_more}

module _ {X : Type 0} where
  pub one_more : (piece : X → List ℕ) (pieces : List X → List ℕ) (xs : List X) (i : ℕ) (x d : X) (out new all : List ℕ) →
      ((x : X) (rest : List X) → pieces (x ∷ rest) ≡ piece x ++ pieces rest) →
      i < length xs → x ≡ get_or xs i d → out ++ pieces (drop i xs) ≡ all → new ≡ out ++ piece x → new ++ pieces (drop (i + 1) xs) ≡ all
  one_more piece pieces xs i x d out new all first less at stands appended =
      let rest : List X = drop (i + 1) xs in
      ap (λ (t : List ℕ). t ++ pieces rest) appended
      ∙ append_assoc out (piece x) (pieces rest)
      ∙ sym (ap (λ (t : List ℕ). out ++ t) (ap pieces (drop_more xs i d less) ∙ ap (λ (y : X). pieces (y ∷ rest)) (sym at) ∙ first x rest))
      ∙ stands

-- two parts, each appended to what was there, are one
pub two_parts : (a b old mid new : List ℕ) → mid ≡ old ++ a → new ≡ mid ++ b → new ≡ old ++ (a ++ b)
two_parts a b old mid new first second = second ∙ ap (λ (t : List ℕ). t ++ b) first ∙ append_assoc old a b
