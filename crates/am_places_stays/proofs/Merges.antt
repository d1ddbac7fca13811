-- Merges to which more is added, and what merges keep.
use Rattle.std.proofs.Common.{◌≡◌, inl, inr, List, [], ◌∷◌, ◌++◌, refl, ap, subst, sym, ◌∙◌, ⊎_elim}
use Rattle.std.specs.List.Sorted.{IsPermutation}
use Rattle.std.proofs.lemmas.List.Sorted.{IsPermutation-cons, IsPermutation-middle, IsPermutation-refl, IsPermutation-trans}
use Rattle.am_places_stays.specs.Stays.{IsMerge}

module _ {X : Type 0} where
  all_left : (ws : List X) → IsMerge ws [] ws
  all_left [] = (refl, refl)
  all_left (a ∷ ws) = inl (ws, refl, all_left ws)

  all_right : (ws : List X) → IsMerge [] ws ws
  all_right [] = (refl, refl)
  all_right (a ∷ ws) = inr (ws, refl, all_right ws)

  -- more of the first behind all
  pub left_behind : (xs ys zs ws : List X) → IsMerge xs ys zs → IsMerge (xs ++ ws) ys (zs ++ ws)
  left_behind xs ys [] ws h = coe 1 0 (i. IsMerge (h.0 i ++ ws) (h.1 i) ws) (all_left ws)
  left_behind xs ys (z ∷ zs) ws h = ⊎_elim
      (λ l. inl (l.0 ++ ws, ap (λ q. q ++ ws) l.1, left_behind l.0 ys zs ws l.2))
      (λ r. inr (r.0, r.1, left_behind xs r.0 zs ws r.2))
      h

  -- more of the second behind all
  pub right_behind : (xs ys zs ws : List X) → IsMerge xs ys zs → IsMerge xs (ys ++ ws) (zs ++ ws)
  right_behind xs ys [] ws h = coe 1 0 (i. IsMerge (h.0 i) (h.1 i ++ ws) ws) (all_right ws)
  right_behind xs ys (z ∷ zs) ws h = ⊎_elim
      (λ l. inl (l.0, l.1, right_behind l.0 ys zs ws l.2))
      (λ r. inr (r.0 ++ ws, ap (λ q. q ++ ws) r.1, right_behind xs r.0 zs ws r.2))
      h

  from_left : (xs ys zs rest : List X) (z : X) → xs ≡ z ∷ rest → IsPermutation (rest ++ ys) zs → IsPermutation (xs ++ ys) (z ∷ zs)
  from_left xs ys zs rest z is h = subst (λ (first : List X). IsPermutation (first ++ ys) (z ∷ zs)) (sym is) (IsPermutation-cons z (rest ++ ys) zs h)

  from_right : (xs ys zs rest : List X) (z : X) → ys ≡ z ∷ rest → IsPermutation (xs ++ rest) zs → IsPermutation (xs ++ ys) (z ∷ zs)
  from_right xs ys zs rest z is h =
      subst (λ (second : List X). IsPermutation (xs ++ second) (z ∷ zs)) (sym is)
      (IsPermutation-trans (xs ++ z ∷ rest) (z ∷ (xs ++ rest)) (z ∷ zs) (IsPermutation-middle xs z rest) (IsPermutation-cons z (xs ++ rest) zs h))

  -- A merge is both lists in another order: so std's lemmas on permutations tell its length, its sums, what it contains and what all of it is.
  pub merge_is_permutation : (xs ys zs : List X) → IsMerge xs ys zs → IsPermutation (xs ++ ys) zs
  merge_is_permutation xs ys [] h = coe 1 0 (i. IsPermutation (h.0 i ++ h.1 i) []) (IsPermutation-refl [])
  merge_is_permutation xs ys (z ∷ zs) h = ⊎_elim
      (λ l. from_left xs ys zs l.0 z l.1 (merge_is_permutation l.0 ys zs l.2))
      (λ r. from_right xs ys zs r.0 z r.1 (merge_is_permutation xs r.0 zs r.2))
      h

  pub merge_swaps : (xs ys zs : List X) → IsMerge xs ys zs → IsMerge ys xs zs
  merge_swaps xs ys [] h = (h.1, h.0)
  merge_swaps xs ys (z ∷ zs) h = ⊎_elim
      (λ l. inr (l.0, l.1, merge_swaps l.0 ys zs l.2))
      (λ r. inl (r.0, r.1, merge_swaps xs r.0 zs r.2))
      h

  pub merge_alone : (xs zs : List X) → IsMerge xs [] zs → zs ≡ xs
  merge_alone xs [] h = sym h.0
  merge_alone xs (z ∷ zs) h = ⊎_elim
      (λ l. ap (λ (q : List X). z ∷ q) (merge_alone l.0 zs l.2) ∙ sym l.1)
      (λ r. absurd (let none = r.1 in cc))
      h
