-- Tenures of a mark, and what they add to a merge.
use Rattle.std.proofs.Common.{◌≡◌, ◌≢◌, inl, inr, ℕ, zero, suc, ◌<◌, Bool, List, [], ◌∷◌, ◌++◌, length, get_or, sym, refl, ap, ◌∙◌, arith, eq-eqb, ne_eqb}
use Rattle.std.specs.Prelude.{if◌then◌else◌}
use Rattle.am_places.specs.Rule.{both_at, both_known, joined, nothing, of}
use Rattle.am_places.specs.declared.board.Known.{Known}
use Rattle.am_places.specs.declared.board.Tenure.{Tenure}
use Rattle.am_places_stays.specs.Stays.{AllBy, IsMerge}

unfoldable pub flat : {I : Type 0} → List (List I) → List I
flat [] = []
flat (xs ∷ xss) = xs ++ flat xss

-- ---- tenures of a mark

module _ {I : Type 0} where
  pub of_at : (m : ℕ) (t : Tenure I) (ts : List (Tenure I)) → t.by ≡ m → of m (t ∷ ts) ≡ t.items ∷ of m ts
  of_at m t ts is = ap (λ (b : Bool). if b then t.items ∷ of m ts else of m ts) (eq-eqb t.by m is)

  pub of_not : (m : ℕ) (t : Tenure I) (ts : List (Tenure I)) → t.by ≢ m → of m (t ∷ ts) ≡ of m ts
  of_not m t ts ne = ap (λ (b : Bool). if b then t.items ∷ of m ts else of m ts) (ne_eqb t.by m ne)

  pub not_at : (m : ℕ) (t : Tenure I) (ts : List (Tenure I)) → of m (t ∷ ts) ≡ [] → t.by ≢ m
  not_at m t ts none is = absurd (let both : t.items ∷ of m ts ≡ [] = sym (of_at m t ts is) ∙ none in cc)

  pub rest_none : (m : ℕ) (t : Tenure I) (ts : List (Tenure I)) → of m (t ∷ ts) ≡ [] → of m ts ≡ []
  rest_none m t ts none = sym (of_not m t ts (not_at m t ts none)) ∙ none

  pub all_own : (m : ℕ) (ts : List (Tenure I)) → AllBy m ts → flat (of m ts) ≡ joined ts
  unfolding flat
  all_own m [] h = refl
  all_own m (t ∷ ts) h = ap flat (of_at m t ts h.0) ∙ ap (λ (l : List I). t.items ++ l) (all_own m ts h.1)

  pub none_other : (m n : ℕ) (ts : List (Tenure I)) → AllBy n ts → m ≢ n → of m ts ≡ []
  none_other m n [] h ne = refl
  none_other m n (t ∷ ts) h ne = of_not m t ts (λ e. ne (sym e ∙ h.0)) ∙ none_other m n ts h.1 ne

  -- ---- what two marks added

  pub left_more : (ws xs ys zs : List I) → IsMerge xs ys zs → IsMerge (ws ++ xs) ys (ws ++ zs)
  left_more [] xs ys zs h = h
  left_more (a ∷ ws) xs ys zs h = inl (ws ++ xs, refl, left_more ws xs ys zs h)

  pub right_more : (ws xs ys zs : List I) → IsMerge xs ys zs → IsMerge xs (ws ++ ys) (ws ++ zs)
  right_more [] xs ys zs h = h
  right_more (a ∷ ws) xs ys zs h = inr (ws ++ ys, refl, right_more ws xs ys zs h)

pub no_length : {A : Type 0} (l : List A) → length l ≡ 0 → l ≡ []
no_length [] e = refl
no_length (x ∷ xs) e = absurd (omega (arith, e))

pub known_both : {I : Type 0} (k : ℕ) (xs ys : List (Known I)) → length xs ≡ length ys → k < length xs →
    get_or (both_known xs ys) k nothing ≡ both_at (get_or xs k nothing) (get_or ys k nothing)
known_both k [] ys e near = absurd (omega (arith, near))
known_both k (x ∷ xs) [] e near = absurd (omega (arith, e))
known_both zero (x ∷ xs) (y ∷ ys) e near = refl
known_both (suc k) (x ∷ xs) (y ∷ ys) e near = known_both k xs ys (omega (arith, e)) (omega (arith, near))
