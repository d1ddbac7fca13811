-- A list in strict order is told by what is in it.
use Rattle.std.proofs.Common.{◌≡◌, ℕ, zero, suc, ◌+◌, ◌<◌, List, [], ◌∷◌, refl, sym, ap, ◌∙◌, subst, length, inl, inr, arith}
use Rattle.std.specs.Prelude.{◌⊎◌}
use Rattle.std.specs.Cmp.{IsTotalOrder}
use Rattle.std.specs.declared.cmp.Ordering.{Ordering}
use Rattle.std.specs.declared.cmp.Ordering.TheVariants.{Less}
use Rattle.std.specs.Ordering.{ordering_reverse}
use Rattle.std.specs.List.{AllByRecursion, Contains, slice_index_or}
use Rattle.std.specs.List.Sorted.{IsStrictlySortedBy}
use Rattle.std.proofs.lemmas.Map.Keys.{sorted_head, sorted_tail}

module _ {K : Type 0} where
  -- w is in the list
  abbrev In : List K → K → Type 0
  In [] w = ⊥
  In (x ∷ xs) w = (x ≡ w) ⊎ In xs w

  in_at : (xs : List K) (w : K) (k : ℕ) → k < length xs → slice_index_or xs k w ≡ w → In xs w
  in_at [] w k below is = absurd (omega arith)
  in_at (x ∷ xs) w zero below is = inl is
  in_at (x ∷ xs) w (suc k) below is = inr (in_at xs w k (omega arith) is)

  in_from : (xs : List K) (w : K) → Contains xs w → In xs w
  in_from xs w h = in_at xs w h.0 h.1 h.2

  to_contains : (xs : List K) (w : K) → In xs w → Contains xs w
  to_contains [] w h = absurd h
  to_contains (x ∷ xs) w (inl is) = (0, omega arith, is)
  to_contains (x ∷ xs) w (inr more) = let at = to_contains xs w more in (suc at.0, omega (arith, at.1), at.2)

  module _ (c : K → K → Ordering) (o : IsTotalOrder c) where
    less_all : (x : K) (xs : List K) (w : K) → AllByRecursion (λ y. c x y ≡ Less) xs → In xs w → c x w ≡ Less
    less_all x [] w all h = absurd h
    less_all x (y ∷ ys) w all (inl is) = subst (λ z. c x z ≡ Less) is all.0
    less_all x (y ∷ ys) w all (inr more) = less_all x ys w all.1 more

    never : {X : Type 0} (x y : K) → c x y ≡ Less → c y x ≡ Less → X
    never x y one other = let back : Less ≡ ordering_reverse Less = sym one ∙ o.antisymm x y ∙ ap ordering_reverse other in absurd (cc)

    heads : (x y : K) (xs ys : List K) → AllByRecursion (λ z. c x z ≡ Less) xs → AllByRecursion (λ z. c y z ≡ Less) ys → (y ≡ x) ⊎ In ys x → (x ≡ y) ⊎ In xs y →
        x ≡ y
    heads x y xs ys s t (inl is) h = sym is
    heads x y xs ys s t (inr more) (inl is) = is
    heads x y xs ys s t (inr more) (inr others) = never x y (less_all x xs y s others) (less_all y ys x t more)

    behind : (x y w : K) (ys : List K) → x ≡ y → c x w ≡ Less → (y ≡ w) ⊎ In ys w → In ys w
    behind x y w ys same less (inl is) = let self : c x x ≡ Less = subst (λ z. c x z ≡ Less) (sym is ∙ sym same) less in never x x self self
    behind x y w ys same less (inr more) = more

    one_list : (xs ys : List K) → IsStrictlySortedBy c xs → IsStrictlySortedBy c ys → ((w : K) → In xs w → In ys w) → ((w : K) → In ys w → In xs w) → xs ≡ ys
    one_list [] [] s t f g = refl
    one_list [] (y ∷ ys) s t f g = absurd (g y (inl refl))
    one_list (x ∷ xs) [] s t f g = absurd (f x (inl refl))
    one_list (x ∷ xs) (y ∷ ys) s t f g =
        let below = sorted_head c x xs s in
        let beyond = sorted_head c y ys t in
        let same : x ≡ y = heads x y xs ys below beyond (f x (inl refl)) (g y (inl refl)) in
        let rest : xs ≡ ys =
        one_list xs ys (sorted_tail c x xs s) (sorted_tail c y ys t) (λ (w : K) (h : In xs w). behind x y w ys same (less_all x xs w below h) (f w (inr h)))
        (λ (w : K) (h : In ys w). behind y x w xs (sym same) (less_all y ys w beyond h) (g w (inr h))) in
        λ i. same i ∷ rest i

    -- two lists in strict order with the same elements are one
    pub one_ascending : (xs ys : List K) → IsStrictlySortedBy c xs → IsStrictlySortedBy c ys → ((w : K) → Contains xs w → Contains ys w) →
        ((w : K) → Contains ys w → Contains xs w) → xs ≡ ys
    one_ascending xs ys s t f g =
        one_list xs ys s t (λ (w : K) (h : In xs w). in_from ys w (f w (to_contains xs w h))) (λ (w : K) (h : In ys w). in_from xs w (g w (to_contains ys w h)))
