-- Some elements of a list, in their order.
use Rattle.std.proofs.Common.{◌≡◌, ℕ, zero, suc, ◌+◌, ◌-◌, ◌≤◌, List, [], ◌∷◌, ◌++◌, length, take, drop, refl, ◌∙◌, inl, inr, arith}
use Rattle.std.specs.List.{remove_range}
use Rattle.am_lab_shrink.specs.Lines.{IsSubsequence}

pub are_all : {X : Type 0} (xs : List X) → IsSubsequence xs xs
are_all [] = tt
are_all (x ∷ xs) = inl (refl, are_all xs)

of_more : {X : Type 0} (some all : List X) (y : X) → IsSubsequence some all → IsSubsequence some (y ∷ all)
of_more [] all y are = tt
of_more (x ∷ some) all y are = inr are

-- some of some are some
pub of_some : {X : Type 0} (few some all : List X) → IsSubsequence few some → IsSubsequence some all → IsSubsequence few all
of_some [] some all are more = tt
of_some (x ∷ few) [] all are more = absurd are
of_some (x ∷ few) (y ∷ some) [] are more = absurd more
of_some (x ∷ few) (y ∷ some) (z ∷ all) are more = elim more [
  | inr later ↦ inr (of_some (x ∷ few) (y ∷ some) all are later)
  | inl here ↦ elim are [
    | inl same ↦ inl (same.0 ∙ here.0, of_some few some all same.1 here.1)
    | inr later ↦ inr (of_some (x ∷ few) some all later here.1)
  ]
]

behind : {X : Type 0} (n : ℕ) (xs : List X) → IsSubsequence (drop n xs) xs
behind zero xs = are_all xs
behind (suc n) [] = tt
behind (suc n) (x ∷ xs) = of_more (drop n xs) xs x (behind n xs)

-- what is left without a part
pub without_part : {X : Type 0} (from to : ℕ) (xs : List X) → from ≤ to → IsSubsequence (remove_range xs from to) xs
without_part zero to xs le = behind to xs
without_part (suc from) zero xs le = absurd (omega arith)
without_part (suc from) (suc to) [] le = tt
without_part (suc from) (suc to) (x ∷ xs) le = inl (refl, without_part from to xs (omega arith))

pub length_without : {X : Type 0} (from to : ℕ) (xs : List X) → from ≤ to → to ≤ length xs → length (remove_range xs from to) + (to - from) ≡ length xs
length_without zero zero xs le within = omega arith
length_without zero (suc to) [] le within = absurd (omega arith)
length_without zero (suc to) (x ∷ xs) le within = omega (arith, length_without zero to xs (omega arith) (omega arith))
length_without (suc from) zero xs le within = absurd (omega arith)
length_without (suc from) (suc to) [] le within = absurd (omega arith)
length_without (suc from) (suc to) (x ∷ xs) le within = omega (arith, length_without from to xs (omega arith) (omega arith))
