-- The records above the shares of their indexes.
use Rattle.std.proofs.Common.{◌≡◌, ℕ, zero, suc, ◌+◌, ◌≤◌, ◌<◌, Bool, true, false, ◌==◌, List, [], ◌∷◌, Option, Some, None, refl, sym, ap, subst, arith}
use Rattle.std.specs.Prelude.{slice_set}
use Rattle.std.proofs.lemmas.Bool.{eqb-true}
use Rattle.am_model.specs.declared.Mapping.{Mapping}
use Rattle.am_model.specs.Endpoint.{Body, entry_at}
use Rattle.am_model.specs.Calls.{records_at, excess_at, excess_from}
use Rattle.am_model.proofs.Received.{bit}

-- no index has more records than before
abbrev pub IsFewer : Body → Body → Type 0
IsFewer a b = (j : ℕ) → records_at a j ≤ records_at b j

-- no index has more records than before, but for one more of this index
abbrev pub IsOneMore : ℕ → Body → Body → Type 0
IsOneMore index a b = (j : ℕ) → records_at a j ≤ records_at b j + bit (index == j)

excess_at_fewer : (a b : Body) (i : ℕ) (x : Option Mapping) → IsFewer a b → excess_at a i x ≤ excess_at b i x
excess_at_fewer a b i None fewer = omega arith
excess_at_fewer a b i (Some m) fewer = omega (arith, fewer i)

pub excess_fewer : (a b : Body) (i : ℕ) (xs : List (Option Mapping)) → IsFewer a b → excess_from a i xs ≤ excess_from b i xs
excess_fewer a b i [] fewer = omega arith
excess_fewer a b i (x ∷ xs) fewer = omega (arith, excess_at_fewer a b i x fewer, excess_fewer a b (i + 1) xs fewer)

excess_at_more : (index : ℕ) (a b : Body) (i : ℕ) (x : Option Mapping) → IsOneMore index a b → excess_at a i x ≤ excess_at b i x + bit (index == i)
excess_at_more index a b i None more = omega arith
excess_at_more index a b i (Some m) more = omega (arith, more i)

not_same : (i j : ℕ) → i < j → bit (i == j) ≡ 0
not_same i j lt = by_test (i == j) refl
  where
    by_test : (b : Bool) → (i == j) ≡ b → bit b ≡ 0
    by_test true is = absurd (never (eqb-true i j is))
      where
        never : i ≡ j → ⊥
        never e = omega (arith, lt, e)
    by_test false is = refl

-- the indexes after this one have no more records
excess_past : (index : ℕ) (a b : Body) (i : ℕ) (xs : List (Option Mapping)) → IsOneMore index a b → index < i → excess_from a i xs ≤ excess_from b i xs
excess_past index a b i [] more lt = omega arith
excess_past index a b i (x ∷ xs) more lt =
    omega (arith, excess_at_more index a b i x more, not_same index i lt, excess_past index a b (i + 1) xs more (omega (arith, lt)))

-- there is one record above the shares more at most
pub excess_one : (index : ℕ) (a b : Body) (i : ℕ) (xs : List (Option Mapping)) → IsOneMore index a b → excess_from a i xs ≤ excess_from b i xs + 1
excess_one index a b i [] more = omega arith
excess_one index a b i (x ∷ xs) more = by_test index a b i x xs (index == i) refl more (excess_one index a b (i + 1) xs more)
  where
    by_test : (index : ℕ) (a b : Body) (i : ℕ) (x : Option Mapping) (xs : List (Option Mapping)) (t : Bool) → (index == i) ≡ t → IsOneMore index a b →
        excess_from a (i + 1) xs ≤ excess_from b (i + 1) xs + 1 → excess_at a i x + excess_from a (i + 1) xs ≤ excess_at b i x + excess_from b (i + 1) xs + 1
    by_test index a b i x xs true is more rest =
        omega (arith, excess_at_more index a b i x more, ap bit is, excess_past index a b (i + 1) xs more (omega (arith, eqb-true index i is)))
    by_test index a b i x xs false is more rest = omega (arith, excess_at_more index a b i x more, ap bit is, rest)

-- an index that has fewer records than its share has none above it after one more
excess_at_spare : (index : ℕ) (a b : Body) (m : Mapping) → IsOneMore index a b → records_at b index < m.credits → excess_at a index (Some m) ≡ 0
excess_at_spare index a b m more lt = omega (arith, more index, at_most_one (index == index), lt)
  where
    at_most_one : (t : Bool) → bit t ≤ 1
    at_most_one true = omega arith
    at_most_one false = omega arith

pub excess_spare : (index : ℕ) (a b : Body) (m : Mapping) (i k : ℕ) (xs : List (Option Mapping)) → index ≡ i + k → entry_at xs k ≡ Some m →
    IsOneMore index a b → records_at b index < m.credits → excess_from a i xs ≤ excess_from b i xs
excess_spare index a b m i k [] at is more lt = absurd (cc)
excess_spare index a b m i zero (x ∷ xs) at is more lt =
    let here : index ≡ i = omega (arith, at) in
    let none : excess_at a i x ≡ 0 =
    subst (λ (w : Option Mapping). excess_at a i w ≡ 0) (sym is) (subst (λ (w : ℕ). excess_at a w (Some m) ≡ 0) here (excess_at_spare index a b m more lt)) in
    omega (arith, none, excess_past index a b (i + 1) xs more (omega (arith, here)))
excess_spare index a b m i (suc k) (x ∷ xs) at is more lt =
    omega (arith, excess_at_more index a b i x more, not_here, excess_spare index a b m (i + 1) k xs (omega (arith, at)) is more lt)
  where
    later : (w : ℕ) → w ≡ i + suc k → bit (w == i) ≡ 0
    later w e = by_test (w == i) refl
      where
        by_test : (t : Bool) → (w == i) ≡ t → bit t ≡ 0
        by_test true same = absurd (never (eqb-true w i same))
          where
            never : w ≡ i → ⊥
            never h = omega (arith, e, h)
        by_test false same = refl

    not_here : bit (index == i) ≡ 0
    not_here = later index at

-- an entry of the table is changed where its index has no more above its share than before
pub excess_set : (b : Body) (i j k : ℕ) (xs : List (Option Mapping)) (x : Option Mapping) → j ≡ i + k → excess_at b j x ≡ 0 →
    excess_from b i (slice_set xs k x) ≤ excess_from b i xs
excess_set b i j k [] x at none = omega arith
excess_set b i j zero (y ∷ xs) x at none =
    let here : j ≡ i = omega (arith, at) in
    let none_here : excess_at b i x ≡ 0 = subst (λ (w : ℕ). excess_at b w x ≡ 0) here none in
    omega (arith, none_here)
excess_set b i j (suc k) (y ∷ xs) x at none = omega (arith, excess_set b (i + 1) j k xs x (omega (arith, at)) none)
